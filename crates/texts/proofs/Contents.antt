-- What stands behind a count: the count's varint took no more than there is, and a char needs a byte and a text.
-- Assumes nothing.
use mathlib.Core.Path.{◌≡◌, refl, sym, ◌∙◌}
use mathlib.Core.Bool.{Bool, true, false}
use mathlib.Core.List.{List}
use Prim.Native.Nat.{ℕ, ◌<◌, ◌≤◌}
use native.Mathlib.Omega.{arith}
use lib.ListN.{length}
use Rattle.wire.specs.declared.Own.{Own}
use Rattle.wire.specs.Item.{Item}
use Rattle.wire.specs.Item.{Took}
use Rattle.wire.specs.Tests.{both}
use Rattle.wire.specs.Shape.{w64}
use Rattle.wire.specs.Numbers.{most, last, varint}
use Rattle.laws.proofs.Varints.{took_in}
use Rattle.varint.specs.Takes.{takes}
use Rattle.varint.proofs.Reading.{at_width}

-- the constants are a u64's
pub as-u64 : {r : Item} (s : List ℕ) → r ≡ takes 10 1 s → r ≡ varint w64 s
unfolding most last
as-u64 s e = e ∙ at_width w64 s

pub within : {r : Item} (s : List ℕ) → r ≡ takes 10 1 s → {own : Own} → r ≡ Took own → own.used ≤ length s
within s e p = (took_in w64 s (sym (as-u64 s e) ∙ p)).within

pub some : {n : ℕ} → (n ≡ 0 → ⊥) → 0 < n
some h = omega (arith, h)

-- no text, whatever else
pub no_text : (t : Bool) {u : Bool} → u ≡ false → both t u ≡ false
unfolding both
no_text true e = e
no_text false e = refl
