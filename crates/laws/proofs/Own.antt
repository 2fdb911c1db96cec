-- An item's own bytes are written exactly where a test lets them be; of a number, where its second word is 0 besides.
-- Assumes nothing.
use mathlib.Core.Path.{◌≡◌, refl}
use mathlib.Core.Bool.{Bool, true, false}
use mathlib.Core.List.{List}
use mathlib.Core.Option.{some, none}
use Prim.Native.Nat.{ℕ}
use native.Mathlib.Omega.{arith}
use lib.Dec.{eqb}
use borrow.Author.Tests.{eqb-true, eq-eqb, ne_eqb}
use Rattle.wire.specs.Tests.{both}
use Rattle.wire.specs.Writing.{when, single}
use Rattle.laws.proofs.Splits.{both_left, both_right}

pub when-yes : (t : Bool) (s : List ℕ) → t ≡ true → when t s ≡ some s
unfolding when
when-yes t s e = rw e

pub when-no : (t : Bool) (s : List ℕ) → t ≡ false → when t s ≡ none
unfolding when
when-no t s e = rw e

pub when-some : (t : Bool) (s : List ℕ) {u : List ℕ} → when t s ≡ some u → (t ≡ true) × (s ≡ u)
unfolding when
when-some true s e = (refl, cc)
when-some false s e = let z : ◌≡◌ {A = ℕ} 0 1 = cc in absurd (omega arith)

pub single-yes : (ok : Bool) (b : ℕ) (s : List ℕ) → ok ≡ true → b ≡ 0 → single ok b s ≡ some s
unfolding single both
single-yes ok b s e z = rw (e, eq-eqb b 0 z) (when-yes true s refl)

pub single-no : (ok : Bool) (b : ℕ) (s : List ℕ) → ok ≡ false → single ok b s ≡ none
unfolding single both
single-no ok b s e = rw e (when-no false s refl)

pub single-second : (ok : Bool) (b : ℕ) (s : List ℕ) → (b ≡ 0 → ⊥) → single ok b s ≡ none
unfolding single both
single-second true b s h = when-no _ s (ne_eqb b 0 h)
single-second false b s h = when-no _ s refl

pub single-some : (ok : Bool) (b : ℕ) (s : List ℕ) {u : List ℕ} → single ok b s ≡ some u → (ok ≡ true) × (b ≡ 0) × (s ≡ u)
unfolding single
single-some ok b s e =
    let r = when-some (both ok (eqb b 0)) s e in
    (both_left ok (eqb b 0) r.0, eqb-true b 0 (both_right ok (eqb b 0) r.0), r.1)
