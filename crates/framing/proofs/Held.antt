-- The bytes of an open group: none of them is zero, and with those that it takes without being full they are 253.
-- Assumes nothing.
use mathlib.Core.Path.{◌≡◌, refl}
use mathlib.Core.List.{List, [], ◌∷◌, ◌++◌}
use mathlib.Core.Option.{none}
use Prim.Native.Nat.{ℕ, suc, ◌+◌}
use native.Mathlib.Omega.{arith}
use lib.ListN.{length, length-append}
use Rattle.wire.specs.Frames.{to_zero}
use Rattle.wire.specs.Sending.{unfilled}
use Rattle.decoder.proofs.Search.{clean-both}

pub record Holds (held : List ℕ) (left : ℕ) : Type 0 where
  pub clean : to_zero held ≡ none
  pub count : length held + left ≡ 253

pub holds-none : Holds [] unfilled
unfolding unfilled to_zero
holds-none = record { clean = refl; count = refl }

clean-one : (b : ℕ) → to_zero (suc b ∷ []) ≡ none
unfolding to_zero
clean-one b = refl

module _ {held : List ℕ} {left : ℕ} (b : ℕ) where
  pub clean-more : Holds held left → to_zero (held ++ (suc b ∷ [])) ≡ none
  clean-more h = clean-both held (suc b ∷ []) h.clean (clean-one b)

  pub long-more : Holds held left → length (held ++ (suc b ∷ [])) + left ≡ 254
  long-more h = simp length-append (omega (arith, h.count))

pub holds_more : {held : List ℕ} {left : ℕ} (b : ℕ) → Holds held (suc left) → Holds (held ++ (suc b ∷ [])) left
holds_more b h = record { clean = clean-more b h; count = omega (arith, long-more b h) }
