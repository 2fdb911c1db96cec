-- Numbers below a limit stay below it in every part of their list, and bytes are a number below a power of 256, in either order.
-- Assumes nothing.
use mathlib.Core.Path.{◌≡◌, ◌∙◌}
use mathlib.Core.List.{List, [], ◌∷◌, reverse_aux}
use Prim.Native.Nat.{ℕ, zero, suc, ◌+◌, ◌≤◌, ◌<◌, ◌^◌}
use native.Mathlib.Omega.{arith}
use native.Mathlib.Nat.{pow-suc}
use lib.ListN.{length, take, drop}
use lib.Seq.{length-take-le, get_or-drop}
use Rattle.wire.specs.Shape.{Order, le, be}
use Rattle.wire.specs.Numbers.{little, in_order}
use Rattle.laws.specs.Range.{AreBelow, AreBytes}
use Rattle.laws.proofs.Numbers.{length-order}

module _ (limit : ℕ) where
  pub below-take : (n : ℕ) (s : List ℕ) → AreBelow limit s → AreBelow limit (take n s)
  below-take zero s h i = omega (arith, h 0)
  below-take (suc n) [] h i = h i
  below-take (suc n) (b ∷ s) h zero = h 0
  below-take (suc n) (b ∷ s) h (suc i) = below-take n s (λ j. h (suc j)) i

  pub below-drop : (n : ℕ) (s : List ℕ) → AreBelow limit s → AreBelow limit (drop n s)
  below-drop n s h i = rw (get_or-drop n s i 0) (h (n + i))

  below-cons : (b : ℕ) (s : List ℕ) → b < limit → AreBelow limit s → AreBelow limit (b ∷ s)
  below-cons b s l h zero = l
  below-cons b s l h (suc i) = h i

  below-onto : (s t : List ℕ) → AreBelow limit s → AreBelow limit t → AreBelow limit (reverse_aux s t)
  below-onto [] t h k = k
  below-onto (b ∷ s) t h k = below-onto s (b ∷ t) (λ i. h (suc i)) (below-cons b t (h 0) k)

  pub below-order : (o : Order) (s : List ℕ) → AreBelow limit s → AreBelow limit (in_order o s)
  unfolding in_order
  below-order le s h = h
  below-order be s h = below-onto s [] h (λ i. omega (arith, h 0))

pub little-lt : (s : List ℕ) → AreBytes s → little s < 256 ^ length s
unfolding little
little-lt [] h = omega arith
little-lt (b ∷ s) h = rw (pow-suc 256 (length s)) (omega (arith, h 0, little-lt s (λ i. h (suc i))))

-- the first k bytes
pub front-lt : (o : Order) (k : ℕ) (s : List ℕ) → AreBytes s → k ≤ length s → little (in_order o (take k s)) < 256 ^ k
front-lt o k s h l =
    let t : List ℕ = in_order o (take k s) in
    let many : length t ≡ k = length-order o (take k s) ∙ length-take-le k s l in
    rw many at (little-lt t (below-order 256 o (take k s) (below-take 256 k s h)))
