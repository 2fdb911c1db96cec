-- Words put in front of a list, one after the other.
-- Assumes nothing.
use mathlib.Core.Path.{◌≡◌, refl, ap, ◌∙◌}
use mathlib.Core.List.{List, [], ◌∷◌, ◌++◌}
use Prim.Native.Nat.{ℕ, zero, suc, ◌+◌, ◌≤◌, ◌<◌}
use native.Mathlib.Numerals.{add-one}
use native.Mathlib.Omega.{arith}
use lib.ListN.{length, take, drop, set, get_or, length-set}

-- the first i of the words stand in front, of which there are as many in both lists
pub record Front (before words : List ℕ) (count : ℕ) (list : List ℕ) (i : ℕ) : Type 0 where
  pub here : count ≤ length before
  pub there : count ≤ length words
  pub long : length list ≡ length before
  pub few : i ≤ count
  pub put : list ≡ take i words ++ drop i before

-- one more
next-front : (i : ℕ) (words before : List ℕ) → i < length words → i < length before → set (take i words ++ drop i before) i (get_or words i 0) ≡ take (suc i) words ++ drop (suc i) before
next-front zero (w ∷ ws) (b ∷ bs) h k = refl
next-front (suc i) (w ∷ ws) (b ∷ bs) h k = ap (λ (l : List ℕ). w ∷ l) (next-front i ws bs (omega arith) (omega arith))
next-front i [] bs h k = absurd (omega arith)
next-front i (w ∷ ws) [] h k = absurd (omega arith)

module _ {before words : List ℕ} {count : ℕ} where
  pub front-none : count ≤ length before → count ≤ length words → Front before words count before 0
  front-none h k = record { here = h; there = k; long = refl; few = omega arith; put = refl }

  module _ {list : List ℕ} {i : ℕ} (f : Front before words count list i) where
    pub front-more : i < count → Front before words count (set list i (get_or words i 0)) (i + 1)
    front-more h =
        record {
          here = f.here;
          there = f.there;
          long = length-set list i (get_or words i 0) ∙ f.long;
          few = omega arith;
          put = rw (f.put, add-one) (next-front i words before (omega (arith, f.there)) (omega (arith, f.here)));
        }

    pub front-all : count ≤ i → list ≡ take count words ++ drop count before
    front-all h = let e : i ≡ count = omega (arith, f.few) in rw e at f.put
