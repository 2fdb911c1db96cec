-- A rule of a table, proved at all of its entries by one test that antt computes, one entry after the other.
-- Assumes nothing.
use mathlib.Core.Path.{◌≡◌, sym, subst, ◌∙◌}
use mathlib.Core.Bool.{Bool, true, ◌&&◌, and-eq-true_iff}
use mathlib.Core.List.{List, [], ◌∷◌}
use Prim.Native.Nat.{ℕ, zero, suc, ◌+◌, ◌<◌}
use native.Mathlib.Nat.{add-zero, zero-add, add-suc, suc-add, le_of_suc-le-suc, not-suc-le-zero}
use lib.ListN.{length, get_or}

-- the test f passes at each entry of the list and its place, counted from i
abbrev pub passes : {A : Type 0} → (ℕ → A → Bool) → ℕ → List A → Bool
passes f i [] = true
passes f i (x ∷ xs) = f i x && passes f (suc i) xs

module _ {A : Type 0} (d : A) (f : ℕ → A → Bool) where
  from : (xs : List A) (i : ℕ) → passes f i xs ≡ true → (k : ℕ) → k < length xs → f (i + k) (get_or xs k d) ≡ true
  from [] i t k h = absurd (not-suc-le-zero h)
  from (x ∷ xs) i t zero h = rw add-zero ((and-eq-true_iff (f i x) (passes f (suc i) xs)).0 t).0
  from (x ∷ xs) i t (suc k) h =
      subst (λ (m : ℕ). f m (get_or xs k d) ≡ true) (suc-add i k ∙ sym (add-suc i k))
      (from xs (suc i) ((and-eq-true_iff (f i x) (passes f (suc i) xs)).0 t).1 k (le_of_suc-le-suc h))

  pub at : (xs : List A) → passes f 0 xs ≡ true → (k : ℕ) → k < length xs → f k (get_or xs k d) ≡ true
  at xs t k h = rw zero-add at (from xs 0 t k h)
