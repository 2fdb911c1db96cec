-- Items that are made of others: what `let .. else` hands up, and what is made anew of what was taken.
-- Assumes nothing.
use mathlib.Core.Path.{◌≡◌, refl, sym, ap, ◌∙◌}
use mathlib.Core.Bool.{Bool, true, false}
use mathlib.Core.List.{List, [], ◌∷◌}
use Prim.Native.Nat.{ℕ}
use native.Mathlib.Omega.{arith}
use lib.ListN.{length, take, get_or}
use lib.Dec.{leb}
use Rattle.wire.specs.declared.Refusal.{Refusal}
use Rattle.wire.specs.declared.Refusal.TheVariants.{End}
use Rattle.wire.specs.declared.Own.{Own}
use Rattle.wire.specs.Item.{Item}
use Rattle.wire.specs.Item.{Took, Refused}
use Rattle.wire.specs.Tests.{pick}
use Rattle.wire.specs.Shape.{unsigned}
use Rattle.wire.specs.Numbers.{unzigzagged, on_first, took, word_of}
use Rattle.wire.specs.Reading.{flag, counted}

-- ---- the first word is changed

module _ (f : ℕ → ℕ) {r x : Item} (whole : on_first f r ≡ x) where
  pub kept : {e : Refusal} → r ≡ Refused e → r ≡ x
  unfolding on_first
  kept p = p ∙ (ap (on_first f) (sym p) ∙ whole)

  pub changed : {own : Own} {y : ℕ} → r ≡ Took own → y ≡ f own.first
      → Took (record { first = y; second = own.second; used = own.used; shortest = own.shortest }) ≡ x
  unfolding on_first
  changed p z = rw z (ap (on_first f) (sym p) ∙ whole)

-- the word of an unsigned number is the number
pub on-unsigned : (i : Item) → on_first (unzigzagged unsigned) i ≡ i
unfolding on_first unzigzagged
on-unsigned (Took own) = refl
on-unsigned (Refused e) = refl

pub on_word : (h : ℕ → ℕ) (n : ℕ) (f : List ℕ → ℕ) (s : List ℕ) → on_first h (word_of n f s) ≡ word_of n (λ b. h (f b)) s
unfolding word_of on_first pick
on_word h n f s = go (leb n (length s))
  where
    go : (t : Bool) → on_first h (pick t (took (f (take n s)) 0 n) (Refused End)) ≡ pick t (took (h (f (take n s))) 0 n) (Refused End)
    go true = refl
    go false = refl

-- ---- something stands behind a count

module _ (f : Own → Item) {r x : Item} (e : r ≡ x) where
  pub no-count : {why : Refusal} → r ≡ Refused why → r ≡ counted x f
  unfolding counted
  no-count p = p ∙ ap (λ y. counted y f) (sym p ∙ e)

  pub behind-count : {own : Own} → r ≡ Took own → f own ≡ counted x f
  unfolding counted
  behind-count p = ap (λ y. counted y f) (sym p ∙ e)

-- ---- flags

pub flag-none : (e : Refusal) (s : List ℕ) → length s ≡ 0 → Refused End ≡ flag e s
unfolding flag
flag-none e [] h = refl
flag-none e (b ∷ s) h = absurd (omega arith)

pub flag-some : (e : Refusal) (s : List ℕ) → (length s ≡ 0 → ⊥) → flag e s ≡ pick (leb (get_or s 0 0) 1) (took (get_or s 0 0) 0 1) (Refused e)
unfolding flag
flag-some e [] h = absurd (h refl)
flag-some e (b ∷ s) h = refl
