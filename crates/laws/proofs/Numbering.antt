-- A kind is known by its number: no two of the kinds are the same, which one computed test says.
-- Assumes nothing.
use mathlib.Core.Path.{◌≡◌, refl, sym, ◌∙◌}
use mathlib.Core.Bool.{Bool, true, false, not}
use mathlib.Core.List.{List, [], ◌∷◌}
use Prim.Native.Nat.{ℕ, zero, suc, ◌<◌}
use native.Mathlib.Nat.{le_of_suc-le-suc, not-suc-le-zero}
use native.Mathlib.Omega.{arith}
use lib.ListN.{length, get_or}
use lib.Dec.{eqb}
use borrow.Author.Tests.{ltb-true, eq-eqb, ne_eqb, not-true}
use Rattle.wire.specs.Tests.{pick, both, decided}
use Rattle.wire.specs.Shape.{unit, Kind, plain, same_kind}
use Rattle.wire.specs.Table.{kinds, is_kind, kind_of}
use Rattle.wire.specs.Append.{is_open, is_open_root}
use Rattle.laws.proofs.Splits.{by-test, by-lt, by-eq, not-both, both_left, both_right}

-- ---- the same kind

decided-true : {A : Type 0} (d : Dec A) → decided d ≡ true → A
unfolding decided
decided-true (yes h) e = h
decided-true (no h) e = not-both e refl

decided-yes : {A : Type 0} (d : Dec A) → A → decided d ≡ true
unfolding decided
decided-yes (yes h) a = refl
decided-yes (no h) a = absurd (h a)

pub same_kind_lem : (k l : Kind) → same_kind k l ≡ true → k ≡ l
unfolding same_kind
same_kind_lem k l e = decided-true _ e

pub kind-itself : (k : Kind) → same_kind k k ≡ true
unfolding same_kind
kind-itself k = decided-yes _ refl

-- ---- the numbers

-- a kind is none of these
apart : Kind → List Kind → Bool
apart k [] = true
apart k (l ∷ ls) = both (not (same_kind k l)) (apart k ls)

distinct : List Kind → Bool
distinct [] = true
distinct (k ∷ ks) = both (apart k ks) (distinct ks)

apart-at : (d k : Kind) (ls : List Kind) → apart k ls ≡ true → (j : ℕ) → j < length ls → same_kind k (get_or ls j d) ≡ false
unfolding apart
apart-at d k [] e j h = absurd (not-suc-le-zero h)
apart-at d k (l ∷ ls) e zero h = not-true _ (both_left (not (same_kind k l)) (apart k ls) e)
apart-at d k (l ∷ ls) e (suc j) h = apart-at d k ls (both_right (not (same_kind k l)) (apart k ls) e) j (le_of_suc-le-suc h)

distinct-at : (d : Kind) (ks : List Kind) → distinct ks ≡ true → (i j : ℕ) → i < j → j < length ks → same_kind (get_or ks i d) (get_or ks j d) ≡ false
unfolding distinct
distinct-at d [] e i j l h = absurd (not-suc-le-zero h)
distinct-at d (k ∷ ks) e i zero l h = absurd (not-suc-le-zero l)
distinct-at d (k ∷ ks) e zero (suc j) l h = apart-at d k ks (both_left (apart k ks) (distinct ks) e) j (le_of_suc-le-suc h)
distinct-at d (k ∷ ks) e (suc i) (suc j) l h = distinct-at d ks (both_right (apart k ks) (distinct ks) e) i j (le_of_suc-le-suc l) (le_of_suc-le-suc h)

no-two : distinct kinds ≡ true
unfolding distinct apart kinds same_kind decided both
no-two = refl

pub kind-below : (i : ℕ) → is_kind i ≡ true → i < 32
unfolding is_kind kinds
kind-below i h = ltb-true i 32 h

other-kind : (i j : ℕ) → i < j → j < 32 → kind_of i ≡ kind_of j → ⊥
unfolding kind_of kinds
other-kind i j l h e = not-both (kind-itself (kind_of j)) (rw e at (distinct-at (plain unit) kinds no-two i j l h))

one_number : (i j : ℕ) → i < 32 → j < 32 → kind_of i ≡ kind_of j → i ≡ j
one_number i j h k e =
    by-lt i j (λ l. absurd (other-kind i j l k e)) (λ m. by-lt j i (λ l. absurd (other-kind j i l h (sym e))) (λ n. omega arith))

pub same_number : (i j : ℕ) → is_kind i ≡ true → is_kind j ≡ true → same_kind (kind_of i) (kind_of j) ≡ eqb i j
same_number i j h k =
    by-eq i j (λ e. rw e (kind-itself (kind_of j)) ∙ sym (eq-eqb i j e))
    (λ ne. by-test (same_kind (kind_of i) (kind_of j)) (λ s. absurd (ne (one_number i j (kind-below i h) (kind-below j k) (same_kind_lem _ _ s)))) (λ s. s ∙ sym (ne_eqb i j ne)))

-- the kinds in which more may follow, by their numbers
pub open-number : (i : ℕ) → is_kind i ≡ true → is_open (kind_of i) ≡ eqb i 19
unfolding is_open kind_of kinds is_kind
open-number i h = same_number i 19 h refl

pub root-number : (i : ℕ) → is_kind i ≡ true → is_open_root (kind_of i) ≡ pick (eqb i 18) true (eqb i 19)
unfolding is_open_root kind_of kinds is_kind
root-number i h = rw (same_number i 18 h refl, open-number i h)
