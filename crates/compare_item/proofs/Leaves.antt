-- When two leaves are the same: byte by byte, by the numbers of kinds, and on both sides.
-- Assumes nothing.
use mathlib.Core.Path.{◌≡◌, refl, sym, ap, ap₂, ◌∙◌}
use mathlib.Core.Bool.{Bool, true, false, ◌&&◌}
use mathlib.Core.List.{List, [], ◌∷◌}
use mathlib.Core.Logic.{◌⊎◌, inl, inr}
use Prim.Native.Nat.{ℕ, suc, ◌+◌, ◌-◌, ◌≤◌, ◌<◌, ◌^◌}
use native.Mathlib.Omega.{arith}
use lib.ListN.{length, take, drop, get_or-eq_default}
use lib.Dec.{eqb, leb}
use lib.Pointwise.{pointwise}
use borrow.Author.Tests.{leb-true, eq-eqb, ne_eqb}
use Rattle.wire.specs.declared.Refusal.{Refusal}
use Rattle.wire.specs.declared.Own.{Own}
use Rattle.wire.specs.Item.{Item}
use Rattle.wire.specs.Item.{Took, Refused}
use Rattle.wire.specs.Tests.{pick, both}
use Rattle.wire.specs.Shape.{Width, w16, w32, w64, bits, Sign, signed, unsigned, unit, int, Kind, plain}
use Rattle.wire.specs.Numbers.{varint, zigzagged, unzigzagged, on_first}
use Rattle.wire.specs.Values.{is_pooled}
use Rattle.wire.specs.Table.{kinds, kind_of}
use Rattle.wire.specs.Reading.{read_plain, head}
use Rattle.laws.specs.KindRanges.{IsInt, IsLeaf}
use Rattle.laws.proofs.Splits.{by-test, by-lt, by-eq, both_left, both_right, not-both}
use Rattle.laws.proofs.Rule.{at}
use Rattle.laws.proofs.Numbers.{bits_of}
use Rattle.laws.proofs.NumbersAgain.{zigzag-again}
use Rattle.laws.proofs.Varints.{span-bits, took_in}
use Rattle.leaf.specs.Leaves.{leaf_take_at}
use Rattle.leaf.proofs.Leaves.{content-kind, low-place}
use Rattle.read_item.proofs.Heads.{head-leaf}
use Rattle.desk.specs.Differ.{same_bytes}
use Rattle.beside.specs.Meeting.{content_at, same_own}
use Rattle.beside.proofs.Owns.{head-used, head-content}
use Rattle.compare_item.specs.Taken.{Taken}
use Rattle.compare_item.specs.Taken.{Both, Unread}
use Rattle.compare_item.specs.Items.{Whole, taken_numbers, taken_both}

-- ---- bytes

-- what the comparison of slices tells
pub alike : (s t : List ℕ) → pointwise eqb s t ≡ same_bytes s t
unfolding same_bytes both
alike [] [] = refl
alike [] (b ∷ t) = refl
alike (a ∷ s) [] = refl
alike (a ∷ s) (b ∷ t) = go (eqb a b) (alike s t)
  where
    go : (x : Bool) → pointwise eqb s t ≡ same_bytes s t → x && pointwise eqb s t ≡ both x (same_bytes s t)
    go true rest = rest
    go false rest = refl

-- ---- by number

-- by one computed test of the list of kinds; a number that is none of theirs is taken as a unit's
pub pooled-range : (k : ℕ) → is_pooled (kind_of k) ≡ true → (12 ≤ k) × (k ≤ 13)
unfolding kinds kind_of is_pooled pick both
pooled-range k e =
    by-lt k 32
    (λ h.
    let t : both (leb 12 k) (leb k 13) ≡ true = rw e at (at (plain unit) (λ j x. pick (is_pooled x) (both (leb 12 j) (leb j 13)) true) kinds refl k h) in
    (leb-true 12 k (both_left (leb 12 k) (leb k 13) t), leb-true k 13 (both_right (leb 12 k) (leb k 13) t)))
    (λ h. not-both e (rw (get_or-eq_default kinds (plain unit) h)))

pub pooled-is : (k : ℕ) → 12 ≤ k → k ≤ 13 → true ≡ is_pooled (kind_of k)
unfolding is_pooled
pooled-is k l h = rw (content-kind k l h)

pub pooled-not : (k : ℕ) → ((12 ≤ k) × (k ≤ 13) → ⊥) → false ≡ is_pooled (kind_of k)
pooled-not k h = by-test (is_pooled (kind_of k)) (λ e. absurd (h (pooled-range k e))) sym

-- ---- two leaves

module _ (k : Kind) (a b : Own) (s t : List ℕ) where
  pub same_number : is_pooled k ≡ false → eqb a.first b.first ≡ same_own k a s b t
  unfolding same_own pick
  same_number e = rw e

  -- the contents as code takes them
  pub same-content : is_pooled k ≡ true → Whole k a s → Whole k b t → {r : Bool}
      → r ≡ same_bytes (take (a.used - (a.used - a.second)) (drop (a.used - a.second) s)) (take (b.used - (b.used - b.second)) (drop (b.used - b.second) t))
      → r ≡ same_own k a s b t
  unfolding same_own pick content_at
  same-content e w w' q =
      let here : a.used - (a.used - a.second) ≡ a.second = omega (arith, w.content e) in
      let there : b.used - (b.used - b.second) ≡ b.second = omega (arith, w'.content e) in
      q ∙ rw (e, here, there)

pub whole-leaf : (k : Kind) (n p : ℕ) (s : List ℕ) {own : Own} → head k n p s ≡ Took own → Whole k own s
whole-leaf k n p s e = record { content = head-content k n p s e; inside = head-used k n (record { bytes = s; place = p }) e }

-- ---- on both sides

module _ (k : Kind) (s t : List ℕ) where
  pub both-taken : {i j : Item} {a b : Own} {r : Bool} → i ≡ Took a → j ≡ Took b → r ≡ same_own k a s b t → Both r a.used b.used ≡ taken_both k s t i j
  unfolding taken_both
  both-taken p q e = rw (p, q, e)

  pub first-unread : {i : Item} (j : Item) {why : Refusal} → i ≡ Refused why → Unread ≡ taken_both k s t i j
  unfolding taken_both
  first-unread j p = rw p

  pub second-unread : {i j : Item} {a : Own} {why : Refusal} → i ≡ Took a → j ≡ Refused why → Unread ≡ taken_both k s t i j
  unfolding taken_both
  second-unread p q = rw (p, q)

-- a leaf's item, as it is taken by its number
pub leaf-head : (k p : ℕ) (s : List ℕ) → IsLeaf k → p + length s < 2 ^ 64 → leaf_take_at k p s ≡ head (kind_of k) 0 p s
leaf-head k p s l fits = head-leaf 0 p s k l.outer l.small fits

-- an integer does not depend on its place
pub ints-anywhere : (k : ℕ) → IsInt k → (p q : ℕ) (s t : List ℕ)
    → taken_both (kind_of k) s t (head (kind_of k) 0 0 s) (head (kind_of k) 0 0 t) ≡ taken_both (kind_of k) s t (head (kind_of k) 0 p s) (head (kind_of k) 0 q t)
ints-anywhere k h p q s t = ap₂ (taken_both (kind_of k) s t) (low-place k p s (omega (arith, h.1))) (low-place k q t (omega (arith, h.1)))

-- a number's first words decide
numbers-taken : (k : Kind) (s t : List ℕ) → is_pooled k ≡ false → (i j : Item) → taken_numbers i j ≡ taken_both k s t i j
unfolding taken_numbers taken_both
numbers-taken k s t e (Took a) (Took b) = ap (λ same. Both same a.used b.used) (same_number k a b s t e)
numbers-taken k s t e (Took a) (Refused why) = refl
numbers-taken k s t e (Refused why) j = refl

module _ (i j : Item) where
  pub both-numbers : {a b : Own} → i ≡ Took a → j ≡ Took b → Both (eqb a.first b.first) a.used b.used ≡ taken_numbers i j
  unfolding taken_numbers
  both-numbers p q = rw (p, q)

  pub first-number : {why : Refusal} → i ≡ Refused why → Unread ≡ taken_numbers i j
  unfolding taken_numbers
  first-number p = rw p

  pub second-number : {a : Own} {why : Refusal} → i ≡ Took a → j ≡ Refused why → Unread ≡ taken_numbers i j
  unfolding taken_numbers
  second-number p q = rw (p, q)

-- an integer on both sides
pub ints-taken : (k : ℕ) → IsInt k → (s t : List ℕ) {i j : Item} {r : Taken} → r ≡ taken_numbers i j → i ≡ head (kind_of k) 0 0 s → j ≡ head (kind_of k) 0 0 t
    → r ≡ taken_both (kind_of k) s t (head (kind_of k) 0 0 s) (head (kind_of k) 0 0 t)
ints-taken k h s t e p q = e ∙ ap₂ taken_numbers p q ∙ numbers-taken (kind_of k) s t (sym (pooled-not k (λ r. omega (arith, h.1, r.0)))) _ _

-- two varints are the same if they are so after they are unzigzagged, which has a way back
zigzag-same : (w : Width) (g : Sign) (x y : ℕ) → x < 2 ^ bits w → y < 2 ^ bits w → eqb x y ≡ eqb (unzigzagged g x) (unzigzagged g y)
zigzag-same w g x y h k =
    by-eq x y (λ e. eq-eqb x y e ∙ sym (eq-eqb (unzigzagged g x) (unzigzagged g y) (ap (unzigzagged g) e)))
    (λ e. ne_eqb x y e
    ∙ sym (ne_eqb (unzigzagged g x) (unzigzagged g y) (λ z. e (sym (zigzag-again (bits w) (bits_of w) g x h).1 ∙ ap (zigzagged g) z ∙ (zigzag-again (bits w) (bits_of w) g y k).1))))

zigzag-taken : (w : Width) (g : Sign) (s t : List ℕ) → taken_numbers (varint w s) (varint w t) ≡ taken_numbers (on_first (unzigzagged g) (varint w s)) (on_first (unzigzagged g) (varint w t))
zigzag-taken w g s t = go (varint w s) (varint w t) refl refl
  where
    small : (s : List ℕ) {own : Own} → varint w s ≡ Took own → own.first < 2 ^ bits w
    small s e = rw (span-bits w) at (took_in w s e).small

    go : (i j : Item) → varint w s ≡ i → varint w t ≡ j → taken_numbers i j ≡ taken_numbers (on_first (unzigzagged g) i) (on_first (unzigzagged g) j)
    go (Took a) (Took b) p q = unfold on_first taken_numbers in ap (λ same. Both same a.used b.used) (zigzag-same w g a.first b.first (small s p) (small t q))
    go (Took a) (Refused why) p q = unfold on_first taken_numbers in refl
    go (Refused why) j p q = unfold on_first taken_numbers in refl

-- the numbers of a width's varints: the signed one's, and four more
unfoldable pub signed_number : Width → ℕ
signed_number w16 = 2
signed_number w32 = 3
signed_number w64 = 4

-- one of two numbers that isn't the first is the second
pub second-of : {A B : Type 0} → A ⊎ B → (A → ⊥) → B
second-of (inl a) h = absurd (h a)
second-of (inr b) h = b

by-plain : (k : ℕ) (w : Width) (g : Sign) → kind_of k ≡ plain (int g w) → (s : List ℕ) → on_first (unzigzagged g) (varint w s) ≡ head (kind_of k) 0 0 s
unfolding head read_plain
by-plain k w g f s = rw f

pub varints-taken : (k : ℕ) → IsInt k → (w : Width) → ((k ≡ signed_number w → ⊥) → k ≡ signed_number w + 4) → (s t : List ℕ) {i j : Item} {r : Taken} → r ≡ taken_numbers i j → i ≡ varint w s → j ≡ varint w t
    → r ≡ taken_both (kind_of k) s t (head (kind_of k) 0 0 s) (head (kind_of k) 0 0 t)
unfolding signed_number
varints-taken k h w other s t {r = r} e p q = by-eq k (signed_number w) (λ f. go signed (s-kind w k f)) (λ f. go unsigned (u-kind w k (other f)))
  where
    s-kind : (w : Width) (k : ℕ) → k ≡ signed_number w → kind_of k ≡ plain (int signed w)
    s-kind w16 k e = unfold kind_of kinds in rw e
    s-kind w32 k e = unfold kind_of kinds in rw e
    s-kind w64 k e = unfold kind_of kinds in rw e

    u-kind : (w : Width) (k : ℕ) → k ≡ signed_number w + 4 → kind_of k ≡ plain (int unsigned w)
    u-kind w16 k e = unfold kind_of kinds in rw e
    u-kind w32 k e = unfold kind_of kinds in rw e
    u-kind w64 k e = unfold kind_of kinds in rw e

    go : (g : Sign) → kind_of k ≡ plain (int g w) → r ≡ taken_both (kind_of k) s t (head (kind_of k) 0 0 s) (head (kind_of k) 0 0 t)
    go g f = ints-taken k h s t (e ∙ ap₂ taken_numbers p q ∙ zigzag-taken w g s t) (by-plain k w g f s) (by-plain k w g f t)

-- an integer's number that is none of the first seven, one after the other
above : (k n : ℕ) → n ≤ k → (k ≡ n → ⊥) → suc n ≤ k
above k n h differs = omega (arith, differs)

last_of : (k : ℕ) → 8 ≤ k → k ≤ 8 → k ≡ 8
last_of k l h = omega arith

pub eighth : (k : ℕ) → IsInt k → (k ≡ 1 → ⊥) → (k ≡ 2 → ⊥) → (k ≡ 3 → ⊥) → (k ≡ 4 → ⊥) → (k ≡ 5 → ⊥) → (k ≡ 6 → ⊥) → (k ≡ 7 → ⊥) → k ≡ 8
eighth k h one two three four five six seven =
    last_of k (above k 7 (above k 6 (above k 5 (above k 4 (above k 3 (above k 2 (above k 1 h.0 one) two) three) four) five) six) seven) h.1
