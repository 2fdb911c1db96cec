-- What an item's own bytes are, by its kind's number, and of a variant's number.
-- Assumes nothing.
use mathlib.Core.Path.{◌≡◌, refl, sym, ap, ◌∙◌}
use mathlib.Core.Bool.{Bool, true, false, not}
use mathlib.Core.List.{List}
use Prim.Native.Nat.{ℕ, ◌+◌, ◌<◌, ◌≤◌, ◌^◌}
use native.Mathlib.Omega.{arith}
use lib.ListN.{length}
use lib.Dec.{ltb}
use borrow.Author.Tests.{lt-ltb, le-ltb}
use Rattle.wire.specs.declared.Refusal.{Refusal}
use Rattle.wire.specs.declared.Refusal.TheVariants.{BadOption, Variant, NotShortest}
use Rattle.wire.specs.declared.Own.{Own}
use Rattle.wire.specs.Item.{Item}
use Rattle.wire.specs.Item.{Took, Refused}
use Rattle.wire.specs.ReadAnswer.{Done, Refused as NotRead}
use Rattle.wire.specs.Tests.{pick, both}
use Rattle.wire.specs.Shape.{w32, w64, Kind}
use Rattle.wire.specs.Numbers.{varint, took}
use Rattle.wire.specs.Table.{kinds, kind_of}
use Rattle.wire.specs.Reading.{flag, known, head, strictly, judged, head_by}
use Rattle.laws.specs.Bounds.{Fits, takes}
use Rattle.laws.specs.KindRanges.{IsInt, IsInner, is_leaf}
use Rattle.laws.proofs.Splits.{by-lt, of-pick, not-both}
use Rattle.laws.proofs.Bounds.{head-fits, judged-took}
use Rattle.laws.proofs.EachKind.{end, ◌&◌, in-kinds, outer-kinds}
use Rattle.entry.specs.Words.{with_entry}
use Rattle.leaf.specs.Leaves.{leaf_take_at}
use Rattle.leaf.proofs.Leaves.{low-leaf, high-leaf, is_leaf_lem, low-place}
use Rattle.read_item.specs.Int.{Int}
use Rattle.read_item.specs.Int.{Is}
use Rattle.read_item.specs.Steps.{Ends, within, nowhere, TakesInt, is, Puts, entry, same}

-- ---- a variant's number

module _ (n : ℕ) (i : Item) where
  pub known-refused : {e : Refusal} → i ≡ Refused e → i ≡ known n i
  unfolding known
  known-refused p = p ∙ ap (known n) (sym p)

  pub known-good : {own : Own} → i ≡ Took own → own.first < n → Took own ≡ known n i
  unfolding known pick
  known-good p h = rw (p, lt-ltb _ n h)

  pub known-not : {own : Own} → i ≡ Took own → n ≤ own.first → Refused Variant ≡ known n i
  unfolding known pick
  known-not p h = rw (p, le-ltb _ n h)

-- the item of an integer by its number
pub takes-int : (j : ℕ) {k : ℕ} {s : List ℕ} {i : Item} → k ≡ j → IsInt j → i ≡ head (kind_of j) 0 0 s → TakesInt k s (Is i)
takes-int j e int q = rw e (is int q)

-- ---- a form that is not the shortest

module _ (strict : Bool) (i : Item) where
  pub judged-refused : {e : Refusal} → i ≡ Refused e → i ≡ judged strict i
  unfolding judged strictly
  judged-refused {e} p = p ∙ sym (ap (judged strict) p ∙ stays strict)
    where
      stays : (s : Bool) → judged s (Refused e) ≡ Refused e
      stays true = refl
      stays false = refl

  pub judged-longer : {own : Own} → i ≡ Took own → both strict (not own.shortest) ≡ true → Refused NotShortest ≡ judged strict i
  unfolding judged strictly pick both
  judged-longer {own} p h = sym (ap (judged strict) p ∙ longer strict own.shortest refl h)
    where
      longer : (s t : Bool) → own.shortest ≡ t → both s (not t) ≡ true → judged s (Took own) ≡ Refused NotShortest
      longer true true e q = not-both q refl
      longer true false e q = rw e
      longer false t e q = not-both q refl

  pub judged-taken : {own : Own} → i ≡ Took own → both strict (not own.shortest) ≡ false → Took own ≡ judged strict i
  unfolding judged strictly pick both
  judged-taken {own} p h = sym (ap (judged strict) p ∙ taken strict own.shortest refl h)
    where
      taken : (s t : Bool) → own.shortest ≡ t → both s (not t) ≡ false → judged s (Took own) ≡ Took own
      taken true true e q = rw e
      taken true false e q = not-both refl q
      taken false t e q = refl

pub judged-head : (strict : Bool) (k : Kind) (n p : ℕ) (s : List ℕ) {i j : Item} → j ≡ judged strict i → i ≡ head k n p s → j ≡ head_by strict k n p s
unfolding head_by
judged-head strict k n p s q e = q ∙ ap (judged strict) e

-- ---- an item in the store

inside : {p : ℕ} {own : Own} → Ends p (Took own) → p + own.used < 2 ^ 64
inside (within h) = h

pub ends-within : {p : ℕ} {i : Item} {own : Own} → i ≡ Took own → Ends p i → p + own.used < 2 ^ 64
ends-within q e = inside (rw q at e)

module _ {p m : ℕ} {s : List ℕ} {i : Item} where
  pub puts-same : {e : Refusal} → i ≡ Refused e → Puts p m s i (NotRead e p m) s
  puts-same q = rw q same

  pub puts-entry : {own : Own} {t : List ℕ} → i ≡ Took own → t ≡ with_entry own.first own.second p m s → Puts p m s i (Done (p + own.used) (m + 1)) t
  puts-entry q put = rw (q, put) entry

-- ---- by number

module _ (n p : ℕ) (s : List ℕ) (k : ℕ) where
  pub head-option : k ≡ 15 → flag BadOption s ≡ head (kind_of k) n p s
  unfolding head kind_of kinds
  head-option e = rw e

  pub head-count : 15 < k → k < 18 → varint w64 s ≡ head (kind_of k) n p s
  unfolding head kinds
  head-count g h = in-kinds (λ q. varint w64 s ≡ head q n p s) 16 2 refl (refl & refl & end) k g h

  pub head-struct : k ≡ 18 → took 0 0 0 ≡ head (kind_of k) n p s
  unfolding head kind_of kinds
  head-struct e = rw e

  pub head-enum : k ≡ 19 → known n (varint w32 s) ≡ head (kind_of k) n p s
  unfolding head kind_of kinds
  head-enum e = rw e

  -- without children, how many there are does not matter
  pub head-leaf : (IsInner k → ⊥) → k < 32 → p + length s < 2 ^ 64 → leaf_take_at k p s ≡ head (kind_of k) n p s
  unfolding leaf_take_at pick head
  head-leaf outer few fits = rw (lt-ltb (p + length s) (2 ^ 64) fits, outer-leaf) (outer-kinds (λ q. head q 0 p s ≡ head q n p s) (λ x. refl) (λ c. refl) k outer)
    where
      outer-leaf : is_leaf k ≡ true
      outer-leaf = by-lt k 15 (λ h. low-leaf k h) (λ h. by-lt 19 k (λ g. high-leaf k g (omega arith)) (λ g. absurd (outer (h, g))))

module _ (p : ℕ) (s : List ℕ) (k : ℕ) where
  -- a leaf below 15
  pub low-number : (j : ℕ) → k ≡ j → j < 15 → p + length s < 2 ^ 64 → {r : Item} → r ≡ head (kind_of j) 0 p s → r ≡ leaf_take_at k p s
  low-number j e low fits q = is_leaf_lem k p s fits (low-leaf k (omega arith)) (rw e q)

  -- an integer's item does not depend on its place
  pub int-here : IsInt k → p + length s < 2 ^ 64 → {r : Item} → r ≡ head (kind_of k) 0 0 s → r ≡ leaf_take_at k p s
  int-here h fits q = low-number k refl (omega (arith, h.1)) fits (q ∙ low-place k p s (omega (arith, h.1)))

  -- a leaf's item ends inside the part
  pub leaf-inside : {own : Own} → leaf_take_at k p s ≡ Took own → own.used ≤ length s
  unfolding leaf_take_at
  leaf-inside {own} =
      of-pick (λ i. i ≡ Took own → own.used ≤ length s) (ltb (p + length s) (2 ^ 64)) _ _
      (λ _. of-pick (λ i. i ≡ Took own → own.used ≤ length s) (is_leaf k) _ _ (λ _ q. ends (rw q at (head-fits (kind_of k) 0 p s))) (λ _ q. never q))
      (λ _ q. never q)
    where
      ends : Fits s (Took own) → own.used ≤ length s
      ends (takes l) = l

      never : {e : Refusal} → Refused e ≡ Took own → own.used ≤ length s
      never q = let z : ◌≡◌ {A = ℕ} 0 1 = cc in absurd (omega arith)

  -- and so at a place that a word holds, plainly or strictly read
  pub leaf-ends : (strict : Bool) (i : Item) → p + length s < 2 ^ 64 → i ≡ judged strict (leaf_take_at k p s) → Ends p i
  leaf-ends strict (Took own) fits e = let u = leaf-inside (judged-took strict (leaf_take_at k p s) (sym e)) in within {own = own} (omega (arith, u, fits))
  leaf-ends strict (Refused why) fits e = nowhere

-- an integer's item, where the kind is an integer's
int-own : {k : ℕ} {s : List ℕ} {i : Item} → TakesInt k s (Is i) → IsInt k × (i ≡ head (kind_of k) 0 0 s)
int-own (is int q) = (int, q)

module _ (p : ℕ) {k : ℕ} {s : List ℕ} {r : Int} {i : Item} (t : TakesInt k s r) (e : r ≡ Is i) (fits : p + length s < 2 ^ 64) where
  pub int-taken : IsInt k × (i ≡ leaf_take_at k p s)
  int-taken = let o = int-own (rw e at t) in (o.0, int-here p s k o.0 fits o.1)

  pub int-ends : Ends p i
  unfolding judged
  int-ends = leaf-ends p s k false i fits int-taken.1
