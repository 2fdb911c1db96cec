-- An item that was taken as a field's: it is spelled, and it ends in the message.
-- Assumes nothing.
use mathlib.Core.Path.{◌≡◌, refl, sym}
use mathlib.Core.Path as paths
use mathlib.Core.Bool.{true}
use mathlib.Core.List.{List}
use Prim.Native.Nat.{ℕ, ◌+◌, ◌-◌, ◌≤◌, ◌<◌, ◌^◌}
use native.Mathlib.Omega.{arith}
use lib.Dec.{ltb}
use lib.ListN.{length, take, drop, length-drop}
use borrow.Author.Tests.{ltb-false}
use Rattle.wire.specs.declared.Own.{Own}
use Rattle.wire.specs.Item.{Item}
use Rattle.wire.specs.Item.{Took, Refused}
use Rattle.wire.specs.Shape.{w64, Content, text, raw, pooled}
use Rattle.wire.specs.Table.{kinds, kind_of}
use Rattle.wire.specs.Text.{is_char}
use Rattle.wire.specs.Values.{number}
use Rattle.wire.specs.Numbers.{varint}
use Rattle.wire.specs.Reading.{counted, is_content, content_of, head}
use Rattle.laws.specs.Bounds.{Fits, takes}
use Rattle.laws.proofs.Bounds.{fits-varint, head-fits}
use Rattle.laws.proofs.Parts.{tail}
use Rattle.laws.proofs.Splits.{by-lt, by-eq, of-pick, both_left}
use Rattle.leaf.specs.Leaves.{leaf_take_at}
use Rattle.leaf.proofs.Leaves.{low-leaf, high-leaf, is_leaf_lem}
use Rattle.desk.specs.Csv.{one_char, style_of, may}
use Rattle.spellings.proofs.Taken.{OfTook, char-taken}
use Rattle.columns.specs.Columns.{is_some}
use Rattle.columns.proofs.Styled.{by-style}
use Rattle.put_field.specs.Fields.{low, high, Spellable, a-number, a-char, a-part}

-- ---- the part that words name

abbrev Part : List ℕ → Item → Type 0
Part message i = OfTook (λ a b. a + b ≤ length message) i

content-part : (message : List ℕ) (c : Content) (p : ℕ) (count : Own) → p ≤ length message → count.used ≤ length (drop p message) → Part message (content_of c p count (drop count.used (drop p message)))
unfolding content_of
content-part message c p count h u =
    let s : List ℕ = drop count.used (drop p message) in
    of-pick (Part message) (ltb (length s) count.first) _ _ (λ e. tt)
    (λ e. of-pick (Part message) (is_content c (take count.first s)) _ _
    (λ k. omega (arith, ltb-false (length s) count.first e, length-drop count.used (drop p message), length-drop p message)) (λ k. tt))

pooled-part : (message : List ℕ) (c : Content) (p : ℕ) → p ≤ length message → Part message (head (pooled c) 0 p (drop p message))
unfolding head counted
pooled-part message c p h = go (varint w64 (drop p message)) (fits-varint w64 (drop p message))
  where
    go : (i : Item) → Fits (drop p message) i → Part message (counted i (λ count. content_of c p count (drop count.used (drop p message))))
    go (Took own) (takes u) = content-part message c p own h u
    go (Refused e) f = tt

-- ---- any field

of-took : (P : ℕ → ℕ → Type 0) {i : Item} {own : Own} → OfTook P i → i ≡ Took own → P own.first own.second
of-took P h e = paths.subst (λ i. OfTook P i) e h

module _ (k : ℕ) (message : List ℕ) (p : ℕ) (h : p ≤ length message) {own : Own} (t : head (kind_of k) 0 p (drop p message) ≡ Took own) where
  taken-char : k ≡ 11 → is_char own.first ≡ true
  unfolding kind_of kinds head may
  taken-char e = both_left _ _ (of-took (λ a b. may one_char (number a b) ≡ true) (char-taken (drop p message)) (rw e at t))

  taken-text : k ≡ 12 → own.first + own.second ≤ length message
  unfolding kind_of kinds
  taken-text e = of-took (λ a b. a + b ≤ length message) (pooled-part message text p h) (rw e at t)

  taken-bytes : k ≡ 13 → own.first + own.second ≤ length message
  unfolding kind_of kinds
  taken-bytes e = of-took (λ a b. a + b ≤ length message) (pooled-part message raw p h) (rw e at t)

  low-spellable : k ≤ 13 → Spellable k message own.first own.second
  low-spellable m =
      by-lt k 11 (λ l. a-number (low (omega arith)))
      (λ l. by-eq k 11 (λ e. a-char e (taken-char e))
      (λ n. by-eq k 12 (λ e. a-part (omega arith) (omega arith) (taken-text e))
      (λ o. let e : k ≡ 13 = exact l n o in a-part (omega arith) (omega arith) (taken-bytes e))))
    where
      exact : 11 ≤ k → (k ≡ 11 → ⊥) → (k ≡ 12 → ⊥) → k ≡ 13
      exact l n o = omega (arith, m)

  pub spellable : is_some (style_of (kind_of k)) ≡ true → Spellable k message own.first own.second
  spellable s = by-style k s low-spellable (λ lo hi. a-number (high lo hi))

  pub behind : p + own.used ≤ length message
  behind = go (head (kind_of k) 0 p (drop p message)) (head-fits (kind_of k) 0 p (drop p message)) t
    where
      go : (i : Item) → Fits (drop p message) i → i ≡ Took own → p + own.used ≤ length message
      go (Took o) (takes u) e = let same : o ≡ own = cc in rw (← same) (omega (arith, u, length-drop p message))
      go (Refused r) f e = let z : ◌≡◌ {A = ℕ} 0 1 = cc in absurd (omega arith)

-- what a leaf's own bytes are, in the part that the code lends
pub leaf-head : (k : ℕ) (message : List ℕ) (p : ℕ) → is_some (style_of (kind_of k)) ≡ true → p ≤ length message → length message < 2 ^ 63
    → leaf_take_at k p (take (length message - p) (drop p message)) ≡ head (kind_of k) 0 p (drop p message)
leaf-head k message p s h small =
    rw (tail message p)
    (by-style k s (λ m. sym (is_leaf_lem k p (drop p message) fits (low-leaf k (omega arith)) refl)) (λ lo hi. sym (is_leaf_lem k p (drop p message) fits (high-leaf k lo hi) refl)))
  where
    fits : p + length (drop p message) < 2 ^ 64
    fits = omega (arith, length-drop p message)
