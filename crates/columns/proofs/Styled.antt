-- The kinds that a row spells, by their numbers, and fields of such kinds one after the other.
-- Assumes nothing.
use mathlib.Core.Path.{◌≡◌, refl, sym, ap, ◌∙◌}
use mathlib.Core.Bool.{Bool, true, false}
use mathlib.Core.List.{List}
use Prim.Native.Nat.{ℕ, zero, suc, ◌+◌, ◌-◌, ◌*◌, ◌≤◌, ◌<◌}
use native.Mathlib.Omega.{arith}
use lib.ListN.{get_or-eq_default}
use Rattle.wire.specs.declared.Layout.{Layout}
use Rattle.wire.specs.Tests.{both}
use Rattle.wire.specs.Shape.{unit, plain}
use Rattle.wire.specs.Table.{u16_at, kinds, kind_of, node_at, record_of, shapes_at}
use Rattle.laws.specs.Tables.{node_shape, GoodTable}
use Rattle.laws.proofs.Splits.{by-lt, not-both, both_left, both_right}
use Rattle.laws.proofs.EachKind.{end, ◌&◌, in-kinds}
use Rattle.table.specs.Parts.{Falls}
use Rattle.table.proofs.Stretches.{falls-first, falls-next}
use Rattle.desk.specs.Csv.{style_of_plain, style_of_content, style_of, kind_of_root}
use Rattle.columns.specs.Columns.{is_some, all_styled, field_shapes, Rowed}

-- ---- kinds

module _ (k : ℕ) where
  pub styled-low : k ≤ 13 → true ≡ is_some (style_of (kind_of k))
  unfolding is_some style_of style_of_plain style_of_content kinds
  styled-low h =
      in-kinds (λ q. true ≡ is_some (style_of q)) 0 14 refl
      (refl & refl & refl & refl & refl & refl & refl & refl & refl & refl & refl & refl & refl & refl & end) k (omega arith) (omega arith)

  pub styled-high : 20 ≤ k → k ≤ 31 → true ≡ is_some (style_of (kind_of k))
  unfolding is_some style_of style_of_plain style_of_content kinds
  styled-high l h =
      in-kinds (λ q. true ≡ is_some (style_of q)) 20 12 refl (refl & refl & refl & refl & refl & refl & refl & refl & refl & refl & refl & refl & end) k l (omega arith)

  pub styled-not : 14 ≤ k → (20 ≤ k → 32 ≤ k) → false ≡ is_some (style_of (kind_of k))
  unfolding is_some style_of style_of_plain style_of_content kinds
  styled-not l h =
      by-lt k 20 (λ b. in-kinds (λ q. false ≡ is_some (style_of q)) 14 6 refl (refl & refl & refl & refl & refl & refl & end) k l (omega arith))
      (λ b. unfold kind_of in rw (get_or-eq_default kinds (plain unit) (h b)))

  -- a kind that has a style is one of these
  pub by-style {ℓ} : {X : Type ℓ} → is_some (style_of (kind_of k)) ≡ true → (k ≤ 13 → X) → (20 ≤ k → k ≤ 31 → X) → X
  by-style e f g =
      by-lt k 14 (λ h. f (omega arith))
      (λ h. by-lt k 20 (λ b. not-both e (sym (styled-not h (λ l. absurd (omega arith)))))
      (λ b. by-lt k 32 (λ d. g b (omega arith)) (λ d. not-both e (sym (styled-not h (λ l. d))))))

-- ---- fields

-- where the next field's number stands, and how many are left
module _ (P : ℕ → ℕ → Type 0) (from width : ℕ) where
  pub at_first : P from width → P (from + 2 * 0) (width - 0)
  at_first p =
      let a : from + 2 * 0 ≡ from = omega arith in
      let b : width - 0 ≡ width = omega arith in
      rw (a, b) p

  pub at_next : (i : ℕ) → P (from + 2 * i + 2) (width - i - 1) → P (from + 2 * (i + 1)) (width - (i + 1))
  at_next i p =
      let a : from + 2 * (i + 1) ≡ from + 2 * i + 2 = omega arith in
      let b : width - (i + 1) ≡ width - i - 1 = omega arith in
      rw (a, b) p

module _ {s : List ℕ} {l : Layout} (good : GoodTable s l) where
  -- the kind of a node's shape
  pub node-kind : (i : ℕ) → i < l.nodes → kind_of_root (node_shape s l i) ≡ kind_of (node_at s (record_of l i)).number
  unfolding kind_of_root
  node-kind i h = ap kind_of_root (good.node-good i h).its_shape

  pub none_left : (from width : ℕ) → width ≤ 0 → true ≡ all_styled (field_shapes s l from width)
  unfolding all_styled shapes_at
  none_left from zero h = refl
  none_left from (suc n) h = absurd (omega arith)

  pub one_more : (from width : ℕ) → 0 < width → Falls s from width l.nodes
      → all_styled (field_shapes s l from width) ≡ both (is_some (style_of (kind_of (node_at s (record_of l (u16_at s from))).number))) (all_styled (field_shapes s l (from + 2) (width - 1)))
  unfolding all_styled shapes_at
  one_more from zero h f = absurd (omega arith)
  one_more from (suc n) h f =
      let less : suc n - 1 ≡ n = omega arith in
      rw (node-kind (u16_at s from) (falls-first f h), less)

-- the fields from `child` on are left, and all have a style if those do
pub record Going (s : List ℕ) (l : Layout) (from width child left : ℕ) : Type 0 where
  pub same : all_styled (field_shapes s l child left) ≡ all_styled (field_shapes s l from width)
  pub falls : Falls s child left l.nodes

pub going-begin : {s : List ℕ} {l : Layout} {from width : ℕ} → Falls s from width l.nodes → Going s l from width from width
going-begin f = record { same = refl; falls = f }

module _ {s : List ℕ} {l : Layout} (good : GoodTable s l) {from width child left c number : ℕ} (g : Going s l from width child left) (h : 0 < left)
    (e : c ≡ u16_at s child) (n : number ≡ (node_at s (record_of l c)).number) {t : Bool} (is : t ≡ is_some (style_of (kind_of number))) where
  first : is_some (style_of (kind_of (node_at s (record_of l (u16_at s child))).number)) ≡ t
  first = sym (is ∙ ap (λ k. is_some (style_of (kind_of k))) (n ∙ ap (λ i. (node_at s (record_of l i)).number) e))

  pub going-stops : t ≡ false → false ≡ all_styled (field_shapes s l from width)
  unfolding both
  going-stops f = sym (sym g.same ∙ one_more good child left h g.falls ∙ (rw (first, f)))

  pub going_on : t ≡ true → Going s l from width (child + 2) (left - 1)
  unfolding both
  going_on f =
      let rest : all_styled (field_shapes s l child left) ≡ all_styled (field_shapes s l (child + 2) (left - 1)) = one_more good child left h g.falls ∙ (rw (first, f)) in
      record { same = sym rest ∙ g.same; falls = falls-next g.falls h }

pub going_end : {s : List ℕ} {l : Layout} (good : GoodTable s l) {from width child left : ℕ} → Going s l from width child left → left ≤ 0 → true ≡ all_styled (field_shapes s l from width)
going_end good {child = child} {left = left} g h = none_left good child left h ∙ g.same

-- ---- fields that all have a style

rowed-more : {s : List ℕ} {l : Layout} {child left : ℕ} → Rowed s l child left → 0 < left
    → both (is_some (style_of (kind_of (node_at s (record_of l (u16_at s child))).number))) (all_styled (field_shapes s l (child + 2) (left - 1))) ≡ true
rowed-more {child = child} {left = left} r h = sym (one_more r.good child left h r.falls) ∙ r.styled

-- the next field has a style
pub rowed-first : {s : List ℕ} {l : Layout} {child left c n : ℕ} → Rowed s l child left → 0 < left → c ≡ u16_at s child → n ≡ (node_at s (record_of l c)).number
    → is_some (style_of (kind_of n)) ≡ true
rowed-first {s} {l} r h e f = rw (f, e) (both_left _ _ (rowed-more r h))

-- and so have the others
pub rowed-next : {s : List ℕ} {l : Layout} {child left : ℕ} → Rowed s l child left → 0 < left → Rowed s l (child + 2) (left - 1)
rowed-next {s} {l} {child} r h =
    record {
      good = r.good;
      falls = falls-next r.falls h;
      styled = both_right (is_some (style_of (kind_of (node_at s (record_of l (u16_at s child))).number))) _ (rowed-more r h);
    }
