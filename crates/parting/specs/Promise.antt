-- What the public call promises, and that nothing else keeps it.
-- Assumes nothing.
use Rattle.std.specs.Prelude.{◌≡◌, false, List, [], ◌∷◌, ◌++◌, ℕ, suc, ◌<◌, length, drop}
use Rattle.std.proofs.lemmas.List.Edits.{sets}
use Rattle.wire.specs.declared.Layout.{Layout}
use Rattle.wire.specs.Checked.{Good}
use Rattle.wire.specs.Shape.{Kind, same_kind, Shape, node, Shapes, more, count}
use Rattle.wire.specs.Table.{check, shape_of}
use Rattle.wire.specs.Append.{is_open}
use Rattle.wire.specs.Answers.{area_after}
use Rattle.laws.specs.Unique.{Unique}
use Rattle.append.specs.Compare.{suits}
use Rattle.parting.specs.PartAnswer.{PartAnswer}
use Rattle.parting.specs.PartAnswer.{Apart}
use Rattle.parting.specs.Parting.{Parted, parted}

-- the answer, and the path as it is left: the positions from its first word on, and every other word as before
pub record Parts (w : Parted) (path : List ℕ) (r : PartAnswer) (left : List ℕ) : Type 0 where
  pub answered : r ≡ w.answer
  pub stored : left ≡ sets path 0 w.positions

-- the same of an old table and a new one, and the work area as it is left
pub record Finds (old new area path : List ℕ) (r : PartAnswer) (area' path' : List ℕ) : Type 0 where
  pub parts : Parts (parted old new area) path r path'
  pub handed : area' ≡ area_after area

-- ---- no choice

abbrev pub OneParting : Type 0
OneParting = (old new area path : List ℕ) → Unique (λ (r : PartAnswer × List ℕ × List ℕ). Finds old new area path r.0 r.1 r.2)

-- ---- what the positions lead to

-- the child at a position
pub data Child : ℕ → Shapes → Shape → Type 0 where
  first : {s : Shape} {ss : Shapes} → Child 0 (more s ss) s
  later : {c : ℕ} {s u : Shape} {ss : Shapes} → Child c ss u → Child (suc c) (more s ss) u

-- positions followed from a shape down to another
pub data Way : List ℕ → Shape → Shape → Type 0 where
  ends : {s : Shape} → Way [] s s
  down : {c : ℕ} {p : List ℕ} {k : Kind} {ss : Shapes} {s u : Shape} → Child c ss s → Way p s u → Way (c ∷ p) (node k ss) u

-- an old shape and a new one that differ by themselves: in their kinds, or in how many children they have
pub data Differ : Shape → Shape → Type 0 where
  kinds : {k l : Kind} {ss ts : Shapes} → same_kind k l ≡ false → Differ (node k ss) (node l ts)
  counts : {k : Kind} {ss ts : Shapes} → suits (is_open k) (count ss) (count ts) ≡ false → Differ (node k ss) (node k ts)

-- positions that lead in both shapes to two that differ by themselves
pub record LeadTo (p : List ℕ) (s t : Shape) : Type 0 where
  pub old_end : Shape
  pub new_end : Shape
  pub old_way : Way p s old_end
  pub new_way : Way p t new_end
  pub differ : Differ old_end new_end

-- two good tables, positions that lead so in their shapes, and fewer of them than the path's words
pub record PartAt (old new p : List ℕ) : Type 0 where
  pub old_layout : Layout
  pub new_layout : Layout
  pub good_old : check old ≡ Good old_layout
  pub good_new : check new ≡ Good new_layout
  pub lead : LeadTo p (shape_of old old_layout) (shape_of new new_layout)
  pub few : length p < 256

-- Where the answer is that the tables part, it is so.
abbrev pub PartsThere : Type 0
PartsThere = (old new area : List ℕ) (n : ℕ) → (parted old new area).answer ≡ Apart n
    → PartAt old new (parted old new area).positions × (n ≡ length (parted old new area).positions)

-- The positions are a path's first words, and its later words are as before.
abbrev pub FirstWords : Type 0
FirstWords = (old new area path : List ℕ) → length path ≡ 256
    → sets path 0 (parted old new area).positions ≡ (parted old new area).positions ++ drop (length (parted old new area).positions) path
