-- Which tables have rows, as code finds it out: field by field.
-- Assumes nothing.
use Rattle.std.specs.Prelude.{◌≡◌, Bool, true, false, List, ℕ, ◌≤◌}
use Rattle.std.proofs.Math.Option.{Option, none, some}
use Rattle.wire.specs.declared.Layout.{Layout}
use Rattle.wire.specs.Tests.{both}
use Rattle.wire.specs.Shape.{struct, node, Shapes}
use Rattle.wire.specs.Shape as shapes
use Rattle.wire.specs.Table.{shapes_at, shape_of}
use Rattle.laws.specs.Tables.{node_shape, GoodTable}
use Rattle.table.specs.Parts.{Falls}
use Rattle.desk.specs.Csv.{style_of, kind_of_root, columns_of, most_fields}
use Rattle.columns.specs.Found.{Found}
use Rattle.columns.specs.Found.{Fields, Unfit}

unfoldable pub is_some : {X : Type 0} → Option X → Bool
is_some none = false
is_some (some x) = true

-- all fields have a style
unfoldable pub all_styled : Shapes → Bool
all_styled shapes.none = true
all_styled (shapes.more t ts) = both (is_some (style_of (kind_of_root t))) (all_styled ts)

-- the shapes of so many fields whose numbers stand from an offset on
abbrev pub field_shapes : List ℕ → Layout → (from width : ℕ) → Shapes
field_shapes s l from width = shapes_at (node_shape s l) s from width

-- in a good table there stand so many fields' numbers, and all have a style
pub record Rowed (s : List ℕ) (l : Layout) (from width : ℕ) : Type 0 where
  pub good : GoodTable s l
  pub falls : Falls s from width l.nodes
  pub styled : all_styled (field_shapes s l from width) ≡ true

-- the fields of a table that has rows, or that it has none
pub data Finds (s : List ℕ) (l : Layout) : Found → Type 0 where
  rows : {from width : ℕ} → Rowed s l from width → width ≤ most_fields → shape_of s l ≡ node struct (field_shapes s l from width) → Finds s l (Fields from width)
  no_rows : columns_of (shape_of s l) ≡ none → Finds s l Unfit
