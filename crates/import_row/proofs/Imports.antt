-- The message that is taken of a row field by field is the one that is imported.
-- Assumes nothing.
use mathlib.Core.Path.{◌≡◌, refl, sym, ap, ◌∙◌}
use mathlib.Core.List.{List}
use mathlib.Core.Option.{some}
use Prim.Native.Nat.{ℕ, ◌≤◌}
use Rattle.wire.specs.declared.Layout.{Layout}
use Rattle.wire.specs.Shape.{struct, node, Shapes, count}
use Rattle.wire.specs.Table.{shape_of}
use Rattle.laws.specs.Tables.{node_shape}
use Rattle.laws.proofs.Children.{count-children}
use Rattle.desk.specs.Csv.{Column, columns, columns_of, most_fields, styles_of}
use Rattle.spellings.specs.Accept.{Parsed, took, stopped, parse, import_parsed, import_of}
use Rattle.columns.specs.Columns.{field_shapes, Rowed}
use Rattle.columns.proofs.Rows.{columned, struct-columns}
use Rattle.take_row.specs.Messages.{taken_of, taken_by}
use Rattle.import_row.specs.Outputs.{taken_output}

parsed : (cs : List Column) (room : ℕ) (p : Parsed) → import_parsed cs room p ≡ taken_output room (taken_of cs p)
unfolding import_parsed taken_output taken_of
parsed cs room (took vs) = refl
parsed cs room (stopped p) = refl

some-import : (cs : List Column) (input : List ℕ) (room : ℕ) → import_of (some cs) input room ≡ taken_output room (taken_by (some cs) input)
unfolding import_of taken_by
some-import cs input room = parsed cs room (parse (styles_of cs) input)

-- of a table that has rows
pub rows-import : {s : List ℕ} {l : Layout} {from width : ℕ} (input : List ℕ) (room : ℕ) → Rowed s l from width → width ≤ most_fields → shape_of s l ≡ node struct (field_shapes s l from width)
    → import_of (columns_of (shape_of s l)) input room ≡ taken_output room (taken_by (columns (field_shapes s l from width)) input)
rows-import {s} {l} {from} {width} input room r few e =
    let ts : Shapes = field_shapes s l from width in
    let n : count ts ≤ most_fields = rw (count-children (node_shape s l) s from width) few in
    let c = columned ts r.styled in
    ap (λ t. import_of (columns_of t) input room) e ∙ ap (λ o. import_of o input room) (struct-columns ts n ∙ c.are) ∙ some-import c.cs input room
    ∙ ap (λ o. taken_output room (taken_by o input)) (sym c.are)
