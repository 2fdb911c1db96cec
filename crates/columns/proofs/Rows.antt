-- A root that is a struct of few fields which all have a style has columns, and no other root does.
-- Assumes nothing.
use Rattle.std.specs.Bool.{then_some}
use mathlib.Core.Path.{◌≡◌, refl, sym, ap, ◌∙◌}
use mathlib.Core.Bool.{Bool, true, false}
use mathlib.Core.List.{List, [], ◌∷◌}
use mathlib.Core.Option.{Option, none, some, none-ne-some}
use Prim.Native.Nat.{ℕ, ◌-◌, ◌≤◌, ◌<◌}
use native.Mathlib.Omega.{arith}
use lib.Dec.{eqb}
use borrow.Author.Tests.{eq-eqb, ne_eqb, le-leb, lt-leb}
use Rattle.wire.specs.declared.Layout.{Layout}
use Rattle.wire.specs.Tests.{given, both}
use Rattle.wire.specs.Shape.{Kind, struct, same_kind, node, Shapes, count}
use Rattle.wire.specs.Shape as shapes
use Rattle.wire.specs.Table.{kinds, is_kind, kind_of, Node, node_at, record_of, shape_of}
use Rattle.laws.specs.Tables.{node_kind, node_first, node_count, node_shape, GoodTable}
use Rattle.laws.proofs.Splits.{by-test, not-both, both_left, both_right}
use Rattle.laws.proofs.Numbering.{same_number}
use Rattle.laws.proofs.Children.{count-children}
use Rattle.table.specs.Parts.{Falls}
use Rattle.table.proofs.Stretches.{node-falls}
use Rattle.desk.specs.Csv.{Style, style_of, Column, and_column, kind_of_root, columns, columns_of, most_fields}
use Rattle.columns.specs.Found.{Fields, Unfit}
use Rattle.columns.specs.Columns.{is_some, all_styled, field_shapes, Finds, rows, no_rows}

-- ---- columns

-- fields that all have a style have columns
pub record Columned (ts : Shapes) : Type 0 where
  pub cs : List Column
  pub are : columns ts ≡ some cs

and-column : (k : Kind) (o : Option Style) (os : Option (List Column)) → is_some o ≡ true → (cs : List Column) → os ≡ some cs → (ds : List Column) × (and_column k o os ≡ some ds)
unfolding is_some and_column
and-column k none os h cs e = not-both h refl
and-column k (some f) none h cs e = absurd (none-ne-some cs e)
and-column k (some f) (some ds) h cs e = (record { kind = k; style = f } ∷ ds, refl)

pub columned : (ts : Shapes) → all_styled ts ≡ true → Columned ts
unfolding all_styled columns
columned shapes.none h = record { cs = []; are = refl }
columned (shapes.more t ts) h =
    let rest = columned ts (both_right (is_some (style_of (kind_of_root t))) _ h) in
    let all = and-column (kind_of_root t) (style_of (kind_of_root t)) (columns ts) (both_left _ _ h) rest.cs rest.are in
    record { cs = all.0; are = all.1 }

no-column : (k : Kind) (o : Option Style) (os : Option (List Column)) → is_some o ≡ false → and_column k o os ≡ none
unfolding is_some and_column
no-column k none os h = refl
no-column k (some f) os h = not-both refl h

no-columns : (k : Kind) (o : Option Style) (os : Option (List Column)) → os ≡ none → and_column k o os ≡ none
unfolding and_column
no-columns k none os e = refl
no-columns k (some f) os e = rw e

pub uncolumned : (ts : Shapes) → all_styled ts ≡ false → columns ts ≡ none
unfolding all_styled columns both
uncolumned shapes.none h = not-both refl h
uncolumned (shapes.more t ts) h =
    by-test (is_some (style_of (kind_of_root t)))
    (λ e. no-columns (kind_of_root t) (style_of (kind_of_root t)) (columns ts) (uncolumned ts (rw e at h)))
    (λ e. no-column (kind_of_root t) (style_of (kind_of_root t)) (columns ts) e)

-- ---- roots

struct_kind : (k : ℕ) → is_kind k ≡ true → same_kind (kind_of k) struct ≡ eqb k 18
struct_kind k ok = unfold kind_of kinds is_kind in same_number k 18 ok refl

no-struct : (k : Kind) (ts : Shapes) → same_kind k struct ≡ false → columns_of (node k ts) ≡ none
unfolding columns_of both given
no-struct k ts e = rw e

struct-itself : same_kind struct struct ≡ true
struct-itself = unfold kind_of kinds is_kind in (same_number 18 18 refl refl ∙ eq-eqb 18 18 refl)

pub struct-columns : (ts : Shapes) → count ts ≤ most_fields → columns_of (node struct ts) ≡ columns ts
unfolding columns_of both given
struct-columns ts h = rw (struct-itself, le-leb (count ts) most_fields h)

many-columns : (ts : Shapes) → most_fields < count ts → columns_of (node struct ts) ≡ none
unfolding columns_of both given
many-columns ts h = rw (struct-itself, lt-leb (count ts) most_fields h)

module _ {s : List ℕ} {l : Layout} (g : GoodTable s l) where
  abbrev root : Node
  root = node_at s (record_of l l.root)

  root-shape : shape_of s l ≡ node (node_kind root) (field_shapes s l (node_first l l.root root) (node_count root))
  root-shape = g.its_shape ∙ (g.node-good l.root g.root_below).its_shape

  pub other-root : {number : ℕ} → number ≡ root.number → (number ≡ 18 → ⊥) → Finds s l Unfit
  other-root n h =
      no_rows
      (ap columns_of root-shape
      ∙ no-struct (node_kind root) _ (struct_kind root.number (g.node-good l.root g.root_below).is-kind ∙ ne_eqb root.number 18 (λ e. h (n ∙ e))))

  module _ {number width : ℕ} (n : number ≡ root.number) (h : number ≡ 18) (w : width ≡ node_count root) where
    kind-root : node_kind root ≡ struct
    kind-root = ap kind_of (sym n ∙ h) ∙ (unfold kind_of kinds in refl)

    root-struct : (from : ℕ) → from ≡ node_first l l.root root → shape_of s l ≡ node struct (field_shapes s l from width)
    root-struct from f = root-shape ∙ ap (λ k. node k (field_shapes s l (node_first l l.root root) (node_count root))) kind-root ∙ (rw (f, w))

    pub many-fields : most_fields < width → Finds s l Unfit
    many-fields m =
        no_rows (ap columns_of (root-struct _ refl) ∙ many-columns _ (rw (count-children (node_shape s l) s (node_first l l.root root) width) m))

    module _ {from : ℕ} (f : from ≡ node_first l l.root root) where
      pub root-falls : Falls s from width l.nodes
      root-falls =
          let r = node-falls g g.root_below in
          rw (f, w) (record { inside = r.inside; below = λ c b. omega (arith, r.below c b, g.root_below) })

      module _ (few : width ≤ most_fields) {t : Bool} (is : t ≡ all_styled (field_shapes s l from width)) where
        some-rows : t ≡ true → Finds s l (Fields from width)
        some-rows e = rows (record { good = g; falls = root-falls; styled = sym is ∙ e }) few (root-struct from f)

        no-rows : t ≡ false → Finds s l Unfit
        no-rows e =
            no_rows
            (ap columns_of (root-struct from f) ∙ struct-columns _ (rw (count-children (node_shape s l) s from width) few) ∙ uncolumned _ (sym is ∙ e))

        pub found : Finds s l (then_some t (record { from = from; width = width }))
        found = by-test t (λ e. rw e (some-rows e)) (λ e. rw e (no-rows e))
