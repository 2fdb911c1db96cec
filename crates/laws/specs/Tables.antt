-- What a good table's check tells, as code that reads the table wants it.
-- Assumes nothing.
use Rattle.std.specs.Prelude.{◌≡◌, true, List, ℕ, suc, ◌+◌, ◌-◌, ◌*◌, ◌≤◌, ◌<◌, length}
use Rattle.wire.specs.declared.Layout.{Layout}
use Rattle.wire.specs.Shape.{Kind, Shape, node, Shapes, depth}
use Rattle.wire.specs.Table.{u16_at, is_kind, kind_of, Node, node_at, record_of, first_child, child_count, good_places, shapes_at, shape_f, shape_of}

-- a node's kind, where its children's numbers begin, how many there are, and each of them
abbrev pub node_kind : Node → Kind
node_kind r = kind_of r.number

abbrev pub node_first : Layout → ℕ → Node → ℕ
node_first l i r = first_child l i (node_kind r) r.a

abbrev pub node_count : Node → ℕ
node_count r = child_count (node_kind r) r.b

abbrev pub node_child : List ℕ → Layout → ℕ → Node → ℕ → ℕ
node_child s l i r c = u16_at s (node_first l i r + 2 * c)

-- the shape of the node i, and its children's
unfoldable pub node_shape : List ℕ → Layout → ℕ → Shape
node_shape s l i = shape_f (suc i) s l i

abbrev pub node_shapes : List ℕ → Layout → ℕ → Node → Shapes
node_shapes s l i r = shapes_at (node_shape s l) s (node_first l i r) (node_count r)

-- a node: its record and its children's numbers stand inside the table, and those are below it
pub record GoodNode (s : List ℕ) (l : Layout) (i : ℕ) (r : Node) : Type 0 where
  pub is-kind : is_kind r.number ≡ true
  pub zeroed : r.zeroed ≡ 0
  pub places : good_places l (node_kind r) r.a r.b ≡ true
  pub record-inside : record_of l i + 6 ≤ l.children
  pub children-inside : node_first l i r + 2 * node_count r ≤ l.children + 2 * l.places
  pub children-below : (c : ℕ) → c < node_count r → node_child s l i r c < i
  pub its_shape : node_shape s l i ≡ node (node_kind r) (node_shapes s l i r)

-- the records, the child list and the trailer stand one after the other, with the root's number 4 bytes before the table's end; no chain of children is longer than 256
pub record GoodTable (s : List ℕ) (l : Layout) : Type 0 where
  pub some-nodes : 1 ≤ l.nodes
  pub root_below : l.root < l.nodes
  pub records-end : l.records + 6 * l.nodes ≡ l.children
  pub children-end : l.children + 2 * l.places + 4 ≤ length s
  pub root_stands : u16_at s (length s - 4) ≡ l.root
  pub node-good : (i : ℕ) → i < l.nodes → GoodNode s l i (node_at s (record_of l i))
  pub its_shape : shape_of s l ≡ node_shape s l l.root
  pub short-chains : (i : ℕ) → i < l.nodes → depth (node_shape s l i) ≤ 256

-- what a trailer of either form allows, for code that keeps something for each node
pub record Limits (l : Layout) : Type 0 where
  pub few-nodes : l.nodes ≤ 4096
