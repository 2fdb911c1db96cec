-- The schema table: a file read from its end, whose last two bytes choose its trailer's form, and the shape that it describes.
-- Letters: s the file's bytes, t its trailer, which begins at `end`, l its layout, i a node's number, r its record with a and b,
-- k its kind, f the shape of each node; c, d and n are the trailer's C, D and node count.
-- Assumes nothing.
use Rattle.std.specs.Prelude.{Bool, true, false, List, [], ◌∷◌, ℕ, zero, suc, ◌+◌, ◌-◌, ◌*◌, ◌/◌, ◌%◌, length, get_or, ltb, leb, eqb}
use Rattle.wire.specs.declared.Refusal.TheVariants.{Trailer, Record}
use Rattle.wire.specs.declared.Ending.{Ending}
use Rattle.wire.specs.declared.Layout.{Layout}
use Rattle.wire.specs.Checked.{Checked}
use Rattle.wire.specs.Checked.{Good, Bad}
use Rattle.wire.specs.Tests.{pick, given, both}
use Rattle.wire.specs.Shape.{w16, w32, w64, le, be, signed, unsigned, bool, i8, u8, f32, f64, char, unit, int, fixed, text, raw, Kind, plain, pooled, option, sequence, map, struct, enum, Shape, node, Shapes, none, more, depth}

unfoldable pub u16_at : List ℕ → ℕ → ℕ
u16_at s at = get_or s at 0 + 256 * get_or s (at + 1) 0

unfoldable pub u32_at : List ℕ → ℕ → ℕ
u32_at s at = u16_at s at + 65536 * u16_at s (at + 2)

-- ---- the trailer

pub data TableForm : Type 0 where
  first second : TableForm

-- a trailer's bytes
unfoldable pub size_of : TableForm → ℕ
size_of first = 10
size_of second = 14

-- the bytes 53 50, and 57 50
unfoldable pub mark_of : TableForm → ℕ
mark_of first = 0x5053
mark_of second = 0x5057

-- the most nodes, and the most bytes of child list, two to a place
unfoldable pub most_nodes : TableForm → ℕ
most_nodes first = 256
most_nodes second = 4096

unfoldable pub most_bytes : TableForm → ℕ
most_bytes first = 2048
most_bytes second = 65536

-- the last two bytes choose the form: the second where they are its mark
unfoldable pub table_form : List ℕ → TableForm
table_form s = pick (eqb (u16_at s (length s - 2)) (mark_of second)) second first

-- C, D, the node count n, the root and the mark: five u16, of which the second form has C and D as u32
unfoldable pub ending_at : TableForm → List ℕ → ℕ → Ending
ending_at first s end =
    record { c = u16_at s end; d = u16_at s (end + 2); n = u16_at s (end + 4); root = u16_at s (end + 6); mark = u16_at s (end + 8) }
ending_at second s end =
    record { c = u32_at s end; d = u32_at s (end + 4); n = u16_at s (end + 8); root = u16_at s (end + 10); mark = u16_at s (end + 12) }

-- the child list starts C bytes before the trailer, the node records D bytes before it
unfoldable pub layout_at : Ending → ℕ → Layout
layout_at t end = record { records = end - t.d; children = end - t.c; places = t.c / 2; nodes = t.n; root = t.root }

-- the trailer's numbers, where there may be so many nodes and so many bytes of child list
unfoldable pub good_numbers : (nodes bytes : ℕ) → (c d n root end : ℕ) → Bool
good_numbers nodes bytes c d n root end =
    both (both (leb 1 n) (leb n nodes))
    (both (ltb root n)
    (both (both (eqb (c % 2) 0) (leb c bytes))
    (both (eqb d (6 * n + c)) (leb d end))))

unfoldable pub good_trailer : TableForm → Ending → ℕ → Bool
good_trailer form t end =
    both (eqb t.mark (mark_of form)) (good_numbers (most_nodes form) (most_bytes form) t.c t.d t.n t.root end)

-- ---- the records

-- the kinds in the order of their numbers
unfoldable pub kinds : List Kind
kinds =
    plain bool ∷ plain i8 ∷ plain (int signed w16) ∷ plain (int signed w32) ∷ plain (int signed w64)
    ∷ plain u8 ∷ plain (int unsigned w16) ∷ plain (int unsigned w32) ∷ plain (int unsigned w64)
    ∷ plain f32 ∷ plain f64 ∷ plain char ∷ pooled text ∷ pooled raw ∷ plain unit
    ∷ option ∷ sequence ∷ map ∷ struct ∷ enum
    ∷ plain (fixed le signed w16) ∷ plain (fixed le signed w32) ∷ plain (fixed le signed w64)
    ∷ plain (fixed le unsigned w16) ∷ plain (fixed le unsigned w32) ∷ plain (fixed le unsigned w64)
    ∷ plain (fixed be signed w16) ∷ plain (fixed be signed w32) ∷ plain (fixed be signed w64)
    ∷ plain (fixed be unsigned w16) ∷ plain (fixed be unsigned w32) ∷ plain (fixed be unsigned w64) ∷ []

unfoldable pub is_kind : ℕ → Bool
is_kind number = ltb number (length kinds)

unfoldable pub kind_of : ℕ → Kind
kind_of number = get_or kinds number (plain unit)

-- a node's record: its kind's number, the zero byte, a and b
pub record Node : Type 0 where
  pub number : ℕ
  pub zeroed : ℕ
  pub a : ℕ
  pub b : ℕ

unfoldable pub node_at : List ℕ → ℕ → Node
node_at s at = record { number = get_or s at 0; zeroed = get_or s (at + 1) 0; a = u16_at s (at + 2); b = u16_at s (at + 4) }

-- where a node's record stands
unfoldable pub record_of : Layout → ℕ → ℕ
record_of l i = l.records + 6 * i

-- its children's numbers: so many u16 that stand one after the other, in its own record or in the child list
unfoldable pub first_child : Layout → ℕ → Kind → ℕ → ℕ
first_child l i (plain _) a = record_of l i + 2
first_child l i (pooled _) a = record_of l i + 2
first_child l i option a = record_of l i + 2
first_child l i sequence a = record_of l i + 2
first_child l i map a = record_of l i + 2
first_child l i struct a = l.children + 2 * a
first_child l i enum a = l.children + 2 * a

unfoldable pub child_count : Kind → ℕ → ℕ
child_count (plain _) b = 0
child_count (pooled _) b = 0
child_count option b = 1
child_count sequence b = 1
child_count map b = 2
child_count struct b = b
child_count enum b = b

-- each of the numbers from an offset on, of which so many are left, is below i
unfoldable pub below : List ℕ → ℕ → ℕ → ℕ → Bool
below s i from zero = true
below s i from (suc left) = both (ltb (u16_at s from) i) (below s i (from + 2) left)

-- what a record's a and b must be besides
unfoldable pub good_places : Layout → Kind → ℕ → ℕ → Bool
good_places l (plain _) a b = both (eqb a 0) (eqb b 0)
good_places l (pooled _) a b = both (eqb a 0) (eqb b 0)
good_places l option a b = eqb b 0
good_places l sequence a b = eqb b 0
good_places l map a b = true
good_places l struct a b = both (pick (eqb b 0) (eqb a 0) true) (leb (a + b) l.places)
good_places l enum a b = both (leb 1 b) (leb (a + b) l.places)

unfoldable pub good_kind : List ℕ → Layout → ℕ → Kind → ℕ → ℕ → Bool
good_kind s l i k a b = given (good_places l k a b) (λ _. below s i (first_child l i k a) (child_count k b)) false

unfoldable pub good_node : List ℕ → Layout → ℕ → Node → Bool
good_node s l i r = both (both (is_kind r.number) (eqb r.zeroed 0)) (good_kind s l i (kind_of r.number) r.a r.b)

-- ---- the shape

-- the shapes that the numbers from an offset on name, of which so many are left
unfoldable pub shapes_at : (ℕ → Shape) → List ℕ → ℕ → ℕ → Shapes
shapes_at f s from zero = none
shapes_at f s from (suc left) = more (f (u16_at s from)) (shapes_at f s (from + 2) left)

unfoldable pub shape_by : (ℕ → Shape) → List ℕ → Layout → ℕ → Node → Shape
shape_by f s l i r =
    node (kind_of r.number) (shapes_at f s (first_child l i (kind_of r.number) r.a) (child_count (kind_of r.number) r.b))

-- the shape of the node i, whose children are below it: any count above i will do
unfoldable pub shape_f : ℕ → List ℕ → Layout → ℕ → Shape
shape_f zero s l i = node (plain unit) none
shape_f (suc bound) s l i = shape_by (λ child. shape_f bound s l child) s l i (node_at s (record_of l i))

unfoldable pub shape_of : List ℕ → Layout → Shape
shape_of s l = shape_f l.nodes s l l.root

-- ---- the check

-- the longest chain of children of the node i, a leaf counting 1
unfoldable pub chain_of : List ℕ → Layout → ℕ → ℕ
chain_of s l i = depth (shape_f (suc i) s l i)

unfoldable pub short_chain : ℕ → Bool
short_chain chain = leb chain 256

-- a node's record is good, and in the second form its chain is short; the first form has too few nodes for a long one
unfoldable pub good_in : TableForm → List ℕ → Layout → ℕ → Bool
good_in first s l i = good_node s l i (node_at s (record_of l i))
good_in second s l i = given (good_node s l i (node_at s (record_of l i))) (λ _. short_chain (chain_of s l i)) false

-- the first that is not good of the nodes from i on, of which so many are left
unfoldable pub check_from : TableForm → List ℕ → Layout → ℕ → ℕ → Checked
check_from form s l i zero = Good l
check_from form s l i (suc left) = given (good_in form s l i) (λ _. check_from form s l (i + 1) left) (Bad Record i)

unfoldable pub check_at : TableForm → List ℕ → Ending → ℕ → Checked
check_at form s t end = given (good_trailer form t end) (λ _. check_from form s (layout_at t end) 0 t.n) (Bad Trailer 0)

unfoldable pub check_as : TableForm → List ℕ → Checked
check_as form s =
    given (leb (size_of form) (length s))
    (λ _. check_at form s (ending_at form s (length s - size_of form)) (length s - size_of form)) (Bad Trailer 0)

unfoldable pub check : List ℕ → Checked
check s = check_as (table_form s) s
