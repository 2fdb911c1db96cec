-- The way along a path in the table's own numbers.
-- Letters: s the table's bytes, l its layout, i a node's number and r its record, p and q places, m how many entries are made.
-- Assumes nothing.
use Rattle.std.specs.Prelude.{Err, ◌≡◌, Bool, true, false, List, [], ◌∷◌, ℕ, ◌+◌, ◌-◌, ◌*◌, ◌≤◌, ◌<◌, length, drop}
use Rattle.std.proofs.Math.Option.{Option, none, some}
use Rattle.wire.specs.Item.{Item}
use Rattle.wire.specs.declared.Layout.{Layout}
use Rattle.wire.specs.Shape.{Kind}
use Rattle.wire.specs.Table.{u16_at, kind_of, Node, node_at, record_of, shape_of}
use Rattle.wire.specs.Reading.{head, Spot, front, reading, fit}
use Rattle.laws.specs.Tables.{node_kind, node_count, node_shape}
use Rattle.table.specs.Parts.{row_step}
use Rattle.read_item.specs.Steps.{spot}
use Rattle.desk.specs.declared.NotFound.{NotFound}
use Rattle.desk.specs.FindAnswer.{FindAnswer}
use Rattle.desk.specs.Path.{is_field, is_passed, most_entries}
use Rattle.along.specs.Seek.{seek_on, seek}
use Rattle.find.specs.PassAnswer.{PassAnswer, In, Out}

unfoldable pub is_some : Option Kind → Bool
is_some none = false
is_some (some k) = true

-- a path goes through the node, to its child at a position
pub record Inward (r : Node) (which : ℕ) : Type 0 where
  pub passed : is_passed (node_kind r) ≡ true
  pub there : which < node_count r

-- the own item of a kind, whatever children it has and wherever it stands
abbrev pub Owns : (number : ℕ) → List ℕ → Item → Type 0
Owns number s r = (n p : ℕ) → r ≡ head (kind_of number) n p s

-- a node, and then its child at a position and the rest of the path
unfoldable pub seek_node : List ℕ → Layout → (i which room : ℕ) → Spot → (rest : List ℕ) → FindAnswer
seek_node s l i which room x rest = seek (node_shape s l i) (which ∷ rest) room x

-- the nodes in front of that child as one row, whose numbers stand from an offset on, and then the child
unfoldable pub seek_behind : List ℕ → Layout → (from which room : ℕ) → Spot → (rest : List ℕ) → FindAnswer
seek_behind s l from which room x rest =
    seek_on room (fit room (row_step (reading head) s l from which x)).made (fit room (row_step (reading head) s l from which x)).ends
    (λ left y. seek (node_shape s l (u16_at s (from + 2 * which))) rest left y)

-- What a step of the way leaves, from bytes at the place p: the child c further on, with the same answer for every rest of the path; or the cause that every rest has for its answer.
pub data Passes (s : List ℕ) (l : Layout) (c : ℕ) (bytes : List ℕ) (p : ℕ) (whole : (rest : List ℕ) → FindAnswer) : PassAnswer → Type 0 where
  inside : {q m : ℕ} → p ≤ q → q - p ≤ length bytes
      → ((rest : List ℕ) → whole rest ≡ seek (node_shape s l c) rest (most_entries - m) (spot (drop (q - p) bytes) q)) → Passes s l c bytes p whole (In c q m)
  outside : {cause : NotFound} → ((rest : List ℕ) → whole rest ≡ Err cause) → Passes s l c bytes p whole (Out cause)

-- What the whole way leaves: the path's item at a place of the message, with the same answer; or the cause that is the answer.
pub data Arrives (s : List ℕ) (l : Layout) (path message : List ℕ) : PassAnswer → Type 0 where
  inside : {c q m : ℕ} → c < l.nodes → is_field (node_kind (node_at s (record_of l c))) ≡ true → q ≤ length message
      → seek (shape_of s l) path most_entries (front message) ≡ seek (node_shape s l c) [] (most_entries - m) (spot (drop q message) q) → Arrives s l path message (In c q m)
  outside : {cause : NotFound} → seek (shape_of s l) path most_entries (front message) ≡ Err cause → Arrives s l path message (Out cause)
