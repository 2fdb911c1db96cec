-- What the code finds at an item of a node, and what it leaves.
-- Assumes nothing.
use Rattle.std.specs.Prelude.{◌≡◌, List, ℕ, ◌+◌, ◌^◌, ◌<◌}
use Rattle.wire.specs.declared.Refusal.{Refusal}
use Rattle.wire.specs.declared.Own.{Own}
use Rattle.wire.specs.Item.{Item}
use Rattle.wire.specs.Item.{Took, Refused as NotTaken}
use Rattle.wire.specs.declared.Layout.{Layout}
use Rattle.wire.specs.ReadAnswer.{ReadAnswer}
use Rattle.wire.specs.ReadAnswer.{Done, Refused as NotRead}
use Rattle.wire.specs.Walk.{following}
use Rattle.wire.specs.Table.{kind_of, Node, node_at, record_of}
use Rattle.wire.specs.Reading.{head, Head, Spot}
use Rattle.laws.specs.KindRanges.{IsInt, IsInner}
use Rattle.laws.specs.Tables.{node_kind, node_first, node_count}
use Rattle.table.specs.declared.Stretch.{Stretch}
use Rattle.table.specs.Parts.{followed}
use Rattle.entry.specs.Words.{with_entry}
use Rattle.read_item.specs.Int.{Int}
use Rattle.read_item.specs.Int.{Is, Other}
use Rattle.read_item.specs.Entered.{Entered}
use Rattle.read_item.specs.Entered.{On, Refused}

abbrev pub spot : List ℕ → ℕ → Spot
spot s p = record { bytes = s; place = p }

-- the number of a node's kind, one of those that have children
pub record Inner (s : List ℕ) (l : Layout) (i number : ℕ) : Type 0 where
  pub kind : number ≡ (node_at s (record_of l i)).number
  pub inner : IsInner number

-- the own bytes of an item of a node, at a spot
unfoldable pub own_of : Head → Node → Spot → Item
own_of h r x = h (node_kind r) (node_count r) x.place x.bytes

-- the stretch that follows an item of the node i with the first word a
unfoldable pub after_of : Layout → ℕ → Node → (a : ℕ) → Stretch
after_of l i r a = followed (following (node_kind r) a) (node_first l i r) (node_count r)

-- An item at the place p ends at a place that a word holds.
pub data Ends (p : ℕ) : Item → Type 0 where
  within : {own : Own} → p + own.used < 2 ^ 64 → Ends p (Took own)
  nowhere : {e : Refusal} → Ends p (NotTaken e)

-- What is taken of an integer's own bytes s; of a kind that is none of the integers, nothing is said.
pub data TakesInt (number : ℕ) (s : List ℕ) : Int → Type 0 where
  is : {i : Item} → IsInt number → i ≡ head (kind_of number) 0 0 s → TakesInt number s (Is i)
  other : TakesInt number s Other

-- What a leaf's own item at the place p leaves behind m entries: its entry, or its refusal and nothing else.
pub data Puts (p m : ℕ) (s : List ℕ) : Item → ReadAnswer → List ℕ → Type 0 where
  entry : {own : Own} → Puts p m s (Took own) (Done (p + own.used) (m + 1)) (with_entry own.first own.second p m s)
  same : {e : Refusal} → Puts p m s (NotTaken e) (NotRead e p m) s

-- What the own item of the node i at the place p leaves behind m entries: its entry and the stretch that follows it, or the same.
pub data Enters (l : Layout) (i : ℕ) (r : Node) (p m : ℕ) (s : List ℕ) : Item → Entered → List ℕ → Type 0 where
  goes : {own : Own} → Enters l i r p m s (Took own) (On (after_of l i r own.first) own.used) (with_entry own.first own.second p m s)
  stops : {e : Refusal} → Enters l i r p m s (NotTaken e) (Refused e) s
