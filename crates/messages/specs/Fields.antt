-- The key fields of a table's root, as code goes by them.
-- Assumes nothing.
use Rattle.std.specs.Prelude.{◌≡◌, Bool, true, false, not, List, ℕ, ◌+◌, ◌*◌}
use Rattle.wire.specs.declared.Layout.{Layout}
use Rattle.wire.specs.Tests.{pick}
use Rattle.wire.specs.Shape.{Width, w32, w64, unsigned, int, plain, struct, node}
use Rattle.wire.specs.Table.{u16_at, node_at, record_of, shapes_at, shape_of}
use Rattle.laws.specs.Tables.{node_kind, node_shape, GoodTable}
use Rattle.table.specs.Parts.{Falls}
use Rattle.desk.specs.declared.Key.{Key}
use Rattle.desk.specs.Rows.{same_key}
use Rattle.desk.specs.Messages.{Keyed, is_keyed, Message, next, next_of}
use Rattle.messages.specs.declared.Fields.{Fields}
use Rattle.messages.specs.Found.{Found}
use Rattle.messages.specs.Found.{At, Unfit}

-- how many fields there are: up to the first key field, up to the second, and the others
unfoldable pub field_count : Fields → ℕ
field_count f = f.before + 1 + (f.between + 1 + f.behind)

-- the places of the key fields
unfoldable pub first_place : Fields → ℕ
first_place f = f.before

unfoldable pub second_place : Fields → ℕ
second_place f = f.before + 1 + f.between

unfoldable pub keys_of : List ℕ → Layout → Fields → Keyed
keys_of s l f =
    record {
      shape = shape_of s l;
      store = pick f.ahead (first_place f) (second_place f);
      product = pick f.ahead (second_place f) (first_place f);
    }

-- a store is narrow, a product is not
unfoldable pub key_width : (narrow : Bool) → Width
key_width true = w32
key_width false = w64

-- the key of two words
unfoldable pub key_by : (ahead : Bool) (one other : ℕ) → Key
key_by true one other = record { store = one; product = other }
key_by false one other = record { store = other; product = one }

-- whether the message that some bytes begin with has a key; of bytes that begin with none nothing is said
pub record HasKey (k : Keyed) (s : List ℕ) (key : Key) (r : Bool) : Type 0 where
  pub is : {m : Message} {rest : List ℕ} → next_of k s ≡ next m rest → r ≡ same_key m.key key

-- the field whose number stands at an offset is a key field
pub record IsKey (s : List ℕ) (l : Layout) (at : ℕ) (narrow : Bool) : Type 0 where
  pub kind : node_kind (node_at s (record_of l (u16_at s at))) ≡ plain (int unsigned (key_width narrow))

-- a good table whose root has the key fields there
pub record KeyedBy (s : List ℕ) (l : Layout) (f : Fields) : Type 0 where
  pub good : GoodTable s l
  pub fits : is_keyed (keys_of s l f) ≡ true
  pub root : shape_of s l ≡ node struct (shapes_at (node_shape s l) s f.from (field_count f))
  pub falls : Falls s f.from (field_count f) l.nodes
  pub first : IsKey s l (f.from + 2 * f.before) f.ahead
  pub second : IsKey s l (f.from + 2 * (f.before + 1) + 2 * f.between) (not f.ahead)

-- two places in their order
pub record Ordered (from width store product : ℕ) (f : Fields) : Type 0 where
  pub start : f.from ≡ from
  pub all : field_count f ≡ width
  pub its-store : pick f.ahead (first_place f) (second_place f) ≡ store
  pub its-product : pick f.ahead (second_place f) (first_place f) ≡ product

-- the key fields at two places, or they are unfit
pub data Finds (s : List ℕ) (l : Layout) (store product : ℕ) : Found → Type 0 where
  found : {f : Fields} → KeyedBy s l f → keys_of s l f ≡ record { shape = shape_of s l; store = store; product = product } → Finds s l store product (At f)
  unfit : is_keyed (record { shape = shape_of s l; store = store; product = product }) ≡ false → Finds s l store product Unfit
