-- The row of a message, told field by field, and what is laid of it in a lent output.
-- Assumes nothing.
use Rattle.std.specs.Prelude.{◌≡◌, Bool, true, false, List, [], ◌∷◌, ◌++◌, ℕ, ◌+◌, length, drop}
use Rattle.wire.specs.declared.Refusal.{Refusal}
use Rattle.wire.specs.Item.{Item}
use Rattle.wire.specs.Item.{Took, Refused as NotTaken}
use Rattle.wire.specs.Shape.{Kind, Shapes}
use Rattle.wire.specs.Shape as shapes
use Rattle.wire.specs.Reading.{head}
use Rattle.desk.specs.Csv.{comma, line_end, kind_of_root}
use Rattle.put_number.specs.Lays.{Lays}
use Rattle.put_field.specs.Fields.{field_of}
use Rattle.put_row.specs.Row.{Row}
use Rattle.put_row.specs.Row.{Laid, Refused}

-- the bytes of a row and the place behind what was read for them, or the reader's own refusal
pub data Told : Type 0 where
  spells : List ℕ → (place : ℕ) → Told
  stops : Refusal → (place : ℕ) → Told

unfoldable pub after : List ℕ → Told → Told
after s (spells t p) = spells (s ++ t) p
after s (stops e p) = stops e p

-- a comma in front of each field but the first
unfoldable pub separator : (first : Bool) → List ℕ
separator true = []
separator false = comma ∷ []

-- an item at the place p as a field, and then what is told from the place behind it
unfoldable pub field_then : (first : Bool) → (message : List ℕ) → Kind → (p : ℕ) → Item → (ℕ → Told) → Told
field_then first message k p (Took own) next = after (separator first ++ field_of k message own.first own.second) (next (p + own.used))
field_then first message k p (NotTaken e) next = stops e p

-- one field alone
unfoldable pub one_field : (first : Bool) → (message : List ℕ) → Kind → (p : ℕ) → Told
one_field first message k p = field_then first message k p (head k 0 p (drop p message)) (λ q. spells [] q)

-- the fields from the place p on, and the line's end
unfoldable pub fields_from : (message : List ℕ) → (first : Bool) → Shapes → (p : ℕ) → Told
fields_from message first shapes.none p = spells line_end p
fields_from message first (shapes.more t ts) p =
    field_then first message (kind_of_root t) p (head (kind_of_root t) 0 p (drop p message)) (λ q. fields_from message false ts q)

-- what is told is laid behind the first u bytes of an output, or is the answer
pub data LaysRow (t : Told) (u : ℕ) (out : List ℕ) : Row → List ℕ → Type 0 where
  laid : {s : List ℕ} {p n : ℕ} {after : List ℕ} → t ≡ spells s p → Lays s u out n after → LaysRow t u out (Laid p n) after
  refused : {e : Refusal} {p : ℕ} {after : List ℕ} → t ≡ stops e p → length after ≡ length out → LaysRow t u out (Refused e p) after
