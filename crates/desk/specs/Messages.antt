-- Messages that stand end to end (T-08): where each ends, its key, and the last one of a key.
-- Letters: k a shape with its key fields, or a kind or a key, t a shape, ts fields, i a field's place, s bytes, x and y spots,
-- m a message, e an entry, p a place.
-- Assumes nothing.
use Rattle.std.specs.Prelude.{Bool, false, List, [], ◌∷◌, ◌++◌, ℕ, zero, suc, ◌+◌, length, take, drop, ltb}
use Rattle.std.proofs.Math.Option.{Option, none}
use Rattle.wire.specs.declared.Refusal.{Refusal}
use Rattle.wire.specs.declared.Refusal.TheVariants.{End}
use Rattle.wire.specs.Tests.{pick, both}
use Rattle.wire.specs.Shape.{w32, w64, unsigned, int, Kind, plain, struct, same_kind, Shape, node, Shapes}
use Rattle.wire.specs.Shape as shapes
use Rattle.wire.specs.Values.{Entry}
use Rattle.wire.specs.Reading.{Spot, front, Outcome, reached, refused, Run, read, fit}
use Rattle.desk.specs.Path.{most_entries}
use Rattle.desk.specs.declared.Key.{Key}
use Rattle.desk.specs.declared.Row.{Row}
use Rattle.desk.specs.Rows.{same_key, or_else, some_if}

-- ---- the two key fields

-- the fields of a root that is a struct; any other root has none
unfoldable pub fields_of : Shape → Shapes
fields_of (node k ts) = pick (same_kind k struct) ts shapes.none

unfoldable pub is_of : Kind → Shape → Bool
is_of k (node l ts) = same_kind k l

-- there is a field at a place, and it is of a kind
unfoldable pub has_field : Kind → Shapes → ℕ → Bool
has_field k shapes.none i = false
has_field k (shapes.more t ts) zero = is_of k t
has_field k (shapes.more t ts) (suc i) = has_field k ts i

-- kinds 7 and 8
abbrev pub store_kind : Kind
store_kind = plain (int unsigned w32)

abbrev pub product_kind : Kind
product_kind = plain (int unsigned w64)

-- a shape, and the places of the store field and the product field in its root
pub record Keyed : Type 0 where
  pub shape : Shape
  pub store : ℕ
  pub product : ℕ

-- a field's place is a u16, and the root has such a field there
unfoldable pub is_keyed : Keyed → Bool
is_keyed k =
    both (both (ltb k.store 65536) (has_field store_kind (fields_of k.shape) k.store))
    (both (ltb k.product 65536) (has_field product_kind (fields_of k.shape) k.product))

-- ---- the next message

unfoldable pub first_word : List Entry → ℕ
first_word [] = 0
first_word (e ∷ es) = e.first

unfoldable pub onward : Outcome → (Spot → ℕ) → ℕ
onward (reached y) f = f y
onward (refused why p) f = 0

-- the first word of the field at a place: the fields in front of it are read, and then it is
unfoldable pub word_at : Shapes → ℕ → Spot → ℕ
word_at shapes.none i x = 0
word_at (shapes.more t ts) zero x = first_word (read t x).made
word_at (shapes.more t ts) (suc i) x = onward (read t x).ends (λ y. word_at ts i y)

unfoldable pub key_of : Keyed → List ℕ → Key
key_of k s =
    record { store = word_at (fields_of k.shape) k.store (front s); product = word_at (fields_of k.shape) k.product (front s) }

-- each message is read as with a store of 16,384 entries
unfoldable pub skim : Shape → List ℕ → Run
skim t s = fit most_entries (read t (front s))

pub record Message : Type 0 where
  pub key : Key
  pub bytes : List ℕ

-- the message that bytes begin with, and the bytes behind it; or the reader's own refusal
pub data Cut : Type 0 where
  next : Message → List ℕ → Cut
  stops : Refusal → ℕ → Cut

unfoldable pub next_by : Keyed → List ℕ → Outcome → Cut
next_by k s (reached x) = next (record { key = key_of k s; bytes = take x.place s }) (drop x.place s)
next_by k s (refused why p) = stops why p

unfoldable pub next_of : Keyed → List ℕ → Cut
next_of k s = next_by k s (skim k.shape s).ends

-- ---- messages end to end

-- all of them to the end, or the first refusal, at its place in all the bytes
pub data Split : Type 0 where
  whole : List Message → Split
  broken : Refusal → ℕ → Split

unfoldable pub onto : Message → Split → Split
onto m (whole ms) = whole (m ∷ ms)
onto m (broken why p) = broken why (length m.bytes + p)

unfoldable pub split_on : Cut → (List ℕ → Split) → Split
split_on (next m rest) f = onto m (f rest)
split_on (stops why p) f = broken why p

-- no message is left, or there is one more to read
unfoldable pub unless_ended : List ℕ → (Unit {0} → Split) → Split
unless_ended [] f = whole []
unless_ended (b ∷ s) f = f tt

-- at most so many messages; one with the two key fields has two bytes at least, so as many as there are bytes will do
unfoldable pub split_f : ℕ → Keyed → List ℕ → Split
split_f zero k s = unless_ended s (λ _. broken End 0)
split_f (suc n) k s = unless_ended s (λ _. split_on (next_of k s) (λ rest. split_f n k rest))

unfoldable pub split : Keyed → List ℕ → Split
split k s = split_f (length s) k s

unfoldable pub joined : List Message → List ℕ
joined [] = []
joined (m ∷ ms) = m.bytes ++ joined ms

-- one row for each message, the first of which begins at an offset
unfoldable pub rows_of : ℕ → List Message → List Row
rows_of at [] = []
rows_of at (m ∷ ms) = record { key = m.key; offset = at } ∷ rows_of (at + length m.bytes) ms

-- ---- the last message of a key, by reading every message from the front

-- a part of a batch
pub record Part : Type 0 where
  pub from : ℕ
  pub len : ℕ

unfoldable pub last_from : Key → ℕ → List Message → Option Part
last_from k at [] = none
last_from k at (m ∷ ms) =
    or_else (last_from k (at + length m.bytes) ms) (some_if (same_key k m.key) (record { from = at; len = length m.bytes }))
