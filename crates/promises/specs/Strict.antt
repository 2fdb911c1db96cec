-- T-06: when an item is in its shortest form, what a strict reading is beside the plain one, and demand 3 for it.
-- Assumes nothing.
use Rattle.std.specs.Prelude.{◌↔◌, ◌≡◌, Bool, true, false, List, [], ◌∷◌, ℕ, eqb, length, take, drop, Err}
use Rattle.std.proofs.Math.Option.{some}
use Rattle.wire.specs.declared.Refusal.{Refusal}
use Rattle.wire.specs.declared.Refusal.TheVariants.{NotShortest}
use Rattle.wire.specs.Checked.{Checked}
use Rattle.wire.specs.Checked.{Good, Bad}
use Rattle.wire.specs.declared.Own.{Own}
use Rattle.wire.specs.Item.{Item}
use Rattle.wire.specs.Item.{Took, Refused}
use Rattle.wire.specs.Tests.{both}
use Rattle.wire.specs.Shape.{w32, w64, Plain, bool, i8, u8, f32, f64, char, unit, int, fixed, Kind, plain, pooled, option, sequence, map, struct, enum}
use Rattle.wire.specs.Values.{Entry, Tag, Told, kept, lacks, short, tell}
use Rattle.wire.specs.Numbers.{varint, shortest}
use Rattle.wire.specs.Text.{first_char, char_bytes}
use Rattle.wire.specs.Table.{check, shape_of}
use Rattle.wire.specs.Reading.{head, Spot, Outcome, reached, refused, Run, run_after}
use Rattle.wire.specs.Writing.{head_bytes}
use Rattle.wire.specs.Answers.{reads, reads_strict}
use Rattle.laws.specs.Range.{AreBytes}
use Rattle.promises.specs.OldNew.{OldReads}

-- ---- the shortest form of an item, by its kind and the bytes from its first one on

-- A varint, as it was read, has as many bytes as the shortest one of its number.
unfoldable pub is_least : Item → Bool
is_least (Took own) = eqb own.used (length (shortest own.first))
is_least (Refused why) = true

-- A char's length, as it was read at the front of s, is its first char's own.
unfoldable pub is_one_char : List ℕ → Item → Bool
is_one_char s (Took count) = eqb count.first (length (char_bytes (first_char (take count.first (drop count.used s)))))
is_one_char s (Refused why) = true

unfoldable pub is_shortest_plain : Plain → List ℕ → Bool
is_shortest_plain bool s = true
is_shortest_plain i8 s = true
is_shortest_plain u8 s = true
is_shortest_plain f32 s = true
is_shortest_plain f64 s = true
is_shortest_plain char s = both (is_least (varint w64 s)) (is_one_char s (varint w64 s))
is_shortest_plain unit s = true
is_shortest_plain (int sign width) s = is_least (varint width s)
is_shortest_plain (fixed order sign width) s = true

-- Its varint was the shortest, and a char's length its own; an item without a varint has one form only.
unfoldable pub is_shortest : Kind → List ℕ → Bool
is_shortest (plain leaf) s = is_shortest_plain leaf s
is_shortest (pooled content) s = is_least (varint w64 s)
is_shortest option s = true
is_shortest sequence s = is_least (varint w64 s)
is_shortest map s = is_least (varint w64 s)
is_shortest struct s = true
is_shortest enum s = is_least (varint w32 s)

-- The reader says the same of each item that it takes.
abbrev pub FlagSays : Type 0
FlagSays = (k : Kind) (n p : ℕ) (s : List ℕ) (own : Own) → head k n p s ≡ Took own → own.shortest ≡ is_shortest k s

-- An item that was taken is in its shortest form exactly if it is written again, with its message as pool, to the bytes that it was read of.
abbrev pub ShortestIsWritten : Type 0
ShortestIsWritten = (k : Kind) (n p : ℕ) (message : List ℕ) (own : Own) → AreBytes message → head k n p (drop p message) ≡ Took own
    → (own.shortest ≡ true) ↔ (head_bytes k n message own.first own.second ≡ some (take own.used (drop p message)))

-- ---- the items of a message

-- Entries told apart, each with its item's kind.
unfoldable pub tags_of : Told → List Tag
tags_of (kept front rest) = front
tags_of (lacks front e rest) = front
tags_of (short front) = front

unfoldable pub items_by : Checked → (table : List ℕ) → List Entry → List Tag
items_by (Good l) table es = tags_of (tell (shape_of table l) es)
items_by (Err r) table es = []

-- The items that a table's reading made entries of.
unfoldable pub items : (table : List ℕ) → List Entry → List Tag
items table es = items_by (check table) table es

-- An item of the message, which stands at its entry's place.
abbrev pub is_shortest_in : (message : List ℕ) → Tag → Bool
is_shortest_in message t = is_shortest t.kind (drop t.entry.place message)

unfoldable pub all_shortest : (message : List ℕ) → List Tag → Bool
all_shortest message [] = true
all_shortest message (t ∷ ts) = both (is_shortest_in message t) (all_shortest message ts)

-- ---- the strict reading

-- An item's entry and then a run, if the item is in its shortest form; if not, it makes no entry and is refused, with 16 at its place.
unfoldable pub unless_longer : (shortest : Bool) → Entry → Run → Run
unless_longer true e r = run_after (e ∷ []) r
unless_longer false e r = record { made = []; ends = refused NotShortest e.place }

-- A run of these items that ends so, up to the first that isn't in its shortest form.
unfoldable pub up_to_longer : (message : List ℕ) → List Tag → Outcome → Run
up_to_longer message [] end = record { made = []; ends = end }
up_to_longer message (t ∷ ts) end = unless_longer (is_shortest_in message t) t.entry (up_to_longer message ts end)

-- For every table, message and store, the strict reading is the plain one, up to the first item which that one took and which isn't in its shortest form.
abbrev pub StrictBeside : Type 0
StrictBeside = (table message store : List ℕ)
    → reads_strict table message store ≡ up_to_longer message (items table (reads table message store).made) (reads table message store).ends

-- A strict reading that is done is the plain reading.
abbrev pub StrictDone : Type 0
StrictDone = (table message store : List ℕ) (es : List Entry) (end : Spot)
    → reads_strict table message store ≡ record { made = es; ends = reached end } → reads table message store ≡ record { made = es; ends = reached end }

-- A strict refusal other than 16 is the plain one's: the same place, the same entries.
abbrev pub StrictOther : Type 0
StrictOther = (table message store : List ℕ) (es : List Entry) (why : Refusal) (p : ℕ) → (why ≡ NotShortest → ⊥)
    → reads_strict table message store ≡ record { made = es; ends = refused why p } → reads table message store ≡ record { made = es; ends = refused why p }

-- 16 is strict only: the plain reading never answers it.
abbrev pub StrictOnly : Type 0
StrictOnly = (table message store : List ℕ) (p : ℕ) → (reads table message store).ends ≡ refused NotShortest p → ⊥

-- A message is done strictly exactly if it is done plainly and every item was in its shortest form.
abbrev pub StrictExactly : Type 0
StrictExactly = (table message store : List ℕ) (es : List Entry) (end : Spot)
    → (reads_strict table message store ≡ record { made = es; ends = reached end })
    ↔ ((reads table message store ≡ record { made = es; ends = reached end }) × (all_shortest message (items table es) ≡ true))

-- Demand 3 holds for strict reading on messages that are strictly read under the new table.
abbrev pub StrictOldTableReads : Type 0
StrictOldTableReads = OldReads reads_strict
