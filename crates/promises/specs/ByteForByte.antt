-- T-09: which messages come back byte for byte when what was read of them is written again.
-- Assumes nothing.
use Rattle.std.specs.Prelude.{◌↔◌, ◌≡◌, true, List, ℕ, ◌*◌, ◌≤◌, length, take}
use Rattle.wire.specs.declared.Layout.{Layout}
use Rattle.wire.specs.Checked.{Good}
use Rattle.wire.specs.ReadAnswer.{Done as Read}
use Rattle.wire.specs.WriteAnswer.{WriteAnswer}
use Rattle.wire.specs.WriteAnswer.{Done as Written}
use Rattle.wire.specs.Table.{check, shape_of}
use Rattle.wire.specs.Values.{SameValues}
use Rattle.wire.specs.Answers.{words_per, entries_of, reads, reads_strict, writes}
use Rattle.laws.specs.Range.{AreBytes, AreWords}
use Rattle.laws.specs.Answered.{Reads, Writes}
use Rattle.promises.specs.Strict.{items, all_shortest}

-- The words of so many entries, in front of a store.
abbrev pub words_in : (store : List ℕ) (count : ℕ) → List ℕ
words_in store count = take (words_per * count) store

-- Words are written with the message as pool, to at most n bytes, whatever the output held before.
abbrev pub IsWritten : (table message ws before : List ℕ) (n : ℕ) → Type 0
IsWritten table message ws before n = (a : WriteAnswer) (out : List ℕ) → Writes (writes table ws message (length before)) before a out
    → (m : ℕ) × (a ≡ Written m) × (m ≤ n)

-- They are written to the n bytes in front of the message.
abbrev pub ComesBack : (table message ws before : List ℕ) (n : ℕ) → Type 0
ComesBack table message ws before n = (a : WriteAnswer) (out : List ℕ) → Writes (writes table ws message (length before)) before a out
    → (a ≡ Written n) × (take n out ≡ take n message)

-- A message that is read fully, and written again with the message as pool and room enough, is always written, to no more bytes; and these
-- equal those read exactly if every varint was the shortest and every char's length was its own.
abbrev pub ByteForByte : Type 0
ByteForByte = (table message store left before : List ℕ) (n count : ℕ) → AreBytes message → Reads (reads table message store) store (Read n count) left
    → n ≤ length before
    → IsWritten table message (words_in left count) before n
    × (ComesBack table message (words_in left count) before n ↔ (all_shortest message (items table (entries_of (words_in left count))) ≡ true))

-- The strict read accepts exactly the messages that the plain read accepts and that come back so; it then leaves the same store, whose entries are those written.
abbrev pub StrictComesBack : Type 0
StrictComesBack = (table message store left before : List ℕ) (n count : ℕ) → AreBytes message → n ≤ length before
    → Reads (reads_strict table message store) store (Read n count) left
    ↔ (Reads (reads table message store) store (Read n count) left × ComesBack table message (words_in left count) before n)

-- Of two messages with the same table that are strictly read, the bytes read are equal exactly if the values are the same.
abbrev pub Duplicates : Type 0
Duplicates = (table message message' store store' left left' : List ℕ) (n n' count count' : ℕ) (l : Layout) → AreBytes message → AreBytes message'
    → AreWords left → AreWords left' → check table ≡ Good l
    → Reads (reads_strict table message store) store (Read n count) left → Reads (reads_strict table message' store') store' (Read n' count') left'
    → (take n message ≡ take n' message')
    ↔ SameValues (shape_of table l) message (entries_of (words_in left count)) message' (entries_of (words_in left' count'))
