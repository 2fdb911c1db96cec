-- Demand 2: what the writer's call wrote, the reader's call reads back; and one value list has one wire form.
-- Assumes nothing.
use Rattle.std.specs.Prelude.{◌↔◌, ◌≡◌, List, [], ◌++◌, ℕ, ◌*◌, ◌≤◌, length, take}
use Rattle.wire.specs.declared.Layout.{Layout}
use Rattle.wire.specs.Checked.{Good}
use Rattle.wire.specs.declared.Own.{Own}
use Rattle.wire.specs.Item.{Took}
use Rattle.wire.specs.ReadAnswer.{ReadAnswer}
use Rattle.wire.specs.ReadAnswer.{Done as Read}
use Rattle.wire.specs.WriteAnswer.{Done as Written}
use Rattle.wire.specs.Shape.{Width}
use Rattle.wire.specs.Table.{check, shape_of}
use Rattle.wire.specs.Values.{Tag, kept, tell, SameValues}
use Rattle.wire.specs.Numbers.{varint, shortest}
use Rattle.wire.specs.Answers.{words_per, entries_of, reads, rest_of, form, writes}
use Rattle.laws.specs.Range.{AreBytes, AreWords}
use Rattle.laws.specs.Answered.{Reads, Writes}
use Rattle.promises.specs.Places.{places, Stand}

-- The answer of a reading that ended behind the first n bytes, and the store that it left: as many entries, the same values, and the rest.
-- The third words are the items' places in the bytes written.
pub record ReadBack (table ws pool message rest : List ℕ) (n : ℕ) (a : ReadAnswer) (left : List ℕ) : Type 0 where
  pub layout : Layout
  pub is-good : check table ≡ Good layout
  pub count : ℕ
  pub answered : a ≡ Read n count
  pub many : words_per * count ≡ length ws
  pub unread : rest_of message a ≡ rest
  pub same : SameValues (shape_of table layout) pool (entries_of ws) message (entries_of (take (length ws) left))
  pub tags : List Tag
  pub items : tell (shape_of table layout) (entries_of ws) ≡ kept tags []
  pub stand : Stand pool 0 tags (places (entries_of (take (length ws) left))) (take n message)

-- What was written is read back to the same values, whatever follows it: `write` answered n and left `out`;
-- `read` is given these n bytes with any rest behind them, and a store with room.
abbrev pub RoundTrip : Type 0
RoundTrip = (table ws pool before out : List ℕ) (n : ℕ) → AreWords ws → Writes (writes table ws pool (length before)) before (Written n) out
    → (rest store : List ℕ) → length ws ≤ length store → (a : ReadAnswer) (left : List ℕ)
    → Reads (reads table (take n out ++ rest) store) store a left
    → ReadBack table ws pool (take n out ++ rest) rest n a left

-- Of two messages that were written neither begins the other, unless they are one; and then their values are the same.
abbrev pub Injective : Type 0
Injective = (table ws ws' pool pool' : List ℕ) (room room' : ℕ) (s s' rest rest' : List ℕ) → AreWords ws → AreWords ws'
    → writes table ws pool room ≡ form s → writes table ws' pool' room' ≡ form s' → s ++ rest ≡ s' ++ rest'
    → (s ≡ s') × ((l : Layout) → check table ≡ Good l → SameValues (shape_of table l) pool (entries_of ws) pool' (entries_of ws'))

-- The same values are written to the same bytes.
abbrev pub SameBytes : Type 0
SameBytes = (table ws ws' pool pool' : List ℕ) (room room' : ℕ) (s s' : List ℕ) (l : Layout) → check table ≡ Good l
    → writes table ws pool room ≡ form s → writes table ws' pool' room' ≡ form s'
    → SameValues (shape_of table l) pool (entries_of ws) pool' (entries_of ws') → s ≡ s'

-- Whatever varint is read as a number, the one that is written is no longer, and no other is as short.
abbrev pub Shortest : Type 0
Shortest = (w : Width) (s : List ℕ) (own : Own) → AreBytes s → varint w s ≡ Took own
    → (length (shortest own.first) ≤ own.used) × ((own.used ≡ length (shortest own.first)) ↔ (take own.used s ≡ shortest own.first))
