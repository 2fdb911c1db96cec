-- Document 01's cases, and some of our own, as data: a call, and what it must answer and leave in lent memory.
-- Assumes nothing.
use Rattle.std.specs.Prelude.{◌≡◌, Bool, true, false, List, [], ◌∷◌, ◌++◌, ℕ, ◌+◌, ◌-◌, ◌*◌, length, take, drop, replicate, Err, Ok}
use mathlib.Core.List as lists
use Rattle.std.proofs.Math.Option.{some}
use Rattle.wire.specs.declared.Ending.{Ending}
use Rattle.wire.specs.Checked.{Checked}
use Rattle.wire.specs.Checked.{Good, Bad}
use Rattle.wire.specs.ReadAnswer.{ReadAnswer}
use Rattle.wire.specs.TakeAnswer.{TakeAnswer}
use Rattle.wire.specs.TakeAnswer.{Done as Taken, Refused as NotTaken}
use Rattle.wire.specs.AskAnswer.{AskAnswer}
use Rattle.wire.specs.AskAnswer.{Says, Refused as NotAsked, ShortArea}
use Rattle.wire.specs.Table.{first, second, good_trailer, short_chain, check, shape_of}
use Rattle.wire.specs.Values.{number, content, Valued, whole, too_short, unknown, values}
use Rattle.wire.specs.Reading.{Run}
use Rattle.wire.specs.Frames.{Fed, Marked, rule, old_rule, decode_by, feed_by, feed_bridge, feed}
use Rattle.wire.specs.Answers.{refusal_number, feed_number, read_says, write_says, ask_says, entries_of, store_with, reads, reads_strict, read_answer, rest_of, takes, place_after, Form, writes, write_answer, out_with, asks_with, area_after, zeroed}

-- ---- calls and answers

pub data Call : Type 0 where
  reading reading_strictly : (table message store : List ℕ) → Call
  taking : (kind : ℕ) (message : List ℕ) (place : ℕ) → Call
  writing : (table ws pool out : List ℕ) → Call
  valuing : (table ws pool : List ℕ) → Call
  asking : (old new : List ℕ) (bytes : ℕ) → Call
  feeding feeding_before : (array : List ℕ) (idx : ℕ) (chunk : List ℕ) → Call
  feeding_marked bridging : (array : List ℕ) (idx : ℕ) (waiting : Bool) (chunk : List ℕ) → Call

pub data Said : Type 0 where
  read : (number place count : ℕ) (store rest : List ℕ) → Said
  took : (number place first second at after : ℕ) → Said
  wrote : (number place : ℕ) (out : List ℕ) → Said
  are : Valued → Said
  bad_table : Said
  asked : (number place : ℕ) (yes : Bool) → Said
  fed : (number : ℕ) (message rest array : List ℕ) (idx : ℕ) → Said
  fed_marked : (number : ℕ) (message rest array : List ℕ) (idx : ℕ) (waiting : Bool) → Said

unfoldable pub read_said : Run → ReadAnswer → List ℕ → List ℕ → Said
read_said r answered message store = read (read_says answered).number (read_says answered).place (length r.made) (store_with r.made store) (rest_of message answered)

unfoldable pub read_run : Run → List ℕ → List ℕ → Said
read_run r message store = read_said r (read_answer r.ends (length r.made)) message store

-- the answer, the entry's words, and the record's place behind it
unfoldable pub took_said : ℕ → TakeAnswer → Said
took_said p (Ok r) = took 0 r.place r.first r.second r.at (place_after p (Taken r.first r.second r.at r.place))
took_said p (Err r) = took (refusal_number r.why) r.place 0 0 0 (place_after p (NotTaken r.why r.place))

unfoldable pub wrote_form : Form → List ℕ → Said
wrote_form made out = wrote (write_says (write_answer made)).number (write_says (write_answer made)).place (out_with made out)

unfoldable pub values_by : Checked → List ℕ → List ℕ → List ℕ → Said
values_by (Good l) table ws pool = are (values (shape_of table l) pool (entries_of ws))
values_by (Err r) table ws pool = bad_table

unfoldable pub is_yes : AskAnswer → Bool
is_yes (Says y) = y
is_yes (NotAsked side why i) = false
is_yes ShortArea = false

unfoldable pub asked_said : AskAnswer → Said
asked_said answered = asked (ask_says answered).number (ask_says answered).place (is_yes answered)

unfoldable pub fed_said : Fed → Said
fed_said got = fed (feed_number got.answer) got.message got.rest got.array got.idx

unfoldable pub marked_said : Marked → Said
marked_said got = fed_marked (feed_number got.fed.answer) got.fed.message got.fed.rest got.fed.array got.fed.idx got.waiting

unfoldable pub answer : Call → Said
answer (reading table message store) = read_run (reads table message store) message store
answer (reading_strictly table message store) = read_run (reads_strict table message store) message store
answer (taking kind message place) = took_said place (takes kind message place)
answer (writing table ws pool out) = wrote_form (writes table ws pool (length out)) out
answer (valuing table ws pool) = values_by (check table) table ws pool
answer (asking old new bytes) = asked_said (asks_with bytes old new)
answer (feeding array idx chunk) = fed_said (feed_by rule array idx chunk)
answer (feeding_before array idx chunk) = fed_said (feed_by old_rule array idx chunk)
answer (feeding_marked array idx waiting chunk) = marked_said (feed array idx waiting chunk)
answer (bridging array idx waiting chunk) = marked_said (feed_bridge array idx waiting chunk)

pub record Case : Type 0 where
  pub call : Call
  pub said : Said

unfoldable pub case : Call → Said → Case
case call said = record { call = call; said = said }

-- each call of a list answers what the list says
abbrev pub Hold : List Case → Type 0
Hold cs = lists.map (λ (c : Case). answer c.call) cs ≡ lists.map (λ (c : Case). c.said) cs

-- ---- tables

-- T: a struct of a store (u32), a product (u64) and a count (i32)
unfoldable pub table_t : List ℕ
table_t =
    0x07 ∷ 0x00 ∷ 0x00 ∷ 0x00 ∷ 0x00 ∷ 0x00
    ∷ 0x08 ∷ 0x00 ∷ 0x00 ∷ 0x00 ∷ 0x00 ∷ 0x00
    ∷ 0x03 ∷ 0x00 ∷ 0x00 ∷ 0x00 ∷ 0x00 ∷ 0x00
    ∷ 0x12 ∷ 0x00 ∷ 0x00 ∷ 0x00 ∷ 0x03 ∷ 0x00
    ∷ 0x00 ∷ 0x00 ∷ 0x01 ∷ 0x00 ∷ 0x02 ∷ 0x00
    ∷ 0x06 ∷ 0x00 ∷ 0x1e ∷ 0x00 ∷ 0x04 ∷ 0x00 ∷ 0x03 ∷ 0x00 ∷ 0x53 ∷ 0x50 ∷ []

-- records, a child list, how many nodes there are, and the root
unfoldable pub tabled : (records children : List ℕ) (n root : ℕ) → List ℕ
tabled records children n root =
    records ++ (children ++ (length children ∷ 0 ∷ (length records + length children) ∷ 0 ∷ n ∷ 0 ∷ root ∷ 0 ∷ 0x53 ∷ 0x50 ∷ []))

-- the same table in the second form: C and D get two bytes more, and the mark is another
unfoldable pub in_second : List ℕ → List ℕ
in_second s = take (length s - 8) s ++ (0 ∷ 0 ∷ (take 2 (drop (length s - 8) s) ++ (0 ∷ 0 ∷ (take 4 (drop (length s - 6) s) ++ (0x57 ∷ 0x50 ∷ [])))))

-- the same bytes under another mark
unfoldable pub marked : (low high : ℕ) → List ℕ → List ℕ
marked low high s = take (length s - 2) s ++ (low ∷ high ∷ [])

-- one node, of a kind without children
unfoldable pub leaf_table : ℕ → List ℕ
leaf_table k = tabled (k ∷ 0 ∷ 0 ∷ 0 ∷ 0 ∷ 0 ∷ []) [] 1 0

-- the nodes of T, with a root of four fields
unfoldable pub four_fields : (children : List ℕ) → List ℕ
four_fields children = tabled (0x07 ∷ 0x00 ∷ 0x00 ∷ 0x00 ∷ 0x00 ∷ 0x00 ∷ 0x08 ∷ 0x00 ∷ 0x00 ∷ 0x00 ∷ 0x00 ∷ 0x00 ∷ 0x03 ∷ 0x00 ∷ 0x00 ∷ 0x00 ∷ 0x00 ∷ 0x00 ∷ 0x12 ∷ 0x00 ∷ 0x00 ∷ 0x00 ∷ 0x04 ∷ 0x00 ∷ []) children 4 3

-- T with a u32 in front, and at the end
unfoldable pub in_front : List ℕ
in_front = four_fields (0x00 ∷ 0x00 ∷ 0x00 ∷ 0x00 ∷ 0x01 ∷ 0x00 ∷ 0x02 ∷ 0x00 ∷ [])

unfoldable pub at_end : List ℕ
at_end = four_fields (0x00 ∷ 0x00 ∷ 0x01 ∷ 0x00 ∷ 0x02 ∷ 0x00 ∷ 0x00 ∷ 0x00 ∷ [])

-- a sequence of enums with one variant (u8), and with a second (u16) behind it or in front of it
unfoldable pub one_variant : List ℕ
one_variant = tabled (0x05 ∷ 0x00 ∷ 0x00 ∷ 0x00 ∷ 0x00 ∷ 0x00 ∷ 0x13 ∷ 0x00 ∷ 0x00 ∷ 0x00 ∷ 0x01 ∷ 0x00 ∷ 0x10 ∷ 0x00 ∷ 0x01 ∷ 0x00 ∷ 0x00 ∷ 0x00 ∷ []) (0x00 ∷ 0x00 ∷ []) 3 2

unfoldable pub two_variants : (children : List ℕ) → List ℕ
two_variants children = tabled (0x05 ∷ 0x00 ∷ 0x00 ∷ 0x00 ∷ 0x00 ∷ 0x00 ∷ 0x06 ∷ 0x00 ∷ 0x00 ∷ 0x00 ∷ 0x00 ∷ 0x00 ∷ 0x13 ∷ 0x00 ∷ 0x00 ∷ 0x00 ∷ 0x02 ∷ 0x00 ∷ 0x10 ∷ 0x00 ∷ 0x02 ∷ 0x00 ∷ 0x00 ∷ 0x00 ∷ []) children 4 3

-- a struct that holds a struct of so many u8
unfoldable pub nested : (fields : ℕ) → List ℕ
nested fields = tabled (0x05 ∷ 0 ∷ 0 ∷ 0 ∷ 0 ∷ 0 ∷ 0x12 ∷ 0 ∷ 0 ∷ 0 ∷ fields ∷ 0 ∷ 0x12 ∷ 0 ∷ 2 ∷ 0 ∷ 1 ∷ 0 ∷ []) (0 ∷ 0 ∷ 0 ∷ 0 ∷ 1 ∷ 0 ∷ []) 3 2

-- ---- the cases

-- words of a store as they were before a call
unfoldable pub untouched : ℕ → List ℕ
untouched n = replicate n 7

-- a store of fourteen words, and an output of four bytes
unfoldable pub store : List ℕ
store = untouched 14

unfoldable pub out : List ℕ
out = replicate 4 7

-- a work area's bytes
unfoldable pub enough : ℕ
enough = 2097152

-- a state's array, and one of document 01's room
unfoldable pub array : List ℕ
array = replicate 2048 9

unfoldable pub old_array : List ℕ
old_array = replicate 256 9

-- document 01's thirteen; the twelfth is of its room, and `long` has it of the new one
unfoldable pub cases : List Case
cases =
    case (reading table_t (0xac ∷ 0x02 ∷ 0x05 ∷ 0x03 ∷ []) store) (read 0 4 4 (0 ∷ 0 ∷ 0 ∷ 300 ∷ 0 ∷ 0 ∷ 5 ∷ 0 ∷ 2 ∷ 18446744073709551614 ∷ 0 ∷ 3 ∷ untouched 2) [])
    ∷ case (reading table_t (0xac ∷ 0x02 ∷ 0x05 ∷ 0x03 ∷ 0x07 ∷ []) store) (read 0 4 4 (0 ∷ 0 ∷ 0 ∷ 300 ∷ 0 ∷ 0 ∷ 5 ∷ 0 ∷ 2 ∷ 18446744073709551614 ∷ 0 ∷ 3 ∷ untouched 2) (0x07 ∷ []))
    ∷ case (reading table_t (0xac ∷ 0x02 ∷ 0x05 ∷ []) store) (read 3 3 3 (0 ∷ 0 ∷ 0 ∷ 300 ∷ 0 ∷ 0 ∷ 5 ∷ 0 ∷ 2 ∷ untouched 5) [])
    ∷ case (reading (leaf_table 6) (0xff ∷ 0xff ∷ 0x03 ∷ []) store) (read 0 3 1 (65535 ∷ 0 ∷ 0 ∷ untouched 11) [])
    ∷ case (reading (leaf_table 6) (0x80 ∷ 0x80 ∷ 0x04 ∷ []) store) (read 4 0 0 store [])
    ∷ case (reading (leaf_table 6) (0x80 ∷ 0x00 ∷ []) store) (read 0 2 1 (0 ∷ 0 ∷ 0 ∷ untouched 11) [])
    ∷ case (reading (leaf_table 6) (0x80 ∷ 0x80 ∷ []) store) (read 3 0 0 store [])
    ∷ case (writing (leaf_table 2) (18446744073709518848 ∷ 0 ∷ 0 ∷ []) [] out) (wrote 0 3 (255 ∷ 255 ∷ 3 ∷ 7 ∷ []))
    ∷ case (reading (leaf_table 11) (0x02 ∷ 0x61 ∷ 0x62 ∷ []) store) (read 0 3 1 (97 ∷ 0 ∷ 0 ∷ untouched 11) [])
    ∷ case (reading (leaf_table 11) (0x05 ∷ []) store) (read 6 0 0 store [])
    ∷ case (reading (leaf_table 11) (0x00 ∷ []) store) (read 6 0 0 store [])
    ∷ case (feeding_before old_array 250 (1 ∷ 2 ∷ 3 ∷ 4 ∷ 5 ∷ 6 ∷ 7 ∷ 8 ∷ 9 ∷ 10 ∷ [])) (fed 21 [] (7 ∷ 8 ∷ 9 ∷ 10 ∷ []) old_array 0)
    ∷ case (feeding array 0 (0x03 ∷ 0x11 ∷ 0x22 ∷ 0x02 ∷ 0x33 ∷ 0x00 ∷ [])) (fed 23 (0x11 ∷ 0x22 ∷ 0x00 ∷ 0x33 ∷ []) [] array 0)
    ∷ []

-- our own: mistakes to keep out, lent memory, the accident of a field in front, and what appends
unfoldable pub ours : List Case
ours =
    case (reading (leaf_table 11) (0x03 ∷ 0x61 ∷ 0x62 ∷ 0xff ∷ []) store) (read 6 0 0 store [])
    ∷ case (reading (leaf_table 11) (0x03 ∷ 0xed ∷ 0xa0 ∷ 0x80 ∷ []) store) (read 6 0 0 store [])
    ∷ case (reading (leaf_table 12) (0x02 ∷ 0xc3 ∷ 0xa9 ∷ 0x41 ∷ []) store) (read 0 3 1 (1 ∷ 2 ∷ 0 ∷ untouched 11) (0x41 ∷ []))
    ∷ case (reading (leaf_table 12) (0x01 ∷ 0xc3 ∷ []) store) (read 7 0 0 store [])
    ∷ case (reading (leaf_table 13) (0xff ∷ 0xff ∷ 0xff ∷ 0xff ∷ 0xff ∷ 0xff ∷ 0xff ∷ 0xff ∷ 0xff ∷ 0x01 ∷ []) store) (read 3 0 0 store [])
    ∷ case (reading (tabled (0x0e ∷ 0x00 ∷ 0x00 ∷ 0x00 ∷ 0x00 ∷ 0x00 ∷ 0x10 ∷ 0x00 ∷ 0x00 ∷ 0x00 ∷ 0x00 ∷ 0x00 ∷ []) [] 2 1) (0xff ∷ 0xff ∷ 0xff ∷ 0xff ∷ 0xff ∷ 0xff ∷ 0xff ∷ 0xff ∷ 0xff ∷ 0x01 ∷ []) store) (read 10 10 4 (18446744073709551615 ∷ 0 ∷ 0 ∷ 0 ∷ 0 ∷ 10 ∷ 0 ∷ 0 ∷ 10 ∷ 0 ∷ 0 ∷ 10 ∷ untouched 2) [])
    ∷ case (reading (leaf_table 0) (0x07 ∷ []) (untouched 2)) (read 10 0 0 (untouched 2) [])
    ∷ case (reading (leaf_table 0) (0x07 ∷ []) store) (read 5 0 0 store [])
    ∷ case (reading (leaf_table 26) (0xff ∷ 0xfe ∷ 0x01 ∷ []) store) (read 0 2 1 (18446744073709551614 ∷ 0 ∷ 0 ∷ untouched 11) (0x01 ∷ []))
    ∷ case (reading (0x01 ∷ 0x02 ∷ []) (0x07 ∷ []) store) (read 1 0 0 store [])
    ∷ case (reading (leaf_table 32) (0x07 ∷ []) store) (read 2 0 0 store [])
    ∷ case (reading table_t (0x07 ∷ 0xac ∷ 0x02 ∷ 0x05 ∷ 0x03 ∷ []) store) (read 0 4 4 (0 ∷ 0 ∷ 0 ∷ 7 ∷ 0 ∷ 0 ∷ 300 ∷ 0 ∷ 1 ∷ 18446744073709551613 ∷ 0 ∷ 3 ∷ untouched 2) (0x03 ∷ []))
    ∷ case (asking table_t in_front enough) (asked 0 0 false)
    ∷ case (asking table_t at_end enough) (asked 0 0 true)
    ∷ case (asking (nested 1) (nested 1) enough) (asked 0 0 true)
    ∷ case (asking (nested 1) (nested 2) enough) (asked 0 0 false)
    ∷ case (asking one_variant (two_variants (0 ∷ 0 ∷ 1 ∷ 0 ∷ [])) enough) (asked 0 0 true)
    ∷ case (asking one_variant (two_variants (1 ∷ 0 ∷ 0 ∷ 0 ∷ [])) enough) (asked 0 0 false)
    ∷ case (asking table_t (leaf_table 32) enough) (asked 2 0 false)
    ∷ case (valuing (leaf_table 12) (1 ∷ 2 ∷ 0 ∷ []) (0x61 ∷ 0x62 ∷ 0x63 ∷ [])) (are (whole (content (0x62 ∷ 0x63 ∷ []) ∷ [])))
    ∷ case (valuing one_variant (2 ∷ 0 ∷ 0 ∷ 0 ∷ 0 ∷ 1 ∷ 5 ∷ 0 ∷ 2 ∷ []) []) (are (too_short (number 2 0 ∷ number 0 0 ∷ number 5 0 ∷ [])))
    ∷ case (valuing one_variant (1 ∷ 0 ∷ 0 ∷ 1 ∷ 0 ∷ 1 ∷ 5 ∷ 0 ∷ 2 ∷ []) []) (are (unknown (number 1 0 ∷ [])))
    ∷ case (writing (leaf_table 2) (1 ∷ 1 ∷ 0 ∷ []) [] out) (wrote 11 0 out)
    ∷ case (writing (leaf_table 2) (1 ∷ 0 ∷ 9 ∷ []) [] out) (wrote 0 1 (2 ∷ 7 ∷ 7 ∷ 7 ∷ []))
    ∷ case (writing (leaf_table 2) (1 ∷ 0 ∷ []) [] out) (wrote 11 0 out)
    ∷ case (writing (leaf_table 2) (1 ∷ 0 ∷ 0 ∷ 0 ∷ []) [] out) (wrote 11 1 out)
    ∷ case (writing (leaf_table 2) (1 ∷ 1 ∷ 0 ∷ 0 ∷ 0 ∷ []) [] out) (wrote 11 1 out)
    ∷ case (writing (leaf_table 2) (1 ∷ 0 ∷ 0 ∷ 0 ∷ 0 ∷ 0 ∷ []) [] out) (wrote 11 1 out)
    ∷ case (writing table_t (0 ∷ 0 ∷ 0 ∷ 1 ∷ 0 ∷ 0 ∷ []) [] out) (wrote 11 2 out)
    ∷ case (writing (leaf_table 8) (34359738368 ∷ 0 ∷ 0 ∷ []) [] out) (wrote 12 0 out)
    ∷ case (writing (leaf_table 12) (3 ∷ 0 ∷ 0 ∷ []) (0x61 ∷ 0x62 ∷ []) out) (wrote 11 0 out)
    ∷ case (feeding array 2049 (0 ∷ [])) (fed 24 [] (0 ∷ []) array 2049)
    ∷ case (feeding array 0 (0 ∷ [])) (fed 23 [] [] array 0)
    ∷ case (feeding array 0 (3 ∷ 1 ∷ 0 ∷ 5 ∷ [])) (fed 22 [] (5 ∷ []) array 0)
    ∷ case (feeding array 2046 (1 ∷ 1 ∷ [])) (fed 20 [] [] (replicate 2046 9 ++ (1 ∷ 1 ∷ [])) 2048)
    ∷ case (feeding array 2047 (1 ∷ 0 ∷ 5 ∷ [])) (fed 21 [] (5 ∷ []) array 0)
    ∷ case (taking 14 [] 5) (took 2 0 0 0 0 5)
    ∷ case (taking 6 (0x05 ∷ 0x80 ∷ []) 1) (took 3 1 0 0 0 1)
    ∷ case (taking 6 (0x05 ∷ 0x81 ∷ 0x01 ∷ []) 1) (took 0 3 129 0 1 3)
    ∷ case (taking 5 (0x05 ∷ []) 2) (took 3 2 0 0 0 2)
    ∷ []

-- the strict reading: a form that isn't the shortest is 16 at its item, after 10, 3, 6, 7 and 9, and before its elements are looked at
unfoldable pub strict : List Case
strict =
    case (reading_strictly table_t (0xac ∷ 0x02 ∷ 0x05 ∷ 0x03 ∷ []) store) (read 0 4 4 (0 ∷ 0 ∷ 0 ∷ 300 ∷ 0 ∷ 0 ∷ 5 ∷ 0 ∷ 2 ∷ 18446744073709551614 ∷ 0 ∷ 3 ∷ untouched 2) [])
    ∷ case (reading_strictly table_t (0xac ∷ 0x82 ∷ 0x00 ∷ 0x05 ∷ 0x03 ∷ []) store) (read 16 0 1 (0 ∷ 0 ∷ 0 ∷ untouched 11) [])
    ∷ case (reading_strictly table_t (0xac ∷ 0x02 ∷ 0x05 ∷ 0x83 ∷ 0x00 ∷ []) store) (read 16 3 3 (0 ∷ 0 ∷ 0 ∷ 300 ∷ 0 ∷ 0 ∷ 5 ∷ 0 ∷ 2 ∷ untouched 5) [])
    ∷ case (reading_strictly table_t (0xac ∷ 0x02 ∷ 0x05 ∷ 0x83 ∷ 0x00 ∷ []) (untouched 9)) (read 10 3 3 (0 ∷ 0 ∷ 0 ∷ 300 ∷ 0 ∷ 0 ∷ 5 ∷ 0 ∷ 2 ∷ []) [])
    ∷ case (reading_strictly (leaf_table 6) (0x80 ∷ 0x00 ∷ []) store) (read 16 0 0 store [])
    ∷ case (reading_strictly (leaf_table 6) (0x00 ∷ []) store) (read 0 1 1 (0 ∷ 0 ∷ 0 ∷ untouched 11) [])
    ∷ case (reading_strictly (leaf_table 2) (0x81 ∷ 0x00 ∷ []) store) (read 16 0 0 store [])
    ∷ case (reading_strictly (leaf_table 11) (0x01 ∷ 0x61 ∷ []) store) (read 0 2 1 (97 ∷ 0 ∷ 0 ∷ untouched 11) [])
    ∷ case (reading_strictly (leaf_table 11) (0x02 ∷ 0x61 ∷ 0x62 ∷ []) store) (read 16 0 0 store [])
    ∷ case (reading_strictly (leaf_table 11) (0x81 ∷ 0x00 ∷ 0x61 ∷ []) store) (read 16 0 0 store [])
    ∷ case (reading_strictly (leaf_table 11) (0x81 ∷ 0x00 ∷ 0xc3 ∷ []) store) (read 6 0 0 store [])
    ∷ case (reading_strictly (leaf_table 12) (0x82 ∷ 0x00 ∷ 0x61 ∷ []) store) (read 3 0 0 store [])
    ∷ case (reading_strictly (leaf_table 12) (0x81 ∷ 0x00 ∷ 0xc3 ∷ []) store) (read 7 0 0 store [])
    ∷ case (reading_strictly (leaf_table 12) (0x81 ∷ 0x00 ∷ 0x61 ∷ []) store) (read 16 0 0 store [])
    ∷ case (reading_strictly (leaf_table 13) (0x81 ∷ 0x00 ∷ 0x07 ∷ []) store) (read 16 0 0 store [])
    ∷ case (reading_strictly one_variant (0x81 ∷ 0x00 ∷ []) store) (read 16 0 0 store [])
    ∷ case (reading_strictly one_variant (0x01 ∷ 0x81 ∷ 0x00 ∷ []) store) (read 9 1 1 (1 ∷ 0 ∷ 0 ∷ untouched 11) [])
    ∷ case (reading_strictly one_variant (0x01 ∷ 0x80 ∷ 0x00 ∷ 0x05 ∷ []) store) (read 16 1 1 (1 ∷ 0 ∷ 0 ∷ untouched 11) [])
    ∷ []

-- the second form: T in it is T, forms may differ across the append question, and each form wants its own length and mark;
-- and a work area that is a byte too short
unfoldable pub forms : List Case
forms =
    case (reading (in_second table_t) (0xac ∷ 0x02 ∷ 0x05 ∷ 0x03 ∷ 0x01 ∷ []) store) (read 0 4 4 (0 ∷ 0 ∷ 0 ∷ 300 ∷ 0 ∷ 0 ∷ 5 ∷ 0 ∷ 2 ∷ 18446744073709551614 ∷ 0 ∷ 3 ∷ untouched 2) (0x01 ∷ []))
    ∷ case (reading (in_second (leaf_table 32)) (0x07 ∷ []) store) (read 2 0 0 store [])
    ∷ case (reading (marked 0x57 0x50 table_t) (0x07 ∷ []) store) (read 1 0 0 store [])
    ∷ case (reading (marked 0x53 0x50 (in_second table_t)) (0x07 ∷ []) store) (read 1 0 0 store [])
    ∷ case (reading (drop 7 (in_second (leaf_table 5))) (0x07 ∷ []) store) (read 1 0 0 store [])
    ∷ case (asking table_t (in_second at_end) enough) (asked 0 0 true)
    ∷ case (asking (in_second table_t) at_end enough) (asked 0 0 true)
    ∷ case (asking (in_second at_end) table_t enough) (asked 0 0 false)
    ∷ case (asking table_t at_end 2097151) (asked 25 0 false)
    ∷ case (asking [] [] 2097151) (asked 25 0 false)
    ∷ []

-- a full group's bytes
unfoldable pub run : List ℕ
run = replicate 254 7

-- an array of groups of no bytes
unfoldable pub ones : List ℕ
ones = replicate 2048 1

-- T-03: no zero behind a group of code FF, whether another follows or none, and one behind each other group but the last;
-- frames beyond document 01's room, the new room filled, and a byte more
unfoldable pub long : List Case
long =
    case (feeding array 0 (0xff ∷ (run ++ (0 ∷ [])))) (fed 23 run [] array 0)
    ∷ case (feeding array 0 (0xff ∷ (run ++ (1 ∷ 0 ∷ [])))) (fed 23 run [] array 0)
    ∷ case (feeding array 0 (0xff ∷ (run ++ (1 ∷ 1 ∷ 0 ∷ [])))) (fed 23 (run ++ (0 ∷ [])) [] array 0)
    ∷ case (feeding array 0 (0xff ∷ (run ++ (2 ∷ 8 ∷ 0 ∷ 5 ∷ [])))) (fed 23 (run ++ (8 ∷ [])) (5 ∷ []) array 0)
    ∷ case (feeding array 0 (0xff ∷ (run ++ (0xff ∷ (run ++ (2 ∷ 8 ∷ 1 ∷ 0 ∷ [])))))) (fed 23 (run ++ (run ++ (8 ∷ 0 ∷ []))) [] array 0)
    ∷ case (feeding array 0 (0xfe ∷ (drop 1 run ++ (2 ∷ 8 ∷ 0 ∷ [])))) (fed 23 (drop 1 run ++ (0 ∷ 8 ∷ [])) [] array 0)
    ∷ case (feeding array 0 (2 ∷ 8 ∷ 0xff ∷ (run ++ (2 ∷ 8 ∷ 0 ∷ [])))) (fed 23 (8 ∷ 0 ∷ (run ++ (8 ∷ []))) [] array 0)
    ∷ case (feeding array 0 (0xff ∷ (drop 1 run ++ (0 ∷ [])))) (fed 22 [] [] array 0)
    ∷ case (feeding array 250 (1 ∷ 2 ∷ 3 ∷ 4 ∷ 5 ∷ 6 ∷ 7 ∷ 8 ∷ 9 ∷ 10 ∷ [])) (fed 20 [] [] (replicate 250 9 ++ (1 ∷ 2 ∷ 3 ∷ 4 ∷ 5 ∷ 6 ∷ 7 ∷ 8 ∷ 9 ∷ 10 ∷ replicate 1788 9)) 260)
    ∷ case (feeding array 2042 (1 ∷ 2 ∷ 3 ∷ 4 ∷ 5 ∷ 6 ∷ 7 ∷ 8 ∷ 9 ∷ 10 ∷ [])) (fed 21 [] (7 ∷ 8 ∷ 9 ∷ 10 ∷ []) array 0)
    ∷ case (feeding ones 2047 (0 ∷ 5 ∷ [])) (fed 23 (replicate 2046 0) (5 ∷ []) ones 0)
    ∷ case (feeding ones 2048 (0 ∷ 5 ∷ [])) (fed 21 [] (5 ∷ []) ones 0)
    ∷ case (feeding array 2048 []) (fed 20 [] [] array 2048)
    ∷ case (feeding_before old_array 0 (0xff ∷ (run ++ (0 ∷ [])))) (fed 23 run [] old_array 0)
    ∷ case (feeding_before old_array 0 (0xff ∷ (run ++ (1 ∷ 0 ∷ [])))) (fed 21 [] [] old_array 0)
    ∷ case (feeding_before old_array 257 (0 ∷ [])) (fed 24 [] (0 ∷ []) old_array 257)
    ∷ case (feeding_before old_array 254 (1 ∷ 1 ∷ [])) (fed 20 [] [] (replicate 254 9 ++ (1 ∷ 1 ∷ [])) 256)
    ∷ []

unfoldable pub ten : List ℕ
ten = 1 ∷ 2 ∷ 3 ∷ 4 ∷ 5 ∷ 6 ∷ 7 ∷ 8 ∷ 9 ∷ 10 ∷ []

-- T-07: an over-full chunk without a zero and with one; what a waiting state does with each kind of chunk; a bad state first; and the bridge's way
unfoldable pub waits : List Case
waits =
    case (feeding_marked array 2042 false ten) (fed_marked 21 [] [] array 0 true)
    ∷ case (feeding_marked array 2046 false (1 ∷ 1 ∷ [])) (fed_marked 20 [] [] (replicate 2046 9 ++ (1 ∷ 1 ∷ [])) 2048 false)
    ∷ case (feeding_marked ones 2048 false (0 ∷ 5 ∷ [])) (fed_marked 21 [] (5 ∷ []) ones 0 false)
    ∷ case (feeding_marked array 0 false (0x03 ∷ 0x11 ∷ 0x22 ∷ 0x02 ∷ 0x33 ∷ 0x00 ∷ [])) (fed_marked 23 (0x11 ∷ 0x22 ∷ 0x00 ∷ 0x33 ∷ []) [] array 0 false)
    ∷ case (feeding_marked array 7 true (5 ∷ 6 ∷ [])) (fed_marked 20 [] [] array 0 true)
    ∷ case (feeding_marked array 7 true []) (fed_marked 20 [] [] array 0 true)
    ∷ case (feeding_marked array 7 true (5 ∷ 6 ∷ 0 ∷ [])) (fed_marked 20 [] [] array 0 false)
    ∷ case (feeding_marked array 7 true (5 ∷ 0 ∷ 2 ∷ 8 ∷ 0 ∷ 4 ∷ [])) (fed_marked 23 (8 ∷ []) (4 ∷ []) array 0 false)
    ∷ case (feeding_marked array 7 true (5 ∷ 0 ∷ 2 ∷ 8 ∷ [])) (fed_marked 20 [] [] (2 ∷ 8 ∷ replicate 2046 9) 2 false)
    ∷ case (feeding_marked array 7 true (0 ∷ 0 ∷ 4 ∷ [])) (fed_marked 23 [] (4 ∷ []) array 0 false)
    ∷ case (feeding_marked array 2048 true (0 ∷ 5 ∷ [])) (fed_marked 20 [] [] (5 ∷ replicate 2047 9) 1 false)
    ∷ case (feeding_marked array 7 true (0 ∷ (ones ++ (5 ∷ [])))) (fed_marked 21 [] [] array 0 true)
    ∷ case (feeding_marked array 7 true (3 ∷ 0 ∷ 3 ∷ 5 ∷ 0 ∷ [])) (fed_marked 22 [] [] array 0 false)
    ∷ case (feeding_marked array 2049 true (0 ∷ [])) (fed_marked 24 [] (0 ∷ []) array 2049 true)
    ∷ case (feeding_marked array 2049 false (0 ∷ [])) (fed_marked 24 [] (0 ∷ []) array 2049 false)
    ∷ case (bridging array 2042 false ten) (fed_marked 21 [] (7 ∷ 8 ∷ 9 ∷ 10 ∷ []) array 0 false)
    ∷ case (bridging array 2042 true ten) (fed_marked 21 [] (7 ∷ 8 ∷ 9 ∷ 10 ∷ []) array 0 true)
    ∷ case (bridging array 0 true (2 ∷ 8 ∷ 0 ∷ 4 ∷ [])) (fed_marked 23 (8 ∷ []) (4 ∷ []) array 0 true)
    ∷ []

-- what T-03 mends: document 01's rule gives a long frame's message a zero that was not in it
abbrev pub ExtraZero : Type 0
ExtraZero =
    (decode_by old_rule (0xff ∷ (run ++ (2 ∷ 8 ∷ []))) ∷ decode_by rule (0xff ∷ (run ++ (2 ∷ 8 ∷ []))) ∷ [])
    ≡ (some (run ++ (0 ∷ 8 ∷ [])) ∷ some (run ++ (8 ∷ [])) ∷ [])

-- ---- limits

-- a trailer of c bytes of child list and n nodes
unfoldable pub trailed : (mark c n : ℕ) → Ending
trailed mark c n = record { c = c; d = 6 * n + c; n = n; root = 0; mark = mark }

-- each form's limits are good, in a file of just so many bytes before the trailer
abbrev pub AtLimits : Type 0
AtLimits =
    (good_trailer first (trailed 0x5053 2048 256) 3584 ∷ good_trailer second (trailed 0x5057 65536 4096) 90112 ∷ short_chain 256 ∷ [])
    ≡ (true ∷ true ∷ true ∷ [])

-- a byte less in front of the trailer, a place or a node more, the other form's mark and a longer chain are not
abbrev pub BeyondLimits : Type 0
BeyondLimits =
    (good_trailer first (trailed 0x5053 2048 256) 3583 ∷ good_trailer second (trailed 0x5057 65536 4096) 90111
    ∷ good_trailer first (trailed 0x5053 2050 256) 90118 ∷ good_trailer second (trailed 0x5057 65538 4096) 90118
    ∷ good_trailer first (trailed 0x5053 2048 257) 90118 ∷ good_trailer second (trailed 0x5057 65536 4097) 90118
    ∷ good_trailer first (trailed 0x5057 2048 256) 90118 ∷ good_trailer second (trailed 0x5053 65536 4096) 90118 ∷ short_chain 257 ∷ [])
    ≡ replicate 9 false

-- an area that is too short is unchanged, and zeros in front leave the later bytes
abbrev pub Areas : Type 0
Areas = (area_after (untouched 3) ∷ zeroed 2 (untouched 4) ∷ []) ≡ (untouched 3 ∷ (0 ∷ 0 ∷ untouched 2) ∷ [])
