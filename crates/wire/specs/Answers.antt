-- What the public calls answer and leave in lent memory, and document 01's numbers.
-- Letters: s bytes, p and q places, i the number of a node or an entry, n how many entries, a and b an entry's words, e an entry,
-- k a kind's number, l a layout, x a spot, r a run, y yes or no.
-- Assumes nothing.
use Rattle.std.specs.Prelude.{Bool, true, false, List, [], ◌∷◌, ◌++◌, ℕ, ◌+◌, ◌/◌, ◌%◌, length, drop, replicate, leb, ltb, eqb, Err, Ok}
use Rattle.wire.specs.declared.Refusal.{Refusal}
use Rattle.wire.specs.declared.Refusal.TheVariants.{Trailer, Record, End, BadVarint, BadBool, BadChar, BadUtf8, BadOption, Variant, Room, Values, Full, NotShortest}
use Rattle.wire.specs.Checked.{Checked}
use Rattle.wire.specs.Checked.{Good, Bad}
use Rattle.wire.specs.Item.{Item}
use Rattle.wire.specs.Item.{Took, Refused}
use Rattle.wire.specs.ReadAnswer.{ReadAnswer}
use Rattle.wire.specs.ReadAnswer.{Done as Read, Refused as NotRead}
use Rattle.wire.specs.WriteAnswer.{WriteAnswer}
use Rattle.wire.specs.WriteAnswer.{Done as Written, Refused as NotWritten}
use Rattle.wire.specs.TakeAnswer.{TakeAnswer}
use Rattle.wire.specs.TakeAnswer.{Done as Taken, Refused as NotTaken}
use Rattle.wire.specs.declared.Side.{Side}
use Rattle.wire.specs.declared.Side.TheVariants.{Old, New}
use Rattle.wire.specs.AskAnswer.{AskAnswer}
use Rattle.wire.specs.AskAnswer.{Says, Refused as NotAsked, ShortArea}
use Rattle.wire.specs.declared.FeedAnswer.{FeedAnswer}
use Rattle.wire.specs.declared.FeedAnswer.TheVariants.{Consumed, OverFull, BadFrame, Frame, BadState}
use Rattle.wire.specs.Tests.{pick, given, both}
use Rattle.wire.specs.Table.{is_kind, kind_of, check, shape_of}
use Rattle.wire.specs.Values.{Entry}
use Rattle.wire.specs.Walk.{walk}
use Rattle.wire.specs.Reading.{head, head_by, front, Outcome, reached, refused, Run, reading, fit}
use Rattle.wire.specs.Writing.{Wrote, wrote, misfit, write}
use Rattle.wire.specs.Append.{appends}

-- ---- document 01's numbers

abbrev pub refusal_number : Refusal → ℕ
refusal_number Trailer = 1
refusal_number Record = 2
refusal_number End = 3
refusal_number BadVarint = 4
refusal_number BadBool = 5
refusal_number BadChar = 6
refusal_number BadUtf8 = 7
refusal_number BadOption = 8
refusal_number Variant = 9
refusal_number Room = 10
refusal_number Values = 11
refusal_number Full = 12
refusal_number NotShortest = 16

-- which table is refused: 0 old, 1 new
abbrev pub side_number : Side → ℕ
side_number Old = 0
side_number New = 1

-- 1 for yes, 0 for no
abbrev pub yes_number : Bool → ℕ
yes_number true = 1
yes_number false = 0

abbrev pub feed_number : FeedAnswer → ℕ
feed_number Consumed = 20
feed_number OverFull = 21
feed_number BadFrame = 22
feed_number Frame = 23
feed_number BadState = 24

-- an answer's number and place; 0 is done
pub record Numbered : Type 0 where
  pub number : ℕ
  pub place : ℕ

unfoldable pub numbered : Refusal → ℕ → Numbered
numbered why p = record { number = refusal_number why; place = p }

unfoldable pub done : ℕ → Numbered
done p = record { number = 0; place = p }

unfoldable pub check_says : Checked → Numbered
check_says (Good l) = done 0
check_says (Err r) = numbered r.why r.place

unfoldable pub read_says : ReadAnswer → Numbered
read_says (Ok r) = done r.place
read_says (Err r) = numbered r.why r.place

unfoldable pub write_says : WriteAnswer → Numbered
write_says (Written p) = done p
write_says (Err r) = numbered r.why r.place

unfoldable pub take_says : TakeAnswer → Numbered
take_says (Ok r) = done r.place
take_says (Err r) = numbered r.why r.place

unfoldable pub ask_says : AskAnswer → Numbered
ask_says (Says y) = done 0
ask_says (NotAsked side why i) = numbered why i
ask_says ShortArea = record { number = 25; place = 0 }

-- ---- entries as words

abbrev pub words_per : ℕ
words_per = 3

unfoldable pub words_of : Entry → List ℕ
words_of e = e.first ∷ e.second ∷ e.place ∷ []

unfoldable pub words : List Entry → List ℕ
words [] = []
words (e ∷ es) = words_of e ++ words es

-- the entries of a value list, whose words are whole entries
unfoldable pub entries_of : List ℕ → List Entry
entries_of [] = []
entries_of (a ∷ []) = []
entries_of (a ∷ b ∷ []) = []
entries_of (a ∷ b ∷ p ∷ ws) = record { first = a; second = b; place = p } ∷ entries_of ws

-- a store's room in entries
unfoldable pub room_of : List ℕ → ℕ
room_of store = length store / words_per

-- the entries in front, and every later word as before
unfoldable pub store_with : List Entry → List ℕ → List ℕ
store_with es store = words es ++ drop (length (words es)) store

-- ---- reading

-- what a table makes of a message, with room for so many entries, strictly or not
unfoldable pub read_by : (strict : Bool) → Checked → List ℕ → ℕ → List ℕ → Run
read_by strict (Good l) table room message = fit room (walk (reading (head_by strict)) (shape_of table l) (front message))
read_by strict (Err r) table room message = record { made = []; ends = refused r.why r.place }

unfoldable pub reads : List ℕ → List ℕ → List ℕ → Run
reads table message store = read_by false (check table) table (room_of store) message

-- the strict reading
unfoldable pub reads_strict : List ℕ → List ℕ → List ℕ → Run
reads_strict table message store = read_by true (check table) table (room_of store) message

-- the answer of a run that made so many entries
unfoldable pub read_answer : Outcome → ℕ → ReadAnswer
read_answer (reached x) n = Read x.place n
read_answer (refused why p) n = NotRead why p n

-- a whole run's
abbrev pub run_answer : Run → ReadAnswer
run_answer r = read_answer r.ends (length r.made)

-- a reading that stores nothing, with room for so many entries
unfoldable pub skims : List ℕ → List ℕ → (room : ℕ) → ReadAnswer
skims table message room = run_answer (read_by false (check table) table room message)

-- the unread bytes: none on a refusal, and none where the answer points beyond the message
unfoldable pub rest_of : List ℕ → ReadAnswer → List ℕ
rest_of message (Ok r) = drop r.place message
rest_of message (Err r) = []

-- ---- one item of a kind that is 0 to 13 or 20 to 31

unfoldable pub may_take : ℕ → Bool
may_take k = pick (ltb k 14) true (both (leb 20 k) (is_kind k))

unfoldable pub taken : ℕ → Item → TakeAnswer
taken p (Took own) = Taken own.first own.second p (p + own.used)
taken p (Refused why) = NotTaken why p

unfoldable pub takes : ℕ → List ℕ → ℕ → TakeAnswer
takes k message p =
    pick (may_take k)
    (pick (leb p (length message)) (taken p (head (kind_of k) 0 p (drop p message))) (NotTaken End p))
    (NotTaken Record 0)

-- the place of the record after that: behind the item, or as it was
unfoldable pub place_after : ℕ → TakeAnswer → ℕ
place_after p (Ok r) = r.place
place_after p (Err r) = p

-- ---- writing

-- the wire form, or the refusal and its place
pub data Form : Type 0 where
  form : List ℕ → Form
  no_form : Refusal → ℕ → Form

-- entries that are left over do not fit, and neither do bytes beyond the output's length, the limit
unfoldable pub form_of : ℕ → List ℕ → (at : ℕ) → List Entry → Form
form_of limit s at [] = pick (leb (length s) limit) (form s) (no_form Full 0)
form_of limit s at (e ∷ es) = no_form Values at

unfoldable pub formed : ℕ → Wrote → Form
formed limit (wrote s left) = form_of limit s left.at left.entries
formed limit (misfit i) = no_form Values i

unfoldable pub write_by : Checked → List ℕ → List ℕ → List ℕ → ℕ → Form
write_by (Good l) table ws pool limit =
    given (eqb (length ws % words_per) 0)
    (λ _. formed limit (write (shape_of table l) pool (record { at = 0; entries = entries_of ws })))
    (no_form Values (length ws / words_per))
write_by (Err r) table ws pool limit = no_form r.why r.place

unfoldable pub writes : List ℕ → List ℕ → List ℕ → ℕ → Form
writes table ws pool limit = write_by (check table) table ws pool limit

unfoldable pub write_answer : Form → WriteAnswer
write_answer (form s) = Written (length s)
write_answer (no_form why p) = NotWritten why p

-- only the bytes written change
unfoldable pub out_with : Form → List ℕ → List ℕ
out_with (form s) out = s ++ drop (length s) out
out_with (no_form why p) out = out

-- ---- the append question

-- yes or no of two good tables; the old table is refused before the new one
unfoldable pub ask_by : Checked → Checked → List ℕ → List ℕ → AskAnswer
ask_by (Good l) (Good l') old new = Says (appends (shape_of old l) (shape_of new l'))
ask_by (Good l) (Err r) old new = NotAsked New r.why r.place
ask_by (Err r) checked old new = NotAsked Old r.why r.place

-- the work area: one bit a pair of 4,096 nodes
unfoldable pub area_bytes : ℕ
area_bytes = 2097152

-- with a work area of so many bytes; one that is too short is refused before all others
unfoldable pub asks_with : (bytes : ℕ) → List ℕ → List ℕ → AskAnswer
asks_with bytes old new = given (leb area_bytes bytes) (λ _. ask_by (check old) (check new) old new) ShortArea

-- what the area holds does not matter
unfoldable pub asks : (old new area : List ℕ) → AskAnswer
asks old new area = asks_with (length area) old new

-- so many zeros in front, and every later byte as before
unfoldable pub zeroed : ℕ → List ℕ → List ℕ
zeroed n area = replicate n 0 ++ drop n area

-- the area is handed back all zero; one that is too short is unchanged
unfoldable pub area_after : List ℕ → List ℕ
area_after area = given (leb area_bytes (length area)) (λ _. zeroed area_bytes area) area
