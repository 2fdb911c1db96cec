-- Two messages side by side (T-05): the differing items in reading order, as pairs of places.
-- Letters: t a shape, k its kind, n how many children it has, e and f entries, a and b what comes next on each side, x and y where
-- the sides stand, s a source of items or bytes, p a place or a pair, r a run, l a layout; a prime is for the other message.
-- Assumes nothing.
use Rattle.std.specs.Prelude.{Bool, true, false, List, [], ◌∷◌, ◌++◌, ℕ, ◌/◌, length, drop, eqb, leb, Err}
use Rattle.std.proofs.Math.Option.{Option, none, some}
use Rattle.wire.specs.Checked.{Checked}
use Rattle.wire.specs.Checked.{Good, Bad}
use Rattle.desk.specs.CompareAnswer.{CompareAnswer}
use Rattle.desk.specs.CompareAnswer.{Done, Short, Refused, OtherRefused}
use Rattle.wire.specs.Tests.{pick, given, both}
use Rattle.wire.specs.Shape.{Kind, Shape}
use Rattle.wire.specs.Table.{check, shape_of}
use Rattle.wire.specs.Walk.{Walk, walk}
use Rattle.wire.specs.Values.{Entry, Value, number, content, value_of}
use Rattle.wire.specs.Reading.{front, Outcome, reached, refused, Run, read, fit}
use Rattle.wire.specs.Answers.{Numbered, numbered, done}
use Rattle.desk.specs.Path.{most_entries}

-- ---- when two items differ

unfoldable pub same_bytes : List ℕ → List ℕ → Bool
same_bytes [] [] = true
same_bytes [] (b ∷ t) = false
same_bytes (a ∷ s) [] = false
same_bytes (a ∷ s) (b ∷ t) = both (eqb a b) (same_bytes s t)

-- two values: texts and bytes by content, others by their words
unfoldable pub same_value : Value → Value → Bool
same_value (number a b) (number c d) = both (eqb a c) (eqb b d)
same_value (number a b) (content t) = false
same_value (content s) (number c d) = false
same_value (content s) (content t) = same_bytes s t

-- how two entries of items of a kind compare, each with its pool
abbrev pub Test : Type 0
Test = Kind → Entry → Entry → Bool

unfoldable pub same_item : (pool pool' : List ℕ) → Test
same_item pool pool' k e f = same_value (value_of pool (record { kind = k; entry = e })) (value_of pool' (record { kind = k; entry = f }))

-- ---- the walk over both

-- the places of a differing item's first byte in both messages
pub record Pair : Type 0 where
  pub one : ℕ
  pub other : ℕ

-- where items come from: from where it stands, the entry of an item of a kind with so many children, and where it then stands
pub record Next (At : Type 0) : Type 0 where
  pub entry : Entry
  pub rest : At

pub record Source : Type 1 where
  pub At : Type 0
  pub look : Kind → ℕ → At → Option (Next At)

-- two sides, or one that goes behind an item alone
pub data Sides (At : Type 0) : Type 0 where
  beside : (x y : At) → Sides At
  alone : (x : At) → Sides At

-- the pairs of the differing items, and where the sides then stand
pub record Compared (At : Type 0) : Type 0 where
  pub pairs : List Pair
  pub rest : Sides At

-- the side that went alone
unfoldable pub sole : {At : Type 0} → Sides At → At
sole (beside x y) = x
sole (alone x) = x

unfoldable pub pairing : {At : Type 0} → List Pair → Compared At → Compared At
pairing ps c = record { pairs = ps ++ c.pairs; rest = c.rest }

unfoldable pub compare_nothing : {At : Type 0} → Sides At → Compared At
compare_nothing x = record { pairs = []; rest = x }

unfoldable pub compare_then : {At : Type 0} → (Sides At → Compared At) → (Sides At → Compared At) → Sides At → Compared At
compare_then f g x = pairing (f x).pairs (g (f x).rest)

-- an item that differs is a pair, and each side goes behind it alone
unfoldable pub differing : {At : Type 0} → (ℕ → Sides At → Compared At) → Next At → Next At → Compared At
differing next a b =
    record {
      pairs = record { one = a.entry.place; other = b.entry.place } ∷ [];
      rest = beside (sole (next a.entry.first (alone a.rest)).rest) (sole (next b.entry.first (alone b.rest)).rest);
    }

-- the inside of an item that is the same on both sides is compared
unfoldable pub compare_two : {At : Type 0} → Test → Kind → (ℕ → Sides At → Compared At) → (x y : At) → Option (Next At) → Option (Next At) → Compared At
compare_two same k next x y none b = compare_nothing (beside x y)
compare_two same k next x y (some a) none = compare_nothing (beside x y)
compare_two same k next x y (some a) (some b) =
    given (same k a.entry b.entry) (λ _. next a.entry.first (beside a.rest b.rest)) (differing next a b)

unfoldable pub pass_one : {At : Type 0} → (ℕ → Sides At → Compared At) → At → Option (Next At) → Compared At
pass_one next x none = compare_nothing (alone x)
pass_one next x (some a) = next a.entry.first (alone a.rest)

unfoldable pub compare_item : (s : Source) → Test → Kind → ℕ → (ℕ → Sides s.At → Compared s.At) → Sides s.At → Compared s.At
compare_item s same k n next (beside x y) = compare_two same k next x y (s.look k n x) (s.look k n y)
compare_item s same k n next (alone x) = pass_one next x (s.look k n x)

abbrev pub comparing : Source → Test → Walk
comparing s same =
    record { From = Sides s.At; To = Compared s.At; nothing = compare_nothing; then = compare_then; item = compare_item s same }

-- ---- the differences of two lists of entries

unfoldable pub take_entry : Kind → ℕ → List Entry → Option (Next (List Entry))
take_entry k n [] = none
take_entry k n (e ∷ es) = some (record { entry = e; rest = es })

abbrev pub listed : Source
listed = record { At = List Entry; look = take_entry }

unfoldable pub differences : Shape → (pool : List ℕ) → List Entry → (pool' : List ℕ) → List Entry → List Pair
differences t pool es pool' fs = (walk (comparing listed (same_item pool pool')) t (beside es fs)).pairs

-- ---- the public answer

-- the pairs; or a refusal: the table's or the first message's, or the second's
pub data Answered : Type 0 where
  pairs : List Pair → Answered
  refuses : CompareAnswer → Answered

unfoldable pub compare_runs : Shape → (one other : List ℕ) → List Entry → Outcome → List Entry → Outcome → Answered
compare_runs t one other es (refused why p) fs o = refuses (Refused why p)
compare_runs t one other es (reached x) fs (refused why p) = refuses (OtherRefused why p)
compare_runs t one other es (reached x) fs (reached y) = pairs (differences t one es other fs)

-- each message is read as with a store of 16,384 entries
unfoldable pub compare_reads : Shape → (one other : List ℕ) → Run → Run → Answered
compare_reads t one other r s = compare_runs t one other r.made r.ends s.made s.ends

unfoldable pub compare_by : Checked → (table one other : List ℕ) → Answered
compare_by (Good l) table one other =
    compare_reads (shape_of table l) one other (fit most_entries (read (shape_of table l) (front one))) (fit most_entries (read (shape_of table l) (front other)))
compare_by (Err r) table one other = refuses (Refused r.why r.place)

unfoldable pub compares : (table one other : List ℕ) → Answered
compares table one other = compare_by (check table) table one other

-- two words a pair
unfoldable pub pair_words : List Pair → List ℕ
pair_words [] = []
pair_words (p ∷ ps) = p.one ∷ p.other ∷ pair_words ps

-- the pairs fit the lent list
unfoldable pub has_room : List Pair → List ℕ → Bool
has_room ps list = leb (length ps) (length list / 2)

unfoldable pub compare_answer : Answered → (list : List ℕ) → CompareAnswer
compare_answer (pairs ps) list = pick (has_room ps list) (Done (length ps)) Short
compare_answer (refuses a) list = a

-- the list afterwards: the pairs in front and later words as before; unchanged on a refusal
unfoldable pub list_after : Answered → (list : List ℕ) → List ℕ
list_after (pairs ps) list = pick (has_room ps list) (pair_words ps ++ drop (length (pair_words ps)) list) list
list_after (refuses a) list = list

-- the answer's number and place, which message, and the count
unfoldable pub compare_says : CompareAnswer → Numbered
compare_says (Done n) = done 0
compare_says Short = record { number = 15; place = 0 }
compare_says (Refused why p) = numbered why p
compare_says (OtherRefused why p) = numbered why p

unfoldable pub which_of : CompareAnswer → ℕ
which_of (Done n) = 0
which_of Short = 0
which_of (Refused why p) = 0
which_of (OtherRefused why p) = 1

unfoldable pub count_of : CompareAnswer → ℕ
count_of (Done n) = n
count_of Short = 0
count_of (Refused why p) = 0
count_of (OtherRefused why p) = 0
