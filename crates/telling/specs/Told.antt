-- What is told of each answer: document 01's number is returned, and its place, counts and words are left.
-- Assumes nothing.
use Rattle.std.specs.Prelude.{◌≡◌, ℕ, Err, Ok}
use Rattle.wire.specs.ReadAnswer.{ReadAnswer}
use Rattle.wire.specs.AskAnswer.{AskAnswer}
use Rattle.wire.specs.AskAnswer.{Says, Refused as NotAsked, ShortArea}
use Rattle.wire.specs.TakeAnswer.{TakeAnswer}
use Rattle.wire.specs.Answers.{side_number, yes_number, Numbered, read_says, take_says, ask_says, place_after}
use Rattle.desk.specs.OpenAnswer.{OpenAnswer}
use Rattle.desk.specs.Listed.{open_says, open_count}
use Rattle.desk.specs.FindAnswer.{FindAnswer}
use Rattle.desk.specs.Path.{find_says}
use Rattle.desk.specs.Path as path
use Rattle.desk.specs.CompareAnswer.{CompareAnswer}
use Rattle.desk.specs.Differ.{compare_says}
use Rattle.desk.specs.Differ as differ
use Rattle.desk.specs.BatchFound.{BatchFound}
use Rattle.desk.specs.Batch.{found_says, from_of, len_of}

-- document 01's number is returned, and the place left
pub record Told (n : Numbered) (r p : ℕ) : Type 0 where
  pub number : r ≡ n.number
  pub place : p ≡ n.place

-- the entries that an answer says were made
unfoldable pub count_of : ReadAnswer → ℕ
count_of (Ok r) = r.count
count_of (Err r) = r.count

pub record Counted (a : ReadAnswer) (r p n : ℕ) : Type 0 where
  pub told : Told (read_says a) r p
  pub count : n ≡ count_of a

-- the same of a reading with a list of open items
pub record CountedOpen (a : OpenAnswer) (r p n : ℕ) : Type 0 where
  pub told : Told (open_says a) r p
  pub count : n ≡ open_count a

-- which table is refused, 0 where none is
unfoldable pub which_of : AskAnswer → ℕ
which_of (Says y) = 0
which_of (NotAsked t e i) = side_number t
which_of ShortArea = 0

-- 0 on a refusal
unfoldable pub yes_of : AskAnswer → ℕ
yes_of (Says y) = yes_number y
yes_of (NotAsked t e i) = 0
yes_of ShortArea = 0

pub record ToldAsked (a : AskAnswer) (r p t y : ℕ) : Type 0 where
  pub told : Told (ask_says a) r p
  pub which : t ≡ which_of a
  pub yes : y ≡ yes_of a

-- an item's words and the place where it stands, 0 where it is refused
unfoldable pub first_of : TakeAnswer → ℕ
first_of (Ok r) = r.first
first_of (Err r) = 0

unfoldable pub second_of : TakeAnswer → ℕ
second_of (Ok r) = r.second
second_of (Err r) = 0

unfoldable pub at_of : TakeAnswer → ℕ
at_of (Ok r) = r.at
at_of (Err r) = 0

pub record Took (t : TakeAnswer) (before r p a b q : ℕ) : Type 0 where
  pub number : r ≡ (take_says t).number
  pub place : p ≡ place_after before t
  pub first : a ≡ first_of t
  pub second : b ≡ second_of t
  pub at : q ≡ at_of t

pub record Found (a : FindAnswer) (r p x y : ℕ) : Type 0 where
  pub told : Told (find_says a) r p
  pub first : x ≡ path.first_of a
  pub second : y ≡ path.second_of a

-- which message is refused, and how many pairs there are
pub record ToldCompared (a : CompareAnswer) (r p t n : ℕ) : Type 0 where
  pub told : Told (compare_says a) r p
  pub which : t ≡ differ.which_of a
  pub count : n ≡ differ.count_of a

-- where the part begins and how long it is, 0 and 0 on a refusal
pub record ToldPart (a : BatchFound) (r p from len : ℕ) : Type 0 where
  pub told : Told (found_says a) r p
  pub starts : from ≡ from_of a
  pub long : len ≡ len_of a
