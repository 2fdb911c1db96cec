-- What each function of the static library returns and leaves in the numbers, words and bytes that it was lent. What is told of an
-- answer alone stands in telling's specs/Told.antt.
-- Assumes nothing.
use Rattle.std.specs.Prelude.{◌≡◌, List, ℕ, ◌≤◌, length, drop}
use Rattle.wire.specs.AskAnswer.{AskAnswer}
use Rattle.wire.specs.Reading.{Run}
use Rattle.wire.specs.Answers.{feed_number, read_says, write_says, store_with, read_answer, Form, write_answer, out_with, area_after}
use Rattle.accumulator.specs.Feeding.{Lent, MarkedLent}
use Rattle.desk.specs.Listed.{open_says, open_count, listed_answer, listed_store}
use Rattle.desk.specs.Listed as listed
use Rattle.desk.specs.Differ.{Answered, compare_answer, list_after}
use Rattle.desk.specs.BatchFound.{BatchFound}
use Rattle.desk.specs.Batch.{Or, written_answer, written_says}
use Rattle.desk.specs.Batch as batches
use Rattle.desk.specs.Csv.{Output, Imports, csv_answer, csv_says, out_after}
use Rattle.batches.specs.Search.{Searched}
use Rattle.telling.specs.Told.{Told, ToldAsked, ToldCompared, ToldPart}
use Rattle.telling.specs.Marks.{mark_after}

pub record Read (w : Run) (store : List ℕ) (r p n : ℕ) (store' : List ℕ) : Type 0 where
  pub told : Told (read_says (read_answer w.ends (length w.made))) r p
  pub count : n ≡ length w.made
  pub stored : store' ≡ store_with w.made store

pub record ReadOpen (w : Run) (store list : List ℕ) (r p n : ℕ) (store' list' : List ℕ) : Type 0 where
  pub told : Told (open_says (listed_answer (length list) w)) r p
  pub count : n ≡ open_count (listed_answer (length list) w)
  pub stored : store' ≡ listed_store (length list) w store
  pub handed : list' ≡ listed.list_after list

pub record Wrote (f : Form) (out : List ℕ) (r p : ℕ) (out' : List ℕ) : Type 0 where
  pub told : Told (write_says (write_answer f)) r p
  pub written : out' ≡ out_with f out

pub record Asked (a : AskAnswer) (area : List ℕ) (r p t y : ℕ) (area' : List ℕ) : Type 0 where
  pub told : ToldAsked a r p t y
  pub handed : area' ≡ area_after area

abbrev pub mark_of : MarkedLent → ℕ → ℕ
mark_of f before = mark_after f.lent.fed.answer before f.waiting

-- a feed that leaves a mark
pub record Fed (f : Lent) (mark : ℕ) (chunk : List ℕ) (r i w n from : ℕ) (array' message' : List ℕ) : Type 0 where
  pub number : r ≡ feed_number f.fed.answer
  pub idx : i ≡ f.fed.idx
  pub waiting : w ≡ mark
  pub len : n ≡ length f.fed.message
  pub within : from ≤ length chunk
  pub rest : drop from chunk ≡ f.fed.rest
  pub array : array' ≡ f.fed.array
  pub message : message' ≡ f.message

pub record Compared (w : Answered) (list : List ℕ) (r p t n : ℕ) (list' : List ℕ) : Type 0 where
  pub told : ToldCompared (compare_answer w list) r p t n
  pub listed : list' ≡ list_after w list

pub record BatchWrote (made : Or (List ℕ)) (out : List ℕ) (r p : ℕ) (out' : List ℕ) : Type 0 where
  pub told : Told (written_says (written_answer made)) r p
  pub written : out' ≡ batches.out_with made out

-- an answer that the search may have
pub record LastFound (table batch : List ℕ) (store product : ℕ) (r p from len : ℕ) : Type 0 where
  pub answer : BatchFound
  pub searched : Searched table batch (record { store = store; product = product }) answer
  pub told : ToldPart answer r p from len

-- an export's or an import's bytes
pub record CsvWrote (made : Output) (out : List ℕ) (r p : ℕ) (out' : List ℕ) : Type 0 where
  pub told : Told (csv_says (csv_answer made)) r p
  pub written : out' ≡ out_after made out

-- bytes that an import may give
pub record CsvImported (table row out : List ℕ) (r p : ℕ) (out' : List ℕ) : Type 0 where
  pub output : Output
  pub imports : Imports table row (length out) output
  pub wrote : CsvWrote output out r p out'
