-- An answer that a call gives, told, is what that call's definition says.
-- Assumes nothing.
use mathlib.Core.Path.{◌≡◌, refl, ◌∙◌}
use mathlib.Core.List.{List}
use Prim.Native.Nat.{ℕ}
use lib.ListN.{length}
use Rattle.wire.specs.ReadAnswer.{ReadAnswer}
use Rattle.wire.specs.WriteAnswer.{WriteAnswer}
use Rattle.wire.specs.AskAnswer.{AskAnswer}
use Rattle.wire.specs.Reading.{Run, Outcome, reached, refused}
use Rattle.wire.specs.Answers.{write_says, read_answer, Form, asks}
use Rattle.laws.specs.Answered.{Reads, Writes, Asks}
use Rattle.desk.specs.OpenAnswer.{OpenAnswer}
use Rattle.desk.specs.Listed.{ReadsListed}
use Rattle.desk.specs.CompareAnswer.{CompareAnswer}
use Rattle.desk.specs.Differ.{Answered}
use Rattle.compare.specs.Promise.{Compares}
use Rattle.desk.specs.BatchWritten.{BatchWritten}
use Rattle.desk.specs.Batch.{Or, written_says}
use Rattle.batch.specs.Writing as batch
use Rattle.desk.specs.CsvAnswer.{CsvAnswer}
use Rattle.desk.specs.Csv.{Output, csv_says}
use Rattle.export_row.specs.Outputs.{Gives}
use Rattle.csv_rows.specs.Promise.{GivesImport}
use Rattle.telling.specs.Told.{Told, count_of, Counted, CountedOpen, ToldAsked, ToldCompared}
use Rattle.exports.specs.Calls.{Read, ReadOpen, Wrote, Asked, Compared, BatchWrote, CsvWrote, CsvImported}

-- the count that an answer tells is the one that it was made with
count-of : (o : Outcome) (n : ℕ) → count_of (read_answer o n) ≡ n
unfolding count_of read_answer
count-of (reached x) n = refl
count-of (refused why p) n = refl

pub read_told : {w : Run} {store left : List ℕ} {a : ReadAnswer} {r p n : ℕ} → Reads w store a left → Counted a r p n → Read w store r p n left
read_told {w} h c = record {
  told = rw h.answered at c.told;
  count = rw h.answered at c.count ∙ count-of w.ends (length w.made);
  stored = h.stored;
}

pub open_told : {w : Run} {store list left handed : List ℕ} {a : OpenAnswer} {r p n : ℕ} → ReadsListed w store list a left handed → CountedOpen a r p n
    → ReadOpen w store list r p n left handed
open_told h c = record {
  told = rw h.answered at c.told;
  count = rw h.answered at c.count;
  stored = h.stored;
  handed = h.cleared;
}

pub write-told : {f : Form} {out left : List ℕ} {a : WriteAnswer} {r p : ℕ} → Writes f out a left → Told (write_says a) r p → Wrote f out r p left
write-told h c = record { told = rw h.answered at c; written = h.stored }

pub ask-told : {old new area left : List ℕ} {a : AskAnswer} {r p t y : ℕ} → Asks old new area a left → ToldAsked a r p t y
    → Asked (asks old new area) area r p t y left
ask-told h c = record { told = rw h.answered at c; handed = h.stored }

pub compare-told : {w : Answered} {list left : List ℕ} {a : CompareAnswer} {r p t n : ℕ} → Compares w list a left → ToldCompared a r p t n
    → Compared w list r p t n left
compare-told h c = record { told = rw h.answered at c; listed = h.listed }

pub batch-told : {made : Or (List ℕ)} {out left : List ℕ} {a : BatchWritten} {r p : ℕ} → batch.Writes made out a left → Told (written_says a) r p
    → BatchWrote made out r p left
batch-told h c = record { told = rw h.answered at c; written = h.stored }

pub row_told : {made : Output} {out left : List ℕ} {a : CsvAnswer} {r p : ℕ} → Gives made out a left → Told (csv_says a) r p → CsvWrote made out r p left
row_told h c = record { told = rw h.answered at c; written = h.stored }

pub import-told : {table row out left : List ℕ} {a : CsvAnswer} {r p : ℕ} → GivesImport table row out a left → Told (csv_says a) r p
    → CsvImported table row out r p left
import-told h c = record { output = h.output; imports = h.imports; wrote = row_told h.gives c }
