-- No function of the static library has a second answer: what it returns, and every number, word and byte that it leaves. The
-- search in a batch has none where the batch passes the whole check.
-- Assumes nothing.
use Rattle.std.specs.Prelude.{◌≡◌, List, ℕ}
use Rattle.wire.specs.AskAnswer.{AskAnswer}
use Rattle.wire.specs.TakeAnswer.{TakeAnswer}
use Rattle.wire.specs.Reading.{Run}
use Rattle.wire.specs.Answers.{Numbered, Form}
use Rattle.laws.specs.Unique.{Unique}
use Rattle.accumulator.specs.Feeding.{Lent}
use Rattle.desk.specs.FindAnswer.{FindAnswer}
use Rattle.desk.specs.Differ.{Answered}
use Rattle.desk.specs.BatchChecked.{Good}
use Rattle.desk.specs.Batch.{Or, batch_check}
use Rattle.desk.specs.Csv.{Output}
use Rattle.telling.specs.Told.{Told, Took, Found}
use Rattle.exports.specs.Calls.{Read, ReadOpen, Wrote, Asked, Fed, Compared, BatchWrote, LastFound, CsvWrote, CsvImported}

abbrev pub OneTold : Type 0
OneTold = (n : Numbered) → Unique (λ (x : ℕ × ℕ). Told n x.0 x.1)

abbrev pub OneRead : Type 0
OneRead = (w : Run) (store : List ℕ) → Unique (λ (x : ℕ × ℕ × ℕ × List ℕ). Read w store x.0 x.1 x.2 x.3)

abbrev pub OneReadOpen : Type 0
OneReadOpen =
    (w : Run) (store list : List ℕ)
    → Unique (λ (x : ℕ × ℕ × ℕ × List ℕ × List ℕ). ReadOpen w store list x.0 x.1 x.2 x.3 x.4)

abbrev pub OneWrote : Type 0
OneWrote = (f : Form) (out : List ℕ) → Unique (λ (x : ℕ × ℕ × List ℕ). Wrote f out x.0 x.1 x.2)

abbrev pub OneAsked : Type 0
OneAsked = (a : AskAnswer) (area : List ℕ) → Unique (λ (x : ℕ × ℕ × ℕ × ℕ × List ℕ). Asked a area x.0 x.1 x.2 x.3 x.4)

abbrev pub OneFedCall : Type 0
OneFedCall = (f : Lent) (mark : ℕ) (chunk : List ℕ) → Unique (λ (x : ℕ × ℕ × ℕ × ℕ × ℕ × List ℕ × List ℕ). Fed f mark chunk x.0 x.1 x.2 x.3 x.4 x.5 x.6)

abbrev pub OneTook : Type 0
OneTook = (t : TakeAnswer) (before : ℕ) → Unique (λ (x : ℕ × ℕ × ℕ × ℕ × ℕ). Took t before x.0 x.1 x.2 x.3 x.4)

abbrev pub OneFound : Type 0
OneFound = (a : FindAnswer) → Unique (λ (x : ℕ × ℕ × ℕ × ℕ). Found a x.0 x.1 x.2 x.3)

abbrev pub OneCompared : Type 0
OneCompared = (w : Answered) (list : List ℕ) → Unique (λ (x : ℕ × ℕ × ℕ × ℕ × List ℕ). Compared w list x.0 x.1 x.2 x.3 x.4)

abbrev pub OneBatchWrote : Type 0
OneBatchWrote = (made : Or (List ℕ)) (out : List ℕ) → Unique (λ (x : ℕ × ℕ × List ℕ). BatchWrote made out x.0 x.1 x.2)

abbrev pub OneLast : Type 0
OneLast = (table batch : List ℕ) (store product : ℕ) → batch_check table batch ≡ Good
    → Unique (λ (x : ℕ × ℕ × ℕ × ℕ). LastFound table batch store product x.0 x.1 x.2 x.3)

abbrev pub OneCsvWrote : Type 0
OneCsvWrote = (made : Output) (out : List ℕ) → Unique (λ (x : ℕ × ℕ × List ℕ). CsvWrote made out x.0 x.1 x.2)

abbrev pub OneCsvImported : Type 0
OneCsvImported = (table row out : List ℕ) → Unique (λ (x : ℕ × ℕ × List ℕ). CsvImported table row out x.0 x.1 x.2)
