-- The message of a row, and what is laid of it in a lent output.
-- Assumes nothing.
use Rattle.std.specs.Prelude.{◌≡◌, Bool, true, false, List, ℕ, ◌+◌, ◌<◌, ◌≤◌, length, Result, Ok, Err}
use Rattle.std.proofs.Math.Option.{Option, none, some}
use Rattle.desk.specs.Csv.{comma, Column, styles_of, message_of}
use Rattle.spellings.specs.Accept.{Parsed, took, stopped, parse}
use Rattle.put_number.specs.Lays.{Lays}
use Rattle.take_number.specs.declared.Stop.{Stop}
use Rattle.take_number.specs.Scans.{is_at}
use Rattle.take_row.specs.Message.{Message}
use Rattle.take_row.specs.Message.{Laid, Stops}

-- the bytes of a message, or where the input stops being a row
pub data Taken : Type 0 where
  gives : List ℕ → Taken
  stops_at : ℕ → Taken

unfoldable pub taken_of : List Column → Parsed → Taken
taken_of cs (took vs) = gives (message_of cs vs)
taken_of cs (stopped p) = stops_at p

-- by the columns of a table; one that has none is never asked
unfoldable pub taken_by : Option (List Column) → List ℕ → Taken
taken_by none s = stops_at 0
taken_by (some cs) s = taken_of cs (parse (styles_of cs) s)

-- what is given is laid behind the first u bytes of an output, or is the answer
pub data LaysMessage (t : Taken) (u : ℕ) (out : List ℕ) : Message → List ℕ → Type 0 where
  laid : {s : List ℕ} {n : ℕ} {after : List ℕ} → t ≡ gives s → Lays s u out n after → LaysMessage t u out (Laid n) after
  refused : {p : ℕ} {after : List ℕ} → t ≡ stops_at p → length after ≡ length out → LaysMessage t u out (Stops p) after

-- where the next field begins: there, or behind a comma that must stand there
pub data Separated (first : Bool) (s : List ℕ) (i : ℕ) : Result ℕ Stop → Type 0 where
  begins : first ≡ true → Separated first s i (Ok i)
  behind_comma : first ≡ false → is_at s i comma ≡ true → Separated first s i (Ok (i + 1))
  no_comma : first ≡ false → is_at s i comma ≡ false → Separated first s i (Err (record { at = i }))

-- the line's end, and nothing more
pub data Ended (s : List ℕ) (i : ℕ) : Result (Unit {0}) Stop → Type 0 where
  ends : is_at s i 13 ≡ true → is_at s (i + 1) 10 ≡ true → length s ≤ i + 2 → Ended s i (Ok tt)
  no_return : is_at s i 13 ≡ false → Ended s i (Err (record { at = i }))
  no_feed : is_at s i 13 ≡ true → is_at s (i + 1) 10 ≡ false → Ended s i (Err (record { at = i + 1 }))
  goes_on : is_at s i 13 ≡ true → is_at s (i + 1) 10 ≡ true → i + 2 < length s → Ended s i (Err (record { at = i + 1 + 1 }))
