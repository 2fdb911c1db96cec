-- Laying a run's entries into a lent store, behind those that are there already.
-- The room is given, and is not read off the store: a reading may count entries that the store has no words for.
-- Assumes nothing.
use Rattle.std.specs.Prelude.{List, ℕ, ◌+◌, ◌-◌, ◌*◌, length, take}
use Rattle.std.proofs.lemmas.List.Edits.{sets}
use Rattle.wire.specs.Values.{Entry}
use Rattle.wire.specs.Reading.{Outcome, Run, fit}
use Rattle.wire.specs.Answers.{words_per, words, room_of}

-- how a run ends, how many entries were made then, and the store
pub record Left : Type 0 where
  pub ends : Outcome
  pub count : ℕ
  pub store : List ℕ

-- a store with entries from the number m on, those that it has words for
unfoldable pub store_from : List Entry → ℕ → List ℕ → List ℕ
store_from es m s = sets s (words_per * m) (words (take (room_of s - m) es))

-- a run's entries behind the first m
unfoldable pub laid : Run → ℕ → List ℕ → Left
laid r m s = record { ends = r.ends; count = m + length r.made; store = store_from r.made m s }

-- as many of them as there is room for
unfoldable pub lay : (room : ℕ) → Run → ℕ → List ℕ → Left
lay room r m s = laid (fit (room - m) r) m s
