-- How the reading of a word ends, in the words of the rules.
-- Assumes nothing.
use Rattle.std.specs.Prelude.{ℕ, Result, Ok, Err}
use Rattle.wire.specs.declared.Refusal.{Refusal}
use Rattle.wire.specs.declared.RefusedAt.{RefusedAt}
use Rattle.messages.specs.declared.Took as word

-- the word, the place behind it and the entries made; or why it is refused, and where
abbrev pub Word : Type 0
Word = Result word.Took RefusedAt

abbrev pub Took : (word : ℕ) → (place : ℕ) → (count : ℕ) → Word
Took word place count = Ok (record { word = word; place = place; count = count })

abbrev pub Refused : (why : Refusal) → (place : ℕ) → Word
Refused why place = Err (record { why = why; place = place })
