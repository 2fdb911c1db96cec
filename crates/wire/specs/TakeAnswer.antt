-- How the taking of one item ends, in the words of the rules.
-- Assumes nothing.
use Rattle.std.specs.Prelude.{ℕ, Result, Ok, Err}
use Rattle.wire.specs.declared.Refusal.{Refusal}
use Rattle.wire.specs.declared.RefusedAt.{RefusedAt}
use Rattle.wire.specs.declared.Taken.{Taken}

-- the item's entry and the place behind it, or a refusal and its place
abbrev pub TakeAnswer : Type 0
TakeAnswer = Result Taken RefusedAt

abbrev pub Done : (first second at place : ℕ) → TakeAnswer
Done first second at place = Ok (record { first = first; second = second; at = at; place = place })

abbrev pub Refused : Refusal → (place : ℕ) → TakeAnswer
Refused why place = Err (record { why = why; place = place })
