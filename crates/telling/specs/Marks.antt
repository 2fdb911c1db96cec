-- A mark in numbers: which of them wait, and which number a feed leaves.
-- Assumes nothing.
use Rattle.std.specs.Prelude.{Bool, true, false, ℕ, eqb}
use Rattle.wire.specs.Tests.{pick}
use Rattle.wire.specs.declared.FeedAnswer.{FeedAnswer}
use Rattle.wire.specs.declared.FeedAnswer.TheVariants.{Consumed, OverFull, BadFrame, Frame, BadState}
use Rattle.wire.specs.Answers.{yes_number}

-- a mark is a number: any but 0 waits
unfoldable pub waits : ℕ → Bool
waits mark = pick (eqb mark 0) false true

-- the mark that a default feed leaves: 24 leaves the number as it was, and any other answer 0 or 1
unfoldable pub mark_after : FeedAnswer → ℕ → Bool → ℕ
mark_after BadState before waiting = before
mark_after Consumed before waiting = yes_number waiting
mark_after OverFull before waiting = yes_number waiting
mark_after BadFrame before waiting = yes_number waiting
mark_after Frame before waiting = yes_number waiting
