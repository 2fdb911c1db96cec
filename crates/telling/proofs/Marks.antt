-- A mark in numbers: which of them wait, and what each answer leaves.
-- Assumes nothing.
use mathlib.Core.Path.{◌≡◌, refl}
use mathlib.Core.Bool.{Bool, true, false, not}
use Prim.Native.Nat.{ℕ}
use lib.Dec.{eqb}
use Rattle.wire.specs.Tests.{pick}
use Rattle.wire.specs.Answers.{yes_number}
use Rattle.wire.specs.declared.FeedAnswer.{FeedAnswer}
use Rattle.wire.specs.declared.FeedAnswer.TheVariants.{Consumed, OverFull, BadFrame, Frame, BadState}
use Rattle.telling.specs.Marks.{waits, mark_after}

pub mark-waits : (mark : ℕ) → not (eqb mark 0) ≡ waits mark
unfolding waits pick
mark-waits mark = go (eqb mark 0)
  where
    go : (none : Bool) → not none ≡ pick none false true
    go true = refl
    go false = refl

module _ {answer : FeedAnswer} (before : ℕ) (waiting : Bool) where
  pub left-bad : answer ≡ BadState → before ≡ mark_after answer before waiting
  unfolding mark_after
  left-bad is = rw is

  module _ {r : ℕ} (yes : r ≡ yes_number waiting) where
    pub left-consumed : answer ≡ Consumed → r ≡ mark_after answer before waiting
    unfolding mark_after
    left-consumed is = rw is yes

    pub left_over : answer ≡ OverFull → r ≡ mark_after answer before waiting
    unfolding mark_after
    left_over is = rw is yes

    pub left-unread : answer ≡ BadFrame → r ≡ mark_after answer before waiting
    unfolding mark_after
    left-unread is = rw is yes

    pub left-frame : answer ≡ Frame → r ≡ mark_after answer before waiting
    unfolding mark_after
    left-frame is = rw is yes
