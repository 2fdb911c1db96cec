-- `telling::mark_after` meets its contract, answer by answer.
-- Assumes nothing.
use Rattle.telling.proofs.Marks.{left-consumed, left_over, left-unread, left-frame, left-bad}
use Rattle.telling.proofs.mark_after.Goals as goal

pub returns-in-Consumed : goal.returns-in-Consumed
returns-in-Consumed c = left-consumed c.args.before c.args.waiting c.yes.ensures c.in-Consumed.is

pub returns-in-OverFull : goal.returns-in-OverFull
returns-in-OverFull c = left_over c.args.before c.args.waiting c.yes-in-OverFull.ensures c.in-OverFull.is

pub returns-in-BadFrame : goal.returns-in-BadFrame
returns-in-BadFrame c = left-unread c.args.before c.args.waiting c.yes-in-BadFrame.ensures c.in-BadFrame.is

pub returns-in-Frame : goal.returns-in-Frame
returns-in-Frame c = left-frame c.args.before c.args.waiting c.yes-in-Frame.ensures c.in-Frame.is

pub returns-in-BadState : goal.returns-in-BadState
returns-in-BadState c = left-bad c.args.before c.args.waiting c.in-BadState.is
