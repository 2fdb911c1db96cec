-- `batch::find` meets its contract.
-- Assumes nothing.
use Rattle.batch.proofs.Opening.{found_none, found-other, found-beyond, found-message, found-unread, before-turn}
use Rattle.batch.proofs.find.Goals as goal

pub returns-then-turn-eq0 : goal.returns-then-turn-eq0
returns-then-turn-eq0 c = found_none _ c.requires c.turn-turn.ensures c.if-turn-eq0.true

pub load-last-requires : goal.load-last-requires
load-last-requires c = before-turn _ c.requires c.turn-turn.ensures c.if-turn-eq0.false

pub returns-then-not-same_key : goal.returns-then-not-same_key
returns-then-not-same_key c = found-other _ c.requires c.turn-turn.ensures c.if-turn-eq0.false c.load-last.ensures c.same_key.ensures c.if-not-same_key.true

pub returns-then-start-at : goal.returns-then-start-at
returns-then-start-at c = found-beyond _ c.requires c.turn-turn.ensures c.if-turn-eq0.false c.load-last.ensures c.same_key.ensures c.if-not-same_key.false c.if-start-at.true

pub returns-in-Err : goal.returns-in-Err
returns-in-Err c = found-unread _ c.requires c.turn-turn.ensures c.if-turn-eq0.false c.load-last.ensures c.same_key.ensures c.if-not-same_key.false c.if-start-at.false c.next.ensures c.in-Err.is

pub returns-in-Ok : goal.returns-in-Ok
returns-in-Ok c = found-message _ c.requires c.turn-turn.ensures c.if-turn-eq0.false c.load-last.ensures c.same_key.ensures c.if-not-same_key.false c.if-start-at.false c.next.ensures c.in-Ok.is
