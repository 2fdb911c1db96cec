-- `messages::has_key` meets its contract: the two words are the message's key, wherever a message is read.
-- Assumes nothing.
use native.Mathlib.Omega.{arith}
use Rattle.messages.proofs.Keyed.{begun-or, stops-or, begun-key, unread}
use Rattle.messages.proofs.Past.{keys-begin, few-fields}
use Rattle.messages.proofs.has_key.Goals as goal

pub overflow_add-front : goal.overflow_add-front
overflow_add-front c = omega (arith, few-fields _ _ _ c.requires)

pub overflow_add-front-2 : goal.overflow_add-front-2
overflow_add-front-2 c = omega (arith, few-fields _ _ _ c.requires)

pub returns-in-Some : goal.returns-in-Some
returns-in-Some c = begun-key _ _ _ _ c.requires (keys-begin _ _ _ _ c.requires c.begin.ensures c.in-Some.is (omega (arith, c.if-front-lt-ROOM.true))) c.same_key.ensures

pub returns-in-Ok : goal.returns-in-Ok
returns-in-Ok c = begun-key _ _ _ _ c.requires (begun-or _ _ _ _ c.requires c.begin_any.ensures c.in-Ok.is) c.same_key-in-Ok.ensures

pub returns-in-Err : goal.returns-in-Err
returns-in-Err c = unread _ _ (stops-or _ _ _ _ c.requires c.begin_any.ensures c.in-Err.is)
