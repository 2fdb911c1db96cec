-- `messages::past_ints` meets its contract: the loop's invariant is `Along`.
-- Assumes nothing.
use native.Mathlib.Omega.{arith}
use Rattle.messages.specs.Past.{stays}
use Rattle.messages.proofs.Past.{set_out, child-inside, child-below, of-child, some_byte, go-along, all-gone}
use Rattle.messages.proofs.past_ints.Goals as goal

pub loop-i-init : goal.loop-i-init
loop-i-init c = set_out c.requires.good_table _ _ c.requires.falls _ _ c.requires.at_inside

pub overflow_mul-i : goal.overflow_mul-i
overflow_mul-i c = omega (arith, child-inside c.requires.good_table _ _ c.requires.falls _ _ c.loop-i.invariant c.loop-i-test.true)

pub overflow_add-from : goal.overflow_add-from
overflow_add-from c = omega (arith, child-inside c.requires.good_table _ _ c.requires.falls _ _ c.loop-i.invariant c.loop-i-test.true)

pub u16_at-c-requires : goal.u16_at-c-requires
u16_at-c-requires c = child-inside c.requires.good_table _ _ c.requires.falls _ _ c.loop-i.invariant c.loop-i-test.true

pub kind_at-requires : goal.kind_at-requires
kind_at-requires c = record { good_table = c.requires.good_table; i_lt_nodes = omega (arith, c.u16_at-c.ensures.0, child-below c.requires.good_table _ _ c.requires.falls _ _ c.loop-i.invariant c.loop-i-test.true) }

pub returns-in_err-longest : goal.returns-in_err-longest
returns-in_err-longest c = rw c.from_residual.ensures stays

pub past_varint-requires : goal.past_varint-requires
past_varint-requires c = some_byte c.longest_of.ensures c.in_ok-longest.was

pub returns-in_err-to : goal.returns-in_err-to
returns-in_err-to c = rw c.from_residual-in_err-to.ensures stays

pub loop-i-preserved : goal.loop-i-preserved
loop-i-preserved c = go-along c.requires.good_table _ _ c.requires.falls _ _ c.loop-i.invariant c.loop-i-test.true (of-child _ _ _ c.u16_at-c.ensures.0 c.kind_at.ensures) c.longest_of.ensures c.in_ok-longest.was c.past_varint.ensures c.in_ok-to.was

pub returns : goal.returns
returns c = all-gone c.requires.good_table _ _ c.requires.falls _ _ c.loop-i.invariant (omega (arith, c.loop-i-test.false, c.loop-i.auto.i-end))
