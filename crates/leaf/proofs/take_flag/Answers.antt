-- `leaf::take_flag` meets its contract.
-- Assumes nothing.
use mathlib.Core.Path.{sym, ◌∙◌}
use native.Mathlib.Omega.{arith}
use borrow.Author.Tests.{le-leb, lt-leb}
use Rattle.wire.specs.Tests.{pick}
use Rattle.laws.proofs.Items.{flag-none, flag-some}
use Rattle.leaf.proofs.take_flag.Goals as goal

pub returns-then-is_empty : goal.returns-then-is_empty
returns-then-is_empty c = flag-none _ _ (grind (arith, sym c.is_empty.ensures ∙ c.if-is_empty.true))

pub overflow_cast-b : goal.overflow_cast-b
overflow_cast-b c = omega (arith, c.shared_slice_known-1.given 0)

pub returns-then-b-le1 : goal.returns-then-b-le1
unfolding pick
returns-then-b-le1 c = rw (flag-some c.args.why c.args.part.now (λ e. grind (arith, e, sym c.is_empty.ensures ∙ c.if-is_empty.false)), le-leb _ 1 c.if-b-le1.true)

pub returns : goal.returns
unfolding pick
returns c = rw (flag-some c.args.why c.args.part.now (λ e. grind (arith, e, sym c.is_empty.ensures ∙ c.if-is_empty.false)), lt-leb _ 1 c.if-b-le1.false)
