-- `put_quoted::has_quote` meets its contract: the loop's invariant is that it is known whether there is a quote in front of the byte `i`.
-- Assumes nothing.
use Prim.Native.Nat.{◌-◌}
use Rattle.put_quoted.proofs.Quoting.{seeking-begin, seeking-next, seeking-end}
use Rattle.put_quoted.proofs.has_quote.Goals as goal

pub loop-i-init : goal.loop-i-init
loop-i-init c = seeking-begin _

pub loop-i-preserved : goal.loop-i-preserved
loop-i-preserved c = seeking-next c.loop-i.invariant c.loop-i-test.true c.found_with-found.ensures

pub returns : goal.returns
returns c = seeking-end c.loop-i.invariant c.loop-i-test.false
