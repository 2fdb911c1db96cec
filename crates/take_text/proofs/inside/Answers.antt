-- `take_text::inside` meets its contract: the loop's invariant is that what follows from `at` on is all that follows.
-- Assumes nothing.
use Rattle.std.proofs.lemmas.Result.{err_from_is_err_and}
use Prim.Native.Nat.{◌-◌, ◌+◌}
use native.Mathlib.Omega.{arith}
use Rattle.take_text.proofs.Marking.{Going, going-begin, going_end, going-plain, going-run, going-out, going-closed, going_on}
use Rattle.take_text.proofs.inside.Goals.{After-behind_run-now}
use Rattle.take_text.proofs.inside.Goals as goal

-- what is open behind the run
passed : (c : After-behind_run-now) → Going c.args.one c.args.row.now c.args.from c.after_plain-far.result (c.loop-at.len + (c.after_plain-far.result - c.loop-at.at)) c.behind_run-now.result.more c.behind_run-now.result.low c.behind_run-now.result.high
passed c = rw c.behind_run-now.ensures.more (going-run c.loop-at.invariant c.after_plain-far.ensures c.behind_run-now.ensures.low c.behind_run-now.ensures.high)

pub loop-at-init : goal.loop-at-init
loop-at-init c = going-begin _ _ _ c.requires

pub returns-then-row-far : goal.returns-then-row-far
returns-then-row-far c = going_end (going-plain c.loop-at.invariant c.after_plain-far.ensures) (omega arith)

pub returns-in_err-next_byte : goal.returns-in_err-next_byte
returns-in_err-next_byte c =
    let p = err_from_is_err_and c.from_residual.result c.from_residual.ensures.1 in
    rw (p.1, p.2) (going-out (passed (goal.at.returns-in_err-next_byte c).After-behind_run-now) c.in_err-next_byte.ensures)

pub returns-in-None : goal.returns-in-None
returns-in-None c = let e = c.in-None.is in going-closed (passed (goal.at.returns-in-None c).After-behind_run-now) (rw e at c.in_ok-next_byte.ensures)

pub loop-at-smaller : goal.loop-at-smaller
loop-at-smaller c = let g = passed (goal.at.loop-at-smaller c).After-behind_run-now in let r = going_on g (rw c.in-Some.is at c.in_ok-next_byte.ensures) in omega (arith, r.1, r.0.inside, c.after_plain-far.ensures.forth)

pub loop-at-preserved : goal.loop-at-preserved
loop-at-preserved c = (going_on (passed (goal.at.loop-at-preserved c).After-behind_run-now) (rw c.in-Some.is at c.in_ok-next_byte.ensures)).0

pub returns : goal.returns
returns c = going_end c.loop-at.invariant (omega arith)
