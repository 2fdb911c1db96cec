-- `take_text::behind_run` meets its contract: there are plain bytes, or none.
-- Assumes nothing.
use native.Mathlib.Omega.{arith}
use Rattle.take_text.proofs.Marking.{run-some, run_none}
use Rattle.take_text.proofs.behind_run.Goals as goal

pub returns-then-run-gt0-clause-low : goal.returns-then-run-gt0-clause-low
returns-then-run-gt0-clause-low c = run-some c.args.run _ _ (omega arith)

pub returns-then-run-gt0-clause-high : goal.returns-then-run-gt0-clause-high
returns-then-run-gt0-clause-high c = run-some c.args.run _ _ (omega arith)

pub returns-clause-low : goal.returns-clause-low
returns-clause-low c = run_none c.args.run _ _ (omega arith)

pub returns-clause-high : goal.returns-clause-high
returns-clause-high c = run_none c.args.run _ _ (omega arith)
