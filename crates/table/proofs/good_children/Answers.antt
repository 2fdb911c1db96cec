-- `table::good_children` meets its contract: the list decides, or there is none.
-- Assumes nothing.
use mathlib.Core.Path.{◌∙◌}
use native.Mathlib.Omega.{arith}
use Rattle.table.proofs.Numbered.{kinded-list, kinded-bare, no-variants}
use Rattle.table.proofs.good_children.Goals as goal

pub returns-then-b-ge1 : goal.returns-then-b-ge1
returns-then-b-ge1 c = c.good_list.ensures ∙ kinded-list _ _ _ _ _ _ (omega arith) (omega arith) c.if-b-ge1.true

pub returns-then-number-eq18 : goal.returns-then-number-eq18
returns-then-number-eq18 c = kinded-bare _ _ _ _ _ _ c.if-number-eq18.true (omega arith)

pub returns : goal.returns
returns c = no-variants _ _ _ _ _ _ (omega arith) (omega arith)
