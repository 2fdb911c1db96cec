-- `find::leads` meets its contract: position by position, the path leads from a node where it leads from the root.
-- Assumes nothing.
use Rattle.find.proofs.Leading.{Leading}
use Rattle.find.proofs.leads.Given as goal

abbrev pub invariant-loop-which : goal.invariant-loop-which
invariant-loop-which l = Leading l.table l.l l.path l.node l.which-index
