-- `find::go` meets its contract: position by position, the rest of the path answers what the whole path does.
-- Assumes nothing.
use Rattle.find.proofs.Going.{Going}
use Rattle.find.proofs.go.Given as goal

abbrev pub invariant-loop-which : goal.invariant-loop-which
invariant-loop-which l = Going l.table l.l l.path l.message l.at.node l.which-index l.rest l.at.place l.at.made
