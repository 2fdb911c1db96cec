-- `batch::last` meets its contract.
-- Assumes nothing.
use mathlib.Core.Path.{sym, ◌∙◌}
use Rattle.laws.proofs.Answers.{handed-up}
use Rattle.batch.proofs.Opening.{searched-table, searched-fault, searched-found, parted-of}
use Rattle.batch.proofs.last.Goals as goal

pub take_apart-requires : goal.take_apart-requires
take_apart-requires c = sym c.check.ensures ∙ c.in_ok-layout.was

pub find-requires : goal.find-requires
find-requires c = parted-of c.take_apart.ensures c.in_ok-parts.was

pub returns-in_err-layout : goal.returns-in_err-layout
returns-in_err-layout c = rw (handed-up c.from_residual.ensures) (searched-table _ _ _ c.check.ensures c.in_err-layout.was)

pub returns-in_err-parts : goal.returns-in_err-parts
returns-in_err-parts c = rw (handed-up c.from_residual-in_err-parts.ensures) (searched-fault _ _ _ c.check.ensures c.in_ok-layout.was c.take_apart.ensures c.in_err-parts.was)

pub returns : goal.returns
returns c = searched-found _ _ _ c.check.ensures c.in_ok-layout.was (parted-of c.take_apart.ensures c.in_ok-parts.was) c.find.ensures
