-- `reader::read_with` meets its contract: the table's refusal, or what the root's reading gives.
-- Assumes nothing.
use mathlib.Core.Path.{sym, ◌∙◌}
use native.Mathlib.Omega.{arith}
use Rattle.laws.proofs.Tables.{good-table}
use Rattle.table.proofs.Stretches.{root-falls, flat-falls}
use Rattle.reader.proofs.Promised.{with-bad, with-good}
use Rattle.reader.proofs.read_with.Goals as goal

pub root_at-root-requires : goal.root_at-root-requires
root_at-root-requires c = omega (arith, (good-table _ _ (sym c.check-checked.ensures ∙ c.in-Ok.is)).children-end)

pub flat-way-requires : goal.flat-way-requires
flat-way-requires c = let good = sym c.check-checked.ensures ∙ c.in-Ok.is in record { good_table = good-table _ _ good; node_le_nodes = omega arith; falls = root-falls _ good _ c.root_at-root.ensures }

pub read_rounds-requires : goal.read_rounds-requires
read_rounds-requires c = let good = sym c.check-checked.ensures ∙ c.in-Ok.is in record { good_table = good-table _ _ good; node_le_nodes = omega arith; falls = flat-falls (good-table _ _ good) (omega arith) c.flat-way.ensures; part_bound = omega arith }

pub returns-in-Err : goal.returns-in-Err
returns-in-Err c = with-bad _ _ _ _ _ (sym c.check-checked.ensures ∙ c.in-Err.is)

pub returns-in-Ok : goal.returns-in-Ok
returns-in-Ok c = let good = sym c.check-checked.ensures ∙ c.in-Ok.is in
    with-good _ _ _ _ _ _ good c.root_at-root.ensures c.flat-way.ensures c.read_rounds.ensures
