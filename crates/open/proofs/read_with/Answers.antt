-- `open::read_with` meets its contract: the table's refusal, or what working off the root gives.
-- Assumes nothing.
use mathlib.Core.Path.{sym, ◌∙◌}
use native.Mathlib.Omega.{arith}
use Rattle.wire.specs.Answers.{room_of}
use Rattle.laws.proofs.Tables.{good-table}
use Rattle.table.proofs.Stretches.{root-falls, flat-falls}
use Rattle.reader.proofs.Promised.{with-bad, with-good}
use Rattle.open.proofs.Promised.{root-chain, root-pending, list-words}
use Rattle.open.proofs.read_with.Goals as goal

pub root_at-root-requires : goal.root_at-root-requires
root_at-root-requires c = omega (arith, (good-table _ _ (sym c.check.ensures ∙ c.in-Ok.is)).children-end)

pub flat-way-requires : goal.flat-way-requires
flat-way-requires c = let good = sym c.check.ensures ∙ c.in-Ok.is in record { good_table = good-table _ _ good; node_le_nodes = omega arith; falls = root-falls _ good _ c.root_at-root.ensures }

pub hold-requires : goal.hold-requires
hold-requires c = let good = sym c.check.ensures ∙ c.in-Ok.is in record { i_in_bounds = omega (arith, c.requires ∙ list-words); width_bound = omega (arith, (flat-falls (good-table _ _ good) (omega arith) c.flat-way.ensures).inside, c.well_formed.1.0) }

pub work_off-requires : goal.work_off-requires
work_off-requires c = let good = sym c.check.ensures ∙ c.in-Ok.is in record { good_table = good-table _ _ good; list_len = c.list-1.given ∙ c.requires ∙ list-words; chain = root-chain _ good _ c.root_at-root.ensures c.flat-way.ensures _ (c.requires ∙ list-words) c.hold.ensures }

pub returns-in-Err : goal.returns-in-Err
unfolding room_of
returns-in-Err c = with-bad _ _ _ _ _ (sym c.check.ensures ∙ c.in-Err.is)

pub returns-in-Ok : goal.returns-in-Ok
unfolding room_of
returns-in-Ok c = let good = sym c.check.ensures ∙ c.in-Ok.is in
    rw c.room-room.ensures
    at (with-good _ _ _ _ _ _ good c.root_at-root.ensures c.flat-way.ensures (rw (root-pending _ good _ c.root_at-root.ensures c.flat-way.ensures _ (c.requires ∙ list-words) c.hold.ensures) at c.work_off.ensures))
