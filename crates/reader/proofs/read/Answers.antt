-- `reader::read` meets its contract: the table's refusal, what a leaf alone gives, or what the root's reading gives, with the store's room.
-- Assumes nothing.
use mathlib.Core.Path.{sym, ◌∙◌}
use mathlib.Core.Bool.{false}
use native.Mathlib.Omega.{arith}
use Rattle.wire.specs.Reading.{judged}
use Rattle.wire.specs.Answers.{room_of, reads}
use Rattle.laws.proofs.KindRanges.{not-inner}
use Rattle.laws.proofs.Tables.{good-table}
use Rattle.table.proofs.Stretches.{falls-first, root-falls, flat-falls}
use Rattle.read_item.proofs.Heads.{leaf-ends}
use Rattle.reader.proofs.Promised.{with-bad, with-good, with-leaf, reads_whole}
use Rattle.reader.proofs.read.Goals as goal

pub root_at-root-requires : goal.root_at-root-requires
root_at-root-requires c = omega (arith, (good-table _ _ (sym c.check-checked.ensures ∙ c.in-Ok.is)).children-end)

pub flat-way-requires : goal.flat-way-requires
flat-way-requires c = let good = sym c.check-checked.ensures ∙ c.in-Ok.is in record { good_table = good-table _ _ good; node_le_nodes = omega arith; falls = root-falls _ good _ c.root_at-root.ensures }

pub u16_at-node-requires : goal.u16_at-node-requires
u16_at-node-requires c = omega (arith, c.root_at-root.ensures)

pub kind_at-number-requires : goal.kind_at-number-requires
kind_at-number-requires c = let good = sym c.check-checked.ensures ∙ c.in-Ok.is in record { good_table = good-table _ _ good; i_lt_nodes = rw c.u16_at-node.ensures.0 (falls-first (root-falls _ good _ c.root_at-root.ensures) (omega arith)) }

pub lay-requires : goal.lay-requires
unfolding judged
lay-requires c = record { ends = leaf-ends _ _ _ false _ (omega (arith, c.well_formed.1.0)) c.take-item.ensures; made_bound = omega arith }

pub returns-then-not-is_inner : goal.returns-then-not-is_inner
unfolding room_of reads
returns-then-not-is_inner c = let good = sym c.check-checked.ensures ∙ c.in-Ok.is in
    let outer = not-inner _ (sym c.is_inner.ensures ∙ c.if-not-is_inner.true) in
    reads_whole _ _ _ _
    (rw c.room-room.ensures
    at (with-leaf _ _ _ _ _ good c.root_at-root.ensures c.u16_at-node.ensures.0 c.if-room-gt0.true c.kind_at-number.ensures outer (omega (arith, c.well_formed.1.0)) c.take-item.ensures c.lay.ensures))

pub read_rounds-requires : goal.read_rounds-requires
read_rounds-requires c = let good = sym c.check-checked.ensures ∙ c.in-Ok.is in record { good_table = good-table _ _ good; node_le_nodes = omega arith; falls = flat-falls (good-table _ _ good) (omega arith) c.flat-way.ensures; part_bound = omega arith }

pub returns-in-Err : goal.returns-in-Err
unfolding room_of reads
returns-in-Err c = reads_whole _ _ _ _ (with-bad _ _ _ _ _ (sym c.check-checked.ensures ∙ c.in-Err.is))

pub returns-after-not-way : goal.returns-after-not-way
unfolding room_of reads
returns-after-not-way c = let good = sym c.check-checked.ensures ∙ c.in-Ok.is in
    reads_whole _ _ _ _
    (rw c.room-room.ensures
    at (with-good _ _ _ _ _ _ good c.root_at-root.ensures c.flat-way.ensures c.read_rounds.ensures))
