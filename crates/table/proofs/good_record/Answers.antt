-- `table::good_record` meets its contract, by the ranges of the match.
-- Assumes nothing.
use mathlib.Core.Path.{refl, ◌∙◌}
use native.Mathlib.Omega.{arith}
use Rattle.wire.specs.Table.{record_of}
use Rattle.table.proofs.Checks.{node-odd, node-even}
use Rattle.table.proofs.Numbered.{kinded-low, kinded-own, kinded-high}
use Rattle.table.proofs.good_record.Goals as goal

pub returns-in-0-to-14 : goal.returns-in-0-to-14
unfolding record_of
returns-in-0-to-14 c = c.both_zero.ensures ∙ kinded-low _ _ _ _ _ _ (omega arith)
    ∙ node-even _ _ _ _ _ refl c.u16_at-number.ensures.0 _ _ c.u16_at-a.ensures.0 c.u16_at-b.ensures.0 (omega arith)

pub returns-in-15-to-17 : goal.returns-in-15-to-17
unfolding record_of
returns-in-15-to-17 c = c.good_own.ensures ∙ kinded-own _ _ _ _ _ _ c.u16_at-a.ensures.0 c.u16_at-b.ensures.0 (omega arith) (omega arith)
    ∙ node-even _ _ _ _ _ refl c.u16_at-number.ensures.0 _ _ c.u16_at-a.ensures.0 c.u16_at-b.ensures.0 (omega arith)

pub returns-in-18 : goal.returns-in-18
unfolding record_of
returns-in-18 c = c.good_children.ensures
    ∙ node-even _ _ _ _ _ refl c.u16_at-number.ensures.0 _ _ c.u16_at-a.ensures.0 c.u16_at-b.ensures.0 (omega arith)

pub returns-in-20-to-31 : goal.returns-in-20-to-31
unfolding record_of
returns-in-20-to-31 c = c.both_zero-in-20-to-31.ensures ∙ kinded-high _ _ _ _ _ _ (omega arith) (omega arith)
    ∙ node-even _ _ _ _ _ refl c.u16_at-number.ensures.0 _ _ c.u16_at-a.ensures.0 c.u16_at-b.ensures.0 (omega arith)

pub returns-in_default : goal.returns-in_default
unfolding record_of
returns-in_default c = node-odd _ _ _ _ _ refl c.u16_at-number.ensures.0 (omega arith)
