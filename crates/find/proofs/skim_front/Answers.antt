-- `find::skim_front` meets its contract: nothing in front, or the row's refusal, or where it arrived.
-- Assumes nothing.
use native.Mathlib.Omega.{arith}
use Rattle.find.proofs.Seeking.{falls-front, skimmed-none, skimmed-refused, skimmed-on}
use Rattle.find.proofs.skim_front.Goals as goal

pub u16_at-requires : goal.u16_at-requires
u16_at-requires c = omega (arith, c.requires.falls.inside)

pub returns-then-which-eq0 : goal.returns-then-which-eq0
returns-then-which-eq0 c = skimmed-none _ _ _ _ _ _ c.if-which-eq0.true c.u16_at.ensures.0

pub skim_row-got-requires : goal.skim_row-got-requires
skim_row-got-requires c = let p = c.requires in record { good_table = p.good_table; node_le_nodes = omega arith; falls = falls-front p.falls (omega arith); part_bound = p.part_bound }

pub returns-in-Err : goal.returns-in-Err
returns-in-Err c = skimmed-refused _ _ _ _ _ _ _ c.skim_row-got.ensures c.in-Err.is

pub returns-in-Ok : goal.returns-in-Ok
returns-in-Ok c = skimmed-on _ _ _ _ _ _ _ c.skim_row-got.ensures c.in-Ok.is c.u16_at-in-Ok.ensures.0
