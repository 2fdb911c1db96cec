-- `compare::compare_by` meets its contract, by what the walk tells of the comparison.
-- Assumes nothing.
use native.Mathlib.Omega.{arith}
use Rattle.compare.proofs.Promised.{tells, apart-compares, short-compares, both-kept, done-compares}
use Rattle.compare.proofs.compare_by.Goals as goal

pub returns-in_default : goal.returns-in_default
returns-in_default c = apart-compares _ (tells _ _ _ _ c.requires c.walk_root-got.ensures) c.in_default.is c.refusal.ensures

pub returns-then-room-count : goal.returns-then-room-count
returns-then-room-count c = short-compares (tells _ _ _ _ c.requires c.walk_root-got.ensures) c.in-Some.is _ (omega (arith, c.room.ensures))

pub put_pairs-requires : goal.put_pairs-requires
put_pairs-requires c = record { table_value = c.requires; kept = both-kept (tells _ _ _ _ c.requires c.walk_root-got.ensures) c.in-Some.is; count_in_bounds = omega (arith, c.room.ensures) }

pub returns : goal.returns
returns c = done-compares (both-kept (tells _ _ _ _ c.requires c.walk_root-got.ensures) c.in-Some.is) _ (omega (arith, c.room.ensures)) c.put_pairs.ensures
