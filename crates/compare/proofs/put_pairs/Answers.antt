-- `compare::put_pairs` meets its contract: by the pairs that were kept, or by another walk.
-- Assumes nothing.
use mathlib.Core.Path.{◌∙◌}
use native.Mathlib.Omega.{arith}
use Rattle.compare.proofs.Promised.{tells, few-listed, many-listed}
use Rattle.compare.proofs.put_pairs.Goals as goal

pub put_front-requires : goal.put_front-requires
put_front-requires c = (omega (arith, c.requires.count_in_bounds), omega (arith, c.room-kept.ensures))

pub returns-then-count-kept : goal.returns-then-count-kept
returns-then-count-kept c = c.put_front.ensures ∙ few-listed c.requires.kept _ c.requires.count_in_bounds (omega (arith, c.room-kept.ensures))

pub returns : goal.returns
returns c = many-listed c.requires.kept _ c.requires.count_in_bounds (tells _ _ _ _ c.requires.table_value c.walk_root-again.ensures)
