-- `write_item::fits_part` meets its contract: beyond the pool, or a part of it that is looked at.
-- Assumes nothing.
use mathlib.Core.Path.{refl, ◌∙◌}
use native.Mathlib.Omega.{arith}
use Rattle.write_item.proofs.Judging.{part-beyond, part-within, part-is}
use Rattle.write_item.proofs.fits_part.Goals.{then-len-first-via-then-len-first, then-len-first-via-else-len-first+then-len-first-2}
use Rattle.write_item.proofs.fits_part.Goals as goal

pub returns-then-len-first : goal.returns-then-len-first
returns-then-len-first c = let a = c.args in
    part-beyond a.pool.now a.first a.second _
    (elim c.then-len-first.branch [
      | then-len-first-via-then-len-first w ↦ omega (arith, w.if-len-first.true)
      | then-len-first-via-else-len-first+then-len-first-2 w ↦ omega (arith, w.if-len-first-2.true)
    ])

pub returns : goal.returns
returns c = let a = c.args in
    rw (← (part-is a.pool.now a.first a.second _ refl)) (c.is_content.ensures ∙ part-within a.pool.now a.first a.second _ (omega arith))
