-- `recorded::field::part` meets its contract: the part is the one so many fields on in what is left.
-- Assumes nothing.
use mathlib.Core.Path.{◌≡◌, ◌∙◌}
use Prim.Native.Nat.{◌+◌, ◌-◌}
use native.Mathlib.Omega.{arith}
use Rattle.recorded.proofs.Fields.{part-more, part_none}
use Rattle.recorded.proofs.field.part.Goals as goal

pub loop-init : goal.loop-init
loop-init c = let all : c.args.which - 0 ≡ c.args.which = omega arith in rw all

pub loop-preserved : goal.loop-preserved
loop-preserved c =
    let next : c.args.which - (c.loop.counter + 1) ≡ c.args.which - c.loop.counter - 1 = omega arith in
    rw (next, c.behind-rest.ensures) (part-more _ _ (omega arith) ∙ c.loop.invariant)

pub returns : goal.returns
returns c = c.first.ensures ∙ part_none _ _ (omega arith) ∙ c.loop.invariant
