-- `recorded::field::is_whole` meets its contract: what is left is to be as many fields as are left.
-- Assumes nothing.
use mathlib.Core.Path.{◌≡◌, ◌∙◌}
use Prim.Native.Nat.{◌+◌, ◌-◌}
use native.Mathlib.Omega.{arith}
use Rattle.recorded.proofs.Fields.{whole-more, whole-cut, whole-none}
use Rattle.recorded.proofs.field.is_whole.Goals as goal

pub loop-init : goal.loop-init
loop-init c = let all : c.args.fields - 0 ≡ c.args.fields = omega arith in rw all

pub returns-then-end_of-eq0 : goal.returns-then-end_of-eq0
returns-then-end_of-eq0 c = whole-cut _ _ (omega arith) (omega (arith, c.end_of.ensures.right)) ∙ c.loop.invariant

pub loop-preserved : goal.loop-preserved
loop-preserved c =
    let next : c.args.fields - (c.loop.counter + 1) ≡ c.args.fields - c.loop.counter - 1 = omega arith in
    rw (next, c.behind-rest.ensures)
    (whole-more _ _ (omega arith) (λ e. c.if-end_of-eq0.false (c.end_of.ensures.right ∙ e)) ∙ c.loop.invariant)

pub returns : goal.returns
returns c = c.is_empty.ensures ∙ whole-none _ _ (omega arith) ∙ c.loop.invariant
