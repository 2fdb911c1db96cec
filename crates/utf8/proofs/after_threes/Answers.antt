-- `utf8::after_threes` meets its contract: the loop's invariant is that what is to be said of the rest stays.
-- Assumes nothing.
use mathlib.Core.Path.{refl, sym, ◌∙◌}
use Prim.Native.Nat.{◌+◌}
use native.Mathlib.Omega.{arith}
use Rattle.laws.proofs.Utf8.{width_three}
use Rattle.singles.proofs.Passed.{here}
use Rattle.utf8.proofs.Scan.{lacking, refused, no-three, past_three, refuses, goes_on, done}
use Rattle.utf8.proofs.after_threes.Goals as goal

pub loop-i-init : goal.loop-i-init
loop-i-init c = here _ _ (omega arith)

pub returns-else-starts_three : goal.returns-else-starts_three
returns-else-starts_three c = no-three c.loop-i.invariant (omega arith) c.requires (sym c.starts_three.ensures ∙ c.if-starts_three.false)

pub returns-else-is_in : goal.returns-else-is_in
returns-else-is_in c = refused c.loop-i.invariant (refuses (past_three c.loop-i.invariant (omega arith) (sym c.starts_three.ensures ∙ c.if-starts_three.true)) (omega arith) 0 refl c.is_in.ensures c.if-is_in.false)

pub loop-i-preserved : goal.loop-i-preserved
loop-i-preserved c = done (goes_on (past_three c.loop-i.invariant (omega arith) (sym c.starts_three.ensures ∙ c.if-starts_three.true)) (omega arith) 0 refl c.is_in.ensures (c.loop-i.i + 3) (omega arith) c.if-is_in.true) _ refl (omega arith) (omega arith) (omega arith)

pub returns-after-loop-i : goal.returns-after-loop-i
returns-after-loop-i c = lacking c.loop-i.invariant c.requires (λ l h w. omega (arith, width_three _ l (omega arith)))
