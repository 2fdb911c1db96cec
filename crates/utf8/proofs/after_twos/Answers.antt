-- `utf8::after_twos` meets its contract: the loop's invariant is that what is to be said of the rest stays.
-- Assumes nothing.
use mathlib.Core.Path.{refl, sym, ◌∙◌}
use native.Mathlib.Omega.{arith}
use Rattle.laws.proofs.Utf8.{width_two}
use Rattle.singles.proofs.Passed.{here}
use Rattle.utf8.proofs.Scan.{from-c2, lacking, no_such, bad-two, past_two, done}
use Rattle.utf8.proofs.after_twos.Goals as goal

pub loop-i-init : goal.loop-i-init
loop-i-init c = here _ _ (omega arith)

pub returns-else-is_in : goal.returns-else-is_in
returns-else-is_in c = no_such c.loop-i.invariant c.requires c.is_in.ensures c.if-is_in.false (λ l h w. omega (arith, from-c2 _ l w))

pub returns-else-is_in-2 : goal.returns-else-is_in-2
returns-else-is_in-2 c = bad-two c.loop-i.invariant (omega arith) c.is_in.ensures c.if-is_in.true (omega arith) (omega arith) (sym c.is_in-then-is_in.ensures ∙ c.if-is_in-2.false)

pub loop-i-preserved : goal.loop-i-preserved
loop-i-preserved c = done (past_two c.loop-i.invariant (omega arith) c.is_in.ensures c.if-is_in.true (omega arith) (omega arith) (sym c.is_in-then-is_in.ensures ∙ c.if-is_in-2.true)) _ refl (omega arith) (omega arith) (omega arith)

pub returns-after-loop-i : goal.returns-after-loop-i
returns-after-loop-i c = lacking c.loop-i.invariant c.requires (λ l h w. omega (arith, width_two _ (from-c2 _ l w) (omega arith)))
