-- `utf8::after_fours` meets its contract: the loop's invariant is that what is to be said of the rest stays.
-- Assumes nothing.
use mathlib.Core.Path.{refl, sym, ◌∙◌}
use Prim.Native.Nat.{◌+◌}
use native.Mathlib.Omega.{arith}
use Rattle.laws.proofs.Utf8.{width_four}
use Rattle.singles.proofs.Passed.{here}
use Rattle.utf8.proofs.Scan.{four-lead, to-f4, lacking, no_such, refused, bad-second, past-second, refuses, goes_on, done}
use Rattle.utf8.proofs.after_fours.Goals as goal

pub loop-i-init : goal.loop-i-init
loop-i-init c = here _ _ (omega arith)

pub returns-else-is_in : goal.returns-else-is_in
returns-else-is_in c = no_such c.loop-i.invariant c.requires c.is_in.ensures c.if-is_in.false (λ l h w. omega (arith, to-f4 _ w))

pub returns-else-is_second : goal.returns-else-is_second
returns-else-is_second c = bad-second c.loop-i.invariant (omega arith) 2 (four-lead c.loop-i.invariant c.is_in.ensures c.if-is_in.true (omega arith) (omega arith)) (sym c.is_second.ensures ∙ c.if-is_second.false)

pub returns-else-is_in-2 : goal.returns-else-is_in-2
returns-else-is_in-2 c = refused c.loop-i.invariant (refuses (past-second c.loop-i.invariant (omega arith) 2 (four-lead c.loop-i.invariant c.is_in.ensures c.if-is_in.true (omega arith) (omega arith)) (sym c.is_second.ensures ∙ c.if-is_second.true)) (omega arith) 1 refl c.is_in-then-is_second.ensures c.if-is_in-2.false)

pub returns-else-is_in-3 : goal.returns-else-is_in-3
returns-else-is_in-3 c = refused c.loop-i.invariant (refuses (goes_on (past-second c.loop-i.invariant (omega arith) 2 (four-lead c.loop-i.invariant c.is_in.ensures c.if-is_in.true (omega arith) (omega arith)) (sym c.is_second.ensures ∙ c.if-is_second.true)) (omega arith) 1 refl c.is_in-then-is_second.ensures _ (omega arith) c.if-is_in-2.true) (omega arith) 0 refl c.is_in-then-is_in-2.ensures c.if-is_in-3.false)

pub loop-i-preserved : goal.loop-i-preserved
loop-i-preserved c = done (goes_on (goes_on (past-second c.loop-i.invariant (omega arith) 2 (four-lead c.loop-i.invariant c.is_in.ensures c.if-is_in.true (omega arith) (omega arith)) (sym c.is_second.ensures ∙ c.if-is_second.true)) (omega arith) 1 refl c.is_in-then-is_second.ensures _ (omega arith) c.if-is_in-2.true) (omega arith) 0 refl c.is_in-then-is_in-2.ensures (c.loop-i.i + 4) (omega arith) c.if-is_in-3.true) _ refl (omega arith) (omega arith) (omega arith)

pub returns-after-loop-i : goal.returns-after-loop-i
returns-after-loop-i c = lacking c.loop-i.invariant c.requires (λ l h w. let m = to-f4 _ w in omega (arith, width_four _ l (omega arith)))
