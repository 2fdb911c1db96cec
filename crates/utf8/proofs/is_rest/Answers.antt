-- `utf8::is_rest` meets its contract: the loop's invariant is that what is to be said of the rest stays.
-- Assumes nothing.
use mathlib.Core.Path.{refl, sym, ◌∙◌}
use native.Mathlib.Omega.{arith}
use borrow.Author.Rules.{rules}
use Rattle.singles.proofs.Passed.{here, on, single, all_read}
use Rattle.utf8.proofs.is_rest.Goals as goal

pub loop-i-init : goal.loop-i-init
loop-i-init c = here _ _ (search rules)

pub loop-i-preserved-then-b-lt128 : goal.loop-i-preserved-then-b-lt128
loop-i-preserved-then-b-lt128 c = on (single _ refl (omega arith) (omega arith) c.loop-i.invariant) c.after_run-i.ensures

pub after_alike-next-requires : goal.after_alike-next-requires
after_alike-next-requires c = record { inside = search rules; from = search rules; to = omega (arith, (c.shared_slice_known-in-loop-i-1.given c.loop-i.i).fits) }

pub returns-then-next-i : goal.returns-then-next-i
returns-then-next-i c = sym (c.after_alike-next.ensures.none (omega arith)) ∙ c.loop-i.invariant.same

pub loop-i-smaller : goal.loop-i-smaller
loop-i-smaller c = omega (arith, c.if-next-i.false)

pub loop-i-preserved : goal.loop-i-preserved
loop-i-preserved c = on c.loop-i.invariant c.after_alike-next.ensures.same

pub returns : goal.returns
returns c = all_read c.loop-i.invariant c.loop-i-test.false
