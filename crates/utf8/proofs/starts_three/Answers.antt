-- `utf8::starts_three` meets its contract: by the lead byte.
-- Assumes nothing.
use mathlib.Core.Path.{sym, ◌∙◌}
use native.Mathlib.Omega.{arith}
use lib.ListN.{get_or}
use Rattle.wire.specs.Tests.{both}
use Rattle.utf8.proofs.Scan.{below-e0, plain-three, from-e0}
use Rattle.utf8.proofs.starts_three.Goals as goal

pub returns-then-plain : goal.returns-then-plain
returns-then-plain c = let a = c.args in c.is_in.ensures ∙ sym (plain-three (get_or a.s.now a.at 0) _ c.is_in-plain.ensures c.if-plain.true (omega arith) (omega arith))

pub returns-then-lead-lt224 : goal.returns-then-lead-lt224
returns-then-lead-lt224 c = sym (below-e0 _ _ c.if-lead-lt224.true)

pub returns-then-is_second : goal.returns-then-is_second
unfolding both
returns-then-is_second c = rw (from-e0 _ _ c.if-lead-lt224.false, sym c.is_second.ensures ∙ c.if-is_second.true)

pub returns-else-is_second : goal.returns-else-is_second
unfolding both
returns-else-is_second c = c.if-is_second.false ∙ rw (from-e0 _ _ c.if-lead-lt224.false, sym c.is_second.ensures ∙ c.if-is_second.false)
