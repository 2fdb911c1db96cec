-- `utf8::first_char` meets its contract: the loop's invariant is `Point`.
-- Assumes nothing.
use mathlib.Core.Path.{refl, sym}
use native.Mathlib.Omega.{arith}
use Rattle.laws.proofs.Splits.{by-lt}
use Rattle.laws.proofs.Utf8.{width_one}
use Rattle.utf8.specs.Chars.{over_of}
use Rattle.utf8.proofs.Points.{begin, none, fits, done, cut, again}
use Rattle.utf8.proofs.first_char.Goals as goal

pub returns-then-s-eq0 : goal.returns-then-s-eq0
returns-then-s-eq0 c = none _ c.if-s-eq0.true

pub returns-then-lead-lt128 : goal.returns-then-lead-lt128
returns-then-lead-lt128 c = done (begin _ (omega (arith, c.if-s-eq0.false)) (c.type_inv.s 0).fits (sym (width_one _ c.if-lead-lt128.true)) c.lead_part-value.ensures) (omega arith)

pub loop-i-init : goal.loop-i-init
loop-i-init c = begin _ (omega (arith, c.if-s-eq0.false)) (c.type_inv.s 0).fits c.width-wide.ensures c.lead_part-value.ensures

pub overflow_mul-value : goal.overflow_mul-value
overflow_mul-value c = omega (arith, fits c.loop-i.invariant {x = over_of 0} refl (omega arith))

pub overflow_add-value : goal.overflow_add-value
overflow_add-value c = record { fits = fits c.loop-i.invariant c.over.ensures (c.type_inv.s _).fits }

pub loop-i-preserved : goal.loop-i-preserved
loop-i-preserved c = rw c.over.ensures (again c.loop-i.invariant (omega arith) (omega arith) (c.type_inv.s _).fits)

pub returns : goal.returns
returns c = by-lt c.loop-i.i c.width-wide.result (λ h. cut c.loop-i.invariant (omega arith)) (λ h. done c.loop-i.invariant h)
