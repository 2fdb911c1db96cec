-- `find::leads` meets its contract: position by position, the path leads from a node where it leads from the root.
-- Assumes nothing.
use mathlib.Core.Path.{sym, ap, ◌∙◌}
use native.Mathlib.Omega.{arith}
use Rattle.wire.specs.Table.{kind_of}
use Rattle.desk.specs.Path.{is_field, is_passed}
use Rattle.find.proofs.Leading.{lead-start, lead-stop, lead-wide, lead-next, lead-end}
use Rattle.find.proofs.leads.Goals as goal

pub loop-which-init : goal.loop-which-init
loop-which-init c = lead-start c.requires _

pub returns-then-not-is_passed : goal.returns-then-not-is_passed
returns-then-not-is_passed c = lead-stop c.requires _ c.loop-which.invariant c.loop-which-test.true
    (ap (λ k. is_passed (kind_of k)) (sym c.kind_at-number.ensures) ∙ sym c.is_passed.ensures ∙ c.if-not-is_passed.true)

pub returns-then-width-which : goal.returns-then-width-which
returns-then-width-which c = lead-wide c.requires _ c.loop-which.invariant c.loop-which-test.true (omega (arith, c.child_count-width.ensures))

pub loop-which-preserved : goal.loop-which-preserved
loop-which-preserved c = lead-next c.requires _ c.loop-which.invariant c.loop-which-test.true
    (ap (λ k. is_passed (kind_of k)) (sym c.kind_at-number.ensures) ∙ sym c.is_passed.ensures ∙ c.if-not-is_passed.false)
    (omega (arith, c.child_count-width.ensures)) c.child_at-node.ensures

pub returns : goal.returns
returns c = c.is_field.ensures ∙ ap (λ k. is_field (kind_of k)) c.kind_at-last.ensures ∙ sym (lead-end c.requires _ c.loop-which.invariant c.loop-which-test.false)
