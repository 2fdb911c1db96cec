-- `columns::all_fields` meets its contract: the loop's invariant is that all fields have a style if those from the i-th on do.
-- Assumes nothing.
use mathlib.Core.Path.{refl}
use native.Mathlib.Omega.{arith}
use Rattle.columns.proofs.Styled.{Going, going-begin, going-stops, going_on, going_end, at_first, at_next}
use Rattle.columns.proofs.all_fields.Goals as goal

pub loop-i-init : goal.loop-i-init
loop-i-init c = at_first (Going c.args.table.now c.args.l c.args.fields.from c.args.fields.width) _ _ (going-begin c.requires.falls)

pub returns-then-not-is_field : goal.returns-then-not-is_field
returns-then-not-is_field c = going-stops c.requires.good_table c.loop-i.invariant (omega (arith, c.loop-i-test.true)) refl c.kind.ensures c.is_field.ensures c.if-not-is_field.true

pub loop-i-preserved : goal.loop-i-preserved
loop-i-preserved c =
    at_next (Going c.args.table.now c.args.l c.args.fields.from c.args.fields.width) _ _ c.loop-i.i
    (going_on c.requires.good_table c.loop-i.invariant (omega (arith, c.loop-i-test.true)) refl c.kind.ensures c.is_field.ensures c.if-not-is_field.false)

pub returns : goal.returns
returns c = going_end c.requires.good_table c.loop-i.invariant (omega (arith, c.loop-i-test.false))
