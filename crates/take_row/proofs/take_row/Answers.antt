-- `take_row::take_row` meets its contract: the loop's invariant is that what is laid and what is left to take are the message.
-- Assumes nothing.
use Rattle.std.proofs.lemmas.Result.{err_from_is_err_and}
use mathlib.Core.Path.{refl}
use Prim.Native.Nat.{◌<◌, ◌-◌}
use native.Mathlib.Omega.{arith}
use Rattle.columns.proofs.Styled.{rowed-first}
use Rattle.take_row.proofs.Rows.{going-begin, going-at-first, going-at-next, going-no-comma, going-begun, going-stops, going_next, going-cut, going_end}
use Rattle.take_row.proofs.take_row.Goals as goal

pub loop-i-init : goal.loop-i-init
loop-i-init c = going-at-first _ _ _ _ _ _ (going-begin _ _ (omega arith) c.requires)

pub returns-in_err-start : goal.returns-in_err-start
returns-in_err-start c =
    let p = err_from_is_err_and c.from_residual.result c.from_residual.ensures.1 in
    rw (p.1, p.2) (going-no-comma c.loop-i.invariant (omega (arith, c.loop-i-test.true)) refl c.kind-number.ensures c.in_err-start.ensures)

pub take_field-requires : goal.take_field-requires
take_field-requires c =
    record {
      number_value = rowed-first c.loop-i.invariant.rowed (omega (arith, c.loop-i-test.true)) refl c.kind-number.ensures;
      at_in_bounds = (going-begun c.loop-i.invariant (omega (arith, c.loop-i-test.true)) refl c.kind-number.ensures c.in_ok-start.ensures).inside;
    }

pub returns-in_err-taken : goal.returns-in_err-taken
returns-in_err-taken c =
    let p = err_from_is_err_and c.from_residual-in_err-taken.result c.from_residual-in_err-taken.ensures.1 in
    let h : 0 < c.args.fields.width - c.loop-i.i = omega (arith, c.loop-i-test.true) in
    rw (p.1, p.2) (going-stops c.loop-i.invariant h refl c.kind-number.ensures (going-begun c.loop-i.invariant h refl c.kind-number.ensures c.in_ok-start.ensures) c.in_err-taken.ensures)

pub loop-i-preserved : goal.loop-i-preserved
loop-i-preserved c =
    let h : 0 < c.args.fields.width - c.loop-i.i = omega (arith, c.loop-i-test.true) in
    going-at-next _ _ _ _ _ _ c.loop-i.i
    (going_next c.loop-i.invariant h refl c.kind-number.ensures (going-begun c.loop-i.invariant h refl c.kind-number.ensures c.in_ok-start.ensures) c.in_ok-taken.ensures)

pub returns-in_err-end_of : goal.returns-in_err-end_of
returns-in_err-end_of c =
    let p = err_from_is_err_and c.from_residual-in_err-end_of.result c.from_residual-in_err-end_of.ensures.1 in
    rw (p.1, p.2) (going-cut c.loop-i.invariant (omega (arith, c.loop-i-test.false)) c.in_err-end_of.ensures)

pub returns : goal.returns
returns c = going_end c.loop-i.invariant (omega (arith, c.loop-i-test.false)) c.in_ok-end_of.ensures
