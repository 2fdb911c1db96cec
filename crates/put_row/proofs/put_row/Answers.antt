-- `put_row::put_row` meets its contract: the loop's invariant is that what is laid and what is left to lay are the row.
-- Assumes nothing.
use Rattle.std.proofs.lemmas.Result.{err_from_is_err_and}
use mathlib.Core.Path.{refl}
use native.Mathlib.Omega.{arith}
use Rattle.columns.proofs.Styled.{rowed-first}
use Rattle.put_row.proofs.Telling.{going-begin, going-at-first, going-at-next, going-stops, going_next, going_end, one_inside, is-laid, is-refused}
use Rattle.put_row.proofs.put_row.Goals as goal

pub loop-i-init : goal.loop-i-init
loop-i-init c = going-at-first _ _ _ _ _ _ (going-begin _ _ c.requires)

pub put_next-requires : goal.put_next-requires
put_next-requires c = record { place_in_bounds = c.loop-i.invariant.inside; number_value = rowed-first c.loop-i.invariant.rowed (omega (arith, c.loop-i-test.true)) refl c.kind-number.ensures }

pub returns-in_err-laid : goal.returns-in_err-laid
returns-in_err-laid c =
    let p = err_from_is_err_and c.from_residual.result c.from_residual.ensures.1 in
    let x = is-refused c.in_err-laid.ensures refl in
    rw (p.1, p.2) (going-stops c.loop-i.invariant (omega (arith, c.loop-i-test.true)) refl c.kind-number.ensures x.long x.is)

pub loop-i-preserved : goal.loop-i-preserved
loop-i-preserved c =
    let x = is-laid c.in_ok-laid.ensures refl in
    going-at-next _ _ _ _ _ _ c.loop-i.i
    (going_next c.loop-i.invariant (omega (arith, c.loop-i-test.true)) refl c.kind-number.ensures (omega arith) x.bytes x.is (one_inside _ _ _ _ c.loop-i.invariant.inside x.is) x.lays)

pub returns : goal.returns
returns c = going_end c.loop-i.invariant (omega arith) (omega (arith, c.loop-i-test.false)) c.put_end-len.ensures
