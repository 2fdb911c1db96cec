-- `row::put` meets its contract.
-- Assumes nothing.
use Rattle.row.proofs.Bytes.{rows_inside, put-steps}
use native.Mathlib.Omega.{arith}
use Rattle.row.proofs.put.Goals as goal

pub overflow_mul-at : goal.overflow_mul-at
overflow_mul-at c = omega (arith, rows_inside c.args.rows.now)

pub put_half-requires : goal.put_half-requires
put_half-requires c = omega (arith, rows_inside c.args.rows.now)

pub overflow_add-at : goal.overflow_add-at
overflow_add-at c = omega (arith, rows_inside c.args.rows.now)

pub put_word-requires : goal.put_word-requires
put_word-requires c = omega (arith, rows_inside c.args.rows.now)

pub overflow_add-at-2 : goal.overflow_add-at-2
overflow_add-at-2 c = omega (arith, rows_inside c.args.rows.now)

pub put_half-requires-2 : goal.put_half-requires-2
put_half-requires-2 c = omega (arith, rows_inside c.args.rows.now)

pub returns : goal.returns
returns c = put-steps _ _ _ c.put_half.ensures c.put_word.ensures c.put_half-2.ensures
