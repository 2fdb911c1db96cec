-- `row::load` meets its contract.
-- Assumes nothing.
use Rattle.row.proofs.Bytes.{rows_inside, loaded}
use native.Mathlib.Omega.{arith}
use Rattle.row.proofs.load.Goals as goal

pub overflow_mul-at : goal.overflow_mul-at
overflow_mul-at c = omega (arith, rows_inside c.args.rows.now)

pub half-store-requires : goal.half-store-requires
half-store-requires c = omega (arith, rows_inside c.args.rows.now)

pub overflow_add-at : goal.overflow_add-at
overflow_add-at c = omega (arith, rows_inside c.args.rows.now)

pub word-product-requires : goal.word-product-requires
word-product-requires c = omega (arith, rows_inside c.args.rows.now)

pub overflow_add-at-2 : goal.overflow_add-at-2
overflow_add-at-2 c = omega (arith, rows_inside c.args.rows.now)

pub half-offset-requires : goal.half-offset-requires
half-offset-requires c = omega (arith, rows_inside c.args.rows.now)

pub returns : goal.returns
returns c = loaded _ _ _ (λ i. omega (arith, c.shared_slice_known-1.given i)) c.requires c.half-store.ensures c.word-product.ensures c.half-offset.ensures
