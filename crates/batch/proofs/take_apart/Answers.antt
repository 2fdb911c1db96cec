-- `batch::take_apart` meets its contract.
-- Assumes nothing.
use native.Mathlib.Omega.{arith}
use Rattle.laws.proofs.Tables.{good-table}
use Rattle.batch.proofs.Opening.{too_short_lem, bad-fields, bad-distance, bad-start, good-parts, count-bound}
use Rattle.batch.proofs.take_apart.Goals as goal

pub returns-then-len-lt-TRAILER : goal.returns-then-len-lt-TRAILER
returns-then-len-lt-TRAILER c = too_short_lem _ _ _ c.if-len-lt-TRAILER.true

pub fields_of-requires : goal.fields_of-requires
fields_of-requires c = good-table _ _ c.requires

pub returns-in_default : goal.returns-in_default
returns-in_default c = bad-fields _ _ _ _ (omega (arith, c.if-len-lt-TRAILER.false)) _ _ c.u16_at-store.ensures.0 c.u16_at-product.ensures.0 c.fields_of.ensures c.in_default.is

pub overflow_mul-count : goal.overflow_mul-count
overflow_mul-count c = omega (arith, count-bound _ _ (λ i. omega (arith, c.shared_slice_known-2-1.given i)) c.half-count.ensures)

pub returns-then-distance-count : goal.returns-then-distance-count
returns-then-distance-count c = bad-distance _ _ _ _ (omega (arith, c.if-len-lt-TRAILER.false)) _ _ c.u16_at-store.ensures.0 c.u16_at-product.ensures.0 c.fields_of.ensures c.in-Some.is c.half-count.ensures c.half-distance.ensures c.if-distance-count.true

pub returns-then-end-back : goal.returns-then-end-back
returns-then-end-back c = bad-start _ _ _ _ (omega (arith, c.if-len-lt-TRAILER.false)) _ _ c.u16_at-store.ensures.0 c.u16_at-product.ensures.0 c.fields_of.ensures c.in-Some.is c.half-count.ensures c.half-distance.ensures c.if-distance-count.false c.if-end-back.true

pub returns : goal.returns
returns c = good-parts _ _ _ _ (omega (arith, c.if-len-lt-TRAILER.false)) _ _ c.u16_at-store.ensures.0 c.u16_at-product.ensures.0 c.fields_of.ensures c.in-Some.is c.half-count.ensures c.half-distance.ensures c.if-distance-count.false c.if-end-back.false
