-- `keeping::lay` meets its contract.
-- Assumes nothing.
use native.Mathlib.Omega.{arith}
use Rattle.keeping.proofs.Laying.{second_fits, lay-twelve, lay-ends}
use Rattle.keeping.proofs.lay.Goals as goal

pub place_of-store-requires : goal.place_of-store-requires
place_of-store-requires c = omega (arith, second_fits c.requires.keyed_by)

pub place_of-product-requires : goal.place_of-product-requires
place_of-product-requires c = omega (arith, second_fits c.requires.keyed_by)

pub keep-requires : goal.keep-requires
keep-requires c = record { keyed_by = c.requires.keyed_by; keeps = c.requires.keeps; area_nonzero = c.requires.area_nonzero }

pub put_trailer-requires : goal.put_trailer-requires
put_trailer-requires c = record { out_len = lay-twelve c.args.count c.requires.keyed_by c.requires.keeps c.requires.out_len c.keep.ensures (λ i. omega (arith, c.shared_slice_known-3-1.given i)) c.sort.ensures; count_bound = omega (arith, c.requires.out_len, c.well_formed.1.1.1.1.1.1.1.1.0.1) }

pub returns : goal.returns
returns c = lay-ends c.args.count c.requires.keyed_by c.requires.keeps c.requires.out_len c.keep.ensures (λ i. omega (arith, c.shared_slice_known-3-1.given i)) c.sort.ensures c.place_of-store.ensures c.place_of-product.ensures c.put_trailer.ensures
