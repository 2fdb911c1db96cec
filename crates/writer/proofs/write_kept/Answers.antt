-- `writer::write_kept` meets its contract: by how a list that was judged ends.
-- Assumes nothing.
use mathlib.Core.Path.{refl, sym}
use native.Mathlib.Omega.{arith}
use lib.Seq.{length-take-le}
use Rattle.wire.specs.Answers.{room_of}
use Rattle.laws.proofs.Splits.{not-both}
use Rattle.laws.proofs.Tables.{good-table}
use Rattle.write_list.proofs.Going.{few_bytes, gives_whole, sure-rest}
use Rattle.writer.proofs.Promised.{kept_gives, judged-misfit, judged-sure, judged-more, judged-full, judged-short, judged-done}
use Rattle.writer.proofs.write_kept.Goals as goal

pub put_rest-got-requires : goal.put_rest-got-requires
put_rest-got-requires c = record { good_table = good-table _ _ c.requires.table_value; falls = c.requires.kept.reached.falls; sure = record { never = λ j i e. not-both j refl } }

pub returns-then-done-room : goal.returns-then-done-room
unfolding room_of
returns-then-done-room c = let j = kept_gives (few_bytes _ c.well_formed.1.1.1.1.1.0.1) c.requires.kept c.put_rest-got.ensures in judged-more _ j c.in-Ok.is (omega arith)

pub returns-then-out-used : goal.returns-then-out-used
unfolding room_of
returns-then-out-used c = let j = kept_gives (few_bytes _ c.well_formed.1.1.1.1.1.0.1) c.requires.kept c.put_rest-got.ensures in judged-full _ j c.in-Ok.is (few_bytes _ c.well_formed.1.1.1.1.1.1.0.1) (omega arith) c.if-out-used.true

pub slice_bounds-put_bytes-end-then-used-kept : goal.slice_bounds-put_bytes-end-then-used-kept
slice_bounds-put_bytes-end-then-used-kept c = sym (length-take-le _ _ (omega arith))

pub returns-then-used-kept : goal.returns-then-used-kept
unfolding room_of
returns-then-used-kept c = let j = kept_gives (few_bytes _ c.well_formed.1.1.1.1.1.0.1) c.requires.kept c.put_rest-got.ensures in judged-short _ j c.in-Ok.is (few_bytes _ c.well_formed.1.1.1.1.1.1.0.1) (omega arith) c.if-out-used.false (omega (arith, c.requires.kept.same)) c.put_bytes.ensures

pub put_nothing-nothing-requires : goal.put_nothing-nothing-requires
put_nothing-nothing-requires c = c.requires.table_value

pub put_rest-requires : goal.put_rest-requires
put_rest-requires c = let j = kept_gives (few_bytes _ c.well_formed.1.1.1.1.1.0.1) c.requires.kept c.put_rest-got.ensures in let n = c.put_nothing-nothing.ensures.all _ _ c.args.out.now in record { good_table = good-table _ _ c.requires.table_value; falls = n.falls; sure = sure-rest (few_bytes _ c.well_formed.1.1.1.1.1.1.0.1) n.going (judged-sure c.args.out.now j c.in-Ok.is) }

pub returns-in-Err : goal.returns-in-Err
returns-in-Err c = let j = kept_gives (few_bytes _ c.well_formed.1.1.1.1.1.0.1) c.requires.kept c.put_rest-got.ensures in judged-misfit _ j c.in-Err.is

pub returns-else-used-kept : goal.returns-else-used-kept
unfolding room_of
returns-else-used-kept c = let j = kept_gives (few_bytes _ c.well_formed.1.1.1.1.1.0.1) c.requires.kept c.put_rest-got.ensures in judged-done _ j c.in-Ok.is (few_bytes _ c.well_formed.1.1.1.1.1.1.0.1) (omega arith) c.if-out-used.false (gives_whole (few_bytes _ c.well_formed.1.1.1.1.1.1.0.1) (c.put_nothing-nothing.ensures.all _ _ _).going c.put_rest.ensures)
