-- `writer::write_list` meets its contract: a text or bytes alone, a list of leaves only, which was judged and stands where it was put, or any other.
-- Assumes nothing.
use mathlib.Core.Path.{refl, sym}
use native.Mathlib.Omega.{arith}
use lib.ListN.{length}
use lib.Seq.{length-take-le}
use borrow.Author.Rules.{rules}
use Rattle.wire.specs.Answers.{room_of}
use Rattle.laws.proofs.Parts.{tail}
use Rattle.laws.proofs.Tables.{good-table}
use Rattle.write_list.proofs.Going.{few_bytes}
use Rattle.write_list.proofs.Fronts.{low-leaf, root-leaf, reaches_end}
use Rattle.writer.proofs.Promised.{is-kept, judged-short, writes-whole}
use Rattle.writer.proofs.Alone.{are-whole}
use Rattle.writer.proofs.write_list.Goals as goal

pub kind_at-number-requires : goal.kind_at-number-requires
kind_at-number-requires c = let g = good-table _ _ c.requires in record { good_table = g; i_lt_nodes = g.root_below }

pub write_alone-requires : goal.write_alone-requires
write_alone-requires c = record { le_number = (omega arith, omega arith); words_len = c.if-len-eq-WORDS.true }

pub returns-then-number-le13 : goal.returns-then-number-le13
returns-then-number-le13 c = let leaf = low-leaf c.kind_at-number.result (omega arith) in writes-whole _ _ _ _ c.requires (are-whole (length c.args.words.now) 1 (omega arith)) (rw (root-leaf _ c.requires c.kind_at-number.ensures leaf c.args.pool.now c.args.words.now) c.write_alone.ensures)

pub write_begun-requires : goal.write_begun-requires
write_begun-requires c = let a = c.args in let t = tail a.table.now 0 in let w = tail a.words.now 0 in let p = tail a.pool.now 0 in rw (t, w, p) (record { table_value = c.requires; kept = is-kept (c.put_nothing-nothing.ensures.all _ _ _) refl })

pub returns-then-len-gt-FEW : goal.returns-then-len-gt-FEW
returns-then-len-gt-FEW c = let a = c.args in let t = tail a.table.now 0 in let w = tail a.words.now 0 in let p = tail a.pool.now 0 in rw (t, w, p) at c.write_begun.ensures

pub slice_bounds-put_bytes-end : goal.slice_bounds-put_bytes-end
slice_bounds-put_bytes-end c = sym (length-take-le _ _ (omega arith))

pub returns-then-n-out : goal.returns-then-n-out
unfolding room_of
returns-then-n-out c = let whole = c.if-front-len.true in writes-whole _ _ _ _ c.requires (are-whole (length c.args.words.now) _ whole) (judged-short _ (reaches_end c.put_front-front.ensures c.if-front-eq0.true) refl (few_bytes _ c.well_formed.1.1.1.1.0.1) (omega arith) c.if-n-out.true (omega arith) c.put_bytes.ensures)

pub write_begun-requires-2 : goal.write_begun-requires-2
write_begun-requires-2 c = let a = c.args in let t = tail a.table.now 0 in let w = tail a.words.now 0 in let p = tail a.pool.now 0 in rw (t, w, p) (record { table_value = c.requires; kept = is-kept c.put_front-front.ensures (search rules) })

pub returns : goal.returns
returns c = let a = c.args in let t = tail a.table.now 0 in let w = tail a.words.now 0 in let p = tail a.pool.now 0 in rw (t, w, p) at c.write_begun-2.ensures
