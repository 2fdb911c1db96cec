-- `put_quoted::put_text` meets its contract: a text that has no room is counted, and one that has is stored between its quotes.
-- Assumes nothing.
use native.Mathlib.Omega.{arith}
use lib.ListN.{length-set}
use Rattle.desk.specs.Csv.{doubled}
use Rattle.put_number.proofs.Laying.{quoted-beyond, quoted-fits, quoted-inside}
use Rattle.put_quoted.proofs.put_text.Goals as goal

pub overflow_add-n : goal.overflow_add-n
overflow_add-n c = omega (arith, c.quotes-extra.ensures.1)

pub returns-then-out-end : goal.returns-then-out-end
returns-then-out-end c = quoted-beyond _ _ c.quotes-extra.ensures.0 c.add-inside.ensures c.add-end.ensures (omega arith) (omega arith)

pub bounds-out-used : goal.bounds-out-used
bounds-out-used c = omega (arith, quoted-fits (doubled c.args.bytes.now) _ c.quotes-extra.ensures.0 c.add-inside.ensures c.add-end.ensures (omega arith) c.if-out-end.false)

pub overflow_add-used : goal.overflow_add-used
overflow_add-used c = omega (arith, quoted-fits (doubled c.args.bytes.now) _ c.quotes-extra.ensures.0 c.add-inside.ensures c.add-end.ensures (omega arith) c.if-out-end.false)

pub fill_text-requires : goal.fill_text-requires
fill_text-requires c = record { extra_len = c.quotes-extra.ensures.0; bytes_in_bounds = simp length-set (omega (arith, quoted-fits (doubled c.args.bytes.now) _ c.quotes-extra.ensures.0 c.add-inside.ensures c.add-end.ensures (omega arith) c.if-out-end.false)) }

pub overflow_sub-out : goal.overflow_sub-out
overflow_sub-out c = omega (arith, quoted-fits (doubled c.args.bytes.now) _ c.quotes-extra.ensures.0 c.add-inside.ensures c.add-end.ensures (omega arith) c.if-out-end.false)

pub bounds-out-end : goal.bounds-out-end
bounds-out-end c = omega (arith, quoted-fits (doubled c.args.bytes.now) _ c.quotes-extra.ensures.0 c.add-inside.ensures c.add-end.ensures (omega arith) c.if-out-end.false, simp length-set at c.out-1.given)

pub shape_of-out : goal.shape_of-out
shape_of-out c = simp length-set (simp length-set at c.out-1.given)

pub returns : goal.returns
returns c = quoted-inside _ _ c.quotes-extra.ensures.0 c.add-inside.ensures c.add-end.ensures (omega arith) c.if-out-end.false c.fill_text.ensures
