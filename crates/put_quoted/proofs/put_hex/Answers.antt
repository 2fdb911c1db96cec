-- `put_quoted::put_hex` meets its contract: bytes that have no room are counted, and those that have are stored between their quotes.
-- Assumes nothing.
use mathlib.Core.Path.{sym}
use native.Mathlib.Omega.{arith}
use lib.ListN.{length-set}
use Rattle.desk.specs.Csv.{hexes}
use Rattle.put_number.proofs.Laying.{quoted-beyond, quoted-fits, quoted-inside}
use Rattle.put_quoted.proofs.Quoting.{hexes-long}
use Rattle.put_quoted.proofs.put_hex.Goals as goal

pub returns-then-out-end : goal.returns-then-out-end
returns-then-out-end c = quoted-beyond _ _ (sym (hexes-long _)) c.add-inside.ensures c.add-end.ensures (omega arith) (omega arith)

pub bounds-out-used : goal.bounds-out-used
bounds-out-used c = omega (arith, quoted-fits (hexes c.args.bytes.now) _ (sym (hexes-long _)) c.add-inside.ensures c.add-end.ensures (omega arith) c.if-out-end.false)

pub overflow_add-used : goal.overflow_add-used
overflow_add-used c = omega (arith, quoted-fits (hexes c.args.bytes.now) _ (sym (hexes-long _)) c.add-inside.ensures c.add-end.ensures (omega arith) c.if-out-end.false)

pub fill_hexes-requires : goal.fill_hexes-requires
fill_hexes-requires c = simp length-set (omega (arith, quoted-fits (hexes c.args.bytes.now) _ (sym (hexes-long _)) c.add-inside.ensures c.add-end.ensures (omega arith) c.if-out-end.false))

pub overflow_sub-out : goal.overflow_sub-out
overflow_sub-out c = omega (arith, quoted-fits (hexes c.args.bytes.now) _ (sym (hexes-long _)) c.add-inside.ensures c.add-end.ensures (omega arith) c.if-out-end.false)

pub bounds-out-end : goal.bounds-out-end
bounds-out-end c = omega (arith, quoted-fits (hexes c.args.bytes.now) _ (sym (hexes-long _)) c.add-inside.ensures c.add-end.ensures (omega arith) c.if-out-end.false, simp length-set at c.out-1.given)

pub shape_of-out : goal.shape_of-out
shape_of-out c = simp length-set (simp length-set at c.out-1.given)

pub returns : goal.returns
returns c = quoted-inside _ _ (sym (hexes-long _)) c.add-inside.ensures c.add-end.ensures (omega arith) c.if-out-end.false c.fill_hexes.ensures
