-- `decoder::clear` meets its contract: the first i bytes are zeros.
-- Assumes nothing.
use mathlib.Core.Path.{◌≡◌, refl, ◌∙◌}
use mathlib.Core.List.{append-nil}
use Prim.Native.Nat.{◌-◌}
use native.Mathlib.Omega.{arith}
use borrow.Author.Fill.{fill_none, fill_more}
use lib.ListN.{length, length-set}
use lib.Seq.{drop-length}
use Rattle.decoder.proofs.clear.Goals as goal

pub loop-i-init : goal.loop-i-init
loop-i-init c = (fill_none c.args.message.now 0, omega arith, refl)

pub loop-i-smaller : goal.loop-i-smaller
loop-i-smaller c = simp length-set (omega arith)

pub loop-i-preserved : goal.loop-i-preserved
loop-i-preserved c =
    (rw c.loop-i.invariant.0 (fill_more c.loop-i.i 0 c.args.message.now (omega arith)), omega arith, simp length-set (omega arith))

pub shape_of-message : goal.shape_of-message
shape_of-message c = c.loop-i.invariant.2

pub returns : goal.returns
returns c = let message = c.args.message.now in
    let e : c.loop-i.i ≡ length message = omega arith in
    c.loop-i.invariant.0 ∙ rw (e, drop-length message, append-nil)
