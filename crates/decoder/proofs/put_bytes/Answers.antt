-- `decoder::put_bytes` meets its contract: the part's first i bytes are pasted into the array.
-- Assumes nothing.
use mathlib.Core.Path.{refl, ◌∙◌}
use Prim.Native.Nat.{◌-◌}
use native.Mathlib.Omega.{arith}
use native.Mathlib.Numerals.{add-one}
use lib.ListN.{length-set}
use lib.Seq.{paste-zero, paste-suc}
use Rattle.wire.specs.Frames.{room}
use Rattle.decoder.proofs.Chunks.{pasted}
use Rattle.decoder.proofs.put_bytes.Goals as goal

pub loop-i-init : goal.loop-i-init
loop-i-init c = let a = c.args in (paste-zero a.array.now a.at a.part.now, omega arith, refl)

pub overflow_add-to : goal.overflow_add-to
unfolding room
overflow_add-to c = omega arith

pub bounds-array-to : goal.bounds-array-to
unfolding room
bounds-array-to c = omega arith

pub loop-i-preserved : goal.loop-i-preserved
unfolding room
loop-i-preserved c = let a = c.args in
    let i = c.loop-i.i in
    (rw (c.loop-i.invariant.0, add-one) (paste-suc a.array.now a.at a.part.now i 0 (omega arith) (omega arith)), omega arith, simp length-set (omega arith))

pub shape_of-array : goal.shape_of-array
shape_of-array c = c.loop-i.invariant.2

pub returns : goal.returns
returns c = let a = c.args in
    c.loop-i.invariant.0 ∙ pasted a.array.now a.part.now a.at c.loop-i.i (omega arith)
