-- `accumulator::feed_end` meets its contract: the frame is too long for the room, or bad, or decoded.
-- Assumes nothing.
use mathlib.Core.Path.{◌∙◌}
use lib.ListN.{length-take}
use Rattle.wire.specs.Frames.{room}
use Rattle.decoder.proofs.Search.{first}
use Rattle.decoder.proofs.Decoding.{cleared, zeros-long}
use Rattle.accumulator.proofs.Feeding.{end-over, end-bad, end_frame}
use native.Mathlib.Omega.{arith}
use Rattle.accumulator.proofs.feed_end.Goals as goal

pub overflow_add-used : goal.overflow_add-used
overflow_add-used c = omega (arith, (first _ _ c.requires.ends).within)

pub overflow_sub-idx : goal.overflow_sub-idx
unfolding room
overflow_sub-idx c = omega (arith, c.requires.good)

pub returns-then-idx-used : goal.returns-then-idx-used
unfolding room
returns-then-idx-used c = rw (c.no_message.ensures, c.requires.zeros) (end-over c.args.array.now c.args.idx c.args.chunk.now c.requires.good c.requires.ends (omega arith))

pub slice_bounds-front-end : goal.slice_bounds-front-end
unfolding room
slice_bounds-front-end c = omega (arith, length-take c.args.idx c.args.array.now, c.requires)

pub slice_bounds-back-end : goal.slice_bounds-back-end
slice_bounds-back-end c = omega (arith, length-take c.args.n c.args.chunk.now, (first _ _ c.requires.ends).within)

pub decode_parts-decoded-requires : goal.decode_parts-decoded-requires
unfolding room
decode_parts-decoded-requires c = record { fits = omega (arith, length-take c.args.idx c.args.array.now, length-take c.args.n c.args.chunk.now); clean = (first _ _ c.requires.ends).clean; zeros = c.requires.zeros }

pub returns-in_default : goal.returns-in_default
unfolding room
returns-in_default c = let d = c.decode_parts-decoded in
    rw (c.no_message-in_default.ensures, cleared _ c.clear.ensures (d.auto.message ∙ zeros-long c.requires.zeros)) (end-bad c.args.array.now c.args.idx c.args.chunk.now c.requires.good c.requires.ends (omega arith) (rw c.in_default.is at d.ensures))

pub returns : goal.returns
unfolding room
returns c = end_frame c.args.array.now c.args.idx c.args.chunk.now c.requires.good c.requires.ends (omega arith) (rw c.in-Ok.is at c.decode_parts-decoded.ensures)
