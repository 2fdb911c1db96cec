-- `decoder::decode_parts` meets its contract: a frame in one part is decoded as it is; a zero in front makes the frame bad, and else the parts are joined and decoded.
-- Assumes nothing.
use mathlib.Core.Path.{sym, ◌∙◌}
use lib.ListN.{length-append}
use Rattle.wire.specs.Frames.{room}
use Rattle.decoder.proofs.Search.{found_at, found_none, clean-both}
use Rattle.decoder.proofs.Chunks.{no_front, joined}
use Rattle.decoder.proofs.Decoding.{front-zero}
use native.Mathlib.Omega.{arith}
use Rattle.decoder.proofs.decode_parts.Goals as goal

pub decode-requires : goal.decode-requires
decode-requires c = let p = c.requires in
    record { fits = omega (arith, p.fits); clean = p.clean; zeros = p.zeros }

pub returns-then-front-eq0 : goal.returns-then-front-eq0
returns-then-front-eq0 c = rw (no_front c.args.front.now c.args.back.now c.if-front-eq0.true) c.decode.ensures

pub returns-in_default : goal.returns-in_default
returns-in_default c = front-zero c.args.front.now c.args.back.now (found_at _ (sym c.in_default.is ∙ c.first_zero-found.ensures))

pub put-requires : goal.put-requires
unfolding room
put-requires c = (omega (arith, c.requires.fits), omega arith)

pub put-requires-2 : goal.put-requires-2
unfolding room
put-requires-2 c = (c.requires.fits, omega arith)

pub slice_bounds-frame-end : goal.slice_bounds-frame-end
unfolding room
slice_bounds-frame-end c = omega (arith, c.requires.fits)

pub slice_bounds-decode-end : goal.slice_bounds-decode-end
unfolding room
slice_bounds-decode-end c = rw (joined c.zeros-frame.result c.args.front.now c.args.back.now c.put.ensures c.put-2.ensures) (simp length-append)

pub decode-requires-2 : goal.decode-requires-2
decode-requires-2 c = rw (joined c.zeros-frame.result c.args.front.now c.args.back.now c.put.ensures c.put-2.ensures) (record { fits = omega (arith, c.requires.fits, length-append c.args.front.now c.args.back.now); clean = clean-both c.args.front.now c.args.back.now (found_none _ (sym c.in-None.is ∙ c.first_zero-found.ensures)) c.requires.clean; zeros = c.requires.zeros })

pub returns : goal.returns
returns c = rw (joined c.zeros-frame.result c.args.front.now c.args.back.now c.put.ensures c.put-2.ensures) at c.decode-2.ensures
