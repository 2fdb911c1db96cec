-- `entry::front` meets its contract: so many words stand in front, or there are no more.
-- Assumes nothing.
use mathlib.Core.Path.{sym}
use Prim.Native.Nat.{◌*◌}
use native.Mathlib.Omega.{arith}
use lib.Seq.{take_all, length-take-le}
use Rattle.wire.specs.Answers.{words_per}
use Rattle.entry.proofs.front.Goals as goal

pub slice_bounds-result-end : goal.slice_bounds-result-end
slice_bounds-result-end c = sym (length-take-le _ _ (omega arith))

pub returns : goal.returns
returns c = let a = c.args in sym (take_all (words_per * a.count) a.words.now (omega arith))
