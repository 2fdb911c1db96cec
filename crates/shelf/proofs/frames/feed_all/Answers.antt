use Rattle.std.proofs.Common.{◌≡◌, List, ℕ, ◌≤◌, length, drop, length-drop, arith}
use Rattle.accumulator.proofs.Progress.{fed-nearer}
use Rattle.shelf.proofs.frames.feed_all.Goals as goal

shorter : (n : ℕ) (s : List ℕ) {r : List ℕ} → r ≡ drop n s → length r ≤ length s
shorter n s e = rw e (omega (arith, length-drop n s))

pub loop-left-smaller : goal.loop-left-smaller
loop-left-smaller g c = rw c.rest-rest.ensures (fed-nearer _ _ c.feed-fed.ensures c.loop-left.invariant.0 c.loop-left-test.true).1

pub loop-left-preserved : goal.loop-left-preserved
loop-left-preserved g c = (
  (fed-nearer _ _ c.feed-fed.ensures c.loop-left.invariant.0 c.loop-left-test.true).0,
  c.behind_over-over.ensures,
  omega (arith, shorter c.feed-fed.result.used c.loop-left.left.now c.rest-rest.ensures, c.loop-left.invariant.2),
)
