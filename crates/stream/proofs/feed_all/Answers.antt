use Rattle.accumulator.proofs.Progress.{fed-nearer}
use Rattle.stream.proofs.feed_all.Goals as goal

pub loop-left-smaller : goal.loop-left-smaller
loop-left-smaller g c = rw c.rest-rest.ensures (fed-nearer _ _ c.feed-fed.ensures c.loop-left.invariant c.loop-left-test.true).1

pub loop-left-preserved : goal.loop-left-preserved
loop-left-preserved g c = (fed-nearer _ _ c.feed-fed.ensures c.loop-left.invariant c.loop-left-test.true).0
