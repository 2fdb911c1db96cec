-- `append::nodes_match` and `append::compare` meet their contracts: the old node's number falls at each call, and the loop's invariant is that the children left decide.
-- Assumes nothing.
use mathlib.Core.Path.{◌≡◌}
use lib.ListN.{length}
use Rattle.append.proofs.Matching.{Left}
use Prim.Native.Nat.{◌+◌}
use Rattle.append.proofs.+compare_nodes_match.Given as goal

abbrev pub decreases-compare : goal.decreases-compare
decreases-compare l = l.i + l.i

abbrev pub decreases-nodes_match : goal.decreases-nodes_match
decreases-nodes_match l = l.i + l.i + 1

abbrev pub invariant-compare-loop-left : goal.invariant-compare-loop-left
invariant-compare-loop-left l = Left l.old l.l l.i l.new l.m l.j l.free l.area l.left l.from l.at × (length l.area ≡ length l.initial.area)

abbrev pub decreases-compare-loop-left : goal.decreases-compare-loop-left
decreases-compare-loop-left l = l.left
