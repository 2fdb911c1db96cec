-- The node's number falls at each level, and what was seen keeps its length.
use Rattle.std.proofs.Common.{◌≡◌, length}
use Rattle.listing.proofs.tree.+show_node.Given as goal

abbrev pub decreases-show_node : goal.decreases-show_node
decreases-show_node g l = l.node

abbrev pub invariant-loop-k : goal.invariant-loop-k
invariant-loop-k g l = length l.seen ≡ length l.initial.seen
