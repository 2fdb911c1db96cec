-- The node's number falls at each level, and no more entries are shown than were made.
use Rattle.std.proofs.Common.{◌≤◌}
use Rattle.listing.proofs.entries.+show_item.Given as goal

abbrev pub decreases-show_item : goal.decreases-show_item
decreases-show_item g l = l.node

abbrev pub invariant-loop-round : goal.invariant-loop-round
invariant-loop-round g l = l.next ≤ l.shown.made.count

abbrev pub invariant-loop-k : goal.invariant-loop-k
invariant-loop-k g l = l.next ≤ l.shown.made.count
