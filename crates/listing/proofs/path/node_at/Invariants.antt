-- A good table's root and children are nodes of it.
use Rattle.std.proofs.Common.{◌<◌}
use Rattle.listing.proofs.path.node_at.Given as goal

abbrev pub invariant-loop-position : goal.invariant-loop-position
invariant-loop-position g l = l.node < l.l.nodes
