-- `find::child_at` meets its contract: the numbers of a good table's children stand inside it.
-- Assumes nothing.
use mathlib.Core.Path.{ap, ◌∙◌}
use Prim.Native.Nat.{◌+◌, ◌*◌}
use native.Mathlib.Omega.{arith}
use Rattle.wire.specs.Table.{u16_at}
use Rattle.table.proofs.Stretches.{node-falls}
use Rattle.find.proofs.child_at.Goals as goal

pub overflow_mul-which : goal.overflow_mul-which
overflow_mul-which c = omega (arith, (node-falls c.requires.good_table c.requires.node_lt_nodes).inside, c.requires.which_bound, c.first_child-from.ensures)

pub overflow_add-from : goal.overflow_add-from
overflow_add-from c = omega (arith, (node-falls c.requires.good_table c.requires.node_lt_nodes).inside, c.requires.which_bound, c.first_child-from.ensures)

pub u16_at-requires : goal.u16_at-requires
u16_at-requires c = omega (arith, (node-falls c.requires.good_table c.requires.node_lt_nodes).inside, c.requires.which_bound, c.first_child-from.ensures)

pub returns : goal.returns
returns c = let a = c.args in c.u16_at.ensures.0 ∙ ap (λ f. u16_at a.table.now (f + 2 * a.which)) c.first_child-from.ensures
