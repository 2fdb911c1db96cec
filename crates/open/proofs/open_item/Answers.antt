-- `open::open_item` meets its contract, by what it enters: a refusal, an item that nothing follows, or one whose followers are held.
-- Assumes nothing.
use native.Mathlib.Omega.{arith}
use Rattle.laws.proofs.Bounds.{head-by-sound}
use Rattle.table.proofs.Stretches.{flat-falls}
use Rattle.open.proofs.Opening.{taken, opens-refused, opens-none, opens-empty, opens-room, opens-held}
use Rattle.open.proofs.open_item.Goals.{then-to-eq0-via-then-to-eq0, then-to-eq0-via-else-to-eq0+then-to-eq0-2}
use Rattle.open.proofs.open_item.Goals as goal

pub enter-requires : goal.enter-requires
enter-requires c = let p = c.requires in record { good_table = p.good_table; node_lt_nodes = p.node_lt_nodes; inner = record { kind = c.kind_at-number.ensures; inner = rw c.kind_at-number.ensures p.inner } }

pub overflow_add-after : goal.overflow_add-after
overflow_add-after c = let p = c.requires in omega (arith, p.part_bound, (taken (head-by-sound _) _ p.good_table p.node_lt_nodes _ _ _ _ p.made_lt_room c.enter.ensures c.in-Ok.is).inside)

pub returns-then-to-eq0 : goal.returns-then-to-eq0
returns-then-to-eq0 c = let p = c.requires in elim c.then-to-eq0.branch [
  | then-to-eq0-via-then-to-eq0 w ↦ opens-none (head-by-sound _) _ p.good_table p.node_lt_nodes _ _ _ _ p.made_lt_room c.enter.ensures c.in-Ok.is _ _ p.chain w.if-to-eq0.true
  | then-to-eq0-via-else-to-eq0+then-to-eq0-2 w ↦ opens-empty (head-by-sound _) _ p.good_table p.node_lt_nodes _ _ _ _ p.made_lt_room c.enter.ensures c.in-Ok.is _ _ p.chain w.if-to-eq0-2.true
]

pub flat-way-requires : goal.flat-way-requires
flat-way-requires c = let p = c.requires in record { good_table = p.good_table; node_le_nodes = omega (arith, p.node_lt_nodes); falls = (taken (head-by-sound _) _ p.good_table p.node_lt_nodes _ _ _ _ p.made_lt_room c.enter.ensures c.in-Ok.is).falls }

pub hold-requires : goal.hold-requires
hold-requires c = let p = c.requires in record { i_in_bounds = opens-room (head-by-sound _) _ p.good_table p.node_lt_nodes _ _ _ _ p.made_lt_room c.enter.ensures c.in-Ok.is _ _ p.chain (omega arith) p.list_len; width_bound = omega (arith, (flat-falls p.good_table (omega (arith, p.node_lt_nodes)) c.flat-way.ensures).inside, c.well_formed.1.0) }

pub overflow_add-deeper : goal.overflow_add-deeper
overflow_add-deeper c = let p = c.requires in omega (arith, p.list_len, opens-room (head-by-sound _) _ p.good_table p.node_lt_nodes _ _ _ _ p.made_lt_room c.enter.ensures c.in-Ok.is _ _ p.chain (omega arith) p.list_len)

pub returns-in-Err : goal.returns-in-Err
returns-in-Err c = let p = c.requires in opens-refused (head-by-sound _) _ p.good_table p.node_lt_nodes _ _ _ _ p.made_lt_room c.enter.ensures _ c.in-Err.is

pub returns-else-to-eq0-2 : goal.returns-else-to-eq0-2
returns-else-to-eq0-2 c = let p = c.requires in opens-held (head-by-sound _) _ p.good_table p.node_lt_nodes _ _ _ _ p.made_lt_room c.enter.ensures c.in-Ok.is _ _ p.chain (omega arith) p.list_len (omega arith) (omega (arith, c.well_formed.1.0)) c.flat-way.ensures c.hold.ensures
