-- `find::take` meets its contract: no room, or what the leaf's own bytes are.
-- Assumes nothing.
use mathlib.Core.Path.{sym}
use mathlib.Core.List.{[]}
use native.Mathlib.Omega.{arith}
use Rattle.find.proofs.Seeking.{no_room, field-refused, field_found}
use Rattle.find.proofs.take.Goals as goal

pub returns-then-at-ge-ROOM : goal.returns-then-at-ge-ROOM
returns-then-at-ge-ROOM c = let p = c.requires in sym (no_room p.good_table p.node_lt_nodes _ _ _ [] c.if-at-ge-ROOM.true)

pub returns-in-Err : goal.returns-in-Err
returns-in-Err c = let p = c.requires in
    field-refused p.good_table p.node_lt_nodes _ _ _ (omega arith) _ c.kind_at-number.ensures p.node_value p.part_bound c.take-got.ensures c.in-Err.is

pub returns-in-Ok : goal.returns-in-Ok
returns-in-Ok c = let p = c.requires in
    field_found p.good_table p.node_lt_nodes _ _ _ (omega arith) _ c.kind_at-number.ensures p.node_value p.part_bound c.take-got.ensures c.in-Ok.is
