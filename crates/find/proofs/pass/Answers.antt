-- `find::pass` meets its contract: no room, the item's refusal, absent, or what the fields in front leave.
-- Assumes nothing.
use mathlib.Core.Path.{sym, ◌∙◌}
use native.Mathlib.Omega.{arith}
use Rattle.laws.proofs.Parts.{length-tail}
use Rattle.find.proofs.Passing.{passed-number, there-number}
use Rattle.find.proofs.Seeking.{pass-full, pass-refused, pass-goes, passes-behind}
use Rattle.find.proofs.pass.Goals as goal

pub returns-then-at-ge-ROOM : goal.returns-then-at-ge-ROOM
returns-then-at-ge-ROOM c = let p = c.requires in pass-full p.good_table p.node_lt_nodes _ _ _ _ c.if-at-ge-ROOM.true

pub own_bytes-got-requires : goal.own_bytes-got-requires
own_bytes-got-requires c = passed-number c.kind_at-number.ensures c.requires.inward

pub overflow_add-after : goal.overflow_add-after
overflow_add-after c = let p = c.requires in omega (arith, (pass-goes p.good_table p.node_lt_nodes c.args.part.now c.args.at.place c.args.at.made (omega arith) p.inward _ c.kind_at-number.ensures c.own_bytes-got.ensures c.in-Ok.is).bytes, p.part_bound)

pub is_there-requires : goal.is_there-requires
is_there-requires c = passed-number c.kind_at-number.ensures c.requires.inward

pub returns-then-not-is_there : goal.returns-then-not-is_there
returns-then-not-is_there c = let p = c.requires in (pass-goes p.good_table p.node_lt_nodes c.args.part.now c.args.at.place c.args.at.made (omega arith) p.inward _ c.kind_at-number.ensures c.own_bytes-got.ensures c.in-Ok.is).absent (there-number _ c.kind_at-number.ensures (sym c.is_there.ensures ∙ c.if-not-is_there.true))

pub slice_bounds-skim_front-count : goal.slice_bounds-skim_front-count
slice_bounds-skim_front-count c = let p = c.requires in (pass-goes p.good_table p.node_lt_nodes c.args.part.now c.args.at.place c.args.at.made (omega arith) p.inward _ c.kind_at-number.ensures c.own_bytes-got.ensures c.in-Ok.is).bytes

pub slice_bounds-skim_front-start : goal.slice_bounds-skim_front-start
slice_bounds-skim_front-start c = let p = c.requires in (pass-goes p.good_table p.node_lt_nodes c.args.part.now c.args.at.place c.args.at.made (omega arith) p.inward _ c.kind_at-number.ensures c.own_bytes-got.ensures c.in-Ok.is).bytes

pub skim_front-requires : goal.skim_front-requires
skim_front-requires c = let p = c.requires in
    let o = pass-goes p.good_table p.node_lt_nodes c.args.part.now c.args.at.place c.args.at.made (omega arith) p.inward _ c.kind_at-number.ensures c.own_bytes-got.ensures c.in-Ok.is in record { good_table = p.good_table; node_lt_nodes = p.node_lt_nodes; falls = rw c.first_child-from.ensures o.falls; part_bound = omega (arith, o.bytes, p.part_bound, length-tail c.args.part.now c.in-Ok.own.used) }

pub returns-in-Err : goal.returns-in-Err
returns-in-Err c = let p = c.requires in pass-refused p.good_table p.node_lt_nodes _ _ _ (omega arith) p.inward _ c.kind_at-number.ensures c.own_bytes-got.ensures c.in-Err.is

pub returns-else-not-is_there : goal.returns-else-not-is_there
returns-else-not-is_there c = let p = c.requires in
    let o = pass-goes p.good_table p.node_lt_nodes c.args.part.now c.args.at.place c.args.at.made (omega arith) p.inward _ c.kind_at-number.ensures c.own_bytes-got.ensures c.in-Ok.is in
    passes-behind _ _ _ _ _ o.bytes (o.rest (there-number _ c.kind_at-number.ensures (sym c.is_there.ensures ∙ c.if-not-is_there.false))) (rw c.first_child-from.ensures at c.skim_front.ensures)
