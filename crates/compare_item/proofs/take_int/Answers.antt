-- `compare_item::take_int` meets its contract, number by number.
-- Assumes nothing.
use native.Mathlib.Omega.{arith}
use mathlib.Core.Path.{◌∙◌}
use Rattle.wire.specs.Shape.{w16, w32, w64}
use Rattle.wire.specs.Numbers.{most, last}
use Rattle.varint.proofs.Reading.{at_width}
use Rattle.fixint.specs.Sizes.{byte_of}
use Rattle.leaf.proofs.Leaves.{numbered}
use Rattle.compare_item.proofs.Leaves.{ints-taken, signed_number, second-of, varints-taken}
use Rattle.compare_item.proofs.take_int.Goals as goal

pub returns-in-2 : goal.returns-in-2
unfolding signed_number
returns-in-2 c = varints-taken _ c.requires w16 (second-of c.in-2.is) _ _ c.both.ensures c.take_u16.ensures c.take_u16-in-2.ensures

pub returns-in-3 : goal.returns-in-3
unfolding signed_number
returns-in-3 c = varints-taken _ c.requires w32 (second-of c.in-3.is) _ _ c.both-in-3.ensures c.take_u32.ensures c.take_u32-in-3.ensures

pub returns-in-1 : goal.returns-in-1
unfolding numbered byte_of
returns-in-1 c = let e = c.in-1.is in
    ints-taken _ c.requires _ _ c.both-in-1.ensures (rw e c.take8.ensures) (rw e c.take8-in-1.ensures)

pub returns-in-5 : goal.returns-in-5
unfolding numbered byte_of
returns-in-5 c = let e = c.in-5.is in
    ints-taken _ c.requires _ _ c.both-in-5.ensures (rw e c.take8-in-5.ensures) (rw e c.take8-in-5-2.ensures)

pub returns-in_default : goal.returns-in_default
unfolding signed_number most last
returns-in_default c =
    let p = c.requires in
    varints-taken _ p w64 (λ e. grind (arith, p.0, p.1, e)) _ _ c.both-in_default.ensures (c.take.ensures ∙ at_width w64 _) (c.take-in_default.ensures ∙ at_width w64 _)
