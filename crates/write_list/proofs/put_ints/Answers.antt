-- `write_list::put_ints` meets its contract, which is the loop's invariant: an entry that is ready is the first step of the row that is left.
-- Assumes nothing.
use mathlib.Core.Path.{refl}
use native.Mathlib.Omega.{arith}
use borrow.Author.Rules.{rules}
use Rattle.wire.specs.Answers.{room_of}
use Rattle.table.proofs.Stretches.{falls-first, falls-next}
use Rattle.write_list.proofs.Going.{few_bytes, going-begin, first_done}
use Rattle.write_list.proofs.Rounds.{stretch-first}
use Rattle.write_list.proofs.Fronts.{ready-gives}
use Rattle.write_list.proofs.put_ints.Goals as goal

pub loop-left-init : goal.loop-left-init
loop-left-init c = (record { falls = c.requires.falls; going = λ pool. going-begin _ _ _ (omega arith) }, refl)

pub u16_at-c-requires : goal.u16_at-c-requires
u16_at-c-requires c = omega (arith, c.loop-left.invariant.0.falls.inside)

pub kind_at-number-requires : goal.kind_at-number-requires
kind_at-number-requires c = record { good_table = c.requires.good_table; i_lt_nodes = omega (arith, falls-first c.loop-left.invariant.0.falls c.loop-left-test.true) }

pub returns-then-not-is_ready : goal.returns-then-not-is_ready
returns-then-not-is_ready c = c.loop-left.invariant.0

pub first-first-requires : goal.first-first-requires
first-first-requires c = (c.is_ready.ensures.is c.if-not-is_ready.false).more

pub put_ready-n-requires : goal.put_ready-n-requires
put_ready-n-requires c = let f = c.is_ready.ensures.is c.if-not-is_ready.false in record { number_bound = f.low; used_in_bounds = omega (arith, f.wide, c.places-room.ensures.inside) }

pub overflow_add-i : goal.overflow_add-i
unfolding room_of
overflow_add-i c = omega (arith, (c.is_ready.ensures.is c.if-not-is_ready.false).more)

pub overflow_add-field : goal.overflow_add-field
overflow_add-field c = omega (arith, c.loop-left.invariant.0.falls.inside)

pub loop-left-preserved : goal.loop-left-preserved
loop-left-preserved c = let inv = c.loop-left.invariant.0 in
    let more = c.loop-left-test.true in
    let low = falls-first inv.falls more in (
      record {
        falls = falls-next inv.falls more;
        going = λ pool. first_done (few_bytes _ c.well_formed.1.1.1.1.1.1.0.1) (inv.going pool) (stretch-first _ _ _ _ _ _ c.u16_at-c.ensures.0 more)
            (ready-gives c.requires.good_table (omega arith) c.kind_at-number.ensures (c.is_ready.ensures.is c.if-not-is_ready.false) c.first-first.ensures c.put_ready-n.ensures pool) refl;
      },
      search rules,
    )

pub returns : goal.returns
returns c = c.loop-left.invariant.0
