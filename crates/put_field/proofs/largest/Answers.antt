-- `put_field::largest` meets its contract, range by range.
-- Assumes nothing.
use mathlib.Core.Path.{◌≡◌, refl}
use native.Mathlib.Omega.{arith}
use Rattle.put_field.proofs.Fields.{styling, high-number, fixed-little, fixed-big}
use Rattle.put_field.proofs.largest.Goals as goal

pub overflow_sub-number : goal.overflow_sub-number
overflow_sub-number c = omega (arith, (high-number c.requires (omega arith)).0)

pub largest_fixed-requires-in_default : goal.largest_fixed-requires-in_default
largest_fixed-requires-in_default c = omega (arith, (high-number c.requires (omega arith)).1)

pub returns-in-0 : goal.returns-in-0
unfolding styling
returns-in-0 c = let e : c.args.number ≡ 0 = omega arith in rw e (record { below = _; is = refl })

pub returns-in-11-to-25 : goal.returns-in-11-to-25
returns-in-11-to-25 c = fixed-little _ _ (high-number c.requires (omega arith)).0 (omega arith) c.largest_fixed.ensures

pub returns-in_default : goal.returns-in_default
returns-in_default c = fixed-big _ _ (omega arith) (high-number c.requires (omega arith)).1 c.largest_fixed-in_default.ensures
