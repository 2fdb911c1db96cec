-- `put_field::largest_unsigned` meets its contract, kind by kind.
-- Assumes nothing.
use mathlib.Core.Path.{◌≡◌, refl}
use native.Mathlib.Omega.{arith}
use Rattle.put_field.proofs.Fields.{styling}
use Rattle.put_field.proofs.largest_unsigned.Goals as goal

pub returns-in-5 : goal.returns-in-5
unfolding styling
returns-in-5 c = let e : c.args.number ≡ 5 = omega arith in rw e (record { below = _; is = refl })

pub returns-in-6 : goal.returns-in-6
unfolding styling
returns-in-6 c = let e : c.args.number ≡ 6 = omega arith in rw e (record { below = _; is = refl })

pub returns-in-7 : goal.returns-in-7
unfolding styling
returns-in-7 c = let e : c.args.number ≡ 7 = omega arith in rw e (record { below = _; is = refl })

pub returns-in-8 : goal.returns-in-8
unfolding styling
returns-in-8 c = let e : c.args.number ≡ 8 = omega arith in rw e (record { below = _; is = refl })

pub returns-in-9 : goal.returns-in-9
unfolding styling
returns-in-9 c = let e : c.args.number ≡ 9 = omega arith in rw e (record { below = _; is = refl })

pub returns-in_default : goal.returns-in_default
unfolding styling
returns-in_default c = let e : c.args.number ≡ 10 = omega arith in rw e (record { below = _; is = refl })
