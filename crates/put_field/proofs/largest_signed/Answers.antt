-- `put_field::largest_signed` meets its contract, kind by kind.
-- Assumes nothing.
use mathlib.Core.Path.{◌≡◌, refl}
use native.Mathlib.Omega.{arith}
use Rattle.put_field.proofs.Fields.{styling}
use Rattle.put_field.proofs.largest_signed.Goals as goal

pub returns-in-1 : goal.returns-in-1
unfolding styling
returns-in-1 c = let e : c.args.number ≡ 1 = omega arith in rw e (record { below = _; is = refl })

pub returns-in-2 : goal.returns-in-2
unfolding styling
returns-in-2 c = let e : c.args.number ≡ 2 = omega arith in rw e (record { below = _; is = refl })

pub returns-in-3 : goal.returns-in-3
unfolding styling
returns-in-3 c = let e : c.args.number ≡ 3 = omega arith in rw e (record { below = _; is = refl })

pub returns-in_default : goal.returns-in_default
unfolding styling
returns-in_default c = let e : c.args.number ≡ 4 = omega arith in rw e (record { below = _; is = refl })
