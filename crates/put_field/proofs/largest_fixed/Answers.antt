-- `put_field::largest_fixed` meets its contract, one of the six by one.
-- Assumes nothing.
use mathlib.Core.Path.{◌≡◌, refl}
use native.Mathlib.Omega.{arith}
use Rattle.put_field.proofs.Fields.{styling}
use Rattle.put_field.proofs.largest_fixed.Goals as goal

pub returns-in-0 : goal.returns-in-0
unfolding styling
returns-in-0 c = let e : c.args.k ≡ 0 = omega arith in rw e (record { in_order_is = λ o. record { below = _; is = refl } })

pub returns-in-1 : goal.returns-in-1
unfolding styling
returns-in-1 c = let e : c.args.k ≡ 1 = omega arith in rw e (record { in_order_is = λ o. record { below = _; is = refl } })

pub returns-in-2 : goal.returns-in-2
unfolding styling
returns-in-2 c = let e : c.args.k ≡ 2 = omega arith in rw e (record { in_order_is = λ o. record { below = _; is = refl } })

pub returns-in-3 : goal.returns-in-3
unfolding styling
returns-in-3 c = let e : c.args.k ≡ 3 = omega arith in rw e (record { in_order_is = λ o. record { below = _; is = refl } })

pub returns-in-4 : goal.returns-in-4
unfolding styling
returns-in-4 c = let e : c.args.k ≡ 4 = omega arith in rw e (record { in_order_is = λ o. record { below = _; is = refl } })

pub returns-in_default : goal.returns-in_default
unfolding styling
returns-in_default c = let e : c.args.k ≡ 5 = omega arith in rw e (record { in_order_is = λ o. record { below = _; is = refl } })
