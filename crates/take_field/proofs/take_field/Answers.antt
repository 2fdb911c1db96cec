-- `take_field::take_field` meets its contract, by what its kind's values are.
-- Assumes nothing.
use mathlib.Core.Path.{◌≡◌}
use native.Mathlib.Omega.{arith}
use Rattle.take_field.proofs.Numbers.{other-number}
use Rattle.take_field.proofs.take_field.Goals as goal

pub take_quoted-requires : goal.take_quoted-requires
take_quoted-requires c = c.requires.at_in_bounds

pub take_quoted-requires-in-12 : goal.take_quoted-requires-in-12
take_quoted-requires-in-12 c = c.requires.at_in_bounds

pub take_bytes-requires : goal.take_bytes-requires
take_bytes-requires c = c.requires.at_in_bounds

pub take_plain-requires : goal.take_plain-requires
take_plain-requires c = record { number = other-number c.requires.number_value (λ e. omega arith) (λ e. omega arith) (λ e. omega arith); at_in_bounds = c.requires.at_in_bounds }

pub returns-in-11 : goal.returns-in-11
returns-in-11 c = let e : c.args.number ≡ 11 = omega arith in rw e c.take_quoted.ensures

pub returns-in-12 : goal.returns-in-12
returns-in-12 c = let e : c.args.number ≡ 12 = omega arith in rw e c.take_quoted-in-12.ensures

pub returns-in-13 : goal.returns-in-13
returns-in-13 c = let e : c.args.number ≡ 13 = omega arith in rw e c.take_bytes.ensures
