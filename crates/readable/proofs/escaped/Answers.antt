-- `readable::escaped` meets its contract.
-- Assumes nothing.
use mathlib.Core.Path.{refl}
use Rattle.readable.proofs.Escapes.{escape-hidden, escape-shown}
use Rattle.desk.specs.Csv.{hex_of}
use Rattle.readable.specs.Spelling.{is_hidden, escape, padded}
use Rattle.wire.specs.Tests.{pick}
use native.Mathlib.Omega.{arith}
use Rattle.readable.proofs.escaped.Goals as goal

pub returns-in-34 : goal.returns-in-34
unfolding escape pick
returns-in-34 c = rw c.in-34.is c.after_backslash.ensures

pub returns-in-92 : goal.returns-in-92
unfolding escape pick
returns-in-92 c = rw c.in-92.is c.after_backslash-in-92.ensures

pub returns-in-10 : goal.returns-in-10
unfolding escape pick
returns-in-10 c = rw c.in-10.is c.after_backslash-in-10.ensures

pub returns-in-13 : goal.returns-in-13
unfolding escape pick
returns-in-13 c = rw c.in-13.is c.after_backslash-in-13.ensures

pub returns-in-9 : goal.returns-in-9
unfolding escape pick
returns-in-9 c = rw c.in-9.is c.after_backslash-in-9.ensures

pub returns-in-127 : goal.returns-in-127
unfolding escape is_hidden hex_of pick
returns-in-127 c = rw c.in-127.is (let h = rw c.in-127.is at c.by_number.ensures in (h.0, h.1))

pub returns-in-0-to-31 : goal.returns-in-0-to-31
unfolding hex_of
returns-in-0-to-31 c =
    rw (escape-hidden {b = c.args.b} (record { quote = λ e. omega arith; backslash = λ e. omega arith; line = λ e. omega arith; return = λ e. omega arith; tab = λ e. omega arith }) (omega arith)) c.by_number-in-0-to-31.ensures

pub returns-in_default : goal.returns-in_default
unfolding padded
returns-in_default c =
    rw (escape-shown {b = c.args.b} (record { quote = λ e. omega arith; backslash = λ e. omega arith; line = λ e. omega arith; return = λ e. omega arith; tab = λ e. omega arith }) (omega arith) (λ e. omega arith)) (refl, refl)
