-- `utf8::is_second` meets its contract.
-- Assumes nothing.
use mathlib.Core.Path.{sym, ◌∙◌}
use native.Mathlib.Omega.{arith}
use Rattle.wire.specs.Tests.{pick}
use Rattle.wire.specs.Text.{low_of, high_of}
use Rattle.utf8.specs.Scan.{is_second}
use Rattle.utf8.proofs.Scan.{whole}
use Rattle.utf8.proofs.is_second.Goals as goal

pub returns-in-224 : goal.returns-in-224
unfolding is_second low_of high_of pick
returns-in-224 c = rw c.in-224.is c.is_in.ensures

pub returns-in-237 : goal.returns-in-237
unfolding is_second low_of high_of pick
returns-in-237 c = rw c.in-237.is c.is_in-in-237.ensures

pub returns-in_default : goal.returns-in_default
returns-in_default c = c.is_in-in_default.ensures ∙ sym (whole _ _ (λ e. omega arith) (λ e. omega arith) (λ e. omega arith) (λ e. omega arith))

pub returns-in-240 : goal.returns-in-240
unfolding is_second low_of high_of pick
returns-in-240 c = rw c.in-240.is c.is_in-in-240.ensures

pub returns-in-244 : goal.returns-in-244
unfolding is_second low_of high_of pick
returns-in-244 c = rw c.in-244.is c.is_in-in-244.ensures

pub returns-in_default-lead : goal.returns-in_default-lead
returns-in_default-lead c = c.is_in-in_default-lead.ensures ∙ sym (whole _ _ (λ e. omega arith) (λ e. omega arith) (λ e. omega arith) (λ e. omega arith))
