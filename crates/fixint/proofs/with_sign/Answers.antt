-- `fixint::with_sign` meets its contract.
-- Assumes nothing.
use mathlib.Core.Path.{◌∙◌}
use Rattle.wire.specs.Numbers as numbers
use Rattle.fixint.specs.Sizes.{sign_of}
use Rattle.fixint.proofs.Numbers.{extended-whole}
use Rattle.fixint.proofs.with_sign.Goals as goal

pub returns-then-signed : goal.returns-then-signed
unfolding sign_of
returns-then-signed g c = rw c.if-signed.true (c.extend.ensures ∙ extended-whole _ _ c.requires.0 c.requires.1)

pub returns-else-signed : goal.returns-else-signed
unfolding sign_of numbers.word
returns-else-signed g c = rw c.if-signed.false
