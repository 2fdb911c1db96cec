-- `fixint::take` meets its contract: the number of N bytes is below 256 ^ N, as its word's law asks.
-- Assumes nothing.
use Rattle.laws.proofs.Bytes.{front-lt}
use Rattle.fixint.proofs.Numbers.{ended, is_number}
use Rattle.fixint.proofs.take.Goals as goal

pub returns-then-part : goal.returns-then-part
returns-then-part g c = ended _ _ _ _ c.if-part.true

pub with_sign-first-requires : goal.with_sign-first-requires
with_sign-first-requires g c = (c.requires, rw c.number-x.ensures (front-lt _ _ _ (λ i. (c.type_inv.part i).fits) c.if-part.false))

pub returns : goal.returns
returns g c = rw (c.with_sign-first.ensures, c.number-x.ensures) (is_number _ _ _ _ c.if-part.false)
