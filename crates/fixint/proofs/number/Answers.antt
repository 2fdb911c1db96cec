-- `fixint::number` meets its contract: the word is that of the bytes with zeros beside them.
-- Assumes nothing.
use Rattle.fixint.specs.Sizes.{order_of}
use Rattle.fixint.proofs.Digits.{low_word, high_word}
use Rattle.fixint.proofs.number.Goals as goal

pub returns-then-big : goal.returns-then-big
unfolding order_of
returns-then-big g c =
    rw c.if-big.true (high_word _ _ _ c.requires.0 c.requires.1 (λ i. (c.type_inv.part i).fits) c.from_be_bytes.type_inv (rw c.copy_from_slice.ensures.after at c.from_be_bytes.ensures))

pub returns-else-big : goal.returns-else-big
unfolding order_of
returns-else-big g c =
    rw c.if-big.false (low_word _ _ _ c.requires.0 c.requires.1 (λ i. (c.type_inv.part i).fits) c.from_le_bytes.type_inv (rw c.copy_from_slice-else-big.ensures.after at c.from_le_bytes.ensures))
