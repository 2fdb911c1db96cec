-- `write_item::is_variant` meets its contract, by whether the variant is one of the table's.
-- Assumes nothing.
use native.Mathlib.Omega.{arith}
use borrow.Author.Tests.{le-ltb}
use Rattle.wire.specs.Tests.{both}
use Rattle.wire.specs.Numbers.{is_word}
use Rattle.write_item.proofs.Judging.{is_known_lem}
use Rattle.write_item.proofs.is_variant.Goals as goal

pub returns-then-first-width : goal.returns-then-first-width
unfolding is_word
returns-then-first-width c = let a = c.args in is_known_lem a.width a.first _ (omega arith)

pub returns-else-first-width : goal.returns-else-first-width
unfolding both
returns-else-first-width c = rw (le-ltb _ _ c.if-first-width.false)
