-- `texts::content_of` meets its contract: each test is one of the definition's, in its order.
-- Assumes nothing.
use mathlib.Core.Path.{sym, ◌∙◌}
use native.Mathlib.Nat.{zero-add}
use native.Mathlib.Omega.{arith}
use lib.ListN.{length, length-take}
use borrow.Author.Tests.{lt-ltb, le-ltb}
use Rattle.wire.specs.Tests.{pick}
use Rattle.wire.specs.Reading.{content_of}
use Rattle.texts.proofs.content_of.Goals as goal

pub returns-then-part-count : goal.returns-then-part-count
unfolding content_of pick
returns-then-part-count c = let a = c.args in rw (lt-ltb (length a.part.now) a.count.first (omega arith))

pub slice_bounds-is_content-end : goal.slice_bounds-is_content-end
slice_bounds-is_content-end c = simp length-take (omega arith)

pub returns-then-not-is_content : goal.returns-then-not-is_content
unfolding content_of pick
returns-then-not-is_content c = rw (le-ltb _ _ c.if-part-count.false, sym c.is_content.ensures ∙ c.if-not-is_content.true)

pub returns : goal.returns
unfolding content_of pick
returns c = rw (le-ltb _ _ c.if-part-count.false, sym c.is_content.ensures ∙ c.if-not-is_content.false, zero-add)
