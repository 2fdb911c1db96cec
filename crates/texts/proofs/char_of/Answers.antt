-- `texts::char_of` meets its contract: each test is one of the definition's, in its order.
-- Assumes nothing.
use mathlib.Core.Path.{sym, ◌∙◌}
use native.Mathlib.Omega.{arith}
use lib.ListN.{length-take}
use borrow.Author.Tests.{lt-ltb, le-ltb}
use Rattle.wire.specs.Tests.{pick, both}
use Rattle.wire.specs.Reading.{char_of}
use Rattle.texts.proofs.Contents.{some, no_text}
use Rattle.texts.proofs.char_of.Goals as goal

pub returns-then-count-gt4 : goal.returns-then-count-gt4
unfolding char_of pick both
returns-then-count-gt4 c = rw (lt-ltb 4 c.args.count.first (omega arith))

pub returns-then-part-n : goal.returns-then-part-n
unfolding char_of pick both
returns-then-part-n c = let a = c.args in rw (le-ltb 4 a.count.first (omega arith), lt-ltb _ _ c.if-part-n.true)

pub returns-then-n-eq0 : goal.returns-then-n-eq0
unfolding char_of pick both
returns-then-n-eq0 c = rw (le-ltb _ _ c.if-count-gt4.false, le-ltb _ _ c.if-part-n.false, c.if-n-eq0.true)

pub slice_bounds-bytes-end : goal.slice_bounds-bytes-end
slice_bounds-bytes-end c = simp length-take (omega arith)

pub returns-then-not-is_text : goal.returns-then-not-is_text
unfolding char_of pick
returns-then-not-is_text c = rw (le-ltb _ _ c.if-count-gt4.false, le-ltb _ _ c.if-part-n.false, no_text _ (sym c.is_text.ensures ∙ c.if-not-is_text.true))

pub returns-then-count : goal.returns-then-count
unfolding char_of pick both
returns-then-count c = rw (le-ltb _ _ c.if-count-gt4.false, le-ltb _ _ c.if-part-n.false, lt-ltb _ _ (some c.if-n-eq0.false), sym c.is_text.ensures ∙ c.if-not-is_text.false, c.if-count.true, c.char_size.ensures, c.first_char-first.ensures)

pub returns-else-count : goal.returns-else-count
unfolding char_of pick both
returns-else-count c = rw (le-ltb _ _ c.if-count-gt4.false, le-ltb _ _ c.if-part-n.false, lt-ltb _ _ (some c.if-n-eq0.false), sym c.is_text.ensures ∙ c.if-not-is_text.false, c.if-count.false, c.first_char-first.ensures)
