-- `compare_item::same_leaf` meets its contract, by whether the kind is one of texts or of bytes.
-- Assumes nothing.
use mathlib.Core.Path.{sym, ◌∙◌}
use Rattle.compare_item.proofs.Leaves.{alike, same_number, same-content}
use Rattle.compare_item.proofs.same_leaf.Goals as goal

pub overflow_sub-from : goal.overflow_sub-from
overflow_sub-from c = c.requires.whole.content (sym c.is_pooled.ensures ∙ c.if-is_pooled.true)

pub overflow_sub-start : goal.overflow_sub-start
overflow_sub-start c = c.requires.whole_2.content (sym c.is_pooled.ensures ∙ c.if-is_pooled.true)

pub slice_bounds-eq-end : goal.slice_bounds-eq-end
slice_bounds-eq-end c = c.requires.whole.inside

pub slice_bounds-eq-end-then-is_pooled : goal.slice_bounds-eq-end-then-is_pooled
slice_bounds-eq-end-then-is_pooled c = c.requires.whole_2.inside

pub returns-then-is_pooled : goal.returns-then-is_pooled
returns-then-is_pooled c = same-content _ _ _ _ _ (sym c.is_pooled.ensures ∙ c.if-is_pooled.true) c.requires.whole c.requires.whole_2 (c.eq.ensures ∙ alike _ _)

pub returns : goal.returns
returns c = same_number _ _ _ _ _ (sym c.is_pooled.ensures ∙ c.if-is_pooled.false)
