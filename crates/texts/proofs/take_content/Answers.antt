-- `texts::take_content` meets its contract: behind the count stands the content.
-- Assumes nothing.
use mathlib.Core.Path.{◌∙◌}
use native.Mathlib.Omega.{arith}
use lib.ListN.{drop}
use Rattle.wire.specs.Reading.{content_of, head}
use Rattle.texts.specs.Contents.{content_if}
use Rattle.laws.proofs.Parts.{tail}
use Rattle.laws.proofs.Items.{no-count, behind-count}
use Rattle.texts.proofs.Contents.{as-u64, within}
use Rattle.texts.proofs.take_content.Goals as goal

pub returns-in_default : goal.returns-in_default
unfolding head
returns-in_default c = let a = c.args in no-count (λ k. content_of (content_if a.text) 0 k (drop k.used a.part.now)) (as-u64 _ c.take-got.ensures) c.in_default.is

pub slice_bounds-content_of-count : goal.slice_bounds-content_of-count
slice_bounds-content_of-count c = within _ c.take-got.ensures c.in-Ok.is

pub slice_bounds-content_of-start : goal.slice_bounds-content_of-start
slice_bounds-content_of-start c = omega (arith, within c.args.part.now c.take-got.ensures c.in-Ok.is)

pub returns : goal.returns
unfolding head
returns c = let a = c.args in
    rw tail at c.content_of.ensures ∙ behind-count (λ k. content_of (content_if a.text) 0 k (drop k.used a.part.now)) (as-u64 _ c.take-got.ensures) c.in-Ok.is
