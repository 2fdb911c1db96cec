-- `texts::take_char` meets its contract: behind the count stands a char's bytes.
-- Assumes nothing.
use mathlib.Core.Path.{◌∙◌}
use native.Mathlib.Omega.{arith}
use lib.ListN.{drop}
use Rattle.wire.specs.Reading.{char_of, read_plain}
use Rattle.laws.proofs.Parts.{tail}
use Rattle.laws.proofs.Items.{no-count, behind-count}
use Rattle.texts.proofs.Contents.{as-u64, within}
use Rattle.texts.proofs.take_char.Goals as goal

pub returns-in_default : goal.returns-in_default
unfolding read_plain
returns-in_default c = let a = c.args in no-count (λ k. char_of k (drop k.used a.part.now)) (as-u64 _ c.take-got.ensures) c.in_default.is

pub slice_bounds-char_of-count : goal.slice_bounds-char_of-count
slice_bounds-char_of-count c = within _ c.take-got.ensures c.in-Ok.is

pub slice_bounds-char_of-start : goal.slice_bounds-char_of-start
slice_bounds-char_of-start c = omega (arith, within c.args.part.now c.take-got.ensures c.in-Ok.is)

pub returns : goal.returns
unfolding read_plain
returns c = let a = c.args in
    rw tail at c.char_of.ensures ∙ behind-count (λ k. char_of k (drop k.used a.part.now)) (as-u64 _ c.take-got.ensures) c.in-Ok.is
