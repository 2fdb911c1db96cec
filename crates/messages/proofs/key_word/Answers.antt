-- `messages::key_word` meets its contract: the fields in front are skimmed, and then the key field wants room and is taken.
-- Assumes nothing.
use mathlib.Core.Path.{sym, ◌∙◌}
use native.Mathlib.Omega.{arith}
use Rattle.laws.proofs.Answers.{handed-up}
use Rattle.messages.proofs.Steps.{skim-goes, skim-refused}
use Rattle.messages.proofs.Words.{falls-fewer, word-before, took-there, refused-there, full-there, ends_there}
use Rattle.messages.proofs.key_word.Goals as goal

pub skim-requires : goal.skim-requires
skim-requires c = record { good_table = c.requires.good_table; falls = falls-fewer c.requires.good_table c.requires.falls; part_bound = c.requires.part_bound }

pub returns-in_err-at : goal.returns-in_err-at
returns-in_err-at c = rw (handed-up c.from_residual.ensures) (word-before c.requires.good_table _ _ _ _ _ c.requires.falls c.requires.key (skim-refused _ _ _ _ _ _ (sym c.in_err-at.was ∙ c.skim.ensures)))

pub returns-then-count-ge-ROOM : goal.returns-then-count-ge-ROOM
returns-then-count-ge-ROOM c = full-there c.requires.good_table _ _ _ _ _ _ c.requires.falls c.requires.key (sym c.in_ok-at.was ∙ c.skim.ensures) c.if-count-ge-ROOM.true

pub overflow_sub-used : goal.overflow_sub-used
overflow_sub-used c = (skim-goes _ _ _ _ _ _ (sym c.in_ok-at.was ∙ c.skim.ensures)).0

pub slice_bounds-take_word-count : goal.slice_bounds-take_word-count
slice_bounds-take_word-count c = (skim-goes _ _ _ _ _ _ (sym c.in_ok-at.was ∙ c.skim.ensures)).1

pub slice_bounds-take_word-start : goal.slice_bounds-take_word-start
slice_bounds-take_word-start c = (skim-goes _ _ _ _ _ _ (sym c.in_ok-at.was ∙ c.skim.ensures)).1

pub overflow_add-result : goal.overflow_add-result
overflow_add-result c = omega (arith, c.requires.part_bound, ends_there c.requires.good_table _ _ _ _ _ _ c.requires.falls c.requires.key (sym c.in_ok-at.was ∙ c.skim.ensures) (sym c.take_word.ensures ∙ c.in-Ok.is))

pub returns-in-Err : goal.returns-in-Err
returns-in-Err c = refused-there c.requires.good_table _ _ _ _ _ _ c.requires.falls c.requires.key (sym c.in_ok-at.was ∙ c.skim.ensures) (omega (arith, c.if-count-ge-ROOM.false)) (sym c.take_word.ensures ∙ c.in-Err.is)

pub returns-in-Ok : goal.returns-in-Ok
returns-in-Ok c = took-there c.requires.good_table _ _ _ _ _ _ c.requires.falls c.requires.key (sym c.in_ok-at.was ∙ c.skim.ensures) (omega (arith, c.if-count-ge-ROOM.false)) (sym c.take_word.ensures ∙ c.in-Ok.is)
