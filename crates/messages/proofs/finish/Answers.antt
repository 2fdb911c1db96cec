-- `messages::finish` meets its contract.
-- Assumes nothing.
use mathlib.Core.Path.{sym, ◌∙◌}
use native.Mathlib.Omega.{arith}
use Rattle.laws.proofs.Answers.{handed-up}
use Rattle.messages.proofs.Keyed.{begun-inside, finish-stops, finish-message, rest-bound}
use Rattle.messages.proofs.Past.{behind-falls}
use Rattle.messages.proofs.finish.Goals as goal

pub overflow_add-from : goal.overflow_add-from
overflow_add-from c = omega (arith, (behind-falls _ _ _ c.requires.keyed_by).inside)

pub overflow_add-from-2 : goal.overflow_add-from-2
overflow_add-from-2 c = omega (arith, (behind-falls _ _ _ c.requires.keyed_by).inside)

pub overflow_mul-from : goal.overflow_mul-from
overflow_mul-from c = omega (arith, (behind-falls _ _ _ c.requires.keyed_by).inside)

pub overflow_add-from-3 : goal.overflow_add-from-3
overflow_add-from-3 c = omega (arith, (behind-falls _ _ _ c.requires.keyed_by).inside)

pub slice_bounds-rest-count : goal.slice_bounds-rest-count
slice_bounds-rest-count c = begun-inside _ _ _ _ c.requires.keyed_by c.requires.begins

pub slice_bounds-rest-start : goal.slice_bounds-rest-start
slice_bounds-rest-start c = begun-inside _ _ _ _ c.requires.keyed_by c.requires.begins

pub skim-requires : goal.skim-requires
skim-requires c = record { good_table = c.requires.keyed_by.good; falls = behind-falls _ _ _ c.requires.keyed_by; part_bound = rest-bound c.args.part.now (begun-inside _ _ _ _ c.requires.keyed_by c.requires.begins) (omega arith) }

pub returns-in_err-end : goal.returns-in_err-end
returns-in_err-end c = handed-up c.from_residual.ensures ∙ finish-stops _ _ _ _ c.requires.keyed_by c.requires.begins (sym c.in_err-end.was ∙ c.skim.ensures)

pub returns : goal.returns
returns c = finish-message _ _ _ _ c.requires.keyed_by c.requires.begins (sym c.in_ok-end.was ∙ c.skim.ensures)
