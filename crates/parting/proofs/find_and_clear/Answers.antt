-- `parting::find_and_clear` meets its contract: what the search leaves in the part that it was lent does not matter.
-- Assumes nothing.
use mathlib.Core.Path.{sym, ◌∙◌}
use native.Mathlib.Nat.{sub-zero}
use Rattle.append.proofs.Lent.{long-enough, part-long, handed-back}
use Rattle.parting.proofs.Promise.{finds-long}
use Rattle.parting.proofs.find_and_clear.Goals as goal

pub find_within-answer-requires : goal.find_within-answer-requires
find_within-answer-requires c = let (all, room) = c.requires in part-long _ c.args.area.now (rw (sub-zero _) room) (all ∙ sym (sub-zero _))

pub returns : goal.returns
returns c = let (all, room) = c.requires in
    let area = c.args.area.now in
    let found = c.find_within-answer in
    finds-long _ _ area _ (long-enough _ area room all) found.ensures
    (handed-back _ area (rw (sub-zero _) room) (all ∙ sym (sub-zero _)) found.new.area found.auto.area c.clear.ensures)
