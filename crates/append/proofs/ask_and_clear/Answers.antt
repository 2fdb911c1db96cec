-- `append::ask_and_clear` meets its contract: what the question leaves in the part that it was lent does not matter.
-- Assumes nothing.
use mathlib.Core.Path.{sym, ◌∙◌}
use native.Mathlib.Nat.{sub-zero}
use Rattle.laws.proofs.Areas.{asks-long}
use Rattle.append.proofs.Lent.{long-enough, part-long, handed-back}
use Rattle.append.proofs.ask_and_clear.Goals as goal

pub ask-answer-requires : goal.ask-answer-requires
ask-answer-requires c = let (all, room) = c.requires in part-long _ c.args.area.now (rw (sub-zero _) room) (all ∙ sym (sub-zero _))

pub returns : goal.returns
returns c = let (all, room) = c.requires in
    let area = c.args.area.now in
    let asked = c.ask-answer in
    record {
      answered = asked.ensures ∙ sym (asks-long area _ _ (long-enough _ area room all));
      stored = handed-back _ area (rw (sub-zero _) room) (all ∙ sym (sub-zero _)) asked.new.area asked.auto.area c.clear.ensures;
    }
