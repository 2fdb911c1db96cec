-- `open::read_and_clear` meets its contract: what the reading leaves in the words that it was lent does not matter.
-- Assumes nothing.
use mathlib.Core.Path.{sym, ◌∙◌}
use native.Mathlib.Nat.{sub-zero}
use Rattle.reader.proofs.Promised.{reads_whole}
use Rattle.open.proofs.Promised.{handed-back, listed-long, opened-done, opened-refused}
use Rattle.open.proofs.read_and_clear.Goals as goal

pub returns-in-Ok : goal.returns-in-Ok
returns-in-Ok c = let (all, room) = c.requires in
    let got = c.read_with-got in
    let list = c.args.list.now in
    listed-long _ _ list (all ∙ sym (sub-zero _)) (rw (sub-zero _) room) (reads_whole _ _ _ _ got.ensures) (opened-done c.in-Ok.is) (handed-back _ list (rw (sub-zero _) room) got.new.list got.auto.list c.clear.ensures)

pub returns-in-Err : goal.returns-in-Err
returns-in-Err c = let (all, room) = c.requires in
    let got = c.read_with-got in
    let list = c.args.list.now in
    listed-long _ _ list (all ∙ sym (sub-zero _)) (rw (sub-zero _) room) (reads_whole _ _ _ _ got.ensures) (opened-refused c.in-Err.is) (handed-back _ list (rw (sub-zero _) room) got.new.list got.auto.list c.clear.ensures)
