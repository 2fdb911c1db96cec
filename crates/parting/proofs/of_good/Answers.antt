-- `parting::of_good` meets its contract: the append question decides, and after a no the way down.
-- Assumes nothing.
use mathlib.Core.Path.{sym, ◌∙◌}
use Rattle.append.proofs.Matching.{as_long}
use Rattle.parting.proofs.Promise.{begun-good, says-appends, says-apart}
use Rattle.parting.proofs.of_good.Goals as goal

pub roots_append-requires : goal.roots_append-requires
roots_append-requires c = let pre = c.requires in begun-good pre.value pre.area_bytes_in_bounds

pub returns-then-roots_append : goal.returns-then-roots_append
returns-then-roots_append c = let (old, new) = c.requires.value in
    says-appends _ _ old new _ (sym c.if-roots_append.true ∙ c.roots_append.ensures.answer)

pub go_down-depth-requires : goal.go_down-depth-requires
go_down-depth-requires c = let pre = c.requires in
    let begun = begun-good {area = c.args.area.now} pre.value pre.area_bytes_in_bounds in
    record {
      begun = as_long begun c.roots_append.auto.area;
      left = begun.old.root_below;
      right = begun.new.root_below;
      sound = c.roots_append.ensures.sound;
    }

pub returns : goal.returns
returns c = let (old, new) = c.requires.value in
    says-apart _ _ old new (sym c.if-roots_append.false ∙ c.roots_append.ensures.answer) c.go_down-depth.ensures
