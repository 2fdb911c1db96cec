-- `parting::go_down` meets its contract: the loop's invariant is that the positions stored are in front of those that follow, and the old node's number falls.
-- Assumes nothing.
use mathlib.Core.Path.{refl, ◌∙◌}
use Rattle.parting.proofs.Paths.{gone-start, next-lower, asked-next, gone-next, gone-all}
use Rattle.parting.proofs.go_down.Goals as goal

pub loop-position-init : goal.loop-position-init
loop-position-init c = let asked = c.requires in (gone-start _ asked.begun.old, asked, refl)

pub next_pair-requires : goal.next_pair-requires
next_pair-requires c = c.loop-position.invariant.1

pub returns-in_default : goal.returns-in_default
returns-in_default c = gone-all c.loop-position.invariant.0 c.next_pair.ensures.follows c.in_default.is

pub loop-position-smaller : goal.loop-position-smaller
loop-position-smaller c = next-lower c.loop-position.invariant.0 c.next_pair.ensures.follows c.in-Some.is

pub loop-position-preserved : goal.loop-position-preserved
loop-position-preserved c = let here = c.loop-position.invariant in
    let told = c.next_pair.ensures in
    let same = c.next_pair.auto.area in
    let found = c.in-Some.is in
    (gone-next here.0 told.follows found, asked-next here.0 told.follows here.1 same told.sound found, same ∙ here.2)
