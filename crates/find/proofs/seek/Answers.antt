-- `find::seek` meets its contract: the answer on the way, or that of the item at its end.
-- Assumes nothing.
use mathlib.Core.Path.{◌∙◌}
use native.Mathlib.Omega.{arith}
use Rattle.laws.proofs.Parts.{length-tail}
use Rattle.laws.proofs.Answers.{handed-up}
use Rattle.find.proofs.Going.{end-out, end-in}
use Rattle.find.proofs.seek.Goals as goal

pub slice_bounds-take-count : goal.slice_bounds-take-count
slice_bounds-take-count c = (end-in c.go.ensures c.in_ok-end.was).within

pub slice_bounds-take-start : goal.slice_bounds-take-start
slice_bounds-take-start c = (end-in c.go.ensures c.in_ok-end.was).within

pub take-requires : goal.take-requires
take-requires c = let e = end-in c.go.ensures c.in_ok-end.was in
    record { good_table = c.requires.good_table; node_lt_nodes = e.below; node_value = e.field; part_bound = omega (arith, e.within, length-tail c.args.message.now c.in_ok-end.end.place) }

pub returns-in_err-end : goal.returns-in_err-end
returns-in_err-end c = handed-up c.from_residual.ensures ∙ end-out c.go.ensures c.in_err-end.was

pub returns : goal.returns
returns c = c.take.ensures ∙ (end-in c.go.ensures c.in_ok-end.was).same
