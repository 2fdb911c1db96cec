-- `find::go` meets its contract: position by position, the rest of the path answers what the whole path does.
-- Assumes nothing.
use mathlib.Core.Path.{◌≡◌}
use native.Mathlib.Omega.{arith}
use Rattle.laws.proofs.Answers.{handed-up}
use Rattle.find.proofs.Going.{go-start, go-inward, go-out, go-in, go-end, go-long}
use Rattle.find.proofs.go.Goals as goal

pub loop-which-init : goal.loop-which-init
loop-which-init c = go-start c.requires.good_table _ _

pub pass-requires : goal.pass-requires
pass-requires c = let p = c.requires in
    record {
      good_table = p.good_table;
      node_lt_nodes = c.loop-which.invariant.leading.below;
      inward = go-inward p.good_table _ _ c.loop-which.invariant p.path_value c.loop-which-test.true;
      part_bound = omega (arith, go-long p.good_table _ _ c.loop-which.invariant);
    }

pub returns-in_err-passed : goal.returns-in_err-passed
returns-in_err-passed c = let p = c.requires in
    rw (handed-up c.from_residual.ensures, ← c.in_err-passed.was) (go-out p.good_table _ _ c.loop-which.invariant p.path_value c.loop-which-test.true c.pass.ensures c.in_err-passed.was)

pub overflow_sub-used : goal.overflow_sub-used
overflow_sub-used c = let p = c.requires in
    let on = go-in p.good_table _ _ c.loop-which.invariant p.path_value c.loop-which-test.true c.pass.ensures c.in_ok-passed.was in on.0

pub slice_bounds-rest-count : goal.slice_bounds-rest-count
slice_bounds-rest-count c = let p = c.requires in
    let on = go-in p.good_table _ _ c.loop-which.invariant p.path_value c.loop-which-test.true c.pass.ensures c.in_ok-passed.was in on.1

pub slice_bounds-rest-start : goal.slice_bounds-rest-start
slice_bounds-rest-start c = let p = c.requires in
    let on = go-in p.good_table _ _ c.loop-which.invariant p.path_value c.loop-which-test.true c.pass.ensures c.in_ok-passed.was in on.1

pub loop-which-preserved : goal.loop-which-preserved
loop-which-preserved c = let p = c.requires in
    let on = go-in p.good_table _ _ c.loop-which.invariant p.path_value c.loop-which-test.true c.pass.ensures c.in_ok-passed.was in on.2

pub returns : goal.returns
returns c = let p = c.requires in go-end p.good_table _ _ c.loop-which.invariant p.path_value c.loop-which-test.false
