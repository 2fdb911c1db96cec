-- `append::nodes_match` and `append::compare` meet their contracts: the old node's number falls at each call, and the loop's invariant is that the children left decide.
-- Assumes nothing.
use mathlib.Core.Path.{refl, sym, ◌∙◌}
use Rattle.table.proofs.Stretches.{falls-first}
use Rattle.append.proofs.Matching.{pairs-none, alike-other, alike-unsuited, left-start, left-no, left-next, as_long, matches-alike, row_fits, pair_fits, pair_inside, sound-marking}
use native.Mathlib.Omega.{arith}
use Rattle.append.proofs.+compare_nodes_match.Goals as goal

pub compare-returns-then-number-other : goal.compare-returns-then-number-other
compare-returns-then-number-other t c = record {
  answer = alike-other c.requires _ c.kind_at-number.ensures c.kind_at-other.ensures c.if-number-other.true;
  sound = c.requires.sound;
}

pub compare-returns-then-not-fits : goal.compare-returns-then-not-fits
compare-returns-then-not-fits t c = record {
  answer =
      alike-unsuited c.requires _ c.kind_at-number.ensures c.kind_at-other.ensures c.if-number-other.false c.child_count-left.ensures c.child_count-all.ensures
      (sym c.fits.ensures ∙ c.if-not-fits.true);
  sound = c.requires.sound;
}

pub compare-loop-left-init : goal.compare-loop-left-init
compare-loop-left-init t c = (
  left-start c.requires _ c.kind_at-number.ensures c.kind_at-other.ensures c.if-number-other.false c.child_count-left.ensures c.child_count-all.ensures
      (sym c.fits.ensures ∙ c.if-not-fits.false) c.first_child-from.ensures c.first_child-at.ensures,
  refl,
)

pub compare-nodes_match-requires : goal.compare-nodes_match-requires
compare-nodes_match-requires t c = let asked = c.requires in
    let here = c.loop-left.invariant.0 in
    let some = c.loop-left-test.true in
    let p = c.u16_at-p.ensures.0 in
    let q = c.u16_at-q.ensures.0 in
    let lower = falls-first here.olds some in
    let below = falls-first here.news some in (
      omega (arith, c.decreases),
      record {
        begun = as_long asked.begun c.loop-left.invariant.1;
        left = omega (arith, asked.left);
        right = omega (arith, asked.right);
        sound = here.sound;
      },
    )

pub compare-returns-then-not-nodes_match : goal.compare-returns-then-not-nodes_match
compare-returns-then-not-nodes_match t c = record {
  answer = left-no c.loop-left.invariant.0 c.loop-left-test.true c.u16_at-p.ensures.0 c.u16_at-q.ensures.0 c.nodes_match.ensures c.if-not-nodes_match.true;
  sound = c.nodes_match.ensures.sound;
}

pub compare-overflow_add-from : goal.compare-overflow_add-from
compare-overflow_add-from t c = omega (arith, c.loop-left.invariant.0.olds.inside, c.loop-left-test.true, c.well_formed.0)

pub compare-overflow_add-at : goal.compare-overflow_add-at
compare-overflow_add-at t c = omega (arith, c.loop-left.invariant.0.news.inside, c.loop-left-test.true, c.well_formed.1.1.1.0)

pub compare-loop-left-preserved : goal.compare-loop-left-preserved
compare-loop-left-preserved t c = (
  left-next c.loop-left.invariant.0 c.loop-left-test.true c.u16_at-p.ensures.0 c.u16_at-q.ensures.0 c.nodes_match.ensures c.if-not-nodes_match.false,
  c.nodes_match.auto.area ∙ c.loop-left.invariant.1,
)

pub compare-returns : goal.compare-returns
compare-returns t c = let here = c.loop-left.invariant.0 in
    record { answer = pairs-none _ _ _ _ _ _ _ (omega arith) ∙ here.same; sound = here.sound }

pub nodes_match-overflow_mul-pair : goal.nodes_match-overflow_mul-pair
nodes_match-overflow_mul-pair t c = record { fits = row_fits c.requires }

pub nodes_match-overflow_add-pair : goal.nodes_match-overflow_add-pair
nodes_match-overflow_add-pair t c = record { fits = pair_fits c.requires }

pub nodes_match-returns-then-is_marked : goal.nodes_match-returns-then-is_marked
nodes_match-returns-then-is_marked t c = let asked = c.requires in
    record {
      answer = sym (asked.sound.found _ _ asked.left asked.right (sym c.is_marked.ensures ∙ c.if-is_marked.true));
      sound = asked.sound;
    }

pub nodes_match-is_open-free-requires : goal.nodes_match-is_open-free-requires
nodes_match-is_open-free-requires t c = let asked = c.requires in
    rw c.kind_at-number.ensures (asked.begun.old.node-good _ asked.left).is-kind

pub nodes_match-mark-requires : goal.nodes_match-mark-requires
nodes_match-mark-requires t c = rw c.compare.auto.area (pair_inside c.requires)

pub nodes_match-returns-then-compare : goal.nodes_match-returns-then-compare
nodes_match-returns-then-compare t c = let asked = c.requires in
    let told = c.compare.ensures in
    let found = sym c.if-compare.true ∙ told.answer ∙ matches-alike asked c.kind_at-number.ensures c.is_open-free.ensures in
    record {
      answer = found;
      sound = rw c.mark.ensures (sound-marking asked c.compare.auto.area told.sound found);
    }

pub nodes_match-returns : goal.nodes_match-returns
nodes_match-returns t c = let told = c.compare.ensures in
    record {
      answer = sym c.if-compare.false ∙ told.answer ∙ matches-alike c.requires c.kind_at-number.ensures c.is_open-free.ensures;
      sound = told.sound;
    }
