-- `parting::next_pair` meets its contract: the loop's invariant is that the children left decide.
-- Assumes nothing.
use mathlib.Core.Path.{refl, ◌∙◌}
use Rattle.table.proofs.Stretches.{falls-first}
use Rattle.append.proofs.Matching.{as_long}
use Rattle.parting.proofs.Steps.{other-kinds, left-start, left-old, left-new, left-apart, left-next}
use native.Mathlib.Omega.{arith}
use borrow.Author.Rules.{rules}
use Rattle.parting.proofs.next_pair.Goals as goal

pub kind_at-number-requires : goal.kind_at-number-requires
kind_at-number-requires c = let asked = c.requires in record { good_table = asked.begun.old; i_lt_nodes = asked.left }

pub kind_at-other-requires : goal.kind_at-other-requires
kind_at-other-requires c = let asked = c.requires in record { good_table = asked.begun.new; i_lt_nodes = asked.right }

pub returns-then-number-other : goal.returns-then-number-other
returns-then-number-other c = record {
  follows = other-kinds c.requires c.kind_at-number.ensures c.kind_at-other.ensures c.if-number-other.true;
  sound = c.requires.sound;
}

pub child_count-olds-requires : goal.child_count-olds-requires
child_count-olds-requires c = let asked = c.requires in record { good_table = asked.begun.old; i_lt_nodes = asked.left }

pub child_count-news-requires : goal.child_count-news-requires
child_count-news-requires c = let asked = c.requires in record { good_table = asked.begun.new; i_lt_nodes = asked.right }

pub first_child-from-requires : goal.first_child-from-requires
first_child-from-requires c = let asked = c.requires in record { good_table = asked.begun.old; i_lt_nodes = asked.left }

pub first_child-at-requires : goal.first_child-at-requires
first_child-at-requires c = let asked = c.requires in record { good_table = asked.begun.new; i_lt_nodes = asked.right }

pub loop-olds-init : goal.loop-olds-init
loop-olds-init c = (
  left-start c.requires c.kind_at-number.ensures c.kind_at-other.ensures c.if-number-other.false c.child_count-olds.ensures c.child_count-news.ensures c.first_child-from.ensures c.first_child-at.ensures,
  search rules,
  c.requires.sound,
  refl,
)

pub shape_of-area-then-news-eq0 : goal.shape_of-area-then-news-eq0
shape_of-area-then-news-eq0 c = c.loop-olds.invariant.3

pub returns-then-news-eq0 : goal.returns-then-news-eq0
returns-then-news-eq0 c = record { follows = left-new c.loop-olds.invariant.0 c.loop-olds-test.true (omega arith); sound = c.loop-olds.invariant.2 }

pub nodes_match-requires : goal.nodes_match-requires
nodes_match-requires c = let asked = c.requires in
    let here = c.loop-olds.invariant in
    let p = c.u16_at-p.ensures.0 in
    let q = c.u16_at-q.ensures.0 in
    let lower = falls-first here.0.olds c.loop-olds-test.true in
    let below = falls-first here.0.news (omega arith) in
    record {
      begun = as_long asked.begun here.3;
      left = omega (arith, asked.left);
      right = omega (arith, asked.right);
      sound = here.2;
    }

pub returns-then-not-nodes_match : goal.returns-then-not-nodes_match
returns-then-not-nodes_match c = record {
  follows = left-apart c.loop-olds.invariant.0 c.loop-olds-test.true (omega arith) c.u16_at-p.ensures.0 c.u16_at-q.ensures.0 c.nodes_match.ensures.answer c.if-not-nodes_match.true;
  sound = c.nodes_match.ensures.sound;
}

pub overflow_sub-olds : goal.overflow_sub-olds
overflow_sub-olds c = c.loop-olds-test.true

pub overflow_add-from : goal.overflow_add-from
overflow_add-from c = omega (arith, c.loop-olds.invariant.0.olds.inside, c.well_formed.0)

pub overflow_add-at : goal.overflow_add-at
overflow_add-at c = omega (arith, c.loop-olds.invariant.0.news.inside, c.well_formed.1.1.1.0)

pub loop-olds-preserved : goal.loop-olds-preserved
loop-olds-preserved c = (
  left-next c.loop-olds.invariant.0 c.loop-olds-test.true (omega arith) c.u16_at-p.ensures.0 c.u16_at-q.ensures.0 c.nodes_match.ensures.answer c.if-not-nodes_match.false,
  search rules,
  c.nodes_match.ensures.sound,
  c.nodes_match.auto.area ∙ c.loop-olds.invariant.3,
)

pub shape_of-area : goal.shape_of-area
shape_of-area c = c.loop-olds.invariant.3

pub returns : goal.returns
returns c = record { follows = left-old c.loop-olds.invariant.0 (omega arith); sound = c.loop-olds.invariant.2 }
