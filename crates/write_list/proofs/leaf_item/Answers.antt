-- `write_list::leaf_item` meets its contract: a misfit, of which nothing is put, or the entry's own bytes, which nothing follows.
-- Assumes nothing.
use mathlib.Core.Path.{refl, sym, ◌∙◌}
use native.Mathlib.Omega.{arith}
use Rattle.wire.specs.Answers.{room_of}
use Rattle.write_list.proofs.Going.{going_end, gives-misfit, keeps-done, keeps_same}
use Rattle.write_list.proofs.Nodes.{some_fits, start-lacks, start-known, start-going, leaf-starts}
use Rattle.write_list.proofs.leaf_item.Goals as goal

pub fits_leaf-ok-requires : goal.fits_leaf-ok-requires
fits_leaf-ok-requires c = record { leaf = c.requires.leaf; known = start-known (leaf-starts _ _ _ _ c.requires.at_bound c.first-first.ensures c.second-second.ensures) c.requires.sure }

pub put_leaf-more-requires : goal.put_leaf-more-requires
put_leaf-more-requires c = record { leaf = c.requires.leaf; fits = some_fits _ 0 _ _ _ (sym c.fits_leaf-ok.ensures ∙ c.if-ok.true) }

pub overflow_add-next : goal.overflow_add-next
unfolding room_of
overflow_add-next c = omega (arith, c.requires.at_bound)

pub returns-then-ok : goal.returns-then-ok
returns-then-ok c = (
  going_end
      (start-going (leaf-starts _ _ _ _ c.requires.at_bound c.first-first.ensures c.second-second.ensures) (sym c.fits_leaf-ok.ensures ∙ c.if-ok.true)
      (λ bs q. c.put_leaf-more.ensures.puts 0 q))
      refl,
  keeps-done,
)

pub returns : goal.returns
returns c = (gives-misfit (start-lacks (leaf-starts _ _ _ _ c.requires.at_bound c.first-first.ensures c.second-second.ensures) (sym c.fits_leaf-ok.ensures ∙ c.if-ok.false)), keeps_same)
