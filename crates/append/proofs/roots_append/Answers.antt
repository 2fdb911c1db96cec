-- `append::roots_append` meets its contract: the comparison begins with no bit set that stands for a pair.
-- Assumes nothing.
use mathlib.Core.Path.{◌∙◌}
use native.Mathlib.Nat.{sub-zero}
use Rattle.append.proofs.Lent.{part-cleared}
use Rattle.append.proofs.Matching.{pairs-fit, used-fits, used-inside, roots-asked, appends-alike}
use Rattle.append.proofs.roots_append.Goals as goal

pub overflow_mul-used : goal.overflow_mul-used
overflow_mul-used c = record { fits = pairs-fit c.requires }

pub overflow_add-used : goal.overflow_add-used
overflow_add-used c = record { fits = used-fits c.requires }

pub slice_bounds-clear-end : goal.slice_bounds-clear-end
slice_bounds-clear-end c = used-inside c.requires

pub kind_at-number-requires : goal.kind_at-number-requires
kind_at-number-requires c = record { good_table = c.requires.old; i_lt_nodes = c.requires.old.root_below }

pub is_open_root-free-requires : goal.is_open_root-free-requires
is_open_root-free-requires c = let good = c.requires.old in rw c.kind_at-number.ensures (good.node-good _ good.root_below).is-kind

pub compare-requires : goal.compare-requires
compare-requires c = let begun = c.requires in
    let same = sub-zero _ in
    roots-asked begun same (part-cleared _ c.args.area.now (rw same (used-inside begun)) c.clear.ensures)

pub returns : goal.returns
returns c = record {
  answer = c.compare.ensures.answer ∙ appends-alike (c.requires.old, c.requires.new) c.kind_at-number.ensures c.is_open_root-free.ensures;
  sound = c.compare.ensures.sound;
}
