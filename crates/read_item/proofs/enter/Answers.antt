-- `read_item::enter` meets its contract, by what it finds: a refusal, or an item that is taken.
-- Assumes nothing.
use mathlib.Core.Path.{refl, sym, ◌∙◌}
use native.Mathlib.Omega.{arith}
use Rattle.laws.proofs.Answers.{handed-up}
use Rattle.laws.proofs.Bounds.{head-by-sound}
use Rattle.read_item.proofs.Heads.{judged-head}
use Rattle.read_item.proofs.Entering.{Found, children-inside, enters-same, enters_on}
use Rattle.read_item.proofs.enter.Goals as goal

pub head_bytes-requires : goal.head_bytes-requires
head_bytes-requires c = c.requires.inner.inner

pub follow-to-requires : goal.follow-to-requires
follow-to-requires c = let inside = children-inside c.requires.good_table c.requires.node_lt_nodes c.child_count-width.ensures c.first_child-from.ensures in record {
  width_value = (head-by-sound _).knows _ _ _ _ (sym (judged-head _ _ _ _ _ (sym c.in_ok-own.was ∙ c.judge.ensures) c.head_bytes.ensures));
  width_bound = omega arith;
}

pub returns-in_err-own : goal.returns-in_err-own
returns-in_err-own c = enters-same (record { kind = c.requires.inner.kind; count = c.child_count-width.ensures }) _ _ _ (judged-head _ _ _ _ _ (sym c.in_err-own.was ∙ c.judge.ensures) c.head_bytes.ensures) refl (handed-up c.from_residual.ensures)

pub returns : goal.returns
returns c = let f : Found _ _ _ = record { kind = c.requires.inner.kind; count = c.child_count-width.ensures } in
    enters_on f _ _ _ (judged-head _ _ _ _ _ (sym c.in_ok-own.was ∙ c.judge.ensures) c.head_bytes.ensures) _ refl c.first_child-from.ensures c.follow-to.ensures c.put.ensures
