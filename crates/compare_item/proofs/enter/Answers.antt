-- `compare_item::enter` meets its contract: a side is refused, or both are taken.
-- Assumes nothing.
use mathlib.Core.Path.{sym, ◌∙◌}
use native.Mathlib.Omega.{arith}
use Rattle.laws.proofs.Known.{head-known}
use Rattle.read_item.proofs.Entering.{Found, children-inside}
use Rattle.compare_item.proofs.Entering.{own-found, after-found, both-entered, first-unentered, second-unentered}
use Rattle.compare_item.proofs.enter.Goals as goal

pub inner_bytes-got-requires : goal.inner_bytes-got-requires
inner_bytes-got-requires c = c.requires.inner.inner

pub returns-in_default : goal.returns-in_default
returns-in_default c = let f : Found _ _ _ = record { kind = c.requires.inner.kind; count = c.child_count-width.ensures } in
    first-unentered _ _ _ _ (own-found f _ _ c.inner_bytes-got.ensures ∙ c.in_default.is)

pub inner_bytes-beside-requires : goal.inner_bytes-beside-requires
inner_bytes-beside-requires c = c.requires.inner.inner

pub returns-in_default-beside : goal.returns-in_default-beside
returns-in_default-beside c = let f : Found _ _ _ = record { kind = c.requires.inner.kind; count = c.child_count-width.ensures } in
    second-unentered _ _ _ (own-found f _ _ c.inner_bytes-got.ensures ∙ c.in-Ok.is) (own-found f _ _ c.inner_bytes-beside.ensures ∙ c.in_default-beside.is)

pub follow-to-requires : goal.follow-to-requires
follow-to-requires c = let inside = children-inside c.requires.good_table c.requires.node_lt_nodes c.child_count-width.ensures c.first_child-from.ensures in record { width_value = head-known _ _ _ _ (sym c.inner_bytes-got.ensures ∙ c.in-Ok.is); width_bound = omega arith }

pub follow-toward-requires : goal.follow-toward-requires
follow-toward-requires c = let inside = children-inside c.requires.good_table c.requires.node_lt_nodes c.child_count-width.ensures c.first_child-from.ensures in record { width_value = head-known _ _ _ _ (sym c.inner_bytes-beside.ensures ∙ c.in-Ok-beside.is); width_bound = omega (arith, c.well_formed.0.0) }

pub returns : goal.returns
returns c = let f : Found _ _ _ = record { kind = c.requires.inner.kind; count = c.child_count-width.ensures } in
    both-entered _ _ _ (own-found f _ _ c.inner_bytes-got.ensures ∙ c.in-Ok.is) (own-found f _ _ c.inner_bytes-beside.ensures ∙ c.in-Ok-beside.is)
    (after-found f _ _ _ _ c.first_child-from.ensures c.follow-to.ensures) (after-found f _ _ _ _ c.first_child-from.ensures c.follow-toward.ensures)
