-- `table::check_second` meets its contract: its tests are the definition's, in their order.
-- Assumes nothing.
use mathlib.Core.Path.{sym, ap, subst, ◌∙◌}
use native.Mathlib.Omega.{arith}
use Rattle.wire.specs.Table.{second, size_of, most_nodes, check_from}
use Rattle.table.specs.Parts.{Inside}
use Rattle.table.proofs.Trailers.{fits-second, inside, layout-inside, layout-few}
use Rattle.table.proofs.Checks.{check-short, check-bad, check-good}
use Rattle.table.proofs.check_second.Goals as goal

pub layout_at-l-requires : goal.layout_at-l-requires
layout_at-l-requires c = inside second _ _ (sym (fits-second _ _) ∙ sym c.good_trailer.ensures ∙ c.if-good_trailer.true)

pub second_bad-bad-requires : goal.second_bad-bad-requires
unfolding most_nodes
second_bad-bad-requires c = let good = sym (fits-second _ _) ∙ sym c.good_trailer.ensures ∙ c.if-good_trailer.true in record { inside = subst (Inside _) (sym c.layout_at-l.ensures) (layout-inside second _ _ good _ (omega arith)); nodes_bound = rw c.layout_at-l.ensures (layout-few second _ _ good) }

pub returns-then-good_trailer : goal.returns-then-good_trailer
unfolding size_of
returns-then-good_trailer c = c.answer.ensures ∙ sym c.second_bad-bad.ensures ∙ ap (λ l. check_from second c.args.table.now l 0 l.nodes) c.layout_at-l.ensures
    ∙ check-good second _ _ (omega arith) _ c.second_ending-t.ensures.0 (sym c.if-good_trailer.true ∙ c.good_trailer.ensures ∙ fits-second _ _)

pub returns-else-good_trailer : goal.returns-else-good_trailer
unfolding size_of
returns-else-good_trailer c = check-bad second _ _ (omega arith) _ c.second_ending-t.ensures.0 (sym c.if-good_trailer.false ∙ c.good_trailer.ensures ∙ fits-second _ _)

pub returns-else-len-ge-SIZE : goal.returns-else-len-ge-SIZE
unfolding size_of
returns-else-len-ge-SIZE c = check-short second _ c.if-len-ge-SIZE.false
