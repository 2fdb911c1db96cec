-- `table::check` meets its contract: a trailer of the first form is tried, and what has none is the second's or no table.
-- Assumes nothing.
use mathlib.Core.Path.{sym, ap, subst, ◌∙◌}
use native.Mathlib.Omega.{arith}
use Rattle.wire.specs.Table.{first, second, size_of, check_from, check_as}
use Rattle.laws.proofs.Parts.{tail}
use Rattle.table.specs.Parts.{Inside}
use Rattle.table.proofs.Trailers.{fits-first, inside, layout-inside}
use Rattle.table.proofs.Checks.{check-short, check-bad, check-good, first_good, first-bad}
use Rattle.table.proofs.check.Goals as goal

pub returns-then-len-lt-SIZE : goal.returns-then-len-lt-SIZE
unfolding size_of
returns-then-len-lt-SIZE c = c.anew.ensures ∙ c.check_second.ensures ∙ ap (check_as second) (tail _ 0) ∙ first-bad _ (check-short first _ c.if-len-lt-SIZE.true)

pub layout_at-l-requires : goal.layout_at-l-requires
layout_at-l-requires c = inside first _ _ (sym (fits-first _ _) ∙ sym c.good_trailer.ensures ∙ c.if-good_trailer.true)

pub first_bad-bad-requires : goal.first_bad-bad-requires
first_bad-bad-requires c = subst (Inside _) (sym c.layout_at-l.ensures) (layout-inside first _ _ (sym (fits-first _ _) ∙ sym c.good_trailer.ensures ∙ c.if-good_trailer.true) _ (omega arith))

pub returns-then-good_trailer : goal.returns-then-good_trailer
unfolding size_of
returns-then-good_trailer c = let t = c.first_ending-t.ensures.0 in
    let good = sym c.if-good_trailer.true ∙ c.good_trailer.ensures ∙ fits-first _ _ in
    c.answer.ensures ∙ sym c.first_bad-bad.ensures ∙ ap (λ l. check_from first c.args.table.now l 0 l.nodes) c.layout_at-l.ensures
    ∙ check-good first _ _ (omega arith) _ t good ∙ first_good _ _ (omega arith) (rw t at (sym good))

pub returns : goal.returns
unfolding size_of
returns c = c.anew-2.ensures ∙ c.check_second-2.ensures ∙ ap (check_as second) (tail _ 0)
    ∙ first-bad _ (check-bad first _ _ (omega arith) _ c.first_ending-t.ensures.0 (sym c.if-good_trailer.false ∙ c.good_trailer.ensures ∙ fits-first _ _))
