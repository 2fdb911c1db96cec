-- `take_text::next_byte` meets its contract: a byte of an open char, a quote, or a char's first byte.
-- Assumes nothing.
use mathlib.Core.Path.{◌≡◌, refl, sym, ◌∙◌}
use native.Mathlib.Omega.{arith}
use Rattle.take_text.proofs.Marking.{quote-is, no-turn, a_turn, open-low, open-high, open-on, lead-no, lead-none, lead-on}
use Rattle.take_text.proofs.next_byte.Goals.{then-b-open-via-then-b-open, then-b-open-via-else-b-open+then-open-b, then-w-lt1-via-then-w-lt1, then-w-lt1-via-else-w-lt1+then-not-may_go_on}
use Rattle.take_text.proofs.next_byte.Goals as goal

pub returns-then-b-open : goal.returns-then-b-open
returns-then-b-open c =
    elim c.then-b-open.branch [
      | then-b-open-via-then-b-open w ↦ no-turn _ _ _ _ _ _ _ (omega arith) (open-low _ _ _ _ _ _ (omega arith) w.if-b-open.true)
      | then-b-open-via-else-b-open+then-open-b w ↦ no-turn _ _ _ _ _ _ _ (omega arith) (open-high _ _ _ _ _ _ (omega arith) w.if-open-b.true)
    ]

pub returns-then-open-gt0 : goal.returns-then-open-gt0
returns-then-open-gt0 c = a_turn _ _ _ _ _ _ _ (omega arith) refl (open-on _ _ _ _ _ _ (omega arith) (omega arith) (omega arith))

pub at_quote-requires : goal.at_quote-requires
at_quote-requires c = quote-is _ _ (omega arith) (omega arith)

pub returns-then-b-eq-QUOTE : goal.returns-then-b-eq-QUOTE
returns-then-b-eq-QUOTE c = let e : c.args.open.more ≡ 0 = omega arith in rw e (c.at_quote.ensures.any _ _)

pub returns-then-w-lt1 : goal.returns-then-w-lt1
returns-then-w-lt1 c =
    elim c.then-w-lt1.branch [
      | then-w-lt1-via-then-w-lt1 w ↦ no-turn _ _ _ _ _ _ _ (omega arith) (lead-none _ _ _ _ _ _ (omega arith) c.if-b-eq-QUOTE.false (omega (arith, c.width-w.ensures, w.if-w-lt1.true)))
      | then-w-lt1-via-else-w-lt1+then-not-may_go_on w ↦ no-turn _ _ _ _ _ _ _ (omega arith) (lead-no _ _ _ _ _ _ (omega arith) c.if-b-eq-QUOTE.false (sym w.may_go_on.ensures ∙ w.if-not-may_go_on.true))
    ]

pub returns : goal.returns
returns c = rw (c.high_of.ensures, c.low_of.ensures, c.width-w.ensures) (a_turn _ _ _ _ _ _ _ (omega arith) refl (lead-on _ _ _ _ _ _ (omega arith) c.if-b-eq-QUOTE.false (sym c.may_go_on.ensures ∙ c.if-not-may_go_on.false) (omega (arith, c.width-w.ensures))))
