-- A varint that was taken has a byte at least, and no more than there are.
-- Assumes nothing.
use Rattle.std.proofs.Common.{◌≡◌, ℕ, ltb, List, sym, ◌∙◌, arith}
use Rattle.wire.specs.declared.Refusal.TheVariants.{BadVarint}
use Rattle.wire.specs.declared.Own.{Own}
use Rattle.wire.specs.Item.{Item}
use Rattle.wire.specs.Item.{Took, Refused}
use Rattle.wire.specs.Numbers.{varint_f}
use Rattle.laws.specs.Range.{span, Taken}
use Rattle.laws.proofs.Splits.{of-pick}
use Rattle.laws.proofs.Varints.{in-range}
use Rattle.varint.specs.Takes.{limit_of, takes}

pub taken : (k top : ℕ) (s : List ℕ) {r : Item} {own : Own} → r ≡ takes k top s → r ≡ Took own → Taken (span k top) s own
unfolding takes
taken k top s {own} e t =
    of-pick (λ i. i ≡ Took own → Taken (span k top) s own) (ltb top (limit_of k)) (varint_f k top s) (Refused BadVarint)
    (λ _ q. rw q at (in-range k top s)) (λ _ q. let z : ◌≡◌ {A = ℕ} 0 1 = cc in absurd (omega arith)) (sym e ∙ t)
