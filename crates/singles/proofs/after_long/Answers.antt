-- `singles::after_long` meets its contract: what is left of it stands among its last eight bytes.
-- Assumes nothing.
use native.Mathlib.Omega.{arith}
use Prim.Native.Nat.{◌-◌}
use lib.ListN.{length}
use Rattle.singles.proofs.Passed.{on}
use Rattle.singles.proofs.Highs.{last-eight}
use Rattle.singles.proofs.after_long.Goals as goal

pub returns-then-eight_single : goal.returns-then-eight_single
returns-then-eight_single c = last-eight (λ i. (c.type_inv.s i).fits) (on c.after_words-most.ensures c.after_eights-i.ensures) (length c.args.s.now - 8) (omega arith) (omega arith) c.eight_single.ensures c.if-eight_single.true

pub returns : goal.returns
returns c = on (on c.after_words-most.ensures c.after_eights-i.ensures) c.after_ascii.ensures
