-- `singles::after_short` meets its contract: its first four bytes and its last four are all of them.
-- Assumes nothing.
use native.Mathlib.Omega.{arith}
use Prim.Native.Nat.{◌-◌}
use lib.ListN.{length}
use Rattle.singles.proofs.Highs.{four-ahead, last-four}
use Rattle.singles.proofs.after_short.Goals as goal

pub returns-then-four_single-2 : goal.returns-then-four_single-2
returns-then-four_single-2 c = last-four (λ i. (c.type_inv.s i).fits) (four-ahead (λ i. (c.type_inv.s i).fits) 0 4 (omega arith) c.requires.0 c.four_single.ensures c.if-four_single.true) (length c.args.s.now - 4) (omega arith) (omega arith) c.four_single-then-four_single.ensures c.if-four_single-2.true

pub returns : goal.returns
returns c = c.after_ascii.ensures
