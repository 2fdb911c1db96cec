-- `decoder::near_zero` meets its contract: no byte that was passed is zero.
-- Assumes nothing.
use mathlib.Core.Path.{sym, ◌∙◌}
use Prim.Native.Nat.{◌-◌}
use native.Mathlib.Omega.{arith}
use Rattle.decoder.proofs.Search.{seeks-none, seeks-on}
use Rattle.decoder.proofs.near_zero.Goals as goal

pub loop-i-init : goal.loop-i-init
loop-i-init c = seeks-none _

pub returns-then-not-without : goal.returns-then-not-without
returns-then-not-without c = c.loop-i.invariant

pub loop-i-preserved : goal.loop-i-preserved
loop-i-preserved c = seeks-on 8 _ c.loop-i.invariant (omega arith) (sym c.if-not-without.false ∙ c.without_zero-without.ensures)

pub returns : goal.returns
returns c = c.loop-i.invariant
