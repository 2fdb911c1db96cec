-- `recorded::field::is_whole` meets its contract: what is left is to be as many fields as are left.
-- Assumes nothing.
use mathlib.Core.Path.{◌≡◌}
use Prim.Native.Nat.{◌-◌}
use Rattle.recorded.specs.Fields.{is_whole}
use Rattle.recorded.proofs.field.is_whole.Given as goal

abbrev pub invariant-loop : goal.invariant-loop
invariant-loop l = is_whole (l.fields - l.counter) l.rest ≡ is_whole l.fields l.bytes
