-- `recorded::field::part` meets its contract: the part is the one so many fields on in what is left.
-- Assumes nothing.
use mathlib.Core.Path.{◌≡◌}
use Prim.Native.Nat.{◌-◌}
use Rattle.recorded.specs.Fields.{part_of}
use Rattle.recorded.proofs.field.part.Given as goal

abbrev pub invariant-loop : goal.invariant-loop
invariant-loop l = part_of (l.which - l.counter) l.rest ≡ part_of l.which l.bytes
