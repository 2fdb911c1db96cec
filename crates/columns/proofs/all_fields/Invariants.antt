-- `columns::all_fields` meets its contract: the loop's invariant is that all fields have a style if those from the i-th on do.
-- Assumes nothing.
use Prim.Native.Nat.{◌+◌, ◌-◌, ◌*◌}
use Rattle.columns.proofs.Styled.{Going}
use Rattle.columns.proofs.all_fields.Given as goal

abbrev pub invariant-loop-i : goal.invariant-loop-i
invariant-loop-i l = Going l.table l.l l.fields.from l.fields.width (l.fields.from + 2 * l.i) (l.fields.width - l.i)
