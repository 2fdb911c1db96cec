-- Rows whose numbers fit their bytes, as those of any bytes do.
-- Assumes nothing.
use Rattle.std.specs.Prelude.{List, [], ◌∷◌, ◌^◌, ◌<◌}
use Rattle.desk.specs.declared.Row.{Row}

pub record RowFits (r : Row) : Type 0 where
  pub store : r.key.store < 256 ^ 4
  pub product : r.key.product < 256 ^ 8
  pub offset : r.offset < 256 ^ 4

pub data RowsFit : List Row → Type 0 where
  none_left : RowsFit []
  each : {r : Row} {rs : List Row} → RowFits r → RowsFit rs → RowsFit (r ∷ rs)
