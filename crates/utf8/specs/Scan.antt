-- What the parts of a text's check say of the bytes that they pass over.
-- Assumes nothing.
use Rattle.std.specs.Prelude.{◌≡◌, Bool, false, List, [], ℕ, ◌/◌, ◌%◌, ◌<◌, ◌≤◌, length, get_or, drop, leb, eqb}
use Rattle.wire.specs.Tests.{both}
use Rattle.wire.specs.Text.{width_of, low_of, high_of, utf8}
use Rattle.singles.specs.Passed.{Same}

-- the table, in rows of sixteen, holds the width of each byte
pub record AreWidths (widths : List (List ℕ)) : Type 0 where
  pub entry : (b : ℕ) → b < 256 → get_or (get_or widths (b / 16) []) (b % 16) 0 ≡ width_of b

-- the byte b may follow the lead byte
unfoldable pub is_second : (lead b : ℕ) → Bool
is_second lead b = both (leb (low_of lead) b) (leb b (high_of lead))

-- a sequence of three may start with these two bytes
unfoldable pub starts_three : (lead b : ℕ) → Bool
starts_three lead b = both (eqb (width_of lead) 3) (is_second lead b)

-- a place where a byte stands from low to high
pub record Starts (s : List ℕ) (at low high : ℕ) : Type 0 where
  pub inside : at < length s
  pub from : low ≤ get_or s at 0
  pub to : get_or s at 0 ≤ high

-- a place behind whole sequences: the rest there decides, and where none was passed over there is no text
pub record Behind (s : List ℕ) (from to : ℕ) : Type 0 where
  pub same : Same s from to
  pub none : to ≡ from → utf8 (drop from s) ≡ false
