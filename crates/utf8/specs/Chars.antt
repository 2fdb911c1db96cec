-- The parts of a code point, and the array that holds a code point's bytes.
-- Assumes nothing.
use Rattle.std.specs.Prelude.{◌≡◌, List, [], ℕ, ◌-◌, length, replicate}
use Rattle.std.proofs.lemmas.List.Edits.{sets}
use Rattle.wire.specs.Tests.{pick}
use Rattle.wire.specs.Text.{width_of, lead_part, is_char, char_bytes}

unfoldable pub lead_of : ℕ → ℕ
lead_of b = lead_part (width_of b) b

unfoldable pub over_of : ℕ → ℕ
over_of b = b - 0x80

-- a char's bytes with zeros behind them, and how many they are; none of what is no char
pub record Form (c : ℕ) (array : List ℕ) (len : ℕ) : Type 0 where
  pub size : len ≡ length (pick (is_char c) (char_bytes c) [])
  pub stored : array ≡ sets (replicate 4 0) 0 (pick (is_char c) (char_bytes c) [])
