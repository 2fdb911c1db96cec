-- Bytes behind others of a lent output, stored where the output has room for all of them.
-- Assumes nothing.
use Rattle.std.specs.Prelude.{◌≡◌, List, ℕ, ◌+◌, ◌≤◌, length}
use Rattle.std.proofs.lemmas.List.Edits.{sets}
use Rattle.output.specs.Bytes.{cap}

-- there are n bytes now; what is left of the output is said only where the bytes s behind the first u have room
pub record Lays (s : List ℕ) (u : ℕ) (out : List ℕ) (n : ℕ) (after : List ℕ) : Type 0 where
  pub counted : n ≡ cap (u + length s)
  pub long : length after ≡ length out
  pub stored : u + length s ≤ length out → after ≡ sets out u s
