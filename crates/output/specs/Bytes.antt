-- Bytes behind others in a lent output: their count stops at the largest word, and those behind the output's end are dropped.
-- Assumes nothing.
use Rattle.std.specs.Prelude.{◌≡◌, List, ℕ, ◌+◌, ◌-◌, ◌^◌, ◌<◌, ◌≤◌, length, ltb}
use Rattle.std.proofs.lemmas.List.Edits.{sets}
use Rattle.wire.specs.Tests.{pick}

unfoldable pub cap : ℕ → ℕ
cap n = pick (ltb n (2 ^ 64)) n (2 ^ 64 - 1)

-- r of n bytes behind the first u have a place, and no more of them do
pub record Places (len u n r : ℕ) : Type 0 where
  pub few : r ≤ n
  pub inside : r ≤ len - u
  pub all : r < n → len ≤ u + r

-- the bytes s behind the first u: there are n now
pub record Puts (s : List ℕ) (u : ℕ) (out : List ℕ) (n : ℕ) (after : List ℕ) : Type 0 where
  pub counted : n ≡ cap (u + length s)
  pub stored : after ≡ sets out u s
