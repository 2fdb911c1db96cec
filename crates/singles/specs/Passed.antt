-- What is said of bytes that a text's check passes over.
-- Assumes nothing.
use Rattle.std.specs.Prelude.{◌≡◌, List, ℕ, ◌≤◌, length, drop}
use Rattle.wire.specs.Text.{utf8}

-- a place inside, or behind the last byte
pub record Start (s : List ℕ) (from : ℕ) : Type 0 where
  pub inside : from ≤ length s

-- from one place to another, what is to be said of the rest stays
pub record Same (s : List ℕ) (from to : ℕ) : Type 0 where
  pub up : from ≤ to
  pub inside : to ≤ length s
  pub same : utf8 (drop to s) ≡ utf8 (drop from s)
