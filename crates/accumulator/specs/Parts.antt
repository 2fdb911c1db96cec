-- What the private functions ask, beside wire's definitions.
-- Assumes nothing.
use Rattle.std.specs.Prelude.{◌≡◌, List, [], ℕ, ◌≤◌, length}
use Rattle.std.proofs.Math.Option.{some}
use Rattle.wire.specs.Frames.{room, to_zero, padded}

-- a good state, and a chunk whose first zero is at n
pub record Endable (array : List ℕ) (idx : ℕ) (chunk : List ℕ) (n : ℕ) (message : List ℕ) : Type 0 where
  pub long : length array ≡ room
  pub good : idx ≤ room
  pub ends : to_zero chunk ≡ some n
  pub zeros : message ≡ padded []

-- a good state, and a message's slice that is all zeros
pub record Fresh (array : List ℕ) (idx : ℕ) (message : List ℕ) : Type 0 where
  pub long : length array ≡ room
  pub good : idx ≤ room
  pub zeros : message ≡ padded []
