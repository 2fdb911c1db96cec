-- The accident that T-07 is for, by both feeders.
-- Assumes nothing.
use Rattle.std.specs.Prelude.{◌≡◌, false, List, [], ◌∷◌, ℕ, replicate}
use Rattle.wire.specs.Frames.{feed, feed_bridge}
use Rattle.streams.specs.Stream.{steps, handed}

unfoldable pub array : List ℕ
array = replicate 2048 9

-- a frame that is too long and ends like a short one, and a frame behind it
unfoldable pub accident : List (List ℕ)
accident = replicate 2046 7 ∷ (5 ∷ 5 ∷ 3 ∷ []) ∷ (2 ∷ 8 ∷ 0 ∷ 3 ∷ 4 ∷ 5 ∷ 0 ∷ []) ∷ []

-- the default hands out the second frame's message, and the bridge's way the tail of the first one too
pub record Hold : Type 0 where
  pub dropped : handed (steps feed 9 array 0 false accident) ≡ (4 ∷ 5 ∷ []) ∷ []
  pub taken : handed (steps feed_bridge 9 array 0 false accident) ≡ (2 ∷ 8 ∷ []) ∷ (4 ∷ 5 ∷ []) ∷ []
