-- What the functions ask and promise, beside wire's definitions.
-- Assumes nothing.
use Rattle.std.specs.Prelude.{◌≡◌, Bool, true, false, List, [], ◌++◌, ℕ, ◌+◌, ◌≤◌, length, take, drop}
use Rattle.std.proofs.Math.Option.{Option, none, some, map}
use Rattle.wire.specs.Frames.{room, to_zero, padded}
use Rattle.decoder.specs.Found.{Found}
use Rattle.decoder.specs.Found.{At, Nothing}
use Rattle.decoder.specs.Decoded.{Decoded}
use Rattle.decoder.specs.Decoded.{Message, Bad}

unfoldable pub found_of : Option ℕ → Found
found_of none = Nothing
found_of (some n) = At n

-- whether nothing was found
unfoldable pub nowhere : Option ℕ → Bool
nowhere none = true
nowhere (some n) = false

-- the first i bytes hold no zero
pub record Seeks (s : List ℕ) (i : ℕ) : Type 0 where
  pub within : i ≤ length s
  pub same : map (λ (n : ℕ). n + i) (to_zero (drop i s)) ≡ to_zero s

-- an array with a part in it, from `at` on
abbrev pub with : List ℕ → ℕ → List ℕ → List ℕ
with array at part = take at array ++ (part ++ drop (at + length part) array)

-- a frame that fits and has no zero, and a message's slice to decode it into
pub record Decodable (frame message : List ℕ) : Type 0 where
  pub fits : length frame ≤ room
  pub clean : to_zero frame ≡ none
  pub zeros : message ≡ padded []

-- a decoded message stands in front of zeros
pub record Holds (decoded : Option (List ℕ)) (message : List ℕ) (len : ℕ) : Type 0 where
  pub made : List ℕ
  pub is : decoded ≡ some made
  pub bytes : message ≡ padded made
  pub count : len ≡ length made

abbrev pub Decodes : Option (List ℕ) → List ℕ → Decoded → Type 0
Decodes m message (Message len) = Holds m message len
Decodes m message Bad = m ≡ none

-- the two parts of a frame that fits
pub record Joinable (front back message : List ℕ) : Type 0 where
  pub fits : length front + length back ≤ room
  pub clean : to_zero back ≡ none
  pub zeros : message ≡ padded []
