-- What the steps of sending a frame ask and leave.
-- Assumes nothing.
use Rattle.std.specs.Prelude.{◌≡◌, List, [], ◌∷◌, ◌++◌, ℕ, zero, suc, ◌+◌, ◌-◌, ◌≤◌, ◌<◌, length, get_or, drop, replicate, eqb}
use Rattle.std.proofs.lemmas.List.Edits.{sets}
use Rattle.wire.specs.Tests.{pick}

-- how many of the first n bytes stand up to the last zero among them, and with it; none where there is no zero
unfoldable pub through_zero : ℕ → List ℕ → ℕ
through_zero zero s = 0
through_zero (suc n) s = pick (eqb (get_or s n 0) 0) (suc n) (through_zero n s)

-- the bytes in front of the first zero, but no more than so many
unfoldable pub run : (most : ℕ) → List ℕ → List ℕ
run most [] = []
run zero (b ∷ s) = []
run (suc most) (zero ∷ s) = []
run (suc most) (suc b ∷ s) = suc b ∷ run most s

-- the bytes of the group that starts at a place
abbrev pub group_at : List ℕ → ℕ → List ℕ
group_at message from = run 254 (drop from message)

-- a group has 254 bytes at the most, and no more than are left
pub record Most (left most : ℕ) : Type 0 where
  pub inside : most ≤ left
  pub few : most ≤ 254
  pub full : most < left → most ≡ 254

-- an output has room for them
pub record Runnable (message : List ℕ) (from : ℕ) (out : List ℕ) (to : ℕ) : Type 0 where
  pub within : from ≤ length message
  pub fits : to + length (group_at message from) ≤ length out

-- they stand there, so many
pub record Ran (message : List ℕ) (from : ℕ) (out : List ℕ) (to count : ℕ) (left : List ℕ) : Type 0 where
  pub many : count ≡ length (group_at message from)
  pub stored : left ≡ sets out to (group_at message from)

-- an output has room for a byte for each that is left of the message
pub record Fillable (message : List ℕ) (from : ℕ) (out : List ℕ) (to : ℕ) : Type 0 where
  pub within : from ≤ length message
  pub fits : to + (length message - from) ≤ length out

-- so many zeros stand from a place in the message on, and 01 for each from a place in the output on
pub record Filled (message : List ℕ) (from : ℕ) (out : List ℕ) (to n : ℕ) (left : List ℕ) : Type 0 where
  pub inside : from + n ≤ length message
  pub zeros : drop from message ≡ replicate n 0 ++ drop (from + n) message
  pub stored : left ≡ sets out to (replicate n 1)

-- bytes stand in front in an output, so many
pub record Put (s out : List ℕ) (n : ℕ) (left : List ℕ) : Type 0 where
  pub many : n ≡ length s
  pub stored : left ≡ sets out 0 s
