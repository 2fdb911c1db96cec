-- Worked cases of T-14: messages and their frames, and what sending answers and leaves in an output.
-- Assumes nothing.
use Rattle.std.specs.Prelude.{◌≡◌, List, [], ◌∷◌, ◌++◌, ℕ, length, replicate}
use Rattle.wire.specs.Answers.{Form, write_says, write_answer, out_with}
use Rattle.wire.specs.Sending.{frame, sends}

-- a full group's bytes
unfoldable pub full : List ℕ
full = replicate 254 7

-- an answer's number and place, and the output then
pub record Sent : Type 0 where
  pub number : ℕ
  pub place : ℕ
  pub out : List ℕ

unfoldable pub sent : Form → List ℕ → Sent
sent f out = record { number = (write_says (write_answer f)).number; place = (write_says (write_answer f)).place; out = out_with f out }

unfoldable pub sending : (message out : List ℕ) → Sent
sending message out = sent (sends message (length out)) out

pub record Frames : Type 0 where
  pub nothing : frame [] ≡ 1 ∷ 0 ∷ []
  pub one_zero : frame (0 ∷ []) ≡ 1 ∷ 1 ∷ 0 ∷ []
  pub mixed : frame (0x11 ∷ 0x22 ∷ 0 ∷ 0x33 ∷ []) ≡ 3 ∷ 0x11 ∷ 0x22 ∷ 2 ∷ 0x33 ∷ 0 ∷ []
  pub zero_last : frame (0x11 ∷ 0 ∷ []) ≡ 2 ∷ 0x11 ∷ 1 ∷ 0 ∷ []
  pub almost_full : frame (replicate 253 7) ≡ 0xfe ∷ (replicate 253 7 ++ (0 ∷ []))
  pub almost_full_and_zero : frame (replicate 253 7 ++ (0 ∷ 8 ∷ [])) ≡ 0xfe ∷ (replicate 253 7 ++ (2 ∷ 8 ∷ 0 ∷ []))
  pub full_last : frame full ≡ 0xff ∷ (full ++ (0 ∷ []))
  pub full_and_zero : frame (full ++ (0 ∷ [])) ≡ 0xff ∷ (full ++ (1 ∷ 1 ∷ 0 ∷ []))
  pub full_and_more : frame (full ++ (8 ∷ [])) ≡ 0xff ∷ (full ++ (2 ∷ 8 ∷ 0 ∷ []))
  pub twice_full : frame (full ++ full) ≡ 0xff ∷ (full ++ (0xff ∷ (full ++ (0 ∷ []))))

pub record Outputs : Type 0 where
  pub fits : sending (8 ∷ 0 ∷ []) (9 ∷ 9 ∷ 9 ∷ 9 ∷ []) ≡ record { number = 0; place = 4; out = 2 ∷ 8 ∷ 1 ∷ 0 ∷ [] }
  pub behind : sending (8 ∷ []) (9 ∷ 9 ∷ 9 ∷ 9 ∷ []) ≡ record { number = 0; place = 3; out = 2 ∷ 8 ∷ 0 ∷ 9 ∷ [] }
  pub over : sending (8 ∷ 0 ∷ []) (9 ∷ 9 ∷ 9 ∷ []) ≡ record { number = 12; place = 0; out = 9 ∷ 9 ∷ 9 ∷ [] }
  pub none : sending [] [] ≡ record { number = 12; place = 0; out = [] }
