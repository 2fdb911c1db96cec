-- What the decoding of a frame answers, in the words of the rules.
-- Assumes nothing.
use Rattle.std.specs.Prelude.{ℕ, Result, Ok, Err}
use Rattle.decoder.specs.declared.Bad as frame

-- the length of the message, or that the frame holds none
abbrev pub Decoded : Type 0
Decoded = Result ℕ frame.Bad

pattern abbrev pub Message : (len : ℕ) → Decoded
Message len = Ok len

pattern abbrev pub Bad : Decoded
Bad = Err (record {})
