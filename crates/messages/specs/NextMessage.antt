-- What stands next in a batch, in the words of the rules.
-- Assumes nothing.
use Rattle.std.specs.Prelude.{ℕ, Result, Ok, Err}
use Rattle.wire.specs.declared.Refusal.{Refusal}
use Rattle.wire.specs.declared.RefusedAt.{RefusedAt}
use Rattle.desk.specs.declared.Key.{Key}
use Rattle.messages.specs.declared.Message as next

-- a message: its key and its length; or why it is refused, and where
abbrev pub NextMessage : Type 0
NextMessage = Result next.Message RefusedAt

abbrev pub Message : (key : Key) → (len : ℕ) → NextMessage
Message key len = Ok (record { key = key; len = len })

abbrev pub Stops : (why : Refusal) → (place : ℕ) → NextMessage
Stops why place = Err (record { why = why; place = place })
