-- What the record is made as, answers, becomes and leaves.
-- Assumes nothing.
use Rattle.std.specs.Prelude.{List, ℕ, drop}
use Rattle.std.specs.Borrow.{Bor}
use Rattle.wire.specs.TakeAnswer.{TakeAnswer}
use Rattle.wire.specs.Answers.{takes, place_after}
use Rattle.deserializer.specs.declared.Deserializer.{Deserializer}

abbrev pub fresh : Bor (List ℕ) → Deserializer
fresh message = record { message = message; place = 0 }

abbrev pub takes_next : ℕ → Deserializer → TakeAnswer
takes_next k d = takes k d.message.now d.place

-- the same message, and the place behind the item that was taken
abbrev pub moved : Deserializer → TakeAnswer → Deserializer
moved d answer = record { message = d.message; place = place_after d.place answer }

abbrev pub rest_from : Deserializer → List ℕ
rest_from d = drop d.place d.message.now
