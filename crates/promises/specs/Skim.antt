-- What a skim tells of a message: as much as a read does.
-- Assumes nothing.
use Rattle.std.specs.Prelude.{◌≡◌, List, ℕ}
use Rattle.wire.specs.Answers.{room_of, reads, run_answer, skims}

-- A skim with a store's room answers what a read with that store does.
abbrev pub SkimIsRead : Type 0
SkimIsRead = (table message store : List ℕ) → skims table message (room_of store) ≡ run_answer (reads table message store)
