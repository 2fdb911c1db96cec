-- What a function of the cycle leaves, and how a round begins.
-- Assumes nothing.
use Rattle.std.specs.Prelude.{◌≡◌, Bool, true, false, List, ℕ, ◌+◌, ◌≤◌, ◌<◌, length}
use Rattle.wire.specs.ReadAnswer.{ReadAnswer}
use Rattle.wire.specs.Reading.{Run}
use Rattle.wire.specs.Answers.{read_answer}
use Rattle.entry.specs.Words.{with_entry}
use Rattle.read_item.specs.Lay.{Left}
use Rattle.reader.specs.Begun.{Begun}
use Rattle.reader.specs.Begun.{At, Full}

-- a function's answer, and its store as it returns
pub record Gives (w : Left) (a : ReadAnswer) (s : List ℕ) : Type 0 where
  pub answered : a ≡ read_answer w.ends w.count
  pub stored : s ≡ w.store

-- the answer of a run behind the first m entries
unfoldable pub answer_behind : (m : ℕ) → Run → ReadAnswer
answer_behind m r = read_answer r.ends (m + length r.made)

-- a round's own entry at the place p, if it has one and there is room for it, behind the first m
pub data Begins (room p : ℕ) : Bool → List ℕ → ℕ → Begun → List ℕ → Type 0 where
  bare : {s : List ℕ} {m : ℕ} → Begins room p false s m (At m) s
  put : {s : List ℕ} {m : ℕ} → m < room → Begins room p true s m (At (m + 1)) (with_entry 0 0 p m s)
  full : {s : List ℕ} {m : ℕ} → room ≤ m → Begins room p true s m Full s
