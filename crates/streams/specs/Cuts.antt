-- A stream that comes in chunks, and what becomes of a frame in it, however it is cut.
-- Assumes nothing.
use Rattle.std.specs.Prelude.{◌≡◌, Bool, false, List, [], ◌∷◌, ◌++◌, ℕ, ◌+◌, ◌≤◌, length}
use Rattle.std.proofs.Math.Option.{some}
use Rattle.wire.specs.declared.FeedAnswer.TheVariants.{Consumed, Frame}
use Rattle.wire.specs.Frames.{Fed, Marked, room, decode}
use Rattle.accumulator.specs.Feeding.{Feeder}

unfoldable pub joined : List (List ℕ) → List ℕ
joined [] = []
joined (c ∷ cs) = c ++ joined cs

-- a chunk that is taken whole
pub record Taken (f : Fed) : Type 0 where
  pub answer : f.answer ≡ Consumed
  pub message : f.message ≡ []
  pub rest : f.rest ≡ []

-- ---- a frame, cut anywhere

-- chunks are fed in order, each to the state that the one before it left: all are taken whole up to one that answers x, and others are still to come
pub data Comes (by : Feeder) : (array : List ℕ) (idx : ℕ) (waiting : Bool) (chunks : List (List ℕ)) (x : Marked) (later : List (List ℕ)) → Type 0 where
  at : {array : List ℕ} {idx : ℕ} {waiting : Bool} {c : List ℕ} {cs : List (List ℕ)} → Comes by array idx waiting (c ∷ cs) (by array idx waiting c) cs
  behind : {array : List ℕ} {idx : ℕ} {waiting : Bool} {c : List ℕ} {cs later : List (List ℕ)} {x : Marked} → Taken (by array idx waiting c).fed → Comes by (by array idx waiting c).fed.array (by array idx waiting c).fed.idx (by array idx waiting c).waiting cs x later → Comes by array idx waiting (c ∷ cs) x later

-- one of the chunks answers 23 with a message, leaves the state empty and not waiting, and its rest and the later chunks hold what stands behind the frame
pub record Ended (by : Feeder) (array : List ℕ) (idx : ℕ) (waiting : Bool) (chunks : List (List ℕ)) (m behind : List ℕ) : Type 0 where
  pub last : Marked
  pub later : List (List ℕ)
  pub comes : Comes by array idx waiting chunks last later
  pub answer : last.fed.answer ≡ Frame
  pub message : last.fed.message ≡ m
  pub empty : last.fed.idx ≡ 0
  pub mark : last.waiting ≡ false
  pub rest : last.fed.rest ++ joined later ≡ behind

-- a frame that fits, its zero among its bytes, and what stands behind it, in any chunks whatever: 20 until the zero comes, and then 23 with the frame's message
abbrev pub AnyCut : Feeder → Type 0
AnyCut by =
    (array : List ℕ) (chunks : List (List ℕ)) (s m behind : List ℕ)
    → decode s ≡ some m
    → length s + 1 ≤ room
    → joined chunks ≡ s ++ (0 ∷ behind)
    → Ended by array 0 false chunks m behind
