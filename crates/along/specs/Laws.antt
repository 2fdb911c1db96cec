-- What is proved of the question for one item by its path, of shapes and any room.
-- Assumes nothing.
use Rattle.std.specs.Prelude.{◌≡◌, List, ◌∷◌, ◌++◌, ℕ, ◌+◌, ◌≤◌, length, drop}
use Rattle.std.proofs.Math.Option.{some}
use Rattle.wire.specs.declared.Refusal.{Refusal}
use Rattle.wire.specs.declared.Own.{Own}
use Rattle.wire.specs.Item.{Took}
use Rattle.wire.specs.Shape.{Kind, option, Shape}
use Rattle.wire.specs.Values.{Entry}
use Rattle.wire.specs.Reading.{head, Spot, front, Outcome, refused, Run, read, fit}
use Rattle.desk.specs.FindAnswer.{FindAnswer}
use Rattle.desk.specs.FindAnswer.{Found, NoItem, Absent, Refused}
use Rattle.desk.specs.Path.{leads, find_in}
use Rattle.along.specs.Seek.{seek}

-- Going along the path answers what the full read's entries do.
abbrev pub SeeksFound : Type 0
SeeksFound = (t : Shape) (path : List ℕ) (k : Kind) → leads t path ≡ some k → (room : ℕ) (x : Spot)
    → seek t path room x ≡ find_in t path (fit room (read t x))

-- What an answer is beside a read that made the entries es and ended so: one of these entries, also where the read is refused
-- later; an option's entry among them that is absent; or, where it made neither, its refusal.
pub record Among (e : Entry) (es : List Entry) : Type 0 where
  pub front : List Entry
  pub rest : List Entry
  pub list : es ≡ front ++ e ∷ rest

pub data FromRead (es : List Entry) : Outcome → FindAnswer → Type 0 where
  made : {end : Outcome} (e : Entry) → Among e es → FromRead es end (Found e.first e.second e.place)
  lacking : {end : Outcome} (e : Entry) → e.first ≡ 0 → Among e es → FromRead es end (Absent e.place)
  same : {why : Refusal} {p : ℕ} → FromRead es (refused why p) (Refused why p)

-- Every answer but that the path leads to no item is so.
abbrev pub FoundMade : Type 0
FoundMade = (t : Shape) (path : List ℕ) (r : Run) → (find_in t path r ≡ NoItem → ⊥) → FromRead r.made r.ends (find_in t path r)

-- The own bytes of the item that decides an answer, u of them at the place p, where the bytes s are: the path's item, or the
-- option that is absent.
pub data Decides (k : Kind) (s : List ℕ) (p u : ℕ) : FindAnswer → Type 0 where
  item : {own : Own} → head k 0 p s ≡ Took own → own.used ≡ u → Decides k s p u (Found own.first own.second p)
  gone : {own : Own} → head option 0 p s ≡ Took own → own.first ≡ 0 → own.used ≡ u → Decides k s p u (Absent p)

-- Bytes after that item can't change the answer: it is the same for two messages that agree up to the item's end.
pub data Settled (k : Kind) (message : List ℕ) (answer : List ℕ → FindAnswer) : FindAnswer → Type 0 where
  settled : {r : FindAnswer} (p u : ℕ) → Decides k (drop p message) p u r
      → ((s rest other : List ℕ) → message ≡ s ++ rest → p + u ≤ length s → answer (s ++ other) ≡ r) → Settled k message answer r
  refuses : {e : Refusal} {p : ℕ} → Settled k message answer (Refused e p)

abbrev pub LaterBytes : Type 0
LaterBytes = (t : Shape) (path : List ℕ) (k : Kind) → leads t path ≡ some k → (room : ℕ) (message : List ℕ)
    → Settled k message (λ m. find_in t path (fit room (read t (front m)))) (find_in t path (fit room (read t (front message))))

-- A path that leads to an item is never said to lead to none.
abbrev pub SomeItem : Type 0
SomeItem = (t : Shape) (path : List ℕ) (k : Kind) → leads t path ≡ some k → (room : ℕ) (message : List ℕ) → find_in t path (fit room (read t (front message))) ≡ NoItem → ⊥
