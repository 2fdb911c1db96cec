-- Two readings side by side, each with its own way to read an item's own bytes: a strict one beside the plain one, or two messages.
-- A law of them is stated of items alone.
-- Assumes nothing.
use Rattle.std.specs.Prelude.{◌≡◌, true, List, [], ◌∷◌, ◌++◌, ℕ}
use Rattle.wire.specs.declared.Refusal.{Refusal}
use Rattle.wire.specs.declared.Own.{Own}
use Rattle.wire.specs.Item.{Item}
use Rattle.wire.specs.Item.{Took, Refused}
use Rattle.wire.specs.Shape.{Kind, Shape}
use Rattle.wire.specs.Walk.{following, is_known, walk}
use Rattle.wire.specs.Values.{Entry}
use Rattle.wire.specs.Reading.{Head, Spot, Outcome, reached, refused, past, entry_of, reading}

-- Which spots and which entries are alike, and what may be said of the second reading where the first one refuses at a place:
-- the entries that the second makes from there on, and its end.
pub record Sides : Type 1 where
  pub Spots : Spot → Spot → Type 0
  pub Entries : Entry → Entry → Type 0
  pub Parts : Refusal → ℕ → List Entry → Outcome → Type 0
  pub later : {e : Refusal} {p : ℕ} {rest : List Entry} {y : Spot} → Parts e p rest (reached y) → (more : List Entry) (o : Outcome) → Parts e p (rest ++ more) o

pub data Each (E : Entry → Entry → Type 0) : List Entry → List Entry → Type 0 where
  none : Each E [] []
  also : {d e : Entry} {ds es : List Entry} → E d e → Each E ds es → Each E (d ∷ ds) (e ∷ es)

-- two runs: alike to the end, or as far as the first one goes
pub data Runs (b : Sides) (ds : List Entry) : Outcome → List Entry → Outcome → Type 0 where
  ended : {es : List Entry} {x y : Spot} → Each b.Entries ds es → b.Spots x y → Runs b ds (reached x) es (reached y)
  parted : {es rest made : List Entry} {e : Refusal} {p : ℕ} {o : Outcome} → made ≡ es ++ rest → Each b.Entries ds es → b.Parts e p rest o → Runs b ds (refused e p) made o

-- two items of a kind with n children, at the spots x and y
pub data Items (b : Sides) (k : Kind) (n : ℕ) (x y : Spot) : Item → Item → Type 0 where
  alike : {o q : Own} → is_known (following k o.first) n ≡ true → following k o.first ≡ following k q.first
      → b.Entries (entry_of o x) (entry_of q y) → b.Spots (past o.used x) (past q.used y) → Items b k n x y (Took o) (Took q)
  refuse : {e f : Refusal} → b.Parts e x.place [] (refused f y.place) → Items b k n x y (Refused e) (Refused f)
  part : {e : Refusal} {q : Own} → ((rest : List Entry) (o : Outcome) → b.Parts e x.place (entry_of q y ∷ rest) o)
      → Items b k n x y (Refused e) (Took q)

-- all that a law of two readings has to show: of shapes that match where n is at most m, of one shape where m is n
abbrev pub ItemsAlike : Sides → Head → Head → ℕ → ℕ → Type 0
ItemsAlike b h h' n m =
    (k : Kind) (x y : Spot) → b.Spots x y → Items b k n x y (h k n x.place x.bytes) (h' k m y.place y.bytes)

-- the two readings of two shapes are alike
abbrev pub ReadsAlike : Sides → Head → Head → Shape → Shape → Type 0
ReadsAlike b h h' s t =
    (x y : Spot) → b.Spots x y → Runs b (walk (reading h) s x).made (walk (reading h) s x).ends (walk (reading h') t y).made (walk (reading h') t y).ends
