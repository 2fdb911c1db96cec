-- What is proved of acceptors: that they stop exactly where no spelling goes on.
-- Assumes nothing.
use Rattle.std.specs.Prelude.{◌≡◌, Bool, true, List, [], ◌∷◌, ℕ, eqb}
use Rattle.std.proofs.Math.Option.{Option, none, some}
use Rattle.wire.specs.Tests.{pick}
use Rattle.wire.specs.Values.{Value}
use Rattle.desk.specs.Csv.{comma, Style, may, spelled, Spelling, Begins, Stops, exported_rows}
use Rattle.spellings.specs.Accept.{Acceptor, acceptor, Scanned, Parsed, took, stopped, parse}

-- this value, and no other, is spelled so
pub record Reads {X : Type 0} (p : Spelling X) (s : List ℕ) (v : X) : Type 0 where
  pub had : p.has v ≡ true
  pub spells : p.spell v ≡ s
  pub only : (w : X) → p.has w ≡ true → p.spell w ≡ s → w ≡ v

-- an acceptor goes from one state to another by these bytes
pub data Goes (A : Acceptor) : A.State → List ℕ → A.State → Type 0 where
  stays : {x : A.State} → Goes A x [] x
  steps : {x y z : A.State} {b : ℕ} {s : List ℕ} → A.step x b ≡ some y → Goes A y s z → Goes A x (b ∷ s) z

-- from its start it goes through a whole spelling of a value
pub record Whole (A : Acceptor) (s : List ℕ) (v : Value) : Type 0 where
  pub end : A.State
  pub goes : Goes A A.start s end
  pub is : A.value end ≡ some v

-- what may stand behind a field
unfoldable pub is_separator : ℕ → Bool
is_separator b = pick (eqb b comma) true (eqb b 13)

-- an acceptor that is exact: what it has gone through begins a spelling, it goes through every spelling,
-- where it is whole the spelling is, and no field goes on with a separator there
pub record Exact (p : Spelling Value) (A : Acceptor) : Type 0 where
  pub alive : {s : List ℕ} {x : A.State} → Goes A A.start s x → Begins p s
  pub whole : {s : List ℕ} {x : A.State} {v : Value} → Goes A A.start s x → A.value x ≡ some v → (p.has v ≡ true) × (p.spell v ≡ s)
  pub goes : (v : Value) → p.has v ≡ true → Whole A (p.spell v) v
  pub closed : {x : A.State} {v : Value} (b : ℕ) → is_separator b ≡ true → A.value x ≡ some v → A.step x b ≡ none

-- a style's values and their spellings
unfoldable pub styled : Style → Spelling Value
styled f = record { has = may f; spell = spelled f }

abbrev pub ExactStyle : Style → Type 0
ExactStyle f = Exact (styled f) (acceptor f)

pub data AllExact : List Style → Type 0 where
  no_field : AllExact []
  and_field : {f : Style} {fs : List Style} → ExactStyle f → AllExact fs → AllExact (f ∷ fs)

-- what was read is the one value with that spelling, or where it stopped is where every spelling stops
pub data Judged {X : Type 0} (p : Spelling X) (s : List ℕ) (f : X → Parsed) : Parsed → Type 0 where
  reads : {v : X} → Reads p s v → Judged p s f (f v)
  stops : {n : ℕ} → Stops p s n → Judged p s f (stopped n)

-- of every input, a row's reading says exactly what is said of all value lists
abbrev pub RowsJudged : Type 0
RowsJudged = (fs : List Style) → AllExact fs → (s : List ℕ) → Judged (exported_rows fs) s took (parse fs s)

-- ---- an acceptor beside another, as one that keeps no contents

-- both go on to states that are alike, or neither does
pub data Next {X Y : Type 0} (R : X → Y → Type 0) : Option X → Option Y → Type 0 where
  neither : Next R none none
  each : {x : X} {y : Y} → R x y → Next R (some x) (some y)

abbrev pub Beside : (A B : Acceptor) → (A.State → B.State → Type 0) → Type 0
Beside A B R = (x : A.State) (y : B.State) (b : ℕ) → R x y → Next R (A.step x b) (B.step y b)

-- two that went equally far, to states that are alike
pub record Alike (A B : Acceptor) (R : A.State → B.State → Type 0) (r : Scanned A) (q : Scanned B) : Type 0 where
  pub states : R r.state q.state
  pub used : r.used ≡ q.used
  pub left : r.left ≡ q.left
