-- What it is for a relation of walks' steps to hold of whole shapes.
-- Assumes nothing.
use Rattle.std.specs.Prelude.{◌≡◌, true, ℕ, ◌≤◌}
use Rattle.wire.specs.Shape.{Kind, struct, Shapes}
use Rattle.wire.specs.Walk.{Follow, following, is_known, Walk, Step, all, walks}

-- the step of shapes one after the other
abbrev pub row : (w : Walk) → Shapes → Step w
row w ts = all w (walks w ts)

-- any number of walks over one shape
abbrev pub Steps : {I : Type 0} → (I → Walk) → Type 0
Steps {I} ws = (i : I) → Step (ws i)

-- Walks over an old shape, each beside walks over a new one. A relation of steps has these three parts; it then holds of every two shapes that match.
-- An item may count on it for what follows a first word that the old kind knows; two walks' first words may differ where the same follows.
pub record Law {I J : Type 0} (olds : I → Walk) (news : J → Walk) (R : Steps olds → Steps news → Type 0) : Type 0 where
  pub none : R (λ i. (olds i).nothing) (λ j. (news j).nothing)
  pub both : {f f' : Steps olds} {g g' : Steps news} → R f g → R f' g' → R (λ i. (olds i).then (f i) (f' i)) (λ j. (news j).then (g j) (g' j))
  pub made : (f : Follow → Steps olds) (g : Follow → Steps news) (k : Kind) (n m : ℕ) → n ≤ m
      → ((a : ℕ) → is_known (following k a) n ≡ true → R (f (following k a)) (g (following k a)))
      → R (λ i. (olds i).item k n (λ a. f (following k a) i)) (λ j. (news j).item k m (λ a. g (following k a) j))

-- A second relation, in which the new shapes' steps may end later: it then holds of every shape and one that appends to it.
pub record Appending {I J : Type 0} (olds : I → Walk) (news : J → Walk) (R P : Steps olds → Steps news → Type 0) : Type 0 where
  pub whole : {f : Steps olds} {g : Steps news} → R f g → P f g
  pub end : (ts : Shapes) → P (λ i. (olds i).nothing) (λ j. row (news j) ts)
  pub next : {f f' : Steps olds} {g g' : Steps news} → R f g → P f' g' → P (λ i. (olds i).then (f i) (f' i)) (λ j. (news j).then (g j) (g' j))
  pub root : {f : Steps olds} {g : Steps news} (n m : ℕ) → P f g
      → P (λ i. (olds i).item struct n (λ a. (olds i).then (f i) (olds i).nothing)) (λ j. (news j).item struct m (λ a. (news j).then (g j) (news j).nothing))

-- Walks over one shape: a property of their steps that has these three parts holds of every shape.
pub record Every {I : Type 0} (ws : I → Walk) (P : Steps ws → Type 0) : Type 0 where
  pub none : P (λ i. (ws i).nothing)
  pub both : {f g : Steps ws} → P f → P g → P (λ i. (ws i).then (f i) (g i))
  pub made : (f : Follow → Steps ws) (k : Kind) (n : ℕ) → ((a : ℕ) → P (f (following k a)))
      → P (λ i. (ws i).item k n (λ a. f (following k a) i))
