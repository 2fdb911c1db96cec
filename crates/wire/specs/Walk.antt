-- The one way through a shape: an item, and then the children that its kind and its first word name.
-- Reading, writing and telling a value list's entries apart are three walks; each says only what an item is to it.
-- Assumes nothing.
use Rattle.std.specs.Prelude.{Bool, true, List, [], ◌∷◌, ℕ, zero, suc, ltb}
use Rattle.wire.specs.Shape.{Kind, plain, pooled, option, sequence, map, struct, enum, Shape, node, Shapes, none, more, count}

-- all the children, so many times over, or the one at a place
pub data Follow : Type 0 where
  each : (rounds : ℕ) → Follow
  only : (which : ℕ) → Follow

-- which children follow an item
unfoldable pub following : Kind → (first : ℕ) → Follow
following (plain _) a = each 0
following (pooled _) a = each 0
following option a = each a
following sequence a = each a
following map a = each a
following struct a = each 1
following enum a = only a

-- what follows is there, among n children
unfoldable pub is_known : Follow → ℕ → Bool
is_known (each rounds) n = true
is_known (only which) n = ltb which n

-- a walk's steps go from where it stands to what it made of that; one step can follow another,
-- and an item of a kind with so many children is given the step that its first word names
pub record Walk : Type 1 where
  pub From : Type 0
  pub To : Type 0
  pub nothing : From → To
  pub then : (From → To) → (From → To) → From → To
  pub item : Kind → ℕ → (ℕ → From → To) → From → To

abbrev pub Step : Walk → Type 0
Step w = w.From → w.To

module _ (w : Walk) where
  unfoldable pub all : List (Step w) → Step w
  all [] x = w.nothing x
  all (f ∷ fs) x = w.then f (λ y. all fs y) x

  unfoldable pub times : ℕ → Step w → Step w
  times zero f x = w.nothing x
  times (suc rounds) f x = w.then f (λ y. times rounds f y) x

  unfoldable pub nth : List (Step w) → ℕ → Step w
  nth [] which x = w.nothing x
  nth (f ∷ fs) zero x = f x
  nth (f ∷ fs) (suc which) x = nth fs which x

  unfoldable pub along : Follow → List (Step w) → Step w
  along (each rounds) fs x = times rounds (all fs) x
  along (only which) fs x = nth fs which x

  unfoldable mutual
    pub walk : Shape → Step w
    walk (node k ts) x = w.item k (count ts) (λ a. along (following k a) (walks ts)) x

    pub walks : Shapes → List (Step w)
    walks none = []
    walks (more t ts) = (λ x. walk t x) ∷ walks ts
