-- What the search for the place asks of a pair of nodes and tells.
-- Assumes nothing.
use Rattle.std.specs.Prelude.{◌≡◌, List, [], ◌∷◌, ℕ, ◌<◌, length, Some}
use Rattle.std.proofs.lemmas.List.Edits.{sets}
use Rattle.wire.specs.declared.Layout.{Layout}
use Rattle.laws.specs.Tables.{node_shape}
use Rattle.append.specs.Area.{Sound}
use Rattle.parting.specs.Next.{Next}
use Rattle.parting.specs.Next.{Here, Down}
use Rattle.parting.specs.Parting.{parting}

-- where the old node i and the new node j part
abbrev pub parting_at : List ℕ → Layout → ℕ → List ℕ → Layout → ℕ → List ℕ
parting_at s l i t m j = parting (node_shape s l i) (node_shape t m j)

-- a pair of children at a position, from which the way goes on
pub record Leads (s : List ℕ) (l : Layout) (i : ℕ) (t : List ℕ) (m : Layout) (j : ℕ) (at p q : ℕ) : Type 0 where
  pub on : parting_at s l i t m j ≡ at ∷ parting_at s l p t m q
  pub lower : p < i
  pub below : q < j

-- what follows a pair
abbrev pub Follows : List ℕ → Layout → ℕ → List ℕ → Layout → ℕ → Next → Type 0
Follows s l i t m j Here = parting_at s l i t m j ≡ []
Follows s l i t m j (Some r) = Leads s l i t m j r.position r.p r.q

-- and the area has a pair marked only if it matches
pub record Followed (s : List ℕ) (l : Layout) (i : ℕ) (t : List ℕ) (m : Layout) (j : ℕ) (a : List ℕ) (r : Next) : Type 0 where
  pub follows : Follows s l i t m j r
  pub sound : Sound s l t m a

-- the positions p are stored from the path's first word on, and counted
pub record Stored (p path : List ℕ) (depth : ℕ) (left : List ℕ) : Type 0 where
  pub deep : depth ≡ length p
  pub stored : left ≡ sets path 0 p
