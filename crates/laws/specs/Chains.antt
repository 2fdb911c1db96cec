-- The chains of a table's nodes as code finds them: one node after the other, by a list of the chains in front.
-- Assumes nothing.
use Rattle.std.specs.Prelude.{◌≡◌, true, List, ℕ, zero, suc, max, ◌+◌, ◌<◌, get_or}
use Rattle.wire.specs.declared.Layout.{Layout}
use Rattle.wire.specs.Table.{u16_at, Node, node_at, record_of, good_node, chain_of}
use Rattle.laws.specs.Tables.{node_first, node_count}

-- the longest of the chains that f gives to the nodes whose numbers stand from an offset on, of which so many are left
unfoldable pub longest_at : (ℕ → ℕ) → List ℕ → ℕ → ℕ → ℕ
longest_at f s from zero = 0
longest_at f s from (suc left) = max (f (u16_at s from)) (longest_at f s (from + 2) left)

-- the chain of the node i, by a list of the chains of the nodes in front
unfoldable pub kept_chain : List ℕ → Layout → (chains : List ℕ) → ℕ → Node → ℕ
kept_chain s l chains i r = suc (longest_at (λ child. get_or chains child 0) s (node_first l i r) (node_count r))

-- the nodes in front of i are good, and the list holds their chains
pub record Kept (s : List ℕ) (l : Layout) (chains : List ℕ) (i : ℕ) : Type 0 where
  pub goods : (j : ℕ) → j < i → good_node s l j (node_at s (record_of l j)) ≡ true
  pub held : (j : ℕ) → j < i → get_or chains j 0 ≡ chain_of s l j
