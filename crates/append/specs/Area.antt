-- The work area: a bit for each pair of an old node and a new one, set once the pair was found to match.
-- Assumes nothing.
use Rattle.std.specs.Prelude.{◌≡◌, true, List, ℕ, ◌+◌, ◌*◌, ◌<◌}
use Rattle.wire.specs.declared.Layout.{Layout}
use Rattle.wire.specs.Append.{matches}
use Rattle.laws.specs.Tables.{node_shape}
use Rattle.bits.specs.Marks.{marked}

-- the bit of the old node i and the new node j: as many to an old node as the new table has nodes
abbrev pub pair_bit : Layout → ℕ → ℕ → ℕ
pair_bit m i j = i * m.nodes + j

-- every pair that is marked matches
pub record Sound (s : List ℕ) (l : Layout) (t : List ℕ) (m : Layout) (a : List ℕ) : Type 0 where
  pub found : (i j : ℕ) → i < l.nodes → j < m.nodes → marked a (pair_bit m i j) ≡ true → matches (node_shape s l i) (node_shape t m j) ≡ true
