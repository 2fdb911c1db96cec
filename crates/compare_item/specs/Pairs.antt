-- Laying pairs of places into a lent list, behind those that are there already.
-- Assumes nothing.
use Rattle.std.specs.Prelude.{List, [], ◌∷◌, ℕ, ◌+◌, ◌*◌, ◌/◌, length, ltb}
use Rattle.std.proofs.lemmas.List.Edits.{sets}
use Rattle.wire.specs.Tests.{pick}
use Rattle.desk.specs.Differ.{Pair}

-- a list with a pair at the number c, where it has words for it
unfoldable pub with_pair : (one other : ℕ) → (c : ℕ) → List ℕ → List ℕ
with_pair one other c s = pick (ltb c (length s / 2)) (sets s (2 * c) (one ∷ other ∷ [])) s

-- a list with pairs from the number c on, those that it has words for
unfoldable pub pairs_from : List Pair → (c : ℕ) → List ℕ → List ℕ
pairs_from [] c s = s
pairs_from (p ∷ ps) c s = pairs_from ps (c + 1) (with_pair p.one p.other c s)
