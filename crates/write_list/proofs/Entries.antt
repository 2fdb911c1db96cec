-- What is left of a value list from the i-th entry on: none, or the i-th and those from the next on.
-- Assumes nothing.
use mathlib.Core.Path.{◌≡◌, ap}
use mathlib.Core.List.{List, [], ◌∷◌}
use Prim.Native.Nat.{ℕ, ◌+◌, ◌<◌, ◌≤◌}
use Rattle.wire.specs.Answers.{room_of}
use Rattle.entry.specs.Words.{entry_at}
use Rattle.entry.proofs.Words.{entries-end, entries_next}
use Rattle.write_list.specs.Steps.{entries}

pub entries_none : (ws : List ℕ) (i : ℕ) → room_of ws ≤ i → entries ws i ≡ record { at = i; entries = [] }
unfolding entries
entries_none ws i h = ap (λ es. record { at = i; entries = es }) (entries-end ws i h)

pub entries-more : (ws : List ℕ) (i : ℕ) → i < room_of ws → entries ws i ≡ record { at = i; entries = entry_at ws i ∷ (entries ws (i + 1)).entries }
unfolding entries
entries-more ws i h = ap (λ es. record { at = i; entries = es }) (entries_next ws i h)
