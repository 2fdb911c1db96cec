-- A chain of 256 is good, and one of 257 is refused at its last node, though the root reaches none of it.
-- Assumes nothing.
use Rattle.std.specs.Prelude.{◌≡◌, List, [], ◌∷◌, ◌++◌, ℕ, zero, suc, ◌+◌, ◌*◌, ◌/◌, ◌%◌}
use Rattle.wire.specs.declared.Refusal.TheVariants.{Record}
use Rattle.wire.specs.declared.Layout.{Layout}
use Rattle.wire.specs.Checked.{Good, Bad}
use Rattle.wire.specs.Table.{check}

unfoldable pub two : ℕ → List ℕ
two x = (x % 256) ∷ (x / 256) ∷ []

-- records of options, of which the first names the node i, the next the node behind i, and so on
unfoldable pub options_from : ℕ → ℕ → List ℕ
options_from i zero = []
options_from i (suc left) = 15 ∷ 0 ∷ (two i ++ (0 ∷ 0 ∷ options_from (i + 1) left))

-- a unit, which is the root, and n options behind it, each of the node in front
unfoldable pub options : ℕ → List ℕ
options n =
    14 ∷ 0 ∷ 0 ∷ 0 ∷ 0 ∷ 0
    ∷ (options_from 0 n ++ (0 ∷ 0 ∷ 0 ∷ 0 ∷ (two (6 * n + 6) ++ (0 ∷ 0 ∷ (two (n + 1) ++ (0 ∷ 0 ∷ 0x57 ∷ 0x50 ∷ []))))))

abbrev pub layout : ℕ → Layout
layout n = record { records = 0; children = 6 * n + 6; places = 0; nodes = n + 1; root = 0 }

abbrev pub Longest : Type 0
Longest = check (options 255) ≡ Good (layout 255)

abbrev pub TooLong : Type 0
TooLong = check (options 256) ≡ Bad Record 256
