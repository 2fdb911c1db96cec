-- The check as it was while there was the first form alone, kept so that tables stored then can be held to it.
-- Assumes nothing.
use Rattle.std.specs.Prelude.{Bool, List, ℕ, zero, suc, ◌+◌, ◌-◌, ◌/◌, length, leb, eqb}
use Rattle.wire.specs.declared.Refusal.TheVariants.{Trailer, Record}
use Rattle.wire.specs.declared.Layout.{Layout}
use Rattle.wire.specs.Checked.{Checked}
use Rattle.wire.specs.Checked.{Good, Bad}
use Rattle.wire.specs.Tests.{given, both}
use Rattle.wire.specs.Table.{u16_at, good_numbers, node_at, record_of, good_node}

unfoldable pub layout_before : List ℕ → ℕ → Layout
layout_before s end =
    record { records = end - u16_at s (end + 2); children = end - u16_at s end; places = u16_at s end / 2; nodes = u16_at s (end + 4); root = u16_at s (end + 6) }

unfoldable pub good_before : List ℕ → ℕ → Bool
good_before s end =
    both (eqb (u16_at s (end + 8)) 0x5053)
    (good_numbers 256 2048 (u16_at s end) (u16_at s (end + 2)) (u16_at s (end + 4)) (u16_at s (end + 6)) end)

-- the first that is not good of the nodes from i on, of which so many are left
unfoldable pub check_from_before : List ℕ → Layout → ℕ → ℕ → Checked
check_from_before s l i zero = Good l
check_from_before s l i (suc left) = given (good_node s l i (node_at s (record_of l i))) (λ _. check_from_before s l (i + 1) left) (Bad Record i)

unfoldable pub check_at_before : List ℕ → ℕ → Checked
check_at_before s end = given (good_before s end) (λ _. check_from_before s (layout_before s end) 0 (layout_before s end).nodes) (Bad Trailer 0)

unfoldable pub check_before : List ℕ → Checked
check_before s = given (leb 10 (length s)) (λ _. check_at_before s (length s - 10)) (Bad Trailer 0)
