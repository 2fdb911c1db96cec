-- The second form's check of nodes, by a list that keeps the chains so far: the definition goes down every chain anew.
-- Assumes nothing.
use Rattle.std.specs.Prelude.{◌≡◌, List, ℕ, zero, suc, ◌+◌, ◌≤◌, length, set}
use Rattle.wire.specs.declared.Refusal.TheVariants.{Record}
use Rattle.wire.specs.declared.Layout.{Layout}
use Rattle.wire.specs.Checked.{Checked}
use Rattle.wire.specs.Checked.{Good, Bad}
use Rattle.wire.specs.Tests.{given}
use Rattle.wire.specs.Table.{second, node_at, record_of, good_node, short_chain, check_from}
use Rattle.laws.specs.Chains.{kept_chain}

unfoldable pub keep_next : Checked → (ℕ → Checked) → ℕ → Checked
keep_next bad next chain = given (short_chain chain) (λ _. next chain) bad

unfoldable pub check_keeping : List ℕ → Layout → (chains : List ℕ) → ℕ → ℕ → Checked
check_keeping s l chains i zero = Good l
check_keeping s l chains i (suc left) =
    given (good_node s l i (node_at s (record_of l i)))
    (λ _. keep_next (Bad Record i) (λ chain. check_keeping s l (set chains i chain) (i + 1) left) (kept_chain s l chains i (node_at s (record_of l i))))
    (Bad Record i)

-- it answers as the definition does, whatever the list held
abbrev pub KeepingIsSame : Type 0
KeepingIsSame = (s : List ℕ) (l : Layout) (chains : List ℕ) (n : ℕ) → n ≤ length chains → check_keeping s l chains 0 n ≡ check_from second s l 0 n
