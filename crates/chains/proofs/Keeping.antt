-- At each node the list holds the chains in front, so that the chain found from it is the definition's.
-- Assumes nothing.
use mathlib.Core.Path.{◌≡◌, refl}
use mathlib.Core.List.{List}
use Prim.Native.Nat.{ℕ, zero, suc, ◌+◌, ◌≤◌}
use native.Mathlib.Omega.{arith}
use lib.ListN.{length, set, length-set}
use Rattle.wire.specs.declared.Layout.{Layout}
use Rattle.wire.specs.Tests.{given}
use Rattle.wire.specs.Table.{second, node_at, record_of, good_node, chain_of, short_chain, good_in, check_from}
use Rattle.laws.specs.Chains.{Kept}
use Rattle.laws.proofs.Splits.{by-test}
use Rattle.laws.proofs.Chains.{kept-none, kept-chain, kept_next}
use Rattle.chains.specs.Keeping.{keep_next, check_keeping, KeepingIsSame}

same_kept : (s : List ℕ) (l : Layout) (chains : List ℕ) (i n : ℕ) → i + n ≤ length chains → Kept s l chains i → check_keeping s l chains i n ≡ check_from second s l i n
unfolding check_keeping keep_next check_from good_in given
same_kept s l chains i zero room k = refl
same_kept s l chains i (suc n) room k =
    by-test (good_node s l i (node_at s (record_of l i)))
    (λ e. by-test (short_chain (chain_of s l i))
    (λ short. rw (e, kept-chain k e, short) (same_kept s l (set chains i (chain_of s l i)) (i + 1) n (rw (length-set chains i (chain_of s l i)) (omega arith)) (kept_next k e (omega arith) _ refl)))
    (λ long. rw (e, kept-chain k e, long)))
    (λ e. rw e)

pub keeping-is-same : KeepingIsSame
keeping-is-same s l chains n room = same_kept s l chains 0 n (omega arith) (kept-none s l chains)
