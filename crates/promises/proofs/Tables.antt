-- The first form's check is the one before, definition by definition; of at most 256 nodes that are good up to i, none up to i has a longer chain.
-- Assumes nothing.
use mathlib.Core.Path.{◌≡◌, refl}
use mathlib.Core.Bool.{Bool, true}
use mathlib.Core.List.{List}
use Prim.Native.Nat.{ℕ, zero, suc, ◌+◌, ◌-◌, ◌≤◌, ◌<◌}
use native.Mathlib.Nat.{not-suc-le-zero}
use native.Mathlib.Omega.{arith}
use lib.ListN.{length}
use lib.Dec.{leb}
use borrow.Author.Tests.{ne_eqb, le-leb, leb-true}
use Rattle.wire.specs.declared.Refusal.TheVariants.{Trailer}
use Rattle.wire.specs.declared.Layout.{Layout}
use Rattle.wire.specs.Checked.{Bad}
use Rattle.wire.specs.Tests.{pick, given, both}
use Rattle.wire.specs.Table.{u16_at, first, second, size_of, mark_of, most_nodes, most_bytes, table_form, ending_at, layout_at, good_trailer, node_at, record_of, good_node, chain_of, short_chain, good_in, check_from, check_at, check_as, check}
use Rattle.wire.specs.Before.{layout_before, good_before, check_from_before, check_at_before, check_before}
use Rattle.laws.proofs.Splits.{by-test, by-eq, up_to, of-given}
use Rattle.laws.proofs.Tables.{tested, depth-within, good-table}
use Rattle.laws.proofs.Chains.{chain-is-depth}
use Rattle.promises.specs.Tables.{EndsInBytes, AsBefore, StaysGood, OlderRefuses, ChainsAreShort, FirstIsShallow, RuleOfBoth}

pub ends-in-bytes : EndsInBytes
unfolding u16_at
ends-in-bytes s h b =
    let next : length s - 2 + 1 ≡ length s - 1 = omega arith in (
      λ e. let e' = rw next at e in (omega (arith, h (length s - 2), h (length s - 1)), omega (arith, h (length s - 2), h (length s - 1))),
      λ p. rw (next, p.0, p.1),
    )

-- ---- the first form

from_first : (s : List ℕ) (l : Layout) (i n : ℕ) → check_from first s l i n ≡ check_from_before s l i n
unfolding check_from check_from_before good_in
from_first s l i zero = refl
from_first s l i (suc n) = rw (from_first s l (i + 1) n)

at_first : (s : List ℕ) (end : ℕ) → check_at first s (ending_at first s end) end ≡ check_at_before s end
unfolding check_at check_at_before ending_at layout_at layout_before good_trailer good_before mark_of most_nodes most_bytes
at_first s end = rw (from_first s (layout_before s end) 0 (layout_before s end).nodes)

as_first : (s : List ℕ) → check_as first s ≡ check_before s
unfolding check_as check_before size_of
as_first s = rw (at_first s (length s - 10))

pub as_before : AsBefore
unfolding check table_form mark_of pick
as_before s h = rw (ne_eqb (u16_at s (length s - 2)) 0x5057 h) (as_first s)

-- ---- an older port

older-at : (s : List ℕ) (end : ℕ) → u16_at s (end + 8) ≡ 0x5057 → check_at_before s end ≡ Bad Trailer 0
unfolding check_at_before good_before both given
older-at s end h = rw (ne_eqb (u16_at s (end + 8)) 0x5053 (λ e. omega arith))

pub older-refuses : OlderRefuses
unfolding check_before
older-refuses s h =
    of-given (λ r. r ≡ Bad Trailer 0) (leb 10 (length s)) _ _
    (λ e.
    let long = leb-true 10 (length s) e in
    let here : length s - 2 ≡ length s - 10 + 8 = omega arith in
    older-at s (length s - 10) (rw here at h))
    (λ e. refl)

pub stays-good : StaysGood
stays-good s l h =
    by-eq (u16_at s (length s - 2)) 0x5057
    (λ e. let b = older-refuses s e in let z : ◌≡◌ {A = ℕ} 0 1 = cc in absurd (omega arith))
    (λ ne. rw (as_before s ne) h)

-- ---- chains of children

pub chains-are-short : ChainsAreShort
chains-are-short s l h i b = rw (chain-is-depth s l i) ((good-table s l h).short-chains i b)

pub first-is-shallow : FirstIsShallow
first-is-shallow s l h = chains-are-short s l (stays-good s l h)

module _ (s : List ℕ) (l : Layout) where
  abbrev good : ℕ → Bool
  good i = good_node s l i (node_at s (record_of l i))

  short-chain : (n i : ℕ) → ((j : ℕ) → j < n → good j ≡ true) → i < n → chain_of s l i ≤ suc i
  short-chain n i h b = rw (chain-is-depth s l i) (depth-within s l n (λ j k. tested s l j (node_at s (record_of l j)) (h j k)) i b)

  same-node : (i : ℕ) → suc i ≤ 256 → ((j : ℕ) → j < i → good j ≡ true) → good_in second s l i ≡ good_in first s l i
  unfolding good_in given short_chain
  same-node i b h =
      by-test (good i)
      (λ e. rw (e, le-leb (chain_of s l i) 256 (let c = short-chain (i + 1) i (up_to (λ j. good j ≡ true) i h e) (omega arith) in omega arith)))
      (λ e. rw e)

  same_from : (i n : ℕ) → i + n ≤ 256 → ((j : ℕ) → j < i → good j ≡ true) → check_from second s l i n ≡ check_from first s l i n
  unfolding check_from good_in given
  same_from i zero b h = refl
  same_from i (suc n) b h =
      by-test (good i)
      (λ e. rw (same-node i (omega arith) h, e) (same_from (i + 1) n (omega arith) (up_to (λ j. good j ≡ true) i h e)))
      (λ e. rw (same-node i (omega arith) h, e))

pub rule-of-both : RuleOfBoth
rule-of-both s l n b = same_from s l 0 n (omega arith) (λ j k. absurd (not-suc-le-zero k))
