-- Both hold by computing, by way of the list that keeps the chains.
-- Assumes nothing.
use mathlib.Core.Path.{◌≡◌, refl, sym, ◌∙◌}
use Prim.Native.Nat.{ℕ, ◌+◌}
use native.Mathlib.Omega.{arith}
use lib.ListN.{replicate, length-replicate}
use Rattle.wire.specs.declared.Refusal.TheVariants.{Record}
use Rattle.wire.specs.Checked.{Checked}
use Rattle.wire.specs.Checked.{Good, Bad}
use Rattle.wire.specs.Tests.{pick, given, both}
use Rattle.wire.specs.Table.{u16_at, u32_at, second, size_of, mark_of, most_nodes, most_bytes, table_form, ending_at, layout_at, good_numbers, good_trailer, kinds, is_kind, kind_of, node_at, record_of, first_child, child_count, below, good_places, good_kind, good_node, short_chain, check_from, check_at, check_as, check}
use Rattle.laws.specs.Chains.{longest_at, kept_chain}
use Rattle.chains.specs.Keeping.{keep_next, check_keeping}
use Rattle.chains.specs.Examples.{two, options_from, options, layout, Longest, TooLong}
use Rattle.chains.proofs.Keeping.{keeping-is-same}

-- to open this is to compute all but the check of nodes
unfoldable trailing : Unit {0}
unfolding pick given both u16_at u32_at size_of mark_of most_nodes most_bytes table_form ending_at layout_at good_numbers good_trailer check_at check_as check two options_from options
trailing = tt

-- and this computes the check of nodes as well
unfoldable computing : Unit {0}
unfolding trailing kinds is_kind kind_of node_at record_of first_child child_count below good_places good_kind good_node short_chain longest_at kept_chain keep_next check_keeping
computing = tt

by-keeping : (n : ℕ) (answer : Checked) → check (options n) ≡ check_from second (options n) (layout n) 0 (n + 1)
    → check_keeping (options n) (layout n) (replicate (n + 1) 0) 0 (n + 1) ≡ answer → check (options n) ≡ answer
by-keeping n answer e k =
    e ∙ sym (keeping-is-same (options n) (layout n) (replicate (n + 1) 0) (n + 1) (omega (arith, length-replicate {A = ℕ} (n + 1) 0))) ∙ k

at-255 : check (options 255) ≡ check_from second (options 255) (layout 255) 0 256
unfolding trailing
at-255 = refl

kept-255 : check_keeping (options 255) (layout 255) (replicate 256 0) 0 256 ≡ Good (layout 255)
unfolding computing
kept-255 = refl

pub longest-is-good : Longest
longest-is-good = by-keeping 255 (Good (layout 255)) at-255 kept-255

at-256 : check (options 256) ≡ check_from second (options 256) (layout 256) 0 257
unfolding trailing
at-256 = refl

kept-256 : check_keeping (options 256) (layout 256) (replicate 257 0) 0 257 ≡ Bad Record 256
unfolding computing
kept-256 = refl

pub too_long : TooLong
too_long = by-keeping 256 (Bad Record 256) at-256 kept-256
