-- Where no over-full chunk lacks a zero, no chunk spills, and both feeders keep to the step table.
-- Assumes nothing.
use mathlib.Core.Path.{◌≡◌, refl, ap}
use mathlib.Core.Bool.{Bool, true, false}
use mathlib.Core.List.{List, [], ◌∷◌}
use mathlib.Core.Option.{Option, none, some}
use Prim.Native.Nat.{ℕ, zero, suc, ◌+◌, ◌≤◌, ◌<◌}
use native.Mathlib.Omega.{arith}
use borrow.Author.Tests.{le-leb, lt-leb, leb-true, ltb-true}
use lib.Dec.{leb}
use lib.ListN.{length}
use Rattle.wire.specs.Tests.{pick}
use Rattle.wire.specs.declared.FeedAnswer.TheVariants.{OverFull}
use Rattle.wire.specs.Frames.{Rule, rule, room, to_zero, no_message, feed_on, feed_fit, feed_by, feed_bridge, spills, feed}
use Rattle.streams.specs.Stream.{again, Step, steps, still, BothAgree}
use Rattle.accumulator.proofs.Marks.{unmarked, feed-keeps}

module _ (array : List ℕ) (idx : ℕ) (chunk : List ℕ) where
  -- a chunk that spills in a good state is over-full and lacks a zero, in a smaller room too
  pub spill-over : (r : Rule) → idx ≤ r.room → r.room ≤ room → (x : Option ℕ) → to_zero chunk ≡ x → spills idx chunk x ≡ true → ((feed_by r array idx chunk).answer ≡ OverFull) × (to_zero chunk ≡ none)
  unfolding spills feed_by feed_fit feed_on pick no_message
  spill-over r good less none is over =
      let hi : room < idx + length chunk = ltb-true _ _ over in
      (rw (le-leb idx r.room good, is, lt-leb (idx + length chunk) r.room (omega arith)), is)
  spill-over r good less (some n) is over = let z : ◌≡◌ {A = ℕ} 0 1 = cc in absurd (omega arith)

  agree-bad : leb idx room ≡ false → feed array idx false chunk ≡ unmarked (feed_by rule array idx chunk)
  unfolding feed feed_by pick
  agree-bad is = rw is

  agree-one : ((feed_by rule array idx chunk).answer ≡ OverFull → to_zero chunk ≡ none → ⊥) → feed array idx false chunk ≡ unmarked (feed_by rule array idx chunk)
  agree-one no-spill = by (leb idx room) refl (spills idx chunk (to_zero chunk)) refl
    where
      by : (t : Bool) → leb idx room ≡ t → (u : Bool) → spills idx chunk (to_zero chunk) ≡ u → feed array idx false chunk ≡ unmarked (feed_by rule array idx chunk)
      by false is u over = agree-bad is
      by true is false over = feed-keeps array idx chunk over
      by true is true over =
          let (a, z) = spill-over rule (leb-true idx room is) (omega arith) (to_zero chunk) refl over in
          absurd (no-spill a z)

pub both-agree : BothAgree
unfolding steps feed_bridge
both-agree zero array idx chunks h = refl
both-agree (suc n) array idx [] h = refl
both-agree (suc n) array idx (c ∷ cs) (still no-spill h) =
    let f = feed_by rule array idx c in
    rw (agree-one array idx c no-spill) (ap (λ (xs : List Step). record { chunk = c; came = unmarked f } ∷ xs) (both-agree n f.array f.idx (again f.rest cs) h))
