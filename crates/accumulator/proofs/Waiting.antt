-- The rows of the default's table, each from the tests that lead to it.
-- Assumes nothing.
use mathlib.Core.Path.{◌≡◌, refl, sym}
use mathlib.Core.Bool.{Bool, true, false}
use mathlib.Core.List.{List, []}
use mathlib.Core.Option.{none, some}
use Prim.Native.Nat.{ℕ, ◌+◌, ◌-◌, ◌≤◌, ◌<◌}
use native.Mathlib.Omega.{arith}
use borrow.Author.Tests.{lt-leb}
use lib.ListN.{length, take, drop, length-drop}
use lib.Seq.{drop-drop, drop-length, take-length}
use Rattle.wire.specs.Tests.{pick}
use Rattle.wire.specs.Frames.{room, rule, to_zero, padded, feed_on, feed_end, feed_by, spills, feed_fresh, feed_waiting, feed_marked, feed}
use Rattle.wire.specs.declared.FeedAnswer.TheVariants.{Consumed, OverFull, BadState}
use Rattle.accumulator.specs.declared.Step.{Step}
use Rattle.accumulator.specs.declared.Marked.{Marked}
use Rattle.accumulator.specs.Feeding.{written, marked, without, Feeds, FeedsMarked}
use Rattle.decoder.proofs.Search.{first}
use Rattle.accumulator.proofs.Feeding.{feeds-without, no_zero, some-zero}
use Rattle.accumulator.proofs.Marks.{fresh_keeps, fresh-spills, feed-good, fits-not-spills, over-spills}

abbrev mark : Bool → Step → Marked
mark w s = record { step = s; waiting = w }

-- ---- not waiting

module _ (array : List ℕ) (idx : ℕ) (chunk : List ℕ) (good : idx ≤ room) where
  pub fresh-over : to_zero chunk ≡ none → room - idx < length chunk → FeedsMarked (marked (feed_fresh array idx chunk)) chunk array (padded []) (mark true (without OverFull 0 (length chunk)))
  fresh-over clean over =
      rw (fresh-spills array idx chunk (over-spills idx chunk clean (omega arith))) (record { step = feeds-without (omega arith) (drop-length chunk); waiting = refl })

  module _ {array' message : List ℕ} {r : Step} where
    kept : spills idx chunk (to_zero chunk) ≡ false → Feeds (written (feed_by rule array idx chunk)) chunk array' message r → FeedsMarked (marked (feed_fresh array idx chunk)) chunk array' message (mark false r)
    kept not h = rw (fresh_keeps array idx chunk not) (record { step = h; waiting = refl })

    pub fresh_on : to_zero chunk ≡ none → length chunk ≤ room - idx → Feeds (written (feed_on rule array idx chunk)) chunk array' message r → FeedsMarked (marked (feed_fresh array idx chunk)) chunk array' message (mark false r)
    fresh_on clean fits h =
        kept (fits-not-spills idx chunk clean (omega arith)) (no_zero array idx chunk good clean h)

    pub fresh-end : {n : ℕ} → to_zero chunk ≡ some n → Feeds (written (feed_end rule array idx chunk n)) chunk array' message r → FeedsMarked (marked (feed_fresh array idx chunk)) chunk array' message (mark false r)
    unfolding spills
    fresh-end is h = kept (rw is) (some-zero array idx chunk good is h)

-- ---- waiting

module _ (array chunk : List ℕ) where
  pub wait-on : to_zero chunk ≡ none → FeedsMarked (marked (feed_waiting array chunk (to_zero chunk))) chunk array (padded []) (mark true (without Consumed 0 (length chunk)))
  unfolding feed_waiting
  wait-on clean = rw clean (record { step = feeds-without (omega arith) (drop-length chunk); waiting = refl })

  module _ {n : ℕ} (ends : to_zero chunk ≡ some n) where
    pub behind-inside : n + 1 ≤ length chunk
    behind-inside = let f = first chunk n ends in omega arith

    -- what follows the zero, as the code takes it out
    abbrev pub behind : List ℕ
    behind = take (length chunk - (n + 1)) (drop (n + 1) chunk)

    behind-is : behind ≡ drop (n + 1) chunk
    behind-is =
        let e : length chunk - (n + 1) ≡ length (drop (n + 1) chunk) = sym (length-drop (n + 1) chunk) in
        rw e (take-length (drop (n + 1) chunk))

    module _ {array' message : List ℕ} {r : Marked} (h : FeedsMarked (marked (feed_fresh array 0 behind)) behind array' message r) where
      inside : r.step.used ≤ length chunk - (n + 1)
      inside = omega (arith, (rw behind-is at h.step.within), length-drop (n + 1) chunk)

      pub used-inside : n + 1 + r.step.used ≤ length chunk
      used-inside = omega (arith, inside, behind-inside)

      pub wait-end : FeedsMarked (marked (feed_waiting array chunk (to_zero chunk))) chunk array' message (mark r.waiting (record { answer = r.step.answer; idx = r.step.idx; len = r.step.len; used = n + 1 + r.step.used }))
      unfolding feed_waiting
      wait-end =
          let g : FeedsMarked (marked (feed_fresh array 0 (drop (n + 1) chunk))) (drop (n + 1) chunk) array' message r = rw behind-is at h in
          let s = g.step in
          rw ends (record {
            step = record { answer = s.answer; idx = s.idx; len = s.len; within = used-inside; rest = rw (← drop-drop r.step.used (n + 1) chunk) s.rest; array = s.array; message = s.message };
            waiting = g.waiting;
          })

-- ---- any state

module _ (array : List ℕ) (idx : ℕ) (chunk : List ℕ) where
  pub marked-bad : (waiting : Bool) → room < idx → FeedsMarked (marked (feed array idx waiting chunk)) chunk array (padded []) (mark waiting (without BadState idx 0))
  unfolding feed pick
  marked-bad waiting hi = rw (lt-leb idx room hi) (record { step = feeds-without (omega arith) refl; waiting = refl })

  module _ (good : idx ≤ room) {array' message : List ℕ} {r : Marked} where
    pub marked-waiting : {waiting : Bool} → waiting ≡ true → FeedsMarked (marked (feed_waiting array chunk (to_zero chunk))) chunk array' message r → FeedsMarked (marked (feed array idx waiting chunk)) chunk array' message r
    unfolding feed_marked
    marked-waiting is h = rw (is, feed-good array idx chunk true good) h

    pub marked-fresh : {waiting : Bool} → waiting ≡ false → FeedsMarked (marked (feed_fresh array idx chunk)) chunk array' message r → FeedsMarked (marked (feed array idx waiting chunk)) chunk array' message r
    unfolding feed_marked
    marked-fresh is h = rw (is, feed-good array idx chunk false good) h
