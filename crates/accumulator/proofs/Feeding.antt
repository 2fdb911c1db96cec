-- The rows of document 01's table, each from the tests that lead to it.
-- Assumes nothing.
use mathlib.Core.Path.{◌≡◌, refl}
use mathlib.Core.Bool.{Bool, true, false}
use mathlib.Core.List.{List, [], ◌++◌}
use mathlib.Core.Option.{none, some}
use Prim.Native.Nat.{ℕ, ◌+◌, ◌-◌, ◌≤◌, ◌<◌}
use native.Mathlib.Omega.{arith}
use borrow.Author.Tests.{le-leb, lt-leb, eq-eqb, ne_eqb}
use lib.ListN.{length, take, drop}
use lib.Seq.{drop-length}
use Rattle.wire.specs.Tests.{pick, both}
use Rattle.wire.specs.Frames.{room, to_zero, decode, padded, no_message, framed, feed_on, feed_end, feed_fit, feed_by, rule, feed}
use Rattle.wire.specs.declared.FeedAnswer.{FeedAnswer}
use Rattle.wire.specs.declared.FeedAnswer.TheVariants.{Consumed, OverFull, BadFrame, Frame, BadState}
use Rattle.accumulator.specs.declared.Step.{Step}
use Rattle.accumulator.specs.Feeding.{written, marked, fitting, unfit, bridge_lent, feed_lent, without, Feeds, FeedsMarked}
use Rattle.decoder.specs.Parts.{with, Holds}
use Rattle.decoder.proofs.Search.{first}

pub feeds-without : {a : FeedAnswer} {array rest chunk : List ℕ} {idx used : ℕ} → used ≤ length chunk → drop used chunk ≡ rest → Feeds (written (no_message a rest array idx)) chunk array (padded []) (without a idx used)
unfolding no_message
feeds-without le is = record { answer = refl; idx = refl; len = refl; within = le; rest = is; array = refl; message = refl }

module _ (array : List ℕ) (idx : ℕ) (chunk : List ℕ) where
  pub bad-state : room < idx → Feeds (written (feed_by rule array idx chunk)) chunk array (padded []) (without BadState idx 0)
  unfolding feed_by pick
  bad-state hi = rw (lt-leb idx room hi) (feeds-without (omega arith) refl)

  module _ (good : idx ≤ room) where
    pub on-over : room - idx < length chunk → Feeds (written (feed_on rule array idx chunk)) chunk array (padded []) (without OverFull 0 (room - idx))
    unfolding feed_on pick
    on-over hi = rw (lt-leb (idx + length chunk) room (omega arith)) (feeds-without (omega arith) refl)

    pub on_fits : length chunk ≤ room - idx → Feeds (written (feed_on rule array idx chunk)) chunk (with array idx chunk) (padded []) (without Consumed (idx + length chunk) (length chunk))
    unfolding feed_on pick
    on_fits lo = rw (le-leb (idx + length chunk) room (omega arith)) (feeds-without (omega arith) (drop-length chunk))

    module _ {array' message : List ℕ} {r : Step} where
      pub no_zero : to_zero chunk ≡ none → Feeds (written (feed_on rule array idx chunk)) chunk array' message r → Feeds (written (feed_by rule array idx chunk)) chunk array' message r
      unfolding feed_by feed_fit pick
      no_zero is h = rw (le-leb idx room good, is) h

      pub some-zero : {n : ℕ} → to_zero chunk ≡ some n → Feeds (written (feed_end rule array idx chunk n)) chunk array' message r → Feeds (written (feed_by rule array idx chunk)) chunk array' message r
      unfolding feed_by feed_fit pick
      some-zero is h = rw (le-leb idx room good, is) h

    module _ {n : ℕ} (ends : to_zero chunk ≡ some n) where
      pub end-over : room - idx < n + 1 → Feeds (written (feed_end rule array idx chunk n)) chunk array (padded []) (without OverFull 0 (n + 1))
      unfolding feed_end pick
      end-over hi = let f = first chunk n ends in rw (lt-leb (idx + (n + 1)) room (omega arith)) (feeds-without (omega arith) refl)

      module _ (fits : n + 1 ≤ room - idx) where
        pub end-bad : decode (take idx array ++ take n chunk) ≡ none → Feeds (written (feed_end rule array idx chunk n)) chunk array (padded []) (without BadFrame 0 (n + 1))
        unfolding feed_end framed pick
        end-bad is =
            let f = first chunk n ends in
            rw (le-leb (idx + (n + 1)) room (omega arith), is) (feeds-without (omega arith) refl)

        pub end_frame : {message : List ℕ} {len : ℕ} → Holds (decode (take idx array ++ take n chunk)) message len → Feeds (written (feed_end rule array idx chunk n)) chunk array message (record { answer = Frame; idx = 0; len = len; used = n + 1 })
        unfolding feed_end framed pick
        end_frame h =
            let f = first chunk n ends in
            rw (le-leb (idx + (n + 1)) room (omega arith), h.is) (record { answer = refl; idx = refl; len = h.count; within = omega arith; rest = refl; array = refl; message = h.bytes })

-- ---- slices of another length

module _ (array message : List ℕ) where
  fit_none : (length array ≡ room → ⊥) → fitting array message ≡ false
  unfolding fitting both
  fit_none bad = rw (ne_eqb (length array) room bad)

  fit-half : length array ≡ room → (length message ≡ room → ⊥) → fitting array message ≡ false
  unfolding fitting both
  fit-half long bad = rw (eq-eqb (length array) room long, ne_eqb (length message) room bad)

  pub fit-both : length array ≡ room → length message ≡ room → fitting array message ≡ true
  unfolding fitting both
  fit-both long long' = rw (eq-eqb (length array) room long, eq-eqb (length message) room long')

  module _ (idx : ℕ) (chunk : List ℕ) where
    unfit-step : Feeds (unfit array idx chunk message) chunk array message (without BadState idx 0)
    unfolding no_message
    unfit-step = record { answer = refl; idx = refl; len = refl; within = omega arith; rest = refl; array = refl; message = refl }

    -- the bridge's feed
    bridge-unfit : fitting array message ≡ false → Feeds (bridge_lent array idx chunk message) chunk array message (without BadState idx 0)
    unfolding bridge_lent pick
    bridge-unfit is = rw is unfit-step

    pub bridge-array : (length array ≡ room → ⊥) → Feeds (bridge_lent array idx chunk message) chunk array message (without BadState idx 0)
    bridge-array bad = bridge-unfit (fit_none bad)

    pub bridge-message : length array ≡ room → (length message ≡ room → ⊥) → Feeds (bridge_lent array idx chunk message) chunk array message (without BadState idx 0)
    bridge-message long bad = bridge-unfit (fit-half long bad)

    pub bridge-is : length array ≡ room → length message ≡ room → bridge_lent array idx chunk message ≡ written (feed_by rule array idx chunk)
    unfolding bridge_lent pick
    bridge-is long long' = rw (fit-both long long')

    -- the default
    module _ (waiting : Bool) where
      lent-unfit : fitting array message ≡ false → FeedsMarked (feed_lent array idx waiting chunk message) chunk array message (record { step = without BadState idx 0; waiting = waiting })
      unfolding feed_lent pick
      lent-unfit is = rw is (record { step = unfit-step; waiting = refl })

      pub lent-array : (length array ≡ room → ⊥) → FeedsMarked (feed_lent array idx waiting chunk message) chunk array message (record { step = without BadState idx 0; waiting = waiting })
      lent-array bad = lent-unfit (fit_none bad)

      pub lent-message : length array ≡ room → (length message ≡ room → ⊥) → FeedsMarked (feed_lent array idx waiting chunk message) chunk array message (record { step = without BadState idx 0; waiting = waiting })
      lent-message long bad = lent-unfit (fit-half long bad)

      pub lent_is : length array ≡ room → length message ≡ room → feed_lent array idx waiting chunk message ≡ marked (feed array idx waiting chunk)
      unfolding feed_lent pick
      lent_is long long' = rw (fit-both long long')
