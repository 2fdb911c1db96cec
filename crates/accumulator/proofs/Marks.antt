-- The default, where no chunk spills, is the step table; and what each kind of chunk does to a state that holds what came of a frame.
-- Assumes nothing.
use mathlib.Core.Path.{◌≡◌, refl}
use mathlib.Core.Bool.{Bool, true, false}
use mathlib.Core.List.{List, [], ◌∷◌, ◌++◌, append_assoc}
use mathlib.Core.Option.{none}
use Prim.Native.Nat.{ℕ, ◌+◌, ◌≤◌, ◌<◌}
use native.Mathlib.Omega.{arith}
use borrow.Author.Tests.{le-leb, lt-leb, le-ltb, lt-ltb}
use lib.Dec.{leb}
use lib.ListN.{length, take, drop, length-append}
use lib.Seq.{take_at, drop-append-add}
use Rattle.wire.specs.Tests.{pick}
use Rattle.wire.specs.declared.FeedAnswer.TheVariants.{Consumed, OverFull}
use Rattle.wire.specs.Frames.{Fed, Marked, rule, room, to_zero, decode, framed, no_message, feed_on, feed_end, feed_fit, feed_by, feed_bridge, spills, feed_fresh, feed_marked, feed}
use Rattle.decoder.specs.Parts.{with}
use Rattle.accumulator.specs.Feeding.{Feeder}
use Rattle.decoder.proofs.Search.{zero-behind}

-- a feed that leaves no mark
abbrev pub unmarked : Fed → Marked
unmarked f = record { fed = f; waiting = false }

-- a feeder that keeps to the step table where nothing spills
abbrev pub Keeps : Feeder → Type 0
Keeps by = (array : List ℕ) (idx : ℕ) (chunk : List ℕ) → spills idx chunk (to_zero chunk) ≡ false → by array idx false chunk ≡ unmarked (feed_by rule array idx chunk)

pub bridge-keeps : Keeps feed_bridge
unfolding feed_bridge
bridge-keeps array idx chunk not = refl

-- a chunk that spills marks the state, and any other leaves what the step table says
module _ (array : List ℕ) (idx : ℕ) (chunk : List ℕ) where
  pub fresh_keeps : spills idx chunk (to_zero chunk) ≡ false → feed_fresh array idx chunk ≡ unmarked (feed_by rule array idx chunk)
  unfolding feed_fresh pick
  fresh_keeps not = rw not

  pub fresh-spills : spills idx chunk (to_zero chunk) ≡ true → feed_fresh array idx chunk ≡ record { fed = no_message OverFull [] array 0; waiting = true }
  unfolding feed_fresh pick
  fresh-spills over = rw over

  pub feed-good : (waiting : Bool) → idx ≤ room → feed array idx waiting chunk ≡ feed_marked array idx waiting chunk
  unfolding feed pick
  feed-good waiting good = rw (le-leb idx room good)

pub feed-keeps : Keeps feed
unfolding feed feed_marked feed_fresh feed_by pick
feed-keeps array idx chunk not = by (leb idx room) refl
  where
    by : (t : Bool) → leb idx room ≡ t → feed array idx false chunk ≡ unmarked (feed_by rule array idx chunk)
    by true is = rw (is, not)
    by false is = rw is

-- ---- which chunks spill

module _ (idx : ℕ) where
  pub ends-not-spills : (t rest : List ℕ) → to_zero t ≡ none → spills idx (t ++ 0 ∷ rest) (to_zero (t ++ 0 ∷ rest)) ≡ false
  unfolding spills
  ends-not-spills t rest clean = rw (zero-behind t rest clean)

  module _ (c : List ℕ) (clean : to_zero c ≡ none) where
    pub fits-not-spills : idx + length c ≤ room → spills idx c (to_zero c) ≡ false
    unfolding spills
    fits-not-spills fits = rw (clean, le-ltb room (idx + length c) fits)

    pub over-spills : room < idx + length c → spills idx c (to_zero c) ≡ true
    unfolding spills
    over-spills over = rw (clean, lt-ltb room (idx + length c) over)

-- ---- the state that holds what came so far

pub record Has (array : List ℕ) (idx : ℕ) (s : List ℕ) : Type 0 where
  pub count : idx ≡ length s
  pub bytes : take idx array ≡ s

pub has-none : (array : List ℕ) → Has array 0 []
has-none array = record { count = refl; bytes = refl }

module _ {array s : List ℕ} {idx : ℕ} (h : Has array idx s) where
  pub table-last : (t rest : List ℕ) → to_zero t ≡ none → length (s ++ t) + 1 ≤ room → feed_by rule array idx (t ++ 0 ∷ rest) ≡ framed (decode (s ++ t)) rest array
  unfolding feed_by feed_fit feed_end pick
  table-last t rest clean fits =
      let few : idx + (length t + 1) ≤ room = omega (arith, length-append s t) in
      rw (le-leb idx room (omega arith), zero-behind t rest clean, le-leb (idx + (length t + 1)) room few, h.bytes, take_at t (0 ∷ rest) (length t) refl, drop-append-add t (0 ∷ rest) 1)

  pub table-over : (t rest : List ℕ) → to_zero t ≡ none → idx ≤ room → room < length (s ++ t) + 1 → feed_by rule array idx (t ++ 0 ∷ rest) ≡ no_message OverFull rest array 0
  unfolding feed_by feed_fit feed_end pick
  table-over t rest clean good over =
      let much : room < idx + (length t + 1) = omega (arith, length-append s t) in
      rw (le-leb idx room good, zero-behind t rest clean, lt-leb (idx + (length t + 1)) room much, drop-append-add t (0 ∷ rest) 1)

  pub table_more : (c : List ℕ) → to_zero c ≡ none → length (s ++ c) ≤ room → feed_by rule array idx c ≡ no_message Consumed [] (with array idx c) (idx + length c)
  unfolding feed_by feed_fit feed_on pick
  table_more c clean fits =
      let few : idx + length c ≤ room = omega (arith, length-append s c) in
      rw (le-leb idx room (omega arith), clean, le-leb (idx + length c) room few)

  pub has_more : (c : List ℕ) → Has (with array idx c) (idx + length c) (s ++ c)
  has_more c =
      rw h.bytes (record {
        count = simp length-append (omega arith);
        bytes = rw (← append_assoc) (take_at (s ++ c) (drop (idx + length c) array) (idx + length c) (simp length-append (omega arith)));
      })
