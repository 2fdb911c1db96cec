-- A good state stays good, and every feed leaves less of a chunk, so that its rest, fed again and again, comes to its end.
-- Assumes nothing.
use mathlib.Core.Path.{◌≡◌, refl, ap}
use mathlib.Core.Bool.{Bool, true, false}
use mathlib.Core.List.{List, ◌++◌}
use mathlib.Core.Option.{Option, none, some}
use Prim.Native.Nat.{ℕ, ◌+◌, ◌≤◌, ◌<◌}
use native.Mathlib.Omega.{arith}
use borrow.Author.Tests.{ltb-false}
use lib.ListN.{length, take, drop, length-drop}
use lib.Dec.{leb}
use Rattle.wire.specs.Tests.{pick}
use Rattle.wire.specs.Frames.{Fed, Marked, room, rule, to_zero, decode, no_message, framed, feed_on, feed_end, feed_fit, feed_by, spills, feed_fresh, feed_waiting, feed_marked, feed}
use Rattle.accumulator.specs.declared.Marked as code
use Rattle.accumulator.specs.Feeding.{marked, FeedsMarked}
use Rattle.decoder.proofs.Search.{first}
use Rattle.accumulator.proofs.Marks.{fresh_keeps, fresh-spills, feed-good}
use borrow.Author.Tests.{le-leb}

-- the state is good, and fewer bytes are left than so many
pub record Nearer (n : ℕ) (f : Fed) : Type 0 where
  pub good : f.idx ≤ room
  pub less : length f.rest < n

module _ (array : List ℕ) (idx : ℕ) (chunk : List ℕ) (good : idx ≤ room) (n : ℕ) (long : length chunk ≤ n) (more : 0 < n) where
  module _ (z : ℕ) (within : z < length chunk) where
    decoded : (x : Option (List ℕ)) → Nearer n (framed x (drop (z + 1) chunk) array)
    unfolding framed no_message
    decoded (some m) = record { good = omega arith; less = omega (arith, length-drop (z + 1) chunk) }
    decoded none = record { good = omega arith; less = omega (arith, length-drop (z + 1) chunk) }

    end : (b : Bool) → leb (idx + (z + 1)) room ≡ b → Nearer n (feed_end rule array idx chunk z)
    unfolding feed_end no_message pick
    end true is = rw is (decoded (decode (take idx array ++ take z chunk)))
    end false is = rw is (record { good = omega arith; less = omega (arith, length-drop (z + 1) chunk) })

  -- a chunk without a zero that fits is taken whole
  kept : (x : Option ℕ) → to_zero chunk ≡ x → spills idx chunk x ≡ false → Nearer n (feed_by rule array idx chunk)
  unfolding feed_by feed_fit feed_on no_message spills pick
  kept none is not =
      let fits : idx + length chunk ≤ room = ltb-false room (idx + length chunk) not in
      rw (le-leb idx room good, is, le-leb (idx + length chunk) room fits) (record { good = fits; less = omega arith })
  kept (some z) is not = rw (le-leb idx room good, is) (end z (first chunk z is).within (leb (idx + (z + 1)) room) refl)

  fresh : (b : Bool) → spills idx chunk (to_zero chunk) ≡ b → Nearer n (feed_fresh array idx chunk).fed
  unfolding no_message
  fresh true is = rw (fresh-spills array idx chunk is) (record { good = omega arith; less = omega arith })
  fresh false is = rw (fresh_keeps array idx chunk is) (kept (to_zero chunk) refl is)

module _ (array : List ℕ) (idx : ℕ) (chunk : List ℕ) (good : idx ≤ room) (more : 0 < length chunk) where
  wait : (x : Option ℕ) → to_zero chunk ≡ x → Nearer (length chunk) (feed_waiting array chunk x).fed
  unfolding feed_waiting no_message
  wait none is = record { good = omega arith; less = omega arith }
  wait (some z) is =
      let part = drop (z + 1) chunk in
      fresh array 0 part (omega arith) (length chunk) (omega (arith, length-drop (z + 1) chunk)) more (spills 0 part (to_zero part)) refl

  pub nearer : (waiting : Bool) → Nearer (length chunk) (feed array idx waiting chunk).fed
  unfolding feed_marked
  nearer false =
      rw (feed-good array idx chunk false good) (fresh array idx chunk good (length chunk) (omega arith) more (spills idx chunk (to_zero chunk)) refl)
  nearer true = rw (feed-good array idx chunk true good) (wait (to_zero chunk) refl)

-- the same of what the code gives
pub fed-nearer : (array : List ℕ) (waiting : Bool) {chunk array' message : List ℕ} {idx : ℕ} {r : code.Marked} → FeedsMarked (marked (feed array idx waiting chunk)) chunk array' message r → idx ≤ room → 0 < length chunk → (r.step.idx ≤ room) × (length (drop r.step.used chunk) < length chunk)
fed-nearer array waiting {chunk} {idx = idx} h good more =
    let n = nearer array idx chunk good more waiting in
    (omega (arith, n.good, h.step.idx), omega (arith, n.less, ap length h.step.rest))
