-- Laying what was gone over: entries and pairs in front of it are laid first, and what comes behind it is laid from where it was left.
-- Assumes nothing.
use mathlib.Core.Path.{◌≡◌, refl, ◌∙◌}
use mathlib.Core.Bool.{Bool, true, false}
use mathlib.Core.List.{List, ◌++◌}
use Prim.Native.Nat.{ℕ, ◌+◌, ◌-◌, ◌≤◌}
use native.Mathlib.Nat.{add-zero, add_assoc}
use native.Mathlib.Omega.{arith}
use lib.ListN.{length, length-append}
use lib.Dec.{leb}
use borrow.Author.Tests.{leb-true, le-leb, lt-leb}
use Rattle.wire.specs.Tests.{pick, both}
use Rattle.wire.specs.Reading.{Spot}
use Rattle.laws.proofs.Splits.{by_le, by-test, both_yes, both_left, both_right}
use Rattle.desk.specs.Differ.{Pair, Sides, beside}
use Rattle.beside.specs.Meeting.{Met, met, unread, met_after, meet_nothing, meet_on, meet_then}
use Rattle.compare_item.specs.Pairs.{pairs_from}
use Rattle.compare_item.proofs.Pairs.{pairs-behind}
use Rattle.compare_walk.specs.Walked.{Both, Apart}
use Rattle.compare_walk.specs.Steps.{Left, went, stopped, lay, Gives, goes, stops}

-- ---- room on both sides

both-no : (a b : Bool) → (a ≡ true → b ≡ true → ⊥) → both a b ≡ false
both-no a b h = by-test (both a b) (λ e. absurd (h (both_left a b e) (both_right a b e))) (λ e. e)

pub room-no : (a b k l : ℕ) → (a ≤ k → b ≤ l → ⊥) → both (leb a k) (leb b l) ≡ false
room-no a b k l h = both-no (leb a k) (leb b l) (λ p q. h (leb-true a k p) (leb-true b l q))

pub room-yes : (a b k l : ℕ) → a ≤ k → b ≤ l → both (leb a k) (leb b l) ≡ true
room-yes a b k l p q = both_yes (leb a k) (leb b l) (le-leb a k p) (le-leb b l q)

-- what is left of a room
room-left : (room m a a' : ℕ) → a ≤ room - m → leb (a + a') (room - m) ≡ leb a' (room - (m + a))
room-left room m a a' h =
    by_le a' (room - (m + a))
    (λ l. rw (le-leb a' (room - (m + a)) l) (le-leb (a + a') (room - m) (omega arith)))
    (λ l. rw (lt-leb a' (room - (m + a)) l) (lt-leb (a + a') (room - m) (omega arith)))

-- ---- laying

module _ (room : ℕ) where
  pub lay-nothing : (z : Sides Spot) (m n c : ℕ) (s : List ℕ) → lay room (meet_nothing z) m n c s ≡ went z m n c s
  unfolding lay meet_nothing pick pairs_from
  lay-nothing z m n c s = rw (room-yes 0 0 (room - m) (room - n) (omega arith) (omega arith), add-zero m, add-zero n, add-zero c)

  module _ (m n c : ℕ) (s : List ℕ) where
    pub lay-over : (a b : ℕ) (ps : List Pair) (z : Sides Spot) → (a ≤ room - m → b ≤ room - n → ⊥) → lay room (met a b ps z) m n c s ≡ stopped
    unfolding lay pick
    lay-over a b ps z h = rw (room-no a b (room - m) (room - n) h)

    pub lay-fits : (a b : ℕ) (ps : List Pair) (z : Sides Spot) → a ≤ room - m → b ≤ room - n → lay room (met a b ps z) m n c s ≡ went z (m + a) (n + b) (c + length ps) (pairs_from ps c s)
    unfolding lay pick
    lay-fits a b ps z h k = rw (room-yes a b (room - m) (room - n) h k)

    pub after-over : (a b : ℕ) (ps : List Pair) (r : Met) → (a ≤ room - m → b ≤ room - n → ⊥) → lay room (met_after a b ps r) m n c s ≡ stopped
    unfolding met_after
    after-over a b ps (met a' b' qs z) h = lay-over (a + a') (b + b') (ps ++ qs) z (λ p q. h (omega arith) (omega arith))
    after-over a b ps unread h = unfold lay in refl

    pub lay-after : (a b : ℕ) (ps : List Pair) (r : Met) → a ≤ room - m → b ≤ room - n
        → lay room (met_after a b ps r) m n c s ≡ lay room r (m + a) (n + b) (c + length ps) (pairs_from ps c s)
    unfolding met_after lay
    lay-after a b ps (met a' b' qs z) h k =
        rw (
          room-left room m a a' h,
          room-left room n b b' k,
          add_assoc m a a',
          add_assoc n b b',
          length-append ps qs,
          add_assoc c (length ps) (length qs),
          pairs-behind ps qs c s,
        )
    lay-after a b ps unread h k = refl

  -- what g makes of where both were left
  abbrev pub on_by : (Sides Spot → Met) → Left → Left
  on_by g (went z m n c s) = lay room (g z) m n c s
  on_by g stopped = stopped

  pub lay-then : (f g : Sides Spot → Met) (z : Sides Spot) (m n c : ℕ) (s : List ℕ) → lay room (meet_then f g z) m n c s ≡ on_by g (lay room (f z) m n c s)
  unfolding meet_then
  lay-then f g z m n c s = go (f z)
    where
      go : (r : Met) → lay room (meet_on r g) m n c s ≡ on_by g (lay room r m n c s)
      go unread = unfold meet_on lay in refl
      go (met a b ps y) =
          unfold meet_on in
          by_le a (room - m)
          (λ h. by_le b (room - n)
          (λ k. lay-after m n c s a b ps (g y) h k ∙ rw (lay-fits m n c s a b ps y h k))
          (λ k. after-over m n c s a b ps (g y) (λ p q. omega arith) ∙ rw (lay-over m n c s a b ps y (λ p q. omega arith))))
          (λ h. after-over m n c s a b ps (g y) (λ p q. omega arith) ∙ rw (lay-over m n c s a b ps y (λ p q. omega arith)))

-- ---- as an answer

pub gives-stopped : {w : Left} {s : List ℕ} → w ≡ stopped → Gives w Apart s
gives-stopped e = rw e stops

pub gives-went : {w : Left} (x y : Spot) {m n c : ℕ} {s : List ℕ} → w ≡ went (beside x y) m n c s → Gives w (Both x.place y.place m n c) s
gives-went x y e = rw e goes
