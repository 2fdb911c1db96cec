-- A work area with zeros in front, of any number, so that no proof counts to the work area's length.
-- Assumes nothing.
use mathlib.Core.Path.{◌≡◌, refl, ◌∙◌}
use mathlib.Core.List.{List, append-nil}
use Prim.Native.Nat.{ℕ, ◌+◌, ◌<◌, ◌≤◌}
use native.Mathlib.Omega.{arith}
use lib.ListN.{length, get_or, set, drop, replicate, length-append, length-replicate, length-drop, get_or-replicate, get_or-append}
use lib.Seq.{drop-length, drop_at}
use borrow.Author.Fill.{fill_none, fill_more}
use borrow.Author.Tests.{le-leb, lt-leb}
use Rattle.wire.specs.AskAnswer.{ShortArea}
use Rattle.wire.specs.Tests.{given}
use Rattle.wire.specs.Table.{check}
use Rattle.wire.specs.Answers.{ask_by, area_bytes, asks_with, asks, zeroed, area_after}

-- ---- zeros in front

pub zeroed-none : (area : List ℕ) → area ≡ zeroed 0 area
unfolding zeroed
zeroed-none area = fill_none area 0

pub zeroed-more : (n : ℕ) (area : List ℕ) → n < length area → set (zeroed n area) n 0 ≡ zeroed (n + 1) area
unfolding zeroed
zeroed-more n area h = fill_more n 0 area h

module _ (n : ℕ) (area : List ℕ) where
  pub length-zeroed : n ≤ length area → length (zeroed n area) ≡ length area
  unfolding zeroed
  length-zeroed h = length-append (replicate n 0) (drop n area) ∙ omega (arith, length-replicate {A = ℕ} n 0, length-drop n area)

  pub zeroed-at : (i : ℕ) → i < n → get_or (zeroed n area) i 0 ≡ 0
  unfolding zeroed
  zeroed-at i h =
      get_or-append (replicate n 0) (drop n area) 0 i (omega (arith, length-replicate {A = ℕ} n 0)) ∙ get_or-replicate n i 0 0 h

  pub zeroed-behind : drop n (zeroed n area) ≡ drop n area
  unfolding zeroed
  zeroed-behind = drop_at (replicate n 0) (drop n area) n (length-replicate n 0)

-- all of it cleared
pub zeroed-all : (n : ℕ) (area : List ℕ) → n ≡ length area → zeroed n area ≡ replicate n 0
unfolding zeroed
zeroed-all n area e = rw (e, drop-length area) (append-nil (replicate (length area) 0))

-- ---- the append question's area

pub area-bytes : area_bytes ≡ 2097152
unfolding area_bytes
area-bytes = refl

module _ (area : List ℕ) where
  pub area-short : length area < area_bytes → area_after area ≡ area
  unfolding area_after given
  area-short h = rw (lt-leb area_bytes (length area) h)

  pub area-long : area_bytes ≤ length area → area_after area ≡ zeroed area_bytes area
  unfolding area_after given
  area-long h = rw (le-leb area_bytes (length area) h)

  module _ (old new : List ℕ) where
    pub asks-short : length area < area_bytes → asks old new area ≡ ShortArea
    unfolding asks asks_with given
    asks-short h = rw (lt-leb area_bytes (length area) h)

    pub asks-long : area_bytes ≤ length area → asks old new area ≡ ask_by (check old) (check new) old new
    unfolding asks asks_with given
    asks-long h = rw (le-leb area_bytes (length area) h)
