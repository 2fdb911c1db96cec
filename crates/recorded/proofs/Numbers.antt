-- A number from its bytes: what the bytes that are left make of the value so far is the number.
-- Assumes nothing.
use mathlib.Core.Path.{◌≡◌, refl}
use mathlib.Core.List.{List}
use Prim.Native.Nat.{ℕ, ◌+◌, ◌*◌, ◌≤◌, ◌<◌}
use native.Mathlib.Numerals.{add-one}
use native.Mathlib.Omega.{arith}
use lib.ListN.{length, drop, get_or, drop_of_length-le}
use lib.Seq.{drop-cons}
use borrow.Author.Tests.{lt-ltb, le-ltb}
use Rattle.wire.specs.Tests.{pick}
use Rattle.recorded.specs.Fields.{most, number_from, number_of}

pub record Counts (s : List ℕ) (value i : ℕ) : Type 0 where
  pub within : i ≤ length s
  pub same : number_from value (drop i s) ≡ number_of s

pub counts-none : (s : List ℕ) → Counts s 0 0
unfolding number_of
counts-none s = record { within = omega arith; same = refl }

module _ {s : List ℕ} {value i : ℕ} (h : Counts s value i) where
  pub counts-full : i < length s → most < value → value ≡ number_of s
  unfolding number_from pick
  counts-full lo full = rw (drop-cons s i 0, lt-ltb most value full) at h.same

  pub counts-more : i < length s → value ≤ most → Counts s (value * 256 + get_or s i 0) (i + 1)
  unfolding number_from pick
  counts-more lo fits =
      record { within = omega arith; same = rw add-one (rw (drop-cons s i 0, le-ltb most value fits) at h.same) }

  pub counts_all : length s ≤ i → value ≡ number_of s
  unfolding number_from
  counts_all hi = rw (drop_of_length-le s hi) at h.same
