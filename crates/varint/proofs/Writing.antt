-- The loops that store and count a shortest varint: what is known at their heads, and what one byte more makes of it.
-- Assumes nothing.
use mathlib.Core.Path.{◌≡◌, refl, ◌∙◌}
use mathlib.Core.List.{List}
use Prim.Native.Nat.{ℕ, zero, suc, ◌+◌, ◌*◌, ◌/◌, ◌%◌, ◌<◌, ◌≤◌, ◌^◌}
use native.Mathlib.Nat.{add-zero, zero-add, add_assoc}
use native.Mathlib.Numerals.{add-one}
use native.Mathlib.Omega.{arith}
use lib.ListN.{length, set, length-set}
use lib.Seq.{sets}
use borrow.Author.Tests.{lt-ltb, le-ltb}
use Rattle.wire.specs.Numbers.{most, shortest_f, shortest}
use Rattle.laws.specs.Range.{span}
use Rattle.laws.proofs.Varints.{varints}
use Rattle.varint.specs.Put.{Put}

-- at the loop's head: n bytes are counted, and `rest` is left in at most left + 1 bytes
pub record Counting (x n rest : ℕ) : Type 0 where
  pub left : ℕ
  pub small : rest < span (suc left) 127
  pub few : n + left ≡ 9
  pub count : n + length (shortest_f (suc left) rest) ≡ length (shortest x)

pub count-begin : (x : ℕ) → x < 2 ^ 64 → Counting x 0 x
unfolding shortest span most
count-begin x h = record { left = 9; small = omega arith; few = omega arith; count = zero-add _ }

module _ {x n rest : ℕ} (w : Counting x n rest) where
  pub count-stop : rest < 128 → n + 1 ≡ length (shortest x)
  unfolding varints
  count-stop h = rw (lt-ltb _ _ h) at w.count

  -- another byte is allowed
  pub not_last : 128 ≤ rest → (m : ℕ) × (w.left ≡ suc m)
  unfolding span
  not_last h = go w.left w.small
    where
      go : (k : ℕ) → rest < span (suc k) 127 → (m : ℕ) × (k ≡ suc m)
      go zero s = absurd (omega arith)
      go (suc m) s = (m, refl)

  pub count-more : 128 ≤ rest → Counting x (n + 1) (rest / 128)
  unfolding varints
  count-more h =
      let m = (not_last h).0 in
      let z : w.left ≡ suc m = (not_last h).1 in
      let fits : rest < 128 * span (suc m) 127 = rw z at w.small in
      let e : n + suc (length (shortest_f (suc m) (rest / 128))) ≡ length (shortest x) = rw (z, le-ltb _ _ h) at w.count in
      record { left = m; small = omega arith; few = omega arith; count = omega arith }

-- and what is left, stored behind the n bytes, ends as the whole form does
pub record Writing (d₀ : List ℕ) (at x : ℕ) (d : List ℕ) (n rest : ℕ) : Type 0 where
  pub counting : Counting x n rest
  pub len : length d ≡ length d₀
  pub same : sets d (at + n) (shortest_f (suc counting.left) rest) ≡ sets d₀ at (shortest x)

pub begin : (d : List ℕ) (at x : ℕ) → x < 2 ^ 64 → Writing d at x d 0 x
unfolding shortest most count-begin
begin d at x h = record { counting = count-begin x h; len = refl; same = rw (add-zero at) }

module _ {d₀ : List ℕ} {at x : ℕ} {d : List ℕ} {n rest : ℕ} (w : Writing d₀ at x d n rest) where
  pub stop : rest < 128 → Put d₀ at x (set d (at + n) rest) (n + 1)
  unfolding varints
  stop h = record { size = count-stop w.counting h; stored = rw (lt-ltb _ _ h) at w.same }

  pub more : 128 ≤ rest → Writing d₀ at x (set d (at + n) (rest % 128 + 128)) (n + 1) (rest / 128)
  unfolding varints count-more
  more h =
      record {
        counting = count-more w.counting h;
        len = length-set d (at + n) (rest % 128 + 128) ∙ w.len;
        same = rw (← add_assoc, add-one) (rw ((not_last w.counting h).1, le-ltb _ _ h) at w.same);
      }
