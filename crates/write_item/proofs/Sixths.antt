-- Six integers in the order of their kinds: the k-th of those that are varints, and of those of fixed size in either order.
-- Assumes nothing.
use mathlib.Core.Path.{◌≡◌, refl}
use Prim.Native.Nat.{ℕ, zero, suc, ◌+◌, ◌-◌, ◌%◌, ◌<◌, ◌≤◌}
use native.Mathlib.Omega.{arith}
use borrow.Author.Tests.{lt-ltb, le-ltb, ne_eqb}
use Rattle.wire.specs.Tests.{pick}
use Rattle.wire.specs.Shape.{w16, w32, w64, Order, le, be, signed, unsigned, int, fixed, plain}
use Rattle.wire.specs.Table.{kinds, kind_of}
use Rattle.laws.specs.KindRanges.{sixth}
use Rattle.laws.proofs.KindRanges.{little-kind, big-kind}
use Rattle.write_item.specs.Own.{sign_at, width_at}

-- ---- the k-th's sign and width

pub sign_low : (k : ℕ) → k < 3 → sign_at k ≡ signed
unfolding sign_at pick
sign_low k h = rw (lt-ltb k 3 h)

pub sign_high : (k : ℕ) → 3 ≤ k → sign_at k ≡ unsigned
unfolding sign_at pick
sign_high k h = rw (le-ltb k 3 h)

pub width-16 : (k : ℕ) → k % 3 ≡ 0 → width_at k ≡ w16
unfolding width_at pick
width-16 k h = rw h

pub width-32 : (k : ℕ) → k % 3 ≡ 1 → width_at k ≡ w32
unfolding width_at pick
width-32 k h = rw h

pub width-64 : (k : ℕ) → (k % 3 ≡ 0 → ⊥) → (k % 3 ≡ 1 → ⊥) → width_at k ≡ w64
unfolding width_at pick
width-64 k f g = rw (ne_eqb (k % 3) 0 f, ne_eqb (k % 3) 1 g)

-- ---- their kinds

low-int : (j : ℕ) → j ≤ 2 → kind_of (2 + j) ≡ plain (int (sign_at j) (width_at j))
unfolding kind_of kinds sign_at width_at pick
low-int zero h = refl
low-int (suc zero) h = refl
low-int (suc (suc zero)) h = refl
low-int (suc (suc (suc j))) h = absurd (omega arith)

high-int : (j : ℕ) → j ≤ 2 → kind_of (6 + j) ≡ plain (int (sign_at (3 + j)) (width_at (3 + j)))
unfolding kind_of kinds sign_at width_at pick
high-int zero h = refl
high-int (suc zero) h = refl
high-int (suc (suc zero)) h = refl
high-int (suc (suc (suc j))) h = absurd (omega arith)

pub signed-int : (k : ℕ) → 2 ≤ k → k ≤ 4 → kind_of k ≡ plain (int (sign_at (k - 2)) (width_at (k - 2)))
signed-int k l h = let e : 2 + (k - 2) ≡ k = omega arith in rw e at (low-int (k - 2) (omega arith))

pub unsigned-int : (k : ℕ) → 6 ≤ k → k ≤ 8 → kind_of k ≡ plain (int (sign_at (k - 3)) (width_at (k - 3)))
unsigned-int k l h =
    let e : 6 + (k - 6) ≡ k = omega arith in
    let f : 3 + (k - 6) ≡ k - 3 = omega arith in
    rw (e, f) at (high-int (k - 6) (omega arith))

sixth-is : (o : Order) (k : ℕ) → k ≤ 5 → sixth o k ≡ fixed o (sign_at k) (width_at k)
unfolding sixth sign_at width_at pick
sixth-is o zero h = refl
sixth-is o (suc zero) h = refl
sixth-is o (suc (suc zero)) h = refl
sixth-is o (suc (suc (suc zero))) h = refl
sixth-is o (suc (suc (suc (suc zero)))) h = refl
sixth-is o (suc (suc (suc (suc (suc zero))))) h = refl
sixth-is o (suc (suc (suc (suc (suc (suc k)))))) h = absurd (omega arith)

pub little-sixth : (k : ℕ) → 20 ≤ k → k ≤ 25 → kind_of k ≡ plain (fixed le (sign_at (k - 20)) (width_at (k - 20)))
little-sixth k l h = rw (← (sixth-is le (k - 20) (omega arith))) (little-kind k l h)

pub big-sixth : (k : ℕ) → 26 ≤ k → k ≤ 31 → kind_of k ≡ plain (fixed be (sign_at (k - 26)) (width_at (k - 26)))
big-sixth k l h = rw (← (sixth-is be (k - 26) (omega arith))) (big-kind k l h)
