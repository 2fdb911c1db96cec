-- What is read of a number is written again: zigzag and fixed size, each once over the width, the sign and the order.
-- Assumes nothing.
use mathlib.Core.Path.{◌≡◌, refl, ◌∙◌}
use mathlib.Core.Bool.{true}
use mathlib.Core.List.{List, [], ◌∷◌}
use Prim.Native.Nat.{ℕ, zero, suc, ◌+◌, ◌-◌, ◌*◌, ◌/◌, ◌%◌, ◌≤◌, ◌<◌, ◌^◌}
use native.Mathlib.Omega.{arith}
use native.Mathlib.Nat.{pow-suc, mul_assoc, mul_comm}
use lib.ListN.{length, take}
use lib.Seq.{length-take-le}
use borrow.Author.Tests.{lt-ltb, le-ltb, le-leb}
use Rattle.wire.specs.Tests.{pick}
use Rattle.wire.specs.Shape.{Order, Sign, signed, unsigned}
use Rattle.wire.specs.Numbers.{is_signed_word, zigzag, unzigzag, word, is_word, zigzagged, unzigzagged, little, little_bytes, in_order}
use Rattle.laws.specs.Range.{AreBytes}
use Rattle.laws.proofs.Splits.{by-lt, by-eq}
use Rattle.laws.proofs.Numbers.{Bits, zigzag-low, zigzag-high, unzigzag-even, unzigzag-odd, signed_low, signed_high, order-back, length-order}
use Rattle.laws.proofs.Bytes.{below-take, below-order, front-lt}

-- ---- signed numbers

is-low : (n a : ℕ) → a < 2 ^ (n - 1) → is_signed_word n a ≡ true
unfolding is_signed_word pick
is-low n a h = rw (lt-ltb a (2 ^ (n - 1)) h)

is-high : (n a : ℕ) → 2 ^ (n - 1) ≤ a → 2 ^ 64 - 2 ^ (n - 1) ≤ a → is_signed_word n a ≡ true
unfolding is_signed_word pick
is-high n a l h = rw (le-ltb a (2 ^ (n - 1)) l, le-leb (2 ^ 64 - 2 ^ (n - 1)) a h)

module _ (n : ℕ) (part : Bits n) where
  half_le : 2 * 2 ^ (n - 1) ≤ 2 ^ 64
  half_le = omega (arith, part.whole, part.half)

  signed-again : (z : ℕ) → z < 2 ^ n → (is_signed_word n (unzigzag z) ≡ true) × (zigzag (unzigzag z) ≡ z)
  signed-again z h =
      by-eq (z % 2) 0
      (λ even.
      let m : ℕ = z / 2 in
      let is : z ≡ 2 * m = omega arith in
      rw (is, unzigzag-even m) (is-low n m (omega (arith, part.half)), zigzag-low m (omega (arith, part.half, half_le))))
      (λ odd.
      let m : ℕ = (z + 1) / 2 in
      let is : z ≡ 2 * m - 1 = omega (arith, odd) in
      let some : 0 < m = omega (arith, odd) in
      let small : m ≤ 2 ^ (n - 1) = omega (arith, part.half) in
      rw (is, unzigzag-odd m some)
      (is-high n (2 ^ 64 - m) (omega (arith, half_le)) (omega (arith, half_le)), zigzag-high (2 ^ 64 - m) (omega (arith, half_le)) ∙ omega (arith, half_le)))

  pub zigzag-again : (g : Sign) (z : ℕ) → z < 2 ^ n → (is_word g n (unzigzagged g z) ≡ true) × (zigzagged g (unzigzagged g z) ≡ z)
  unfolding is_word zigzagged unzigzagged
  zigzag-again signed z h = signed-again z h
  zigzag-again unsigned z h = (lt-ltb z (2 ^ n) h, refl)

-- ---- fixed-size numbers

-- only the low bytes are written
little-low : (k x m : ℕ) → little_bytes k (x + 256 ^ k * m) ≡ little_bytes k x
unfolding little_bytes
little-low zero x m = refl
little-low (suc k) x m =
    let many : 256 ^ suc k * m ≡ 256 * (256 ^ k * m) = rw (pow-suc 256 k, mul_comm (256 ^ k) 256) (mul_assoc 256 (256 ^ k) m) in
    let front : (x + 256 * (256 ^ k * m)) % 256 ≡ x % 256 = omega arith in
    let behind : (x + 256 * (256 ^ k * m)) / 256 ≡ x / 256 + 256 ^ k * m = omega arith in
    rw (many, front, behind, little-low k (x / 256) m)

little-again : (s : List ℕ) → AreBytes s → little_bytes (length s) (little s) ≡ s
unfolding little_bytes little
little-again [] h = refl
little-again (b ∷ s) h =
    let small : b < 256 = h 0 in
    let front : (b + 256 * little s) % 256 ≡ b = omega arith in
    let behind : (b + 256 * little s) / 256 ≡ little s = omega arith in
    rw (front, behind, little-again s (λ i. h (suc i)))

module _ (n k : ℕ) (part : Bits n) (same : 256 ^ k ≡ 2 ^ n) where
  word-again : (g : Sign) (x : ℕ) → x < 2 ^ n → (is_word g n (word g n x) ≡ true) × (little_bytes k (word g n x) ≡ little_bytes k x)
  unfolding is_word word
  word-again unsigned x h = (lt-ltb x (2 ^ n) h, refl)
  word-again signed x h =
      by-lt x (2 ^ (n - 1)) (λ l. rw (signed_low n x l) (is-low n x l, refl))
      (λ l.
      let is : 2 ^ 64 - 2 ^ n + x ≡ x + 2 ^ n * part.above = omega (arith, part.whole) in
      rw (signed_high n x l)
      (is-high n _ (omega (arith, part.whole, part.half)) (omega (arith, part.whole, part.half)), rw (is, ← same) (little-low k x part.above)))

  -- k bytes that were read as a word
  pub fixed-again : (o : Order) (g : Sign) (s : List ℕ) → AreBytes s → k ≤ length s
      → (is_word g n (word g n (little (in_order o (take k s)))) ≡ true)
      × (in_order o (little_bytes k (word g n (little (in_order o (take k s))))) ≡ take k s)
  fixed-again o g s h l = (w.0, rw w.1 (rw again (order-back o (take k s))))
    where
      t : List ℕ
      t = in_order o (take k s)

      many : length t ≡ k
      many = length-order o (take k s) ∙ length-take-le k s l

      w : (is_word g n (word g n (little t)) ≡ true) × (little_bytes k (word g n (little t)) ≡ little_bytes k (little t))
      w = word-again g (little t) (rw same at (front-lt o k s h l))

      again : little_bytes k (little t) ≡ t
      again = rw many at (little-again t (below-order 256 o (take k s) (below-take 256 k s h)))
