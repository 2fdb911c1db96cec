-- The bytes that std makes of a word, and the word that it makes of bytes, are those of the documents.
-- Assumes nothing.
use Rattle.std.proofs.Common.{◌≡◌, refl, sym, ap, ◌∙◌, ℕ, zero, suc, ◌+◌, ◌-◌, ◌/◌, ◌%◌, ◌^◌, ◌<◌, ◌≤◌, min, List, [], ◌∷◌, ◌++◌, length, take, drop, replicate, get_or, arith, inl, inr}
use Rattle.std.proofs.Math.Nat.{div-div-eq-div-mul, pow-suc, mod-eq_of_lt}
use Rattle.std.proofs.lemmas.Bool.{cases_lt}
use Rattle.std.proofs.lemmas.List.{append-nil, reverse-append, reverse-reverse, length-reverse, length-append, drop-replicate, take-replicate, drop_all, take_all, length-replicate}
use Rattle.std.proofs.lemmas.Nat.{le_bytes_8, be_bytes_8}
use Rattle.std.specs.Int.{w64, byte_at, bytes_low_first, bytes_high_first, to_le_bytes, to_be_bytes, from_le_bytes, from_be_bytes}
use borrow.Rule.Slice.PartMut.{put_mid}
use mathlib.Core.List.{reverse}
use Rattle.wire.specs.Shape.{le, be}
use Rattle.wire.specs.Numbers.{in_order, little, little_bytes}
use Rattle.laws.specs.Range.{AreBytes}
use Rattle.laws.proofs.Numbers.{little-back, length-little_bytes}

-- ---- the bytes of a word

-- byte i, of what the lower bytes leave
byte : (i x y : ℕ) → y ≡ x / 256 ^ i → byte_at i x ≡ y % 256
byte zero x y e = let same : y ≡ x = omega arith in rw same
byte (suc i) x y e = rw e

next : (i x y : ℕ) → y ≡ x / 256 ^ i → y / 256 ≡ x / 256 ^ suc i
next i x y e = rw (e, pow-suc 256 i) (div-div-eq-div-mul x (256 ^ i) 256)

low : (i k x y : ℕ) → y ≡ x / 256 ^ i → bytes_low_first i k x ≡ little_bytes k y
unfolding little_bytes
low i zero x y e = refl
low i (suc k) x y e = rw (byte i x y e, low (suc i) k x (y / 256) (next i x y e))

-- the last of k + 1 bytes
more : (i k x y : ℕ) → y ≡ x / 256 ^ i → little_bytes (suc k) y ≡ little_bytes k y ++ (byte_at (i + k) x ∷ [])
unfolding little_bytes
more i zero x y e = let here : i + 0 ≡ i = omega arith in rw (here, byte i x y e)
more i (suc k) x y e =
    let on : suc i + k ≡ i + suc k = omega arith in
    ap (λ (s : List ℕ). y % 256 ∷ s) (rw on at (more (suc i) k x (y / 256) (next i x y e)))

high : (k x : ℕ) → bytes_high_first k x ≡ reverse (little_bytes k x)
unfolding little_bytes
high zero x = refl
high (suc k) x =
    let here : 0 + k ≡ k = omega arith in
    let whole : little_bytes (suc k) x ≡ little_bytes k x ++ (byte_at k x ∷ []) = rw here at (more 0 k x x (omega arith)) in
    ap (λ (s : List ℕ). byte_at k x ∷ s) (high k x) ∙ sym (ap reverse whole ∙ reverse-append (little_bytes k x) (byte_at k x ∷ []))

take-low : (n k x : ℕ) → n ≤ k → take n (little_bytes k x) ≡ little_bytes n x
unfolding little_bytes
take-low zero k x h = refl
take-low (suc n) zero x h = absurd (omega arith)
take-low (suc n) (suc k) x h = ap (λ (s : List ℕ). x % 256 ∷ s) (take-low n k (x / 256) (omega arith))

none-low : (k : ℕ) → little_bytes k 0 ≡ replicate k 0
unfolding little_bytes
none-low zero = refl
none-low (suc k) = ap (λ (s : List ℕ). 0 ∷ s) (none-low k)

-- a number that fits j bytes has zeros behind them
low-behind : (j k x : ℕ) → x < 256 ^ j → little_bytes (j + k) x ≡ little_bytes j x ++ replicate k 0
unfolding little_bytes
low-behind zero k x h = let e : x ≡ 0 = omega arith in let here : 0 + k ≡ k = omega arith in rw (e, here) (none-low k)
low-behind (suc j) k x h =
    let e : suc j + k ≡ suc (j + k) = omega arith in
    let fits : x / 256 < 256 ^ j = omega (arith, pow-suc 256 j) in
    rw e (ap (λ (s : List ℕ). x % 256 ∷ s) (low-behind j k (x / 256) fits))

low-word : (x : ℕ) → to_le_bytes w64 x ≡ little_bytes 8 x
low-word x = low 0 8 x x (omega arith)

-- of n bytes those that the word has not are zeros
zeros-behind : (n m x : ℕ) → m ≡ min n 8 → x < 2 ^ 64 → take m (little_bytes 8 x) ++ drop m (replicate n 0) ≡ little_bytes n x
zeros-behind n m x e h = elim (cases_lt 8 n) [
  | inl many ↦
      let eight : m ≡ 8 = omega (arith, e) in
      let whole : 8 + (n - 8) ≡ n = omega arith in
      rw (eight, take_all 8 (little_bytes 8 x) (omega (arith, length-little_bytes 8 x)), drop-replicate {X = ℕ} 8 n 0) (sym (low-behind 8 (n - 8) x h) ∙ ap (λ k. little_bytes k x) whole)
  | inr few ↦
      let all : m ≡ n = omega (arith, e) in
      let none : n - n ≡ 0 = omega arith in
      rw (all, take-low n 8 x few, drop-replicate {X = ℕ} n n 0, none) (append-nil (little_bytes n x))
]

-- the lowest n bytes, the lowest first: the word's, and zeros behind them
pub low-bytes : (n m x : ℕ) → m ≡ min n 8 → x < 2 ^ 64 → take m (to_le_bytes w64 x) ++ drop m (replicate n 0) ≡ little_bytes n x
low-bytes n m x e h = ap (λ s. take m s ++ drop m (replicate n 0)) (low-word x) ∙ zeros-behind n m x e h

-- ---- the word of bytes

zeros : (k : ℕ) → little (replicate k 0) ≡ 0
unfolding little
zeros zero = refl
zeros (suc k) = rw (zeros k)

behind : (s : List ℕ) (k : ℕ) → little (s ++ replicate k 0) ≡ little s
unfolding little
behind [] k = zeros k
behind (b ∷ s) k = rw (behind s k)

zero-at : (k i : ℕ) → get_or (replicate k 0) i 0 < 256
zero-at zero i = omega arith
zero-at (suc k) zero = omega arith
zero-at (suc k) (suc i) = zero-at k i

bytes-behind : (s : List ℕ) (k : ℕ) → AreBytes s → AreBytes (s ++ replicate k 0)
bytes-behind [] k h i = zero-at k i
bytes-behind (b ∷ s) k h zero = h 0
bytes-behind (b ∷ s) k h (suc i) = bytes-behind s k (λ j. h (suc j)) i

bytes-front : (k : ℕ) (s : List ℕ) → AreBytes s → AreBytes (replicate k 0 ++ s)
bytes-front zero s h i = h i
bytes-front (suc k) s h zero = omega arith
bytes-front (suc k) s h (suc i) = bytes-front k s h i

-- zeros in front are behind in the other order
onto : (k : ℕ) (s : List ℕ) → little (reverse (replicate k 0 ++ s)) ≡ little (reverse s)
onto zero s = refl
onto (suc k) s = rw (reverse-append (0 ∷ []) (replicate k 0 ++ s)) (behind (reverse (replicate k 0 ++ s)) 1 ∙ onto k s)

module _ (s : List ℕ) (n x : ℕ) (len : length s ≡ n) (few : n ≤ 8) (bytes : AreBytes s) (fits : x < 2 ^ 64) where
  word-back : little (little_bytes 8 x) ≡ x
  word-back = little-back 8 x ∙ mod-eq_of_lt (omega arith)

  -- n bytes, the lowest first, and zeros behind them
  pub low_word : x ≡ from_le_bytes w64 (put_mid 0 n (replicate 8 0) s) → x ≡ little (in_order le s)
  unfolding in_order
  low_word e =
      let t : List ℕ = s ++ replicate (8 - n) 0 in
      let shape : put_mid 0 n (replicate 8 0) s ≡ t = rw (drop-replicate {X = ℕ} n 8 0) refl in
      let many : length t ≡ 8 = omega (arith, length-append s (replicate (8 - n) 0), length-replicate {A = ℕ} (8 - n) 0) in
      let back : to_le_bytes w64 x ≡ t = le_bytes_8 t x many (bytes-behind s (8 - n) bytes) (rw shape at e) in
      sym word-back ∙ ap little (sym (low-word x) ∙ back) ∙ behind s (8 - n)

  -- the same, the highest first, and zeros in front of them
  pub high_word : x ≡ from_be_bytes w64 (put_mid (8 - n) (8 - (8 - n)) (replicate 8 0) s) → x ≡ little (in_order be s)
  unfolding in_order
  high_word e =
      let t : List ℕ = replicate (8 - n) 0 ++ s in
      let shape : put_mid (8 - n) (8 - (8 - n)) (replicate 8 0) s ≡ t =
      rw (take-replicate {X = ℕ} (8 - n) 8 0 (omega arith), drop-replicate {X = ℕ} (8 - n) 8 0, drop_all {X = ℕ} (8 - (8 - n)) (replicate (8 - (8 - n)) 0) (omega (arith, length-replicate {A = ℕ} (8 - (8 - n)) 0)), append-nil) refl in
      let many : length t ≡ 8 = omega (arith, length-append (replicate (8 - n) 0) s, length-replicate {A = ℕ} (8 - n) 0) in
      let back : to_be_bytes w64 x ≡ t = be_bytes_8 t x many (bytes-front (8 - n) s bytes) (rw shape at e) in
      sym word-back ∙ ap little (sym (reverse-reverse (little_bytes 8 x)) ∙ ap reverse (sym (high 8 x) ∙ back)) ∙ onto (8 - n) s
