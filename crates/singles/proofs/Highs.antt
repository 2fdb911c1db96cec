-- Bytes as a number: where none of their high bits is left, each is a single byte.
-- Assumes nothing.
use mathlib.Core.Path.{◌≡◌, refl, sym, subst, ◌∙◌}
use mathlib.Core.Bool.{Bool, true}
use mathlib.Core.List.{List, [], ◌∷◌}
use Prim.Native.Nat.{ℕ, zero, suc, ◌+◌, ◌-◌, ◌*◌, ◌/◌, ◌<◌, ◌≤◌}
use native.Mathlib.Omega.{arith}
use lib.Bits.{bit_and}
use lib.Dec.{eqb}
use lib.ListN.{length, get_or, take, drop, length-drop}
use lib.Seq.{length-take-le, get_or-take, get_or-drop}
use borrow.Author.Tests.{eqb-true}
use Rattle.wire.specs.Numbers.{little}
use Rattle.laws.specs.Range.{AreBelow, AreBytes}
use Rattle.laws.proofs.Bytes.{below-take, below-drop}
use Rattle.eights.proofs.Digits.{highs, high_bit, and-digit}
use Rattle.singles.specs.Passed.{Same}
use Rattle.singles.proofs.Passed.{here, single}

-- ---- the high bits of a number's digits

-- the lowest digit's high bit is taken out apart from the others'
digit : (b x m : ℕ) → b < 256 → bit_and (b + 256 * x) (128 + 256 * m) ≡ b / 128 * 128 + 256 * bit_and x m
digit b x m h = rw (and-digit b x 128 m h (omega arith), high_bit b h)

-- where nothing is left, each digit is below 128
pub all-single : (s : List ℕ) → AreBytes s → bit_and (little s) (highs (length s)) ≡ 0 → AreBelow 128 s
unfolding little highs
all-single [] h e i = omega arith
all-single (b ∷ s) h e zero = omega (arith, e, h 0, digit b (little s) (highs (length s)) (h 0))
all-single (b ∷ s) h e (suc i) = all-single s (λ j. h (suc j)) (omega (arith, e, digit b (little s) (highs (length s)) (h 0))) i

-- ---- past bytes that were tested

-- one by one
run : {s : List ℕ} {from : ℕ} (k i : ℕ) → Same s from i → i + k ≤ length s → ((j : ℕ) → i ≤ j → j < i + k → get_or s j 0 < 0x80) → Same s from (i + k)
run {s} {from} zero i r h f = let e : i ≡ i + 0 = omega arith in subst (Same s from) e r
run {s} {from} (suc k) i r h f =
    let e : i + 1 + k ≡ i + suc k = omega arith in
    subst (Same s from) e (run k (i + 1) (single (i + 1) refl (omega arith) (f i (omega arith) (omega arith)) r) (omega arith) (λ j l b. f j (omega arith) (omega arith)))

-- of n bytes at a, those from i on
module _ {s : List ℕ} {from i : ℕ} (bytes : AreBytes s) (r : Same s from i) (n a : ℕ) (low : a ≤ i) (up : i ≤ a + n) (inside : a + n ≤ length s) where
  many : length (take n (drop a s)) ≡ n
  many = length-take-le n (drop a s) (simp length-drop (omega arith))

  each : AreBelow 128 (take n (drop a s)) → (j : ℕ) → i ≤ j → j < i + (a + n - i) → get_or s j 0 < 0x80
  each below j l h =
      let there : get_or (take n (drop a s)) (j - a) 0 ≡ get_or s (a + (j - a)) 0 = get_or-take n (drop a s) (j - a) 0 (omega arith) ∙ get_or-drop a s (j - a) 0 in
      let place : a + (j - a) ≡ j = omega arith in
      rw place at (rw there at (below (j - a)))

  tested : {ok : Bool} → ok ≡ eqb (bit_and (little (take n (drop a s))) (highs n)) 0 → ok ≡ true → Same s from (a + n)
  tested e h =
      let t : List ℕ = take n (drop a s) in
      let zeros : bit_and (little t) (highs (length t)) ≡ 0 = rw many (eqb-true _ _ (sym e ∙ h)) in
      let below : AreBelow 128 t = all-single t (below-take 256 n (drop a s) (below-drop 256 a s bytes)) zeros in
      let behind : i + (a + n - i) ≡ a + n = omega arith in
      subst (Same s from) behind (run (a + n - i) i r (omega arith) (each below))

module _ {s : List ℕ} {from i : ℕ} (bytes : AreBytes s) (r : Same s from i) {ok : Bool} where
  -- past eight bytes
  pub eight-on : (j : ℕ) → i + 8 ≡ j → i + 8 ≤ length s → ok ≡ eqb (bit_and (little (take 8 (drop i s))) 0x8080_8080_8080_8080) 0 → ok ≡ true → Same s from j
  unfolding highs
  eight-on j place inside e f = subst (Same s from) place (tested bytes r 8 i (omega arith) (omega arith) inside e f)

  -- past the last of all, tested with some in front of them
  module _ (a : ℕ) (low : a ≤ i) where
    pub last-eight : a + 8 ≡ length s → ok ≡ eqb (bit_and (little (take 8 (drop a s))) 0x8080_8080_8080_8080) 0 → ok ≡ true → Same s from (length s)
    unfolding highs
    last-eight place e h = subst (Same s from) place (tested bytes r 8 a low (omega (arith, r.inside)) (omega arith) e h)

    pub last-four : a + 4 ≡ length s → ok ≡ eqb (bit_and (little (take 4 (drop a s))) 0x8080_8080) 0 → ok ≡ true → Same s from (length s)
    unfolding highs
    last-four place e h = subst (Same s from) place (tested bytes r 4 a low (omega (arith, r.inside)) (omega arith) e h)

-- past the next four
pub four-ahead : {s : List ℕ} → AreBytes s → (i j : ℕ) → i + 4 ≡ j → i + 4 ≤ length s → {ok : Bool} → ok ≡ eqb (bit_and (little (take 4 (drop i s))) 0x8080_8080) 0 → ok ≡ true → Same s i j
unfolding highs
four-ahead {s} bytes i j place inside e h = subst (Same s i) place (tested bytes (here s i (omega arith)) 4 i (omega arith) (omega arith) inside e h)
