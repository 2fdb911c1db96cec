-- A sum byte by byte: what the bytes that are left make of the two halves so far is the sum. Its low half is the bytes' sum
-- modulo a prime above every byte, so that one changed byte shows in it.
-- Assumes nothing.
use mathlib.Core.Path.{◌≡◌, refl, sym, ap, ◌∙◌}
use mathlib.Core.List.{List, [], ◌∷◌, ◌++◌}
use Prim.Native.Nat.{ℕ, ◌+◌, ◌*◌, ◌%◌, ◌≤◌, ◌<◌}
use native.Mathlib.Numerals.{add-one}
use native.Mathlib.Omega.{arith}
use lib.ListN.{length, drop, get_or, drop_of_length-le}
use lib.Seq.{drop-cons}
use Rattle.recorded.specs.Sums.{prime, sum_from, sum_of, Notices}

pub record Sums (s : List ℕ) (low high i : ℕ) : Type 0 where
  pub within : i ≤ length s
  pub low_fits : low < prime
  pub high_fits : high < prime
  pub same : sum_from low high (drop i s) ≡ sum_of s

pub sums_none : (s : List ℕ) → Sums s 1 0 0
unfolding sum_of
sums_none s = record { within = omega arith; low_fits = omega arith; high_fits = omega arith; same = refl }

module _ {s : List ℕ} {low high i : ℕ} (h : Sums s low high i) where
  pub sums-more : i < length s → Sums s ((low + get_or s i 0) % prime) ((high + (low + get_or s i 0) % prime) % prime) (i + 1)
  unfolding sum_from
  sums-more lo =
      record {
        within = omega arith;
        low_fits = omega arith;
        high_fits = omega arith;
        same = rw add-one (rw (drop-cons s i 0) at h.same);
      }

  pub sums-all : length s ≤ i → high * 65536 + low ≡ sum_of s
  unfolding sum_from
  sums-all hi = rw (drop_of_length-le s hi) at h.same

-- ---- a changed byte

low_end : ℕ → List ℕ → ℕ
low_end low [] = low
low_end low (b ∷ s) = low_end ((low + b) % prime) s

low_half : (s : List ℕ) (low high : ℕ) → low < prime → sum_from low high s % 65536 ≡ low_end low s
unfolding sum_from low_end
low_half [] low high fits = omega arith
low_half (b ∷ s) low high fits = low_half s ((low + b) % prime) ((high + (low + b) % prime) % prime) (omega arith)

one-start : (s : List ℕ) (x y : ℕ) → x < prime → y < prime → low_end x s ≡ low_end y s → x ≡ y
unfolding low_end
one-start [] x y fx fy e = e
one-start (b ∷ s) x y fx fy e =
    let f : (x + b) % prime ≡ (y + b) % prime = one-start s ((x + b) % prime) ((y + b) % prime) (omega arith) (omega arith) e in
    omega arith

one_byte : (front back : List ℕ) (low a b : ℕ) → a < 256 → b < 256 → low_end low (front ++ a ∷ back) ≡ low_end low (front ++ b ∷ back) → a ≡ b
unfolding low_end
one_byte [] back low a b fa fb e =
    let f : (low + a) % prime ≡ (low + b) % prime = one-start back ((low + a) % prime) ((low + b) % prime) (omega arith) (omega arith) e in
    omega arith
one_byte (x ∷ front) back low a b fa fb e = one_byte front back ((low + x) % prime) a b fa fb e

pub notices : Notices
unfolding sum_of
notices front back a b fa fb e =
    one_byte front back 1 a b fa fb
    (sym (low_half (front ++ a ∷ back) 1 0 (omega arith)) ∙ ap (λ (n : ℕ). n % 65536) e ∙ low_half (front ++ b ∷ back) 1 0 (omega arith))
