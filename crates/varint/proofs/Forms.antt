-- Which forms are read: by induction on the bytes, once over every width.
-- Assumes nothing.
use mathlib.Core.Path.{◌≡◌, refl}
use mathlib.Core.List.{List, [], ◌∷◌, ◌++◌, append-nil}
use Prim.Native.Nat.{ℕ, zero, suc, ◌+◌, ◌-◌, ◌*◌, ◌/◌, ◌%◌, ◌^◌, ◌<◌, ◌≤◌}
use native.Mathlib.Nat.{pow-succ'}
use native.Mathlib.Numerals.{add-one}
use native.Mathlib.Omega.{arith}
use lib.ListN.{length}
use borrow.Author.Tests.{le-leb, lt-leb}
use Rattle.wire.specs.declared.Refusal.{Refusal}
use Rattle.wire.specs.Item.{Refused}
use Rattle.wire.specs.Numbers.{most, last, low, spelled, varint_f, varint, shortest}
use Rattle.laws.specs.Range.{span}
use Rattle.laws.proofs.Varints.{varints, varint-small, varint-more, good, span-bits}
use Rattle.varint.specs.Forms.{form, AnyLength, AreHigh, none, also, LastTooLarge, EndsInside, VarintCases}

-- ---- read

read : (k m top x : ℕ) (rest : List ℕ) → k ≤ m → top < 128 → x < 128 ^ suc k → x < span (suc m) top
    → varint_f (suc m) top (form (suc k) x ++ rest) ≡ spelled x (suc k)
unfolding varints form
read zero zero top x rest l t h f = rw (le-leb x top (omega arith))
read zero (suc m) top x rest l t h f = varint-small m top x rest h
read (suc k) zero top x rest l t h f = absurd (omega arith)
read (suc k) (suc m) top x rest l t h f =
    let ih = read k m top (x / 128) rest (omega arith) t (omega (arith, pow-succ' 128 (suc k))) (omega arith) in
    let whole : (x % 128 + 128) % 128 + 128 * (x / 128) ≡ x = omega arith in
    rw (varint-more m top (x % 128 + 128) (form (suc k) (x / 128) ++ rest) (omega arith), ih, whole, add-one)

pub any-length : AnyLength
unfolding varint
any-length w k x rest l h f =
    let m : suc (most w - 1) ≡ most w = omega (arith, (good w).some) in
    rw m at (read k (most w - 1) (last w) x rest (omega arith) (good w).high h (rw (m, span-bits w) f))

-- ---- refused

behind : {s : List ℕ} → AreHigh s → (t : List ℕ) (n k top : ℕ) {e : Refusal} → n ≡ length s + suc k → varint_f (suc k) top t ≡ Refused e → varint_f n top (s ++ t) ≡ Refused e
unfolding low
behind none t n k top l h = let e : n ≡ suc k = omega arith in rw e h
behind (also hi hs) t zero k top l h = absurd (omega arith)
behind (also hi hs) t (suc zero) k top l h = absurd (omega arith)
behind (also {b} {s} hi hs) t (suc (suc m)) k top l h = rw (varint-more m top b _ hi, behind hs t (suc m) k top (omega arith) h)

pub last-too-large : LastTooLarge
unfolding varints varint
last-too-large w s b rest hs l h = behind hs (b ∷ rest) (most w) 0 (last w) (omega arith) (rw (lt-leb b (last w) h))

pub ends-inside : EndsInside
unfolding varints varint
ends-inside w s hs l = rw (append-nil s) at (behind hs [] (most w) (most w - length s - 1) (last w) (omega arith) refl)

-- ---- document 01's

pub varint-cases : VarintCases
unfolding varints varint most last shortest
varint-cases = (refl, refl, refl, refl)
