-- A loop that reads a varint: what is known at its head, over every width, and what one byte more makes of it.
-- Assumes nothing.
use mathlib.Core.Path.{◌≡◌, refl, sym, ap, ◌∙◌}
use mathlib.Core.List.{List}
use Prim.Native.Nat.{ℕ, zero, suc, ◌+◌, ◌*◌, ◌^◌, ◌%◌, ◌<◌, ◌≤◌}
use native.Mathlib.Nat.{zero-add, one-mul, mul-one, mul-add, mul_assoc, mul-le-mul_left, mod-lt, mod-eq_of_lt}
use native.Mathlib.Omega.{arith}
use lib.Dec.{eqb}
use lib.ListN.{length, get_or, drop, drop_of_length-le}
use borrow.Author.Tests.{lt-ltb, le-ltb, le-leb, lt-leb, ne_eqb}
use Rattle.wire.specs.declared.Refusal.TheVariants.{End, BadVarint}
use Rattle.wire.specs.declared.Own.{Own}
use Rattle.wire.specs.Item.{Item}
use Rattle.wire.specs.Item.{Took, Refused}
use Rattle.wire.specs.Tests.{pick, both}
use Rattle.wire.specs.Shape.{w16, w32, w64}
use Rattle.wire.specs.Numbers.{most, last, shortest, spelled, low, varint_f, varint}
use Rattle.laws.specs.Range.{span, InRange}
use Rattle.laws.proofs.Splits.{by_le, by-eq}
use Rattle.laws.proofs.Parts.{next}
use Rattle.laws.proofs.Varints.{varints, span_pos, in-range}
use Rattle.varint.specs.Takes.{limit_of, takes, AtWidth}

-- ---- the constants

pub at_width : AtWidth
unfolding takes limit_of most last varint pick both
at_width w16 s = refl
at_width w32 s = refl
at_width w64 s = refl

pub limit-some : (k : ℕ) → 1 ≤ k → k ≤ 9 → limit_of k ≡ 128
unfolding limit_of pick both
limit-some k l h = rw (le-leb 1 k l, le-leb k 9 h)

pub limit-none : (k : ℕ) → k ≡ 0 → limit_of k ≡ 0
unfolding limit_of pick both
limit-none k e = rw e

pub limit-ten : (k : ℕ) → k ≡ 10 → limit_of k ≡ 2
unfolding limit_of pick both
limit-ten k e = rw e

pub limit-many : (k : ℕ) → 10 < k → limit_of k ≡ 0
unfolding limit_of pick both
limit-many k h = rw (le-leb 1 k (omega arith), lt-leb k 9 (omega arith), ne_eqb k 10 (omega arith))

-- more bytes have more values
span-most : (k m : ℕ) → k ≤ m → span (suc k) 127 ≤ span (suc m) 127
unfolding span
span-most zero zero h = omega arith
span-most zero (suc m) h = omega (arith, span-most zero m (omega arith))
span-most (suc k) zero h = absurd (omega arith)
span-most (suc k) (suc m) h = omega (arith, span-most k m (omega arith))

-- a last byte that is at least `top` and still allowed
record Cap (k top : ℕ) : Type 0 where
  cap : ℕ
  some : 0 < cap
  above : top ≤ cap
  fits : span k cap ≤ 2 ^ 64

capped : (k top : ℕ) → top < limit_of (suc k) → Cap (suc k) top
unfolding limit_of pick both span
capped k top h =
    by_le (suc k) 9
    (λ lo. record { cap = 127; some = omega arith; above = omega (arith, limit-some (suc k) (omega arith) lo); fits = omega (arith, span-most k 8 (omega arith)) })
    (λ hi.
    by-eq k 9 (λ e. rw e (record { cap = 1; some = omega arith; above = omega (arith, rw e at h); fits = omega arith }))
    (λ ne. absurd (omega (arith, limit-many (suc k) (omega arith)))))

-- ---- the value so far

-- the answer of the whole, from that of the rest: i bytes with the given value stand before it
abbrev pub finish : ℕ → ℕ → ℕ → Item → Item
finish i value scale (Took own) = spelled (value + scale * own.first) (i + own.used)
finish i value scale (Refused e) = Refused e

own_is : (own : Own) → own.second ≡ 0 → own.shortest ≡ eqb own.used (length (shortest own.first))
    → ◌≡◌ {A = Own} (record { first = own.first; second = 0; used = own.used; shortest = eqb own.used (length (shortest own.first)) }) own
own_is own e f = rw (← f, ← e)

finish-zero : (limit : ℕ) (s : List ℕ) (r : Item) → InRange limit s r → finish 0 0 1 r ≡ r
finish-zero limit s (Took own) h = simp (zero-add, one-mul) (ap Took (own_is own h.single h.form))
finish-zero limit s (Refused e) h = refl

grow : (value scale x v : ℕ) → value + scale * (x + 128 * v) ≡ value + scale * x + scale * 128 * v
grow value scale x v = rw (mul-add scale x (128 * v), ← mul_assoc scale 128 v) (omega arith)

finish-low : (i value scale b : ℕ) (r : Item) → finish i value scale (low b r) ≡ finish (i + 1) (value + scale * (b % 128)) (scale * 128) r
unfolding low
finish-low i value scale b (Took own) =
    let len : i + (own.used + 1) ≡ i + 1 + own.used = omega arith in
    rw (grow value scale (b % 128) own.first, len)
finish-low i value scale b (Refused e) = refl

-- one digit more, below n, and the value is below n times the scale
digit : {value scale x n : ℕ} → value < scale → x < n → value + scale * x < scale * n
digit {value} {scale} {x} {n} hv hx =
    let less : x + 1 ≤ n = omega arith in
    omega (arith, mul-add scale x 1, mul-one scale, mul-le-mul_left scale less)

-- ---- the loop

-- at its head: i bytes are read, `left` more are allowed after the next, and the rest decides the answer
pub record Reading (s : List ℕ) (most top value scale i : ℕ) : Type 0 where
  pub left : ℕ
  pub count : i + (left + 1) ≡ most
  pub small : value < scale
  pub cap : ℕ
  pub some : 0 < cap
  pub above : top ≤ cap
  pub fits : scale * span (suc left) cap ≤ 2 ^ 64
  pub same : finish i value scale (varint_f (suc left) top (drop i s)) ≡ takes most top s

pub start : (s : List ℕ) (most top : ℕ) → top < limit_of most → Reading s most top 0 1 0
unfolding takes pick
start s zero top h = absurd (omega (arith, limit-none 0 refl))
start s (suc k) top h =
    record {
      left = k;
      count = omega arith;
      small = omega arith;
      cap = (capped k top h).cap;
      some = (capped k top h).some;
      above = (capped k top h).above;
      fits = rw one-mul (capped k top h).fits;
      same = rw (lt-ltb top (limit_of (suc k)) h) (finish-zero _ s _ (in-range (suc k) top s));
    }

pub refused : (s : List ℕ) (most top : ℕ) → limit_of most ≤ top → Refused BadVarint ≡ takes most top s
unfolding takes pick
refused s most top h = rw (le-ltb top (limit_of most) h)

module _ {s : List ℕ} {most top value scale i : ℕ} (r : Reading s most top value scale i) where
  pub at-end : length s ≤ i → Refused End ≡ takes most top s
  unfolding varints
  at-end h = rw drop_of_length-le at r.same

  -- the next byte is the last allowed, and then it is not
  is_last : i + 1 ≡ most → r.left ≡ 0
  is_last e = omega arith

  not_last : (i + 1 ≡ most → ⊥) → (m : ℕ) × (r.left ≡ suc m)
  not_last e = go r.left refl
    where
      go : (k : ℕ) → r.left ≡ k → (m : ℕ) × (r.left ≡ suc m)
      go zero z = absurd (e (omega arith))
      go (suc m) z = (m, z)

  module _ (h : i < length s) where
    pub last-good : i + 1 ≡ most → get_or s i 0 ≤ top → spelled (value + scale * get_or s i 0) (i + 1) ≡ takes most top s
    unfolding varints
    last-good e b = rw (next s i h, is_last e, le-leb _ _ b) at r.same

    pub last-bad : i + 1 ≡ most → top < get_or s i 0 → Refused BadVarint ≡ takes most top s
    unfolding varints
    last-bad e b = rw (next s i h, is_last e, lt-leb _ _ b) at r.same

    pub short : (i + 1 ≡ most → ⊥) → get_or s i 0 < 128 → spelled (value + scale * (get_or s i 0 % 128)) (i + 1) ≡ takes most top s
    unfolding varints
    short e b = rw (mod-eq_of_lt b) (rw (next s i h, (not_last e).1, lt-ltb _ _ b) at r.same)

    pub again : (i + 1 ≡ most → ⊥) → 128 ≤ get_or s i 0
        → Reading s most top (value + scale * (get_or s i 0 % 128)) (scale * 128) (i + 1)
    unfolding varints
    again e b =
        let m = (not_last e).0 in
        let z : r.left ≡ suc m = (not_last e).1 in
        record {
          left = m;
          count = omega arith;
          small = digit r.small (mod-lt _ (omega arith));
          cap = r.cap;
          some = r.some;
          above = r.above;
          fits = rw mul_assoc (rw z at r.fits);
          same = sym (finish-low i value scale (get_or s i 0) (varint_f (suc m) top (drop (i + 1) s))) ∙ rw (next s i h, z, le-ltb _ _ b) at r.same;
        }

  -- the digit that ends the varint, or does not, fits
  pub fits_last : i + 1 ≡ most → {x : ℕ} → x ≤ top → value + scale * x < 2 ^ 64
  unfolding varints
  fits_last e {x} b =
      let less : x < span 1 r.cap = omega arith in
      omega (arith, digit r.small less, rw (is_last e) at r.fits)

  pub fits_more : (i + 1 ≡ most → ⊥) → {x : ℕ} → x < 128 → value + scale * x < 2 ^ 64
  unfolding varints
  fits_more e {x} b =
      let m = (not_last e).0 in
      let z : r.left ≡ suc m = (not_last e).1 in
      let less : x < 128 * span (suc m) r.cap = omega (arith, span_pos m r.cap) in
      omega (arith, digit r.small less, rw z at r.fits)

  pub fits-scale : (i + 1 ≡ most → ⊥) → scale * 128 < 2 ^ 64
  unfolding varints
  fits-scale e =
      let m = (not_last e).0 in
      let z : r.left ≡ suc m = (not_last e).1 in
      let less : 256 ≤ 128 * span (suc m) r.cap = omega (arith, span_pos m r.cap) in
      omega (arith, mul-le-mul_left scale less, rw z at r.fits, r.small)

pub part : (value : ℕ) {p : ℕ} → value + p < 2 ^ 64 → p < 2 ^ 64
part value h = omega arith
