-- The steps of bytes in hexadecimal: the first quote, two digits, and the closing quote.
-- Assumes nothing.
use Rattle.std.specs.Prelude.{Result, Ok, Err}
use mathlib.Core.Path.{◌≡◌, refl, ap, ◌∙◌}
use mathlib.Core.Bool.{true, false}
use mathlib.Core.List.{List}
use mathlib.Core.Option.{none, some}
use Prim.Native.Nat.{ℕ, ◌+◌, ◌<◌, ◌≤◌}
use native.Mathlib.Omega.{arith}
use lib.Dec.{ltb, eqb}
use lib.ListN.{length, get_or}
use borrow.Author.Tests.{ltb-true, eqb-true, eq-eqb, lt-ltb, le-ltb, le-leb, lt-leb}
use Rattle.wire.specs.Tests.{pick, both}
use Rattle.laws.proofs.Splits.{by-test, by-lt, not-both, both_left, both_right}
use Rattle.desk.specs.Csv.{quote}
use Rattle.spellings.specs.Accept.{when, is_digit}
use Rattle.take_number.specs.declared.Stop.{Stop}
use Rattle.take_number.specs.Scans.{Ends}
use Rattle.take_number.proofs.Scanning.{ends-here, ends_on}
use Rattle.take_text.specs.declared.Quoted.{Quoted}
use Rattle.take_text.specs.Marks.{is_quote}
use Rattle.take_text.proofs.Marking.{quote-there, quote-test}
use Rattle.take_hex.specs.Pairs.{is_hex, hex_at, Pair, before, even, odd, closed, pair_step, counts, is_closed, Answers, hexed, stops}

-- ---- tests

pub digit-hex : (b : ℕ) → 48 ≤ b → b ≤ 57 → true ≡ is_hex b
unfolding is_hex is_digit pick both
digit-hex b h k = rw (le-leb 48 b h, le-leb b 57 k)

pub letter-hex : (b : ℕ) → 97 ≤ b → b ≤ 102 → true ≡ is_hex b
unfolding is_hex is_digit pick both
letter-hex b h k = rw (le-leb 48 b (omega arith), lt-leb b 57 (omega arith), le-leb 97 b h, le-leb b 102 k)

pub other-hex : (b : ℕ) → (48 ≤ b → 57 < b) → (97 ≤ b → 102 < b) → false ≡ is_hex b
unfolding is_hex is_digit pick both
other-hex b f g =
    by-lt b 48 (λ l. rw (lt-leb 48 b l, lt-leb 97 b (omega arith)))
    (λ l. by-lt b 97 (λ m. rw (le-leb 48 b l, lt-leb b 57 (f l), lt-leb 97 b m)) (λ m. rw (le-leb 48 b l, lt-leb b 57 (f l), le-leb 97 b m, lt-leb b 102 (g m))))

pub hex-test : (s : List ℕ) (i : ℕ) → i < length s → is_hex (get_or s i 0) ≡ hex_at s i
unfolding hex_at both
hex-test s i h = rw (lt-ltb i (length s) h)

pub hex-beyond : (s : List ℕ) (i : ℕ) → length s ≤ i → false ≡ hex_at s i
unfolding hex_at both
hex-beyond s i h = rw (le-ltb i (length s) h)

pub hex-there : (s : List ℕ) (i : ℕ) → hex_at s i ≡ true → (i < length s) × (is_hex (get_or s i 0) ≡ true)
unfolding hex_at
hex-there s i h = (ltb-true i (length s) (both_left _ _ h), both_right (ltb i (length s)) _ h)

hex-none : (s : List ℕ) (i : ℕ) → hex_at s i ≡ false → i < length s → is_hex (get_or s i 0) ≡ false
hex-none s i h l = hex-test s i l ∙ h

-- a digit is no quote
no-quote : (b : ℕ) → is_hex b ≡ true → eqb b quote ≡ false
unfolding is_hex is_digit pick both
no-quote b h = by-test (eqb b quote) (λ e. not-both h (ap is_hex (eqb_is e))) (λ e. e)
  where
    eqb_is : eqb b quote ≡ true → b ≡ 34
    eqb_is e = eqb-true b quote e

-- ---- steps

odd_step : (n b : ℕ) → is_hex b ≡ true → pair_step (even n) b ≡ some (odd n)
unfolding pair_step pick when
odd_step n b h = rw (no-quote b h, h)

even_step : (n b : ℕ) → is_hex b ≡ true → pair_step (odd n) b ≡ some (even (n + 1))
unfolding pair_step when
even_step n b h = rw h

odd-none : (n b : ℕ) → is_hex b ≡ false → pair_step (odd n) b ≡ none
unfolding pair_step when
odd-none n b h = rw h

close-step : (n b : ℕ) → b ≡ quote → pair_step (even n) b ≡ some (closed n)
unfolding pair_step pick
close-step n b h = rw (eq-eqb b quote h)

even-none : (n b : ℕ) → eqb b quote ≡ false → is_hex b ≡ false → pair_step (even n) b ≡ none
unfolding pair_step pick when
even-none n b e h = rw (e, h)

-- ---- answers

-- inside they are not closed
not_closed : (n : ℕ) → is_closed (even n) ≡ false
unfolding is_closed
not_closed n = refl

module _ (n : ℕ) (s : List ℕ) (i : ℕ) where
  pub closes : is_quote s i ≡ true → Answers (even n) s i (Ok (record { len = n; at = i + 1 }))
  unfolding pair_step
  closes q =
      let l = quote-there s i q in
      hexed (ends_on counts s i l.0 (close-step n (get_or s i 0) l.1) (ends-here counts s (i + 1) (omega (arith, l.0)) (λ m. refl)))

  pub closes-not : i ≤ length s → hex_at s i ≡ false → is_quote s i ≡ false → Answers (even n) s i (Err (record { at = i }))
  closes-not h e q = stops (ends-here counts s i h (λ l. even-none n (get_or s i 0) (quote-test s i l ∙ q) (hex-none s i e l))) (not_closed n)

pub record Going (s : List ℕ) (from at n : ℕ) : Type 0 where
  pub finish : {y : Pair} {z : ℕ} → Ends counts (even n) s at y z → Ends counts (even 0) s from y z
  pub inside : at ≤ length s
  pub few : n ≤ at

pub going-begin : (s : List ℕ) (from : ℕ) → from ≤ length s → Going s from from 0
going-begin s from h = record { finish = λ e. e; inside = h; few = omega arith }

module _ {s : List ℕ} {from at n : ℕ} (g : Going s from at n) where
  pub going-close : {r : Result Quoted Stop} → Answers (even n) s at r → Answers (even 0) s from r
  going-close (hexed e) = hexed (g.finish e)
  going-close (stops e c) = stops (g.finish e) c

  pub going_end : length s ≤ at → Answers (even 0) s from (Err (record { at = at }))
  going_end h = stops (g.finish (ends-here counts s at g.inside (λ l. absurd (omega arith)))) (not_closed n)

  module _ (h : hex_at s at ≡ true) where
    pub going-odd : hex_at s (at + 1) ≡ false → Answers (even 0) s from (Err (record { at = at + 1 }))
    unfolding is_closed
    going-odd e =
        let l = hex-there s at h in
        stops {y = odd n} (g.finish (ends_on counts s at l.0 (odd_step n (get_or s at 0) l.1) (ends-here counts s (at + 1) (omega (arith, l.0)) (λ m. odd-none n (get_or s (at + 1) 0) (hex-none s (at + 1) e m))))) refl

    pub going_on : hex_at s (at + 1) ≡ true → Going s from (at + 1 + 1) (n + 1)
    going_on e =
        let l = hex-there s at h in
        let m = hex-there s (at + 1) e in
        record {
          finish = λ r. g.finish (ends_on counts s at l.0 (odd_step n (get_or s at 0) l.1) (ends_on counts s (at + 1) m.0 (even_step n (get_or s (at + 1) 0) m.1) r));
          inside = omega (arith, m.0);
          few = omega (arith, g.few);
        }

-- ---- from the first quote on

before-step : (b : ℕ) → b ≡ quote → pair_step before b ≡ some (even 0)
unfolding pair_step when
before-step b e = rw (eq-eqb b quote e)

before-none : (b : ℕ) → eqb b quote ≡ false → pair_step before b ≡ none
unfolding pair_step when
before-none b e = rw e

module _ (s : List ℕ) (i : ℕ) where
  pub opened : {r : Result Quoted Stop} → is_quote s i ≡ true → Answers (even 0) s (i + 1) r → Answers before s i r
  opened h (hexed e) = let l = quote-there s i h in hexed (ends_on counts s i l.0 (before-step (get_or s i 0) l.1) e)
  opened h (stops e c) = let l = quote-there s i h in stops (ends_on counts s i l.0 (before-step (get_or s i 0) l.1) e) c

  pub not_opened : i ≤ length s → is_quote s i ≡ false → Answers before s i (Err (record { at = i }))
  unfolding is_closed
  not_opened h e = stops {y = before} (ends-here counts s i h (λ l. before-none (get_or s i 0) (quote-test s i l ∙ e))) refl
