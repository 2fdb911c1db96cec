-- The steps of a number: its minus, its first digit, and the others.
-- Assumes nothing.
use Rattle.std.specs.Prelude.{Some, None, Ok, Err}
use mathlib.Core.Path.{◌≡◌, refl, sym, ap, ◌∙◌}
use mathlib.Core.Bool.{true, false}
use mathlib.Core.List.{List}
use mathlib.Core.Option.{none, some}
use Prim.Native.Nat.{ℕ, ◌+◌, ◌-◌, ◌*◌, ◌/◌, ◌%◌, ◌^◌, ◌<◌, ◌≤◌}
use native.Mathlib.Omega.{arith}
use lib.Dec.{ltb, leb, eqb}
use lib.ListN.{length, get_or}
use borrow.Author.Tests.{lt-ltb, le-ltb, le-leb, lt-leb, eq-eqb, ne_eqb, leb-true, leb-false, ltb-true, eqb-true}
use Rattle.wire.specs.Tests.{pick, both}
use Rattle.wire.specs.Values.{number}
use Rattle.laws.proofs.Splits.{by-test, not-both, both_left, both_right}
use Rattle.desk.specs.Csv.{minus}
use Rattle.spellings.specs.Accept.{when, is_digit, Figure, nothing, minused, plus, under, another, first, figure_step, figure_value, numbers}
use Rattle.spellings.specs.Exact.{neither, each, Beside}
use Rattle.spellings.proofs.Numerals.{is_digit_lem}
use Rattle.take_number.specs.declared.Stop.{Stop}
use Rattle.take_number.specs.Number.{Number}
use Rattle.take_number.specs.Number.{Is, Stops}
use Rattle.take_number.specs.Scans.{is_at, Ends, DigitAt, digit, no_digit, FirstAt, begins, no_first, further_step, further, TakesNumber, takes, stops, TakesUnder, takes_under, stops_under}
use Rattle.take_number.proofs.Scanning.{ends-here, ends_on, ends_as}

-- ---- a digit

pub digit-in : (s : List ℕ) (i : ℕ) → i < length s → 48 ≤ get_or s i 0 → get_or s i 0 ≤ 57 → DigitAt s i (Some (get_or s i 0 - 48))
unfolding is_digit both
digit-in s i h l m = digit h (rw (le-leb 48 (get_or s i 0) l, le-leb (get_or s i 0) 57 m))

pub digit-out : (s : List ℕ) (i : ℕ) → (i < length s → 48 ≤ get_or s i 0 → get_or s i 0 ≤ 57 → ⊥) → DigitAt s i None
unfolding is_digit
digit-out s i h = no_digit (λ l. by-test (is_digit (get_or s i 0)) (λ e. let d = is_digit_lem (get_or s i 0) e in absurd (h l d.0 d.1)) (λ e. e))

-- a byte that is a digit
pub record IsDigit (s : List ℕ) (i d : ℕ) : Type 0 where
  pub there : i < length s
  pub is : is_digit (get_or s i 0) ≡ true
  pub same : get_or s i 0 - 48 ≡ d
  pub large : 48 ≤ get_or s i 0

pub a-digit : {s : List ℕ} {i d : ℕ} → DigitAt s i (Some d) → IsDigit s i d
a-digit {s} {i} (digit l e) = record { there = l; is = e; same = refl; large = (is_digit_lem (get_or s i 0) e).0 }

pub small-digit : {s : List ℕ} {i d : ℕ} → DigitAt s i (Some d) → d ≤ 9
small-digit {s} {i} (digit l e) = let m = is_digit_lem (get_or s i 0) e in omega (arith, m.1)

pub no_digit_lem : {s : List ℕ} {i : ℕ} → DigitAt s i None → i < length s → is_digit (get_or s i 0) ≡ false
no_digit_lem (no_digit e) k = e k

-- ---- digits behind a number

module _ (most x b : ℕ) where
  further-none : is_digit b ≡ false → further_step most x b ≡ none
  unfolding further_step both when
  further-none e = rw e

  further-zero : x ≤ 0 → further_step most x b ≡ none
  unfolding further_step both when
  further-zero h = by-test (is_digit b) (λ e. rw (e, le-ltb 0 x h)) (λ e. rw e)

  further-large : most < 10 * x + (b - 48) → further_step most x b ≡ none
  unfolding further_step both when
  further-large h = by-test (is_digit b) (λ e. by-test (ltb 0 x) (λ f. rw (e, f, lt-leb (10 * x + (b - 48)) most h)) (λ f. rw (e, f))) (λ e. rw e)

  further-some : is_digit b ≡ true → 0 < x → 10 * x + (b - 48) ≤ most → further_step most x b ≡ some (10 * x + (b - 48))
  unfolding further_step both when
  further-some e h k = rw (e, lt-ltb 0 x h, le-leb (10 * x + (b - 48)) most k)

-- the digits so far give x, and what follows from `at` on is all that follows
pub record Going (most first : ℕ) (s : List ℕ) (from x at : ℕ) : Type 0 where
  pub finish : {y j : ℕ} → Ends (further most) x s at y j → Ends (further most) first s from y j
  pub inside : at ≤ length s
  pub small : x ≤ most
  pub grown : first ≤ x

pub going-begin : (most first : ℕ) (s : List ℕ) (from : ℕ) → first ≤ most → from ≤ length s → Going most first s from first from
going-begin most first s from h k = record { finish = λ e. e; inside = k; small = h; grown = omega arith }

module _ {most first : ℕ} {s : List ℕ} {from x at : ℕ} (g : Going most first s from x at) where
  abbrev Found : Type 0
  Found = Ends (further most) first s from x at × (x ≤ most) × (first ≤ x)

  stop : (at < length s → further_step most x (get_or s at 0) ≡ none) → Found
  stop h = (g.finish (ends-here (further most) s at g.inside h), g.small, g.grown)

  pub going-zero : x ≤ 0 → Found
  going-zero h = stop (λ l. further-zero most x (get_or s at 0) h)

  pub going-none : DigitAt s at None → Found
  going-none e = stop (λ l. further-none most x (get_or s at 0) (no_digit_lem e l))

  module _ {d : ℕ} (e : DigitAt s at (Some d)) where
    pub going-large : most < 10 * x + d → Found
    going-large k = stop (λ l. further-large most x (get_or s at 0) (omega (arith, k, (a-digit e).same)))

    pub going_on : 0 < x → 10 * x + d ≤ most → Going most first s from (10 * x + d) (at + 1)
    going_on k m =
        let a = a-digit e in
        record {
          finish = λ n. g.finish (ends_on (further most) s at a.there (further-some most x (get_or s at 0) a.is k (rw a.same m)) (rw a.same n));
          inside = omega (arith, a.there);
          small = m;
          grown = omega (arith, g.grown);
        }

-- ---- as a number above zero, and as one below

beside-plus : (below above : ℕ) → Beside (further above) (numbers below above) (λ x z. z ≡ plus x)
unfolding further_step figure_step another when
beside-plus below above x z b e =
    rw e (by-test (both (is_digit b) (both (ltb 0 x) (leb (10 * x + (b - 48)) above))) (λ t. rw t (each refl)) (λ t. rw t neither))

beside-under : (below above : ℕ) → Beside (further below) (numbers below above) (λ x z. z ≡ under x)
unfolding further_step figure_step another when
beside-under below above x z b e =
    rw e (by-test (both (is_digit b) (both (ltb 0 x) (leb (10 * x + (b - 48)) below))) (λ t. rw t (each refl)) (λ t. rw t neither))

-- ---- first bytes

module _ (least most : ℕ) (f : ℕ → Figure) (b : ℕ) where
  first-none : is_digit b ≡ false → first least most f b ≡ none
  unfolding first both when
  first-none e = rw e

  first_small : b - 48 < least → first least most f b ≡ none
  unfolding first both when
  first_small h = by-test (is_digit b) (λ e. rw (e, lt-leb least (b - 48) h)) (λ e. rw e)

  first-large : most < b - 48 → first least most f b ≡ none
  unfolding first both when
  first-large h = by-test (is_digit b) (λ e. by-test (leb least (b - 48)) (λ k. rw (e, k, lt-leb (b - 48) most h)) (λ k. rw (e, k))) (λ e. rw e)

  first_some : is_digit b ≡ true → least ≤ b - 48 → b - 48 ≤ most → first least most f b ≡ some (f (b - 48))
  unfolding first both when
  first_some e h k = rw (e, le-leb least (b - 48) h, le-leb (b - 48) most k)

-- the first digit at a place
module _ (least most : ℕ) (s : List ℕ) (i : ℕ) where
  pub first-is : {d : ℕ} → DigitAt s i (Some d) → least ≤ d → d ≤ most → FirstAt least most s i (Ok d)
  first-is e l m =
      let a = a-digit e in
      begins a.there (λ f. first_some least most f (get_or s i 0) a.is (omega (arith, a.same)) (omega (arith, a.same)) ∙ ap (λ d. some (f d)) a.same) l m

  pub first-no : DigitAt s i None → FirstAt least most s i (Err (record { at = i }))
  first-no e = no_first (λ l f. first-none least most f (get_or s i 0) (no_digit_lem e l))

  pub first-below : {d : ℕ} → DigitAt s i (Some d) → d < least → FirstAt least most s i (Err (record { at = i }))
  first-below e h = no_first (λ l f. first_small least most f (get_or s i 0) (omega (arith, (a-digit e).same)))

  pub first-above : {d : ℕ} → DigitAt s i (Some d) → most < d → FirstAt least most s i (Err (record { at = i }))
  first-above e h = no_first (λ l f. first-large least most f (get_or s i 0) (omega (arith, (a-digit e).same)))

-- behind a minus
module _ (below : ℕ) (s : List ℕ) (i : ℕ) where
  pub under-stops : {r : Stop} → i ≤ length s → FirstAt 1 below s i (Err r) → TakesUnder below s i (Err r)
  unfolding figure_step figure_value
  under-stops inside (no_first h) = stops_under {x = minused} (λ above. ends-here (numbers below above) s i inside (λ l. h l under)) refl

  pub under-taken : {d : ℕ} → FirstAt 1 below s i (Ok d) → {x j : ℕ} → Ends (further below) d s (i + 1) x j → (word : ℕ) → word ≡ 2 ^ 64 - x → TakesUnder below s i (Is word j)
  unfolding figure_step figure_value
  under-taken (begins there is l k) {x} n word w =
      takes_under {x = under x}
      (λ above. ends_on (numbers below above) s i there (is under) (ends_as (further below) (numbers below above) under (beside-under below above) n))
      (ap (λ w. some (number w 0)) (sym w))

-- in front
module _ (below above : ℕ) (s : List ℕ) (i : ℕ) (inside : i ≤ length s) where
  number-stop : (i < length s → figure_step below above nothing (get_or s i 0) ≡ none) → TakesNumber below above s i (Stops i)
  unfolding figure_value
  number-stop h = stops {x = nothing} (ends-here (numbers below above) s i inside h) refl

  minus-none : (b : ℕ) → b ≡ minus → below ≤ 0 → figure_step below above nothing b ≡ none
  unfolding figure_step pick when
  minus-none b e h = rw (eq-eqb b minus e, le-ltb 0 below h)

  minus-some : (b : ℕ) → b ≡ minus → 0 < below → figure_step below above nothing b ≡ some minused
  unfolding figure_step pick when
  minus-some b e h = rw (eq-eqb b minus e, lt-ltb 0 below h)

  plus_step : (b : ℕ) → (b ≡ minus → ⊥) → figure_step below above nothing b ≡ first 0 above plus b
  unfolding figure_step pick
  plus_step b e = rw (ne_eqb b minus e)

  pub no_minus : get_or s i 0 ≡ minus → below ≤ 0 → TakesNumber below above s i (Stops i)
  no_minus e h = number-stop (λ l. minus-none (get_or s i 0) e h)

  pub behind-minus : i < length s → get_or s i 0 ≡ minus → 0 < below → {r : Number} → TakesUnder below s (i + 1) r → TakesNumber below above s i r
  behind-minus l e h (takes_under n v) = takes (ends_on (numbers below above) s i l (minus-some (get_or s i 0) e h) (n above)) v
  behind-minus l e h (stops_under n v) = stops (ends_on (numbers below above) s i l (minus-some (get_or s i 0) e h) (n above)) v

  module _ (other : i < length s → get_or s i 0 ≡ minus → ⊥) where
    pub number-stops : {r : Stop} → FirstAt 0 above s i (Err r) → TakesNumber below above s i (Err r)
    number-stops (no_first h) = number-stop (λ l. plus_step (get_or s i 0) (other l) ∙ h l plus)

    pub number-taken : {d : ℕ} → FirstAt 0 above s i (Ok d) → {x j : ℕ} → Ends (further above) d s (i + 1) x j → TakesNumber below above s i (Is x j)
    unfolding figure_value
    number-taken (begins there is l k) {x} n =
        takes {x = plus x}
        (ends_on (numbers below above) s i there (plus_step (get_or s i 0) (other there) ∙ is plus) (ends_as (further above) (numbers below above) plus (beside-plus below above) n))
        refl

-- the place behind a first digit is in the row
pub first-there : {least most : ℕ} {s : List ℕ} {i d : ℕ} → FirstAt least most s i (Ok d) → (i < length s) × (d ≤ most) × (least ≤ d)
first-there (begins there is l k) = (there, k, l)

-- ---- one digit more

pub fits-less : (most x d : ℕ) → d ≤ 9 → x < most / 10 → true ≡ leb (10 * x + d) most
fits-less most x d h k = sym (le-leb (10 * x + d) most (omega arith))

pub fits_more : (most x d : ℕ) → most / 10 < x → false ≡ leb (10 * x + d) most
fits_more most x d k = sym (lt-leb (10 * x + d) most (omega arith))

pub fits-same : (most x d : ℕ) → x ≤ most / 10 → most / 10 ≤ x → leb d (most % 10) ≡ leb (10 * x + d) most
fits-same most x d h k =
    let e : x ≡ most / 10 = omega arith in
    by-test (leb d (most % 10)) (λ t. t ∙ sym (le-leb (10 * x + d) most (omega (arith, leb-true d (most % 10) t)))) (λ t. t ∙ sym (lt-leb (10 * x + d) most (omega (arith, leb-false d (most % 10) t))))

-- ---- a byte that is looked for

pub at_there : (s : List ℕ) (i b : ℕ) → is_at s i b ≡ true → (i < length s) × (get_or s i 0 ≡ b)
unfolding is_at
at_there s i b h = (ltb-true i (length s) (both_left _ _ h), eqb-true (get_or s i 0) b (both_right (ltb i (length s)) _ h))

pub at_test : (s : List ℕ) (i b : ℕ) → i < length s → eqb (get_or s i 0) b ≡ is_at s i b
unfolding is_at both
at_test s i b h = rw (lt-ltb i (length s) h)

pub at-beyond : (s : List ℕ) (i b : ℕ) → length s ≤ i → false ≡ is_at s i b
unfolding is_at both
at-beyond s i b h = rw (le-ltb i (length s) h)

pub at-not : (s : List ℕ) (i b : ℕ) → is_at s i b ≡ false → i < length s → get_or s i 0 ≡ b → ⊥
at-not s i b e h k = not-both (sym (at_test s i b h) ∙ eq-eqb (get_or s i 0) b k) e
