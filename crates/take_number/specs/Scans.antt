-- How far an acceptor goes from a place of a row on, as code finds it out.
-- Assumes nothing.
use Rattle.std.specs.Prelude.{◌≡◌, Bool, true, false, List, ℕ, ◌+◌, ◌-◌, ◌*◌, ◌<◌, ◌≤◌, ltb, leb, eqb, length, get_or, drop, Some, None, Result, Ok, Err}
use Rattle.std.specs.Prelude as code
use Rattle.std.proofs.Math.Option.{Option, none, some}
use Rattle.wire.specs.Tests.{both}
use Rattle.wire.specs.Values.{number}
use Rattle.spellings.specs.Accept.{Acceptor, when, is_digit, first, Figure, nothing, minused, figure_value, numbers, scan}
use Rattle.take_number.specs.declared.Stop.{Stop}
use Rattle.take_number.specs.Number.{Number}
use Rattle.take_number.specs.Number.{Is, Stops}

-- from the state x at the place i it goes to the state y at the place j, and no further
pub record Ends (A : Acceptor) (x : A.State) (s : List ℕ) (i : ℕ) (y : A.State) (j : ℕ) : Type 0 where
  pub state : (scan A x (drop i s)).state ≡ y
  pub place : i + (scan A x (drop i s)).used ≡ j
  pub left : (scan A x (drop i s)).left ≡ drop j s
  pub inside : j ≤ length s

-- a byte stands at a place
unfoldable pub is_at : List ℕ → ℕ → ℕ → Bool
is_at s i b = both (ltb i (length s)) (eqb (get_or s i 0) b)

-- the digit at a place, or that there is none
pub data DigitAt (s : List ℕ) (i : ℕ) : code.Option ℕ → Type 0 where
  digit : i < length s → is_digit (get_or s i 0) ≡ true → DigitAt s i (Some (get_or s i 0 - 48))
  no_digit : (i < length s → is_digit (get_or s i 0) ≡ false) → DigitAt s i None

-- the first digit of a number at a place, or that there is none
pub data FirstAt (least most : ℕ) (s : List ℕ) (i : ℕ) : Result ℕ Stop → Type 0 where
  begins : {d : ℕ} → i < length s → ((f : ℕ → Figure) → first least most f (get_or s i 0) ≡ some (f d)) → least ≤ d → d ≤ most → FirstAt least most s i (Ok d)
  no_first : (i < length s → (f : ℕ → Figure) → first least most f (get_or s i 0) ≡ none) → FirstAt least most s i (Err (record { at = i }))

-- goes through further digits of a number: none behind a zero, and none beyond the most
unfoldable pub further_step : (most : ℕ) → ℕ → ℕ → Option ℕ
further_step most x b = when (both (is_digit b) (both (ltb 0 x) (leb (10 * x + (b - 48)) most))) (10 * x + (b - 48))

abbrev pub further : (most : ℕ) → Acceptor
further most = record { State = ℕ; start = 0; step = further_step most; value = λ x. none }

-- the word of the number from the place i on and the place behind it, or where it stops
pub data TakesNumber (below above : ℕ) (s : List ℕ) (i : ℕ) : Number → Type 0 where
  takes : {x : Figure} {word j : ℕ} → Ends (numbers below above) nothing s i x j → figure_value x ≡ some (number word 0) → TakesNumber below above s i (Is word j)
  stops : {x : Figure} {j : ℕ} → Ends (numbers below above) nothing s i x j → figure_value x ≡ none → TakesNumber below above s i (Stops j)

-- the same behind a minus, whatever the most above zero is
pub data TakesUnder (below : ℕ) (s : List ℕ) (i : ℕ) : Number → Type 0 where
  takes_under : {x : Figure} {word j : ℕ} → ((above : ℕ) → Ends (numbers below above) minused s i x j) → figure_value x ≡ some (number word 0) → TakesUnder below s i (Is word j)
  stops_under : {x : Figure} {j : ℕ} → ((above : ℕ) → Ends (numbers below above) minused s i x j) → figure_value x ≡ none → TakesUnder below s i (Stops j)
