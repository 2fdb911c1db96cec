-- Bytes in hexadecimal read digit by digit, by how many they are and not by which.
-- Assumes nothing.
use Rattle.std.specs.Prelude.{◌≡◌, Bool, true, false, List, ℕ, ◌+◌, ltb, leb, eqb, length, get_or, Result, Ok, Err}
use Rattle.std.proofs.Math.Option.{Option, none, some}
use Rattle.wire.specs.Tests.{pick, both}
use Rattle.desk.specs.Csv.{quote}
use Rattle.spellings.specs.Accept.{Acceptor, when, is_digit}
use Rattle.take_number.specs.declared.Stop.{Stop}
use Rattle.take_number.specs.Scans.{Ends}
use Rattle.take_text.specs.declared.Quoted.{Quoted}

-- a digit, or a to f
unfoldable pub is_hex : ℕ → Bool
is_hex b = pick (is_digit b) true (both (leb 97 b) (leb b 102))

unfoldable pub hex_at : List ℕ → ℕ → Bool
hex_at s i = both (ltb i (length s)) (is_hex (get_or s i 0))

-- before the quote; behind n bytes; behind n bytes and a digit; behind the closing quote
pub data Pair : Type 0 where
  before : Pair
  even odd closed : ℕ → Pair

unfoldable pub pair_step : Pair → ℕ → Option Pair
pair_step before b = when (eqb b quote) (even 0)
pair_step (even n) b = pick (eqb b quote) (some (closed n)) (when (is_hex b) (odd n))
pair_step (odd n) b = when (is_hex b) (even (n + 1))
pair_step (closed n) b = none

abbrev pub counts : Acceptor
counts = record { State = Pair; start = before; step = pair_step; value = λ x. none }

unfoldable pub is_closed : Pair → Bool
is_closed before = false
is_closed (even n) = false
is_closed (odd n) = false
is_closed (closed n) = true

-- from a state at the place i on, what is answered: so many bytes up to a closing quote, or where they stop
pub data Answers (x : Pair) (s : List ℕ) (i : ℕ) : Result Quoted Stop → Type 0 where
  hexed : {n j : ℕ} → Ends counts x s i (closed n) j → Answers x s i (Ok (record { len = n; at = j }))
  stops : {y : Pair} {j : ℕ} → Ends counts x s i y j → is_closed y ≡ false → Answers x s i (Err (record { at = j }))
