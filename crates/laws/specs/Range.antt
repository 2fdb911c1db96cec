-- How many values the varints of a width have and when they all fit a word, and what one that was read is known to be.
-- Assumes nothing.
use Rattle.std.specs.Prelude.{◌≡◌, List, ℕ, zero, suc, ◌+◌, ◌*◌, ◌^◌, ◌<◌, ◌≤◌, eqb, length, get_or}
use Rattle.wire.specs.declared.Own.{Own}
use Rattle.wire.specs.Item.{Item}
use Rattle.wire.specs.Item.{Took, Refused}
use Rattle.wire.specs.Numbers.{shortest}

-- ---- lists of bytes and of words

abbrev pub AreBelow : ℕ → List ℕ → Type 0
AreBelow limit s = (i : ℕ) → get_or s i 0 < limit

abbrev pub AreBytes : List ℕ → Type 0
AreBytes s = AreBelow 256 s

abbrev pub AreWords : List ℕ → Type 0
AreWords ws = AreBelow (2 ^ 64) ws

-- ---- varints of at most so many bytes, of which the last allowed is at most `top`

-- each value is below it
unfoldable pub span : ℕ → ℕ → ℕ
span zero top = 0
span (suc zero) top = top + 1
span (suc (suc k)) top = 128 * span (suc k) top

pub record Good (most top : ℕ) : Type 0 where
  pub some : 0 < most
  pub few : most ≤ 10
  pub low : 0 < top
  pub high : top < 128
  pub fits : span most top ≤ 2 ^ 64

-- a number below the limit that bytes at the front of s were read as, in its shortest form or not
pub record Taken (limit : ℕ) (s : List ℕ) (own : Own) : Type 0 where
  pub small : own.first < limit
  pub single : own.second ≡ 0
  pub some : 0 < own.used
  pub within : own.used ≤ length s
  pub form : own.shortest ≡ eqb own.used (length (shortest own.first))

abbrev pub InRange : ℕ → List ℕ → Item → Type 0
InRange limit s (Took own) = Taken limit s own
InRange limit s (Refused e) = Unit {0}
