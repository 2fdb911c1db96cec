-- Which forms of a number are read at a width, and which are refused.
-- Assumes nothing.
use Rattle.std.specs.Prelude.{◌≡◌, List, [], ◌∷◌, ◌++◌, ℕ, zero, suc, ◌+◌, ◌/◌, ◌%◌, ◌^◌, ◌<◌, ◌≤◌, length}
use Rattle.wire.specs.declared.Refusal.TheVariants.{End, BadVarint}
use Rattle.wire.specs.Item.{Refused}
use Rattle.wire.specs.Shape.{Width, w16, bits}
use Rattle.wire.specs.Numbers.{most, last, spelled, varint, took}

-- a number in just so many bytes
unfoldable pub form : ℕ → ℕ → List ℕ
form zero x = []
form (suc zero) x = x ∷ []
form (suc (suc k)) x = (x % 128 + 128) ∷ form (suc k) (x / 128)

-- overlong forms are read: any number of bytes that holds the number and is allowed
abbrev pub AnyLength : Type 0
AnyLength = (w : Width) (k x : ℕ) (rest : List ℕ) → k < most w → x < 128 ^ suc k → x < 2 ^ bits w → varint w (form (suc k) x ++ rest) ≡ spelled x (suc k)

-- bytes whose high bit is set
pub data AreHigh : List ℕ → Type 0 where
  none : AreHigh []
  also : {b : ℕ} {s : List ℕ} → 128 ≤ b → AreHigh s → AreHigh (b ∷ s)

-- the last allowed byte is too large, as every byte is whose high bit is set
abbrev pub LastTooLarge : Type 0
LastTooLarge = (w : Width) (s : List ℕ) (b : ℕ) (rest : List ℕ) → AreHigh s → length s + 1 ≡ most w → last w < b → varint w (s ++ (b ∷ rest)) ≡ Refused BadVarint

-- a message that ends inside: the end comes first, whatever might have followed
abbrev pub EndsInside : Type 0
EndsInside = (w : Width) (s : List ℕ) → AreHigh s → length s < most w → varint w s ≡ Refused End

-- document 01's cases 4 to 7
abbrev pub VarintCases : Type 0
VarintCases =
    (varint w16 (0xff ∷ 0xff ∷ 0x03 ∷ []) ≡ took 65535 0 3)
    × (varint w16 (0x80 ∷ 0x80 ∷ 0x04 ∷ []) ≡ Refused BadVarint)
    × (varint w16 (0x80 ∷ 0x00 ∷ []) ≡ spelled 0 2)
    × (varint w16 (0x80 ∷ 0x80 ∷ []) ≡ Refused End)
