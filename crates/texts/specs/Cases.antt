-- Document 01's cases of chars.
-- Assumes nothing.
use Rattle.std.specs.Prelude.{◌≡◌, false, [], ◌∷◌}
use Rattle.wire.specs.declared.Refusal.TheVariants.{End, BadChar}
use Rattle.wire.specs.Item.{Took, Refused}
use Rattle.wire.specs.Shape.{char}
use Rattle.wire.specs.Reading.{read_plain}

-- document 01's cases 9 to 11, and what it warns of: four is tested before the end, and all the bytes are
abbrev pub CharCases : Type 0
CharCases =
    (read_plain char (0x02 ∷ 0x61 ∷ 0x62 ∷ []) ≡ Took (record { first = 97; second = 0; used = 3; shortest = false }))
    × (read_plain char (0x05 ∷ []) ≡ Refused BadChar)
    × (read_plain char (0x00 ∷ []) ≡ Refused BadChar)
    × (read_plain char (0x04 ∷ []) ≡ Refused End)
    × (read_plain char (0x03 ∷ 0x61 ∷ 0x62 ∷ 0xff ∷ []) ≡ Refused BadChar)
