-- The cases are computed.
-- Assumes nothing.
use mathlib.Core.Path.{refl}
use Rattle.wire.specs.Tests.{pick, both}
use Rattle.wire.specs.Numbers.{most, last, low, varint_f, varint, shortest_f, shortest}
use Rattle.wire.specs.Text.{width_of, low_of, high_of, utf8_f, utf8, lead_part, sixes, first_char, char_bytes}
use Rattle.wire.specs.Reading.{counted, char_of, read_plain}
use Rattle.texts.specs.Cases.{CharCases}

pub char-cases : CharCases
unfolding pick both most last low varint_f varint shortest_f shortest width_of low_of high_of utf8_f utf8 lead_part sixes first_char char_bytes counted char_of read_plain
char-cases = (refl, refl, refl, refl, refl)
