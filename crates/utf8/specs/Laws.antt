-- How code points and texts stand to each other.
-- Assumes nothing.
use Rattle.std.specs.Prelude.{◌≡◌, true, List, ℕ, ◌<◌, length, take}
use Rattle.wire.specs.Text.{utf8, first_char, is_char, char_bytes}

-- a code point's bytes are a text whose first char it is
abbrev pub CharIsText : Type 0
CharIsText = (c : ℕ) → is_char c ≡ true → (utf8 (char_bytes c) ≡ true) × (first_char (char_bytes c) ≡ c)

-- the first char of a text is a code point, and its bytes are the text's first
abbrev pub FirstIsChar : Type 0
FirstIsChar = (s : List ℕ) → 0 < length s → utf8 s ≡ true
    → (is_char (first_char s) ≡ true) × (char_bytes (first_char s) ≡ take (length (char_bytes (first_char s))) s)
