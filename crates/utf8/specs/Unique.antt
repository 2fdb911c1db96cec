-- Each call's contract leaves no choice.
-- Assumes nothing.
use Rattle.std.specs.Prelude.{◌≡◌, Bool, List, ℕ}
use Rattle.wire.specs.Text.{utf8, first_char, is_char}
use Rattle.laws.specs.Unique.{Unique}
use Rattle.utf8.specs.Chars.{Form}

abbrev pub OneIsText : Type 0
OneIsText = (s : List ℕ) → Unique (λ (r : Bool). r ≡ utf8 s)

abbrev pub OneFirstChar : Type 0
OneFirstChar = (s : List ℕ) → Unique (λ (r : ℕ). r ≡ first_char s)

abbrev pub OneIsChar : Type 0
OneIsChar = (c : ℕ) → Unique (λ (r : Bool). r ≡ is_char c)

-- the array, and how many of its bytes are the char's
abbrev pub OneCharBytes : Type 0
OneCharBytes = (c : ℕ) → Unique (λ (r : List ℕ × ℕ). Form c r.0 r.1)
