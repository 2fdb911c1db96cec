-- Each call's contract leaves no choice.
-- Assumes nothing.
use Rattle.std.specs.Prelude.{◌≡◌, Bool, ℕ}
use Rattle.wire.specs.Numbers.{is_signed_word, zigzag, unzigzag}
use Rattle.laws.specs.Unique.{Unique}
use Rattle.zigzag.specs.Widths.{width_of, extended}

abbrev pub OneZigzag : Type 0
OneZigzag = (a : ℕ) → Unique (λ (r : ℕ). r ≡ zigzag a)

abbrev pub OneUnzigzag : Type 0
OneUnzigzag = (z : ℕ) → Unique (λ (r : ℕ). r ≡ unzigzag z)

abbrev pub OneExtend : Type 0
OneExtend = (n x : ℕ) → Unique (λ (r : ℕ). r ≡ extended n x)

abbrev pub OneIsSigned : Type 0
OneIsSigned = (n a : ℕ) → Unique (λ (r : Bool). r ≡ is_signed_word (width_of n) a)
