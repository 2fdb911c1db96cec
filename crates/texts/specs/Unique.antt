-- Each call's contract leaves no choice.
-- Assumes nothing.
use Rattle.std.specs.Prelude.{◌≡◌, Bool, List, ℕ}
use Rattle.wire.specs.Item.{Item}
use Rattle.wire.specs.Shape.{char, pooled}
use Rattle.wire.specs.Reading.{is_content, read_plain, head}
use Rattle.laws.specs.Unique.{Unique}
use Rattle.texts.specs.Contents.{content_if}

abbrev pub OneTakeChar : Type 0
OneTakeChar = (s : List ℕ) → Unique (λ (r : Item). r ≡ read_plain char s)

abbrev pub OneIsContent : Type 0
OneIsContent = (text : Bool) (s : List ℕ) → Unique (λ (r : Bool). r ≡ is_content (content_if text) s)

abbrev pub OneTakeContent : Type 0
OneTakeContent = (text : Bool) (s : List ℕ) → Unique (λ (r : Item). r ≡ head (pooled (content_if text)) 0 0 s)
