-- Tables of both forms: those of the first form mean what they did, an older port refuses the second form, and no chain of children is too long.
-- Assumes nothing.
use Rattle.std.specs.Prelude.{◌≡◌, List, ◌↔◌, ℕ, ◌-◌, ◌≤◌, ◌<◌, length, get_or}
use Rattle.wire.specs.declared.Refusal.TheVariants.{Trailer}
use Rattle.wire.specs.declared.Layout.{Layout}
use Rattle.wire.specs.Checked.{Good, Bad}
use Rattle.wire.specs.Table.{u16_at, first, second, chain_of, check_from, check}
use Rattle.wire.specs.Before.{check_before}
use Rattle.laws.specs.Range.{AreBytes}

-- The last two bytes are 57 50.
abbrev pub EndsSecond : List ℕ → Type 0
EndsSecond s = u16_at s (length s - 2) ≡ 0x5057

-- Of bytes it says just that.
abbrev pub EndsInBytes : Type 0
EndsInBytes = (s : List ℕ) → AreBytes s → 2 ≤ length s → EndsSecond s ↔ ((get_or s (length s - 2) 0 ≡ 0x57) × (get_or s (length s - 1) 0 ≡ 0x50))

-- A file that does not end so is checked as before.
abbrev pub AsBefore : Type 0
AsBefore = (s : List ℕ) → (EndsSecond s → ⊥) → check s ≡ check_before s

-- A table that was good stays good, with the same layout and so with the same shape.
abbrev pub StaysGood : Type 0
StaysGood = (s : List ℕ) (l : Layout) → check_before s ≡ Good l → check s ≡ Good l

-- An older port answers 1 to a file that ends so.
abbrev pub OlderRefuses : Type 0
OlderRefuses = (s : List ℕ) → EndsSecond s → check_before s ≡ Bad Trailer 0

-- No chain of a good table is longer than 256, in either form.
abbrev pub ChainsAreShort : Type 0
ChainsAreShort = (s : List ℕ) (l : Layout) → check s ≡ Good l → (i : ℕ) → i < l.nodes → chain_of s l i ≤ 256

-- No chain of a table that was good is.
abbrev pub FirstIsShallow : Type 0
FirstIsShallow = (s : List ℕ) (l : Layout) → check_before s ≡ Good l → (i : ℕ) → i < l.nodes → chain_of s l i ≤ 256

-- So the rule may as well be the first form's too: it changes no answer where there are at most 256 nodes, also where one is bad.
abbrev pub RuleOfBoth : Type 0
RuleOfBoth = (s : List ℕ) (l : Layout) (n : ℕ) → n ≤ 256 → check_from second s l 0 n ≡ check_from first s l 0 n
