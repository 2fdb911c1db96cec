-- A byte that is no sign of its own: each test before the one that holds fails.
-- Assumes nothing.
use mathlib.Core.Path.{◌≡◌}
use mathlib.Core.List.{[], ◌∷◌}
use Prim.Native.Nat.{ℕ, ◌<◌, ◌≤◌}
use borrow.Author.Tests.{ne_eqb, lt-ltb, le-ltb}
use Rattle.wire.specs.Tests.{pick}
use Rattle.desk.specs.Csv.{hex_of}
use Rattle.readable.specs.Spelling.{is_hidden, escape}

-- it is none of the five that a letter or a sign spells
pub record Unsigned (b : ℕ) : Type 0 where
  pub quote : b ≡ 34 → ⊥
  pub backslash : b ≡ 92 → ⊥
  pub line : b ≡ 10 → ⊥
  pub return : b ≡ 13 → ⊥
  pub tab : b ≡ 9 → ⊥

pub escape-hidden : {b : ℕ} → Unsigned b → b < 32 → escape b ≡ 92 ∷ 120 ∷ hex_of b
unfolding escape is_hidden pick
escape-hidden {b} u h = rw (ne_eqb b 34 u.quote, ne_eqb b 92 u.backslash, ne_eqb b 10 u.line, ne_eqb b 13 u.return, ne_eqb b 9 u.tab, lt-ltb b 32 h)

pub escape-shown : {b : ℕ} → Unsigned b → 32 ≤ b → (b ≡ 127 → ⊥) → escape b ≡ b ∷ []
unfolding escape is_hidden pick
escape-shown {b} u h n = rw (ne_eqb b 34 u.quote, ne_eqb b 92 u.backslash, ne_eqb b 10 u.line, ne_eqb b 13 u.return, ne_eqb b 9 u.tab, le-ltb b 32 h, ne_eqb b 127 n)
