-- The array of a char's bytes is the list of them, stored in four zeros.
-- Assumes nothing.
use mathlib.Core.Path.{◌≡◌}
use mathlib.Core.Bool.{true, false}
use mathlib.Core.List.{List, [], ◌∷◌}
use Prim.Native.Nat.{ℕ}
use lib.ListN.{length, replicate}
use lib.Seq.{sets}
use Rattle.wire.specs.Tests.{pick}
use Rattle.wire.specs.Text.{is_char, char_bytes}
use Rattle.utf8.specs.Chars.{Form}

module _ {c : ℕ} where
  pub no_char : is_char c ≡ false → Form c (0 ∷ 0 ∷ 0 ∷ 0 ∷ []) 0
  unfolding pick
  no_char e = record { size = rw e; stored = rw e }

  pub char : is_char c ≡ true → {t : List ℕ} → char_bytes c ≡ t → Form c (sets (replicate 4 0) 0 t) (length t)
  unfolding pick
  char e is = record { size = rw (e, is); stored = rw (e, is) }
