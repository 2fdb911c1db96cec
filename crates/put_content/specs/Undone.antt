-- What stands between a row's quotes, without its spelling: of two quotes one, and of two digits a byte.
-- Assumes nothing.
use Rattle.std.specs.Prelude.{◌≡◌, Bool, true, false, List, [], ◌∷◌, ℕ, ◌+◌, ◌-◌, ◌*◌, ◌<◌, ◌≤◌, ltb, eqb, length, get_or}
use Rattle.wire.specs.Tests.{pick}
use Rattle.desk.specs.Csv.{quote}

-- the byte behind a quote is passed over
unfoldable pub undoubled_from : (skip : Bool) → List ℕ → List ℕ
undoubled_from skip [] = []
undoubled_from true (b ∷ s) = undoubled_from false s
undoubled_from false (b ∷ s) = pick (eqb b quote) (b ∷ undoubled_from true s) (b ∷ undoubled_from false s)

unfoldable pub undoubled : List ℕ → List ℕ
undoubled s = undoubled_from false s

-- a digit's number, of a digit from 0 to 9 or from a to f
unfoldable pub number_of : ℕ → ℕ
number_of b = pick (ltb b 97) (b - 48) (b - 87)

unfoldable pub unhexed : List ℕ → List ℕ
unhexed [] = []
unhexed (a ∷ []) = []
unhexed (a ∷ b ∷ s) = (16 * number_of a + number_of b) ∷ unhexed s

-- a byte of a text takes so many bytes of a row
pub data Steps (b : ℕ) : ℕ → Type 0 where
  two : b ≡ quote → Steps b 2
  one : (b ≡ quote → ⊥) → Steps b 1

-- a digit from 0 to 9 or from a to f
pub data IsHex (b : ℕ) : Type 0 where
  digit : 48 ≤ b → b ≤ 57 → IsHex b
  letter : 97 ≤ b → b ≤ 102 → IsHex b

pub record AreHex (s : List ℕ) : Type 0 where
  pub each : (i : ℕ) → i < length s → IsHex (get_or s i 0)
