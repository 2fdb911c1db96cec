-- Tests and choices, as the definitions write them.
-- Assumes nothing.
use Rattle.std.specs.Prelude.{Bool, true, false}

unfoldable pub pick {ℓ} : {X : Type ℓ} → Bool → X → X → X
pick true x y = x
pick false x y = y

-- the same choice, whose first side is looked at only where the test holds
unfoldable pub given {ℓ} : {X : Type ℓ} → Bool → (Unit {0} → X) → X → X
given true f y = f tt
given false f y = y

unfoldable pub both : Bool → Bool → Bool
both true b = b
both false b = false

-- the answer of a question that is decided
unfoldable pub decided {ℓ} : {A : Type ℓ} → Dec A → Bool
decided (yes h) = true
decided (no h) = false
