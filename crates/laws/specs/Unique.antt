-- That a contract leaves no choice.
-- Assumes nothing.
use Rattle.std.specs.Prelude.{◌≡◌}

-- two answers that meet it are equal; what is left in lent memory is part of the answer
abbrev pub Unique : {A : Type 0} → (A → Type 0) → Type 0
Unique {A} meets = (x y : A) → meets x → meets y → x ≡ y
