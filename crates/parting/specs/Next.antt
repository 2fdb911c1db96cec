-- Whether a step goes down, in the words of the rules.
-- Assumes nothing.
use Rattle.std.specs.Prelude.{ℕ, Option, Some, None}
use Rattle.parting.specs.declared.Down as step

-- to two children, at a position; or the tables part here
abbrev pub Next : Type 0
Next = Option step.Down

abbrev pub Down : (position : ℕ) → (p : ℕ) → (q : ℕ) → Next
Down position p q = Some (record { position = position; p = p; q = q })

pattern abbrev pub Here : Next
Here = None
