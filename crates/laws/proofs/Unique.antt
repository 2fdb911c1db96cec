-- An equation with a definition leaves no choice.
-- Assumes nothing.
use mathlib.Core.Path.{◌≡◌, sym, ◌∙◌}
use Rattle.laws.specs.Unique.{Unique}

pub by-equation : {A : Type 0} (a : A) → Unique (λ (r : A). r ≡ a)
by-equation a x y e f = e ∙ sym f
