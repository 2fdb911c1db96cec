-- Each call's contract leaves no choice.
-- Assumes nothing.
use Rattle.std.specs.Prelude.{◌≡◌, List, ℕ}
use Rattle.wire.specs.declared.Refusal.{Refusal}
use Rattle.wire.specs.Item.{Item}
use Rattle.wire.specs.Shape.{signed}
use Rattle.wire.specs.Numbers.{unzigzagged, on_first}
use Rattle.wire.specs.Reading.{flag}
use Rattle.laws.specs.Unique.{Unique}
use Rattle.leaf.specs.Leaves.{leaf_take_at}

abbrev pub OneFlag : Type 0
OneFlag = (e : Refusal) (s : List ℕ) → Unique (λ (r : Item). r ≡ flag e s)

abbrev pub OneLeafTake : Type 0
OneLeafTake = (k p : ℕ) (s : List ℕ) → Unique (λ (r : Item). r ≡ leaf_take_at k p s)

abbrev pub OneLeafUnzigzag : Type 0
OneLeafUnzigzag = (i : Item) → Unique (λ (r : Item). r ≡ on_first (unzigzagged signed) i)

abbrev pub OneAnew : Type 0
OneAnew = (i : Item) → Unique (λ (r : Item). r ≡ i)
