-- Whether a kind is an integer's that isn't of fixed size, in the words of the rules.
-- Assumes nothing.
use Rattle.std.specs.Prelude.{ℕ, Option, Some, None}
use Rattle.wire.specs.Item.{Item}

-- its item, or that the kind is another
abbrev pub Int : Type 0
Int = Option Item

pattern abbrev pub Is : (item : Item) → Int
Is item = Some item

pattern abbrev pub Other : Int
Other = None
