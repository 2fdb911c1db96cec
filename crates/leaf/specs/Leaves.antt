-- The item of a kind without children, by the kind's number.
-- Assumes nothing.
use Rattle.std.specs.Prelude.{List, ℕ, ◌+◌, ◌<◌, ◌^◌, length, ltb}
use Rattle.wire.specs.declared.Refusal.TheVariants.{End, Record}
use Rattle.wire.specs.Item.{Item}
use Rattle.wire.specs.Item.{Took, Refused}
use Rattle.wire.specs.Tests.{pick}
use Rattle.wire.specs.Table.{kind_of}
use Rattle.wire.specs.Reading.{head}
use Rattle.laws.specs.KindRanges.{is_leaf}

-- the item at the place p, where the bytes s are, if every place of them is a word
unfoldable pub leaf_take_at : ℕ → ℕ → List ℕ → Item
leaf_take_at k p s = pick (ltb (p + length s) (2 ^ 64)) (pick (is_leaf k) (head (kind_of k) 0 p s) (Refused Record)) (Refused End)

-- the item's first word, counted from p, is a word
unfoldable pub Within : ℕ → Item → Type 0
Within p (Took own) = p + own.first < 2 ^ 64
Within p (Refused e) = Unit {0}
