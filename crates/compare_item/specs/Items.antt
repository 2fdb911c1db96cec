-- An item's own bytes on both sides.
-- Assumes nothing.
use Rattle.std.specs.Prelude.{◌≡◌, true, List, ℕ, ◌≤◌, length, eqb}
use Rattle.wire.specs.declared.Own.{Own}
use Rattle.wire.specs.Item.{Item}
use Rattle.wire.specs.Item.{Took, Refused}
use Rattle.wire.specs.declared.Layout.{Layout}
use Rattle.wire.specs.Shape.{Kind}
use Rattle.wire.specs.Values.{is_pooled}
use Rattle.wire.specs.Table.{Node}
use Rattle.read_item.specs.Steps.{after_of}
use Rattle.beside.specs.Meeting.{same_own}
use Rattle.compare_item.specs.Taken.{Taken}
use Rattle.compare_item.specs.Taken.{Both, Unread}
use Rattle.compare_item.specs.Entered.{Entered}
use Rattle.compare_item.specs.Entered.{On, Unread as Unentered}

-- a text's or bytes' content is the last of its own bytes, which are there
pub record Whole (k : Kind) (own : Own) (s : List ℕ) : Type 0 where
  pub content : is_pooled k ≡ true → own.second ≤ own.used
  pub inside : own.used ≤ length s

-- a number that is taken on both sides
unfoldable pub taken_numbers : Item → Item → Taken
taken_numbers (Took a) (Took b) = Both (eqb a.first b.first) a.used b.used
taken_numbers (Took a) (Refused why) = Unread
taken_numbers (Refused why) got = Unread

-- a leaf that is taken on both sides
unfoldable pub taken_both : Kind → (s t : List ℕ) → Item → Item → Taken
taken_both k s t (Took a) (Took b) = Both (same_own k a s b t) a.used b.used
taken_both k s t (Took a) (Refused why) = Unread
taken_both k s t (Refused why) i = Unread

-- an item of the node i that is taken on both sides, and what follows it on each
unfoldable pub entered_both : Layout → (i : ℕ) → Node → Item → Item → Entered
entered_both l i r (Took a) (Took b) = On (eqb a.first b.first) a.used (after_of l i r a.first) b.used (after_of l i r b.first)
entered_both l i r (Took a) (Refused why) = Unentered
entered_both l i r (Refused why) got = Unentered
