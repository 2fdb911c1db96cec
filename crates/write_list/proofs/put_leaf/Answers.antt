-- `write_list::put_leaf` meets its contract: an entry that isn't there and an item with children are no leaf's; a text and bytes are put by themselves.
-- Assumes nothing.
use mathlib.Core.Path.{refl, sym, ◌∙◌}
use native.Mathlib.Omega.{arith}
use Rattle.wire.specs.Answers.{room_of}
use Rattle.laws.proofs.Splits.{not-both}
use Rattle.laws.proofs.KindRanges.{not-inner}
use Rattle.write_list.proofs.Fronts.{no-leaf}
use Rattle.write_list.proofs.put_leaf.Goals as goal

pub returns-then-room-at : goal.returns-then-room-at
returns-then-room-at c = no-leaf

pub returns-then-is_inner : goal.returns-then-is_inner
returns-then-is_inner c = no-leaf

pub put_content-requires : goal.put_content-requires
unfolding room_of
put_content-requires c = record { le_number = (omega arith, omega arith); at_bound = omega arith }

pub leaf_item-requires : goal.leaf_item-requires
unfolding room_of
leaf_item-requires c = record { leaf = record { small = c.requires; outer = not-inner _ (sym c.is_inner.ensures ∙ c.if-is_inner.false) }; at_bound = omega arith; sure = record { never = λ j i e. not-both j refl } }

pub returns-in-12-to-13 : goal.returns-in-12-to-13
returns-in-12-to-13 c = c.put_content.ensures

pub returns-in_default : goal.returns-in_default
unfolding room_of
returns-in_default c = record { put = λ e. record { leaf = record { small = c.requires; outer = not-inner _ (sym c.is_inner.ensures ∙ c.if-is_inner.false) }; more = omega arith; gives = c.leaf_item.ensures.0 }; kept = c.leaf_item.ensures.1 }
