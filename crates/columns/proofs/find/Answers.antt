-- `columns::find` meets its contract: another root, too many fields, or what the fields' kinds are.
-- Assumes nothing.
use Rattle.columns.proofs.Rows.{other-root, many-fields, root-falls, found}
use Rattle.columns.proofs.find.Goals as goal

pub returns-then-number-ne18 : goal.returns-then-number-ne18
returns-then-number-ne18 c = other-root c.requires c.kind_at-number.ensures c.if-number-ne18.true

pub returns-then-width-gt-MOST : goal.returns-then-width-gt-MOST
returns-then-width-gt-MOST c = many-fields c.requires c.kind_at-number.ensures c.if-number-ne18.false c.child_count-width.ensures c.if-width-gt-MOST.true

pub all_fields-requires : goal.all_fields-requires
all_fields-requires c = record { good_table = c.requires; falls = root-falls c.requires c.kind_at-number.ensures c.if-number-ne18.false c.child_count-width.ensures c.first_child-from.ensures }

pub returns : goal.returns
returns c = rw c.then_some.ensures (found c.requires c.kind_at-number.ensures c.if-number-ne18.false c.child_count-width.ensures c.first_child-from.ensures c.if-width-gt-MOST.false c.all_fields.ensures)
