-- `table::fields` meets its contract: a struct's fields stand in the child list.
-- Assumes nothing.
use Rattle.wire.specs.Table.{node_at, record_of}
use Rattle.table.proofs.Stretches.{fields-are}
use Rattle.table.proofs.fields.Goals as goal

pub returns : goal.returns
unfolding node_at record_of
returns c = fields-are _ _ _ _ _ c.requires.i_value c.u16_at-a.ensures.0 c.u16_at-b.ensures.0
