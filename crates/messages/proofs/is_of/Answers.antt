-- `messages::is_of` meets its contract.
-- Assumes nothing.
use Rattle.messages.proofs.Fitting.{number-below, number_is}
use Rattle.messages.proofs.is_of.Goals as goal

pub kind_at-requires : goal.kind_at-requires
kind_at-requires c = record { good_table = c.requires.good_table; i_lt_nodes = number-below c.requires.falls c.u16_at-c.ensures.0 }

pub returns : goal.returns
returns c = number_is _ _ _ _ c.u16_at-c.ensures.0 c.kind_at.ensures
