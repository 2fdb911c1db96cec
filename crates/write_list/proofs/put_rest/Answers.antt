-- `write_list::put_rest` meets its contract: a row is one round of itself.
-- Assumes nothing.
use native.Mathlib.Omega.{arith}
use Rattle.write_list.proofs.Rounds.{row_one}
use Rattle.write_list.proofs.put_rest.Goals as goal

pub put_rounds-requires : goal.put_rounds-requires
put_rounds-requires c = record { good_table = c.requires.good_table; node_le_nodes = omega arith; falls = c.requires.falls; sure = rw (row_one _ _ _ _ _ _) c.requires.sure }

pub returns : goal.returns
returns c = rw (← (row_one _ _ _ _ _ _)) c.put_rounds.ensures
