-- `laying::put_trailer` meets its contract.
-- Assumes nothing.
use Rattle.laying.proofs.Laying.{trailer-put}
use Rattle.laying.proofs.put_trailer.Goals as goal

pub returns : goal.returns
returns c = trailer-put _ _ _ _ c.requires.out_len c.put_half.ensures c.put_half-2.ensures c.put_quarter.ensures c.put_quarter-2.ensures
