-- `leaf::text` meets its contract: an offset from the part's start is moved to the message's.
-- Assumes nothing.
use mathlib.Core.Path.{◌≡◌}
use native.Mathlib.Omega.{arith}
use Rattle.laws.proofs.Offsets.{pooled-moved}
use Rattle.leaf.proofs.Leaves.{numbered, content-kind, content-within}
use Rattle.leaf.proofs.text.Goals as goal

pub at_place-requires : goal.at_place-requires
at_place-requires c = rw c.take_content.ensures (content-within _ _ _ (omega arith))

pub returns-in-11 : goal.returns-in-11
unfolding numbered
returns-in-11 c = let e : c.args.kind ≡ 11 = omega arith in rw e c.take_char.ensures

pub returns-in-14 : goal.returns-in-14
unfolding numbered
returns-in-14 c = let e : c.args.kind ≡ 14 = omega arith in rw e

pub returns-in_default : goal.returns-in_default
returns-in_default c = rw (c.at_place.ensures, c.take_content.ensures, content-kind c.args.kind (omega arith) (omega arith)) (pooled-moved _ _ _ 0)
