-- `utf8::all_widths` meets its contract: the test of the table is computed here.
-- Assumes nothing.
use mathlib.Core.Path.{refl}
use Rattle.wire.specs.Tests.{pick}
use Rattle.wire.specs.Text.{width_of}
use Rattle.utf8.proofs.Widths.{tested}
use Rattle.utf8.proofs.all_widths.Goals as goal

pub returns : goal.returns
unfolding width_of pick
returns c = tested _ refl
