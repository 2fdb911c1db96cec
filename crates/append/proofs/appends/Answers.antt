-- `append::appends` meets its contract: an area that is too short is refused before all else.
-- Assumes nothing.
use mathlib.Core.Path.{sym}
use native.Mathlib.Omega.{arith}
use Rattle.laws.proofs.Areas.{area-bytes, area-short, asks-short}
use Rattle.append.proofs.appends.Goals as goal

pub ask_and_clear-requires : goal.ask_and_clear-requires
ask_and_clear-requires c = (area-bytes, omega arith)

pub returns : goal.returns
returns c = record {
  answered = sym (asks-short _ _ _ (omega (arith, area-bytes)));
  stored = sym (area-short _ (omega (arith, area-bytes)));
}
