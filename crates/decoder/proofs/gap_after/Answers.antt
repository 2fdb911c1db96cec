-- `decoder::gap_after` meets its contract: the code is tested as the definition tests it.
-- Assumes nothing.
use native.Mathlib.Omega.{arith}
use Rattle.decoder.proofs.Decoding.{gap-full, gap_other}
use Rattle.decoder.proofs.gap_after.Goals as goal

pub returns-then-code-eq255 : goal.returns-then-code-eq255
returns-then-code-eq255 c = gap-full _ (omega arith)

pub returns : goal.returns
returns c = gap_other _ (λ is. omega arith)
