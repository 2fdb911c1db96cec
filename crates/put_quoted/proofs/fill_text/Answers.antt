-- `put_quoted::fill_text` meets its contract: a text without a quote is stored as it is.
-- Assumes nothing.
use native.Mathlib.Omega.{arith}
use Rattle.put_quoted.proofs.Quoting.{plain-stored}
use Rattle.put_quoted.proofs.fill_text.Goals as goal

pub returns-then-extra-eq0 : goal.returns-then-extra-eq0
returns-then-extra-eq0 c = plain-stored _ (omega (arith, c.requires.extra_len)) c.put_bytes.ensures
