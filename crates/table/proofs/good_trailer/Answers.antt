-- `table::good_trailer` meets its contract: a test that fails leaves no way for all to hold, and the last one decides.
-- Assumes nothing.
use native.Mathlib.Omega.{arith}
use Rattle.table.proofs.Trailers.{fits-no, fits_last}
use Rattle.table.proofs.good_trailer.Goals as goal

pub returns-then-t-mark : goal.returns-then-t-mark
returns-then-t-mark c = fits-no _ _ _ _ _ (λ t. omega (arith, t.0, t.1))

pub returns-then-t : goal.returns-then-t
returns-then-t c = fits-no _ _ _ _ _ (λ t. omega (arith, t.0, t.1))

pub returns-then-nodes-t : goal.returns-then-nodes-t
returns-then-nodes-t c = fits-no _ _ _ _ _ (λ t. omega (arith, t.0, t.1))

pub returns-then-t-ne0 : goal.returns-then-t-ne0
returns-then-t-ne0 c = fits-no _ _ _ _ _ (λ t. omega (arith, t.0, t.1))

pub returns-then-bytes-t : goal.returns-then-bytes-t
returns-then-bytes-t c = fits-no _ _ _ _ _ (λ t. omega (arith, t.0, t.1))

pub returns-then-t-2 : goal.returns-then-t-2
returns-then-t-2 c = fits-no _ _ _ _ _ (λ t. omega (arith, t.0, t.1))

pub returns : goal.returns
returns c = fits_last _ _ _ _ _ (λ h. (omega arith, omega arith))
