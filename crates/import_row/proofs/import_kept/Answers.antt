-- `import_row::import_kept` meets its contract, by how a message that was laid once ends.
-- Assumes nothing.
use Rattle.std.proofs.lemmas.Result.{err_from_is_err_and}
use mathlib.Core.Path.{refl}
use native.Mathlib.Omega.{arith}
use Rattle.import_row.proofs.Passes.{passed-stopped, passed-full, passed-short, passed-long}
use Rattle.import_row.proofs.import_kept.Goals as goal

pub returns-in_err-len : goal.returns-in_err-len
returns-in_err-len c = let p = err_from_is_err_and c.from_residual.result c.from_residual.ensures.1 in rw (p.1, p.2) (passed-stopped _ c.in_err-len.ensures refl)

pub returns-then-out-len : goal.returns-then-out-len
returns-then-out-len c = passed-full _ c.in_ok-len.ensures refl (omega arith) c.if-out-len.true

pub returns-then-len-kept : goal.returns-then-len-kept
returns-then-len-kept c = passed-short _ c.in_ok-len.ensures refl (omega arith) c.if-out-len.false (omega arith) c.put_bytes.ensures

pub returns : goal.returns
returns c = passed-long _ c.in_ok-len.ensures refl (omega arith) c.if-out-len.false c.take_row-2.ensures
