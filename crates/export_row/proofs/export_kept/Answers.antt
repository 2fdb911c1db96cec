-- `export_row::export_kept` meets its contract, by how a row that was laid once ends.
-- Assumes nothing.
use Rattle.std.proofs.lemmas.Result.{err_from_is_err_and}
use mathlib.Core.Path.{refl}
use native.Mathlib.Omega.{arith}
use Rattle.export_row.proofs.Passes.{passed-refused, passed-full, passed-short, passed-long}
use Rattle.export_row.proofs.export_kept.Goals as goal

pub returns-in_err-laid : goal.returns-in_err-laid
returns-in_err-laid c = let p = err_from_is_err_and c.from_residual.result c.from_residual.ensures.1 in rw (p.1, p.2) (passed-refused _ c.in_err-laid.ensures refl)

pub returns-then-out-laid : goal.returns-then-out-laid
returns-then-out-laid c = passed-full _ c.in_ok-laid.ensures refl (omega arith) c.if-out-laid.true

pub returns-then-laid-kept : goal.returns-then-laid-kept
returns-then-laid-kept c = passed-short _ c.in_ok-laid.ensures refl (omega arith) c.if-out-laid.false (omega arith) c.put_bytes.ensures

pub returns : goal.returns
returns c = passed-long _ c.in_ok-laid.ensures refl (omega arith) c.if-out-laid.false c.put_row-2.ensures
