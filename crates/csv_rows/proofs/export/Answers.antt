-- `csv_rows::export` meets its contract, by the table's check and its fields.
-- Assumes nothing.
use Rattle.std.proofs.lemmas.Result.{err_from_is_err_and}
use mathlib.Core.Path.{sym}
use Rattle.laws.proofs.Tables.{good-table}
use Rattle.csv_rows.proofs.Answers.{no_fields_lem, some-fields, export-bad, export-unfit, export_row}
use Rattle.csv_rows.proofs.export.Goals as goal

pub returns-in_err-layout : goal.returns-in_err-layout
returns-in_err-layout c = let p = err_from_is_err_and c.from_residual.result c.from_residual.ensures.1 in rw (p.1, p.2) (export-bad _ _ _ (sym c.in_err-layout.ensures))

pub find-requires : goal.find-requires
find-requires c = good-table _ _ (sym c.in_ok-layout.ensures)

pub export_row-requires : goal.export_row-requires
export_row-requires c = (some-fields c.find.ensures c.in-Some.is).rowed

pub returns-in-None : goal.returns-in-None
returns-in-None c = export-unfit _ _ _ (sym c.in_ok-layout.ensures) (no_fields_lem c.find.ensures c.in-None.is)

pub returns-in-Some : goal.returns-in-Some
returns-in-Some c = export_row _ _ _ (sym c.in_ok-layout.ensures) c.find.ensures c.in-Some.is c.export_row.ensures
