-- `starts::judge` meets its contract: rows that don't rise are no batch's, and those that do are judged by windows.
-- Assumes nothing.
use mathlib.Core.Path.{sym, ◌∙◌}
use Rattle.starts.proofs.Judged.{judged-falls}
use Rattle.starts.proofs.judge.Goals as goal

pub by_windows-requires : goal.by_windows-requires
by_windows-requires c = record { keyed_by = c.requires.keyed_by; rows_value = sym c.rise.ensures ∙ c.if-rise.true; area_nonzero = c.requires.area_nonzero }

pub returns-else-rise : goal.returns-else-rise
returns-else-rise c = rw c.if-rise.false (judged-falls _ c.requires.keyed_by.fits c.rise.ensures c.if-rise.false)
