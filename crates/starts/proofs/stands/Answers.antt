-- `starts::stands` meets its contract: what it says of a row follows from the marks and the key read there.
-- Assumes nothing.
use Rattle.starts.proofs.Windows.{beyond-window, before-window, unmarked, by_key}
use Rattle.starts.proofs.stands.Goals as goal

pub returns-then-at-from : goal.returns-then-at-from
returns-then-at-from c = beyond-window c.requires.keyed_by.fits c.requires.window _ c.if-at-from.true

pub returns-then-from-base : goal.returns-then-from-base
returns-then-from-base c = before-window c.requires.keyed_by.fits c.requires.window _ c.if-at-from.false c.if-from-base.true

pub returns-then-not-is_marked : goal.returns-then-not-is_marked
returns-then-not-is_marked c = unmarked c.requires.keyed_by.fits c.requires.window _ c.if-at-from.false c.if-from-base.false c.is_marked.ensures c.if-not-is_marked.true

pub returns : goal.returns
returns c = by_key c.requires.keyed_by.fits c.requires.window _ c.if-at-from.false c.if-from-base.false c.is_marked.ensures c.if-not-is_marked.false c.has_key.ensures
