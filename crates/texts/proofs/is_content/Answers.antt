-- `texts::is_content` meets its contract.
-- Assumes nothing.
use Rattle.wire.specs.Reading.{is_content}
use Rattle.texts.specs.Contents.{content_if}
use Rattle.texts.proofs.is_content.Goals as goal

pub returns-then-not-text : goal.returns-then-not-text
unfolding content_if is_content
returns-then-not-text c = rw c.if-not-text.true

pub returns-else-not-text : goal.returns-else-not-text
unfolding content_if is_content
returns-else-not-text c = rw c.if-not-text.false c.is_text.ensures
