-- `texts::char_size` meets its contract: the ranges are the definition's.
-- Assumes nothing.
use Rattle.laws.proofs.Utf8.{char-one, char-two, char-three, char-four}
use Rattle.texts.proofs.char_size.Goals as goal

pub returns-then-c-lt128 : goal.returns-then-c-lt128
returns-then-c-lt128 c = rw (char-one _ c.if-c-lt128.true)

pub returns-then-c-lt2048 : goal.returns-then-c-lt2048
returns-then-c-lt2048 c = rw (char-two _ c.if-c-lt128.false c.if-c-lt2048.true)

pub returns-then-c-lt65536 : goal.returns-then-c-lt65536
returns-then-c-lt65536 c = rw (char-three _ c.if-c-lt2048.false c.if-c-lt65536.true)

pub returns : goal.returns
returns c = rw (char-four _ c.if-c-lt65536.false)
