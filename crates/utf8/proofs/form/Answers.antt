-- `utf8::form` meets its contract.
-- Assumes nothing.
use native.Mathlib.Omega.{arith}
use Rattle.laws.proofs.Utf8.{char-one, char-two, char-three, char-four, char_below}
use Rattle.utf8.proofs.Chars.{char}
use Rattle.utf8.proofs.form.Goals as goal

pub returns-then-c-lt128 : goal.returns-then-c-lt128
returns-then-c-lt128 c = char c.requires (char-one _ c.if-c-lt128.true)

pub returns-then-c-lt2048 : goal.returns-then-c-lt2048
returns-then-c-lt2048 c = char c.requires (char-two _ c.if-c-lt128.false c.if-c-lt2048.true)

pub returns-then-c-lt65536 : goal.returns-then-c-lt65536
returns-then-c-lt65536 c = char c.requires (char-three _ c.if-c-lt2048.false c.if-c-lt65536.true)

pub overflow_cast-result-2 : goal.overflow_cast-result-2
overflow_cast-result-2 c = omega (arith, char_below _ c.requires)

pub returns : goal.returns
returns c = char c.requires (char-four _ c.if-c-lt65536.false)
