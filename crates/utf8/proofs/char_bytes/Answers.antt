-- `utf8::char_bytes` meets its contract.
-- Assumes nothing.
use mathlib.Core.Path.{sym, ◌∙◌}
use Rattle.utf8.proofs.Chars.{no_char}
use Rattle.utf8.proofs.char_bytes.Goals as goal

pub form-requires : goal.form-requires
form-requires c = sym c.is_char.ensures ∙ c.if-is_char.true

pub returns-else-is_char : goal.returns-else-is_char
returns-else-is_char c = no_char (sym c.is_char.ensures ∙ c.if-is_char.false)
