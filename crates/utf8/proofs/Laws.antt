-- The laws are those of the definitions.
-- Assumes nothing.
use Rattle.laws.proofs.Utf8.{char-text, first-char-of}
use Rattle.utf8.specs.Laws.{CharIsText, FirstIsChar}

pub char-is-text : CharIsText
char-is-text c e = let t = char-text c e in (t.valid, t.first_char_is)

pub first-is-char : FirstIsChar
first-is-char s h valid = let f = first-char-of s h valid in (f.is-char, f.front)
