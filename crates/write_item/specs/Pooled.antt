-- Whether a text or bytes are put, in the words of the rules.
-- Assumes nothing.
use Rattle.std.specs.Prelude.{ℕ, Option, Some, None}

-- so many bytes there are now, or no value has the entry
abbrev pub Pooled : Type 0
Pooled = Option ℕ

pattern abbrev pub Put : (used : ℕ) → Pooled
Put used = Some used

pattern abbrev pub Misfit : Pooled
Misfit = None
