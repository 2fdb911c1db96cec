-- How far a list is put, in the words of the rules.
-- Assumes nothing.
use Rattle.std.specs.Prelude.{ℕ, Result, Ok, Err}
use Rattle.write_list.specs.declared.Done as list
use Rattle.write_list.specs.declared.Misfit as entry

-- its next entry and the bytes, or the number of an entry that no value has
abbrev pub Put : Type 0
Put = Result list.Done entry.Misfit

abbrev pub Done : (at : ℕ) → (used : ℕ) → Put
Done at used = Ok (record { at = at; used = used })

abbrev pub Misfit : (at : ℕ) → Put
Misfit at = Err (record { at = at })
