-- `put_quoted::put_char` meets its contract: a char's bytes stand in front in their array.
-- Assumes nothing.
use mathlib.Core.Path.{sym}
use lib.Seq.{length-take-le}
use Rattle.write_item.proofs.Spelling.{form-inside, form-front}
use Rattle.put_quoted.proofs.put_char.Goals as goal

pub slice_bounds-bytes-end : goal.slice_bounds-bytes-end
slice_bounds-bytes-end c = form-inside _ _ _ c.requires c.char_bytes-form.ensures

pub slice_bounds-put_text-end : goal.slice_bounds-put_text-end
slice_bounds-put_text-end c = sym (length-take-le _ _ (form-inside _ _ _ c.requires c.char_bytes-form.ensures))

pub returns : goal.returns
returns c = rw (← (form-front _ _ _ c.requires c.char_bytes-form.ensures)) c.put_text.ensures
