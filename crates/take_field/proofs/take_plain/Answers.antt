-- `take_field::take_plain` meets its contract: a number's word, or where it stops.
-- Assumes nothing.
use Rattle.std.proofs.lemmas.Result.{err_from_is_err_and}
use Rattle.take_field.proofs.Numbers.{number_fits, number-took, number-stops, number-leaf}
use Rattle.take_field.proofs.take_plain.Goals as goal

pub smallest-below-requires : goal.smallest-below-requires
smallest-below-requires c = record { number = c.requires.number; largest = c.largest-above.ensures }

pub returns-in_err-got : goal.returns-in_err-got
returns-in_err-got c =
    let p = err_from_is_err_and c.from_residual.result c.from_residual.ensures.1 in
    rw (p.1, p.2) (number-stops _ c.smallest-below.ensures _ _ c.in_err-got.ensures)

pub put_leaf-len-requires : goal.put_leaf-len-requires
put_leaf-len-requires c = record { leaf = number-leaf c.requires.number; fits = number_fits _ c.smallest-below.ensures _ _ c.in_ok-got.ensures _ }

pub returns : goal.returns
returns c = number-took _ c.smallest-below.ensures _ _ c.in_ok-got.ensures c.put_leaf-len.ensures
