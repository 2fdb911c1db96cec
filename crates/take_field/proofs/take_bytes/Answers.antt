-- `take_field::take_bytes` meets its contract: the content between its quotes, or where it stops.
-- Assumes nothing.
use Rattle.std.proofs.lemmas.Result.{err_from_is_err_and}
use mathlib.Core.Path.{sym, ap, ◌∙◌}
use Prim.Native.Nat.{ℕ}
use native.Mathlib.Omega.{arith}
use lib.ListN.{length}
use Rattle.take_field.proofs.Hexed.{whole-content, hex-took, hex-stops}
use Rattle.take_field.proofs.take_bytes.Goals as goal

pub returns-in_err-got : goal.returns-in_err-got
returns-in_err-got c =
    let p = err_from_is_err_and c.from_residual.result c.from_residual.ensures.1 in
    rw (p.1, p.2) (hex-stops c.in_err-got.ensures)

pub overflow_sub-content : goal.overflow_sub-content
overflow_sub-content c = omega (arith, (whole-content c.in_ok-got.ensures).long)

pub slice_bounds-content-count : goal.slice_bounds-content-count
slice_bounds-content-count c = omega (arith, (whole-content c.in_ok-got.ensures).long)

pub slice_bounds-content-start : goal.slice_bounds-content-start
slice_bounds-content-start c = omega (arith, (whole-content c.in_ok-got.ensures).long, (whole-content c.in_ok-got.ensures).inside)

pub put_bytes-len-requires : goal.put_bytes-len-requires
put_bytes-len-requires c = let x = whole-content c.in_ok-got.ensures in record { len_value = x.len ∙ sym (ap (length {A = ℕ}) x.back); are_hex = x.digits }

pub returns : goal.returns
returns c = let x = whole-content c.in_ok-got.ensures in hex-took x (rw x.back at c.put_bytes-len.ensures)
