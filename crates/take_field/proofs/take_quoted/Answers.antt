-- `take_field::take_quoted` meets its contract: the content between its quotes, or where it stops.
-- Assumes nothing.
use Rattle.std.proofs.lemmas.Result.{err_from_is_err_and}
use mathlib.Core.Path.{sym, ap, ◌∙◌}
use Prim.Native.Nat.{ℕ}
use native.Mathlib.Omega.{arith}
use lib.ListN.{length}
use Rattle.take_field.proofs.Contents.{whole-content, content-undone, quoted-took, quoted-stops}
use Rattle.take_field.proofs.take_quoted.Goals as goal

pub returns-in_err-got : goal.returns-in_err-got
returns-in_err-got c =
    let p = err_from_is_err_and c.from_residual.result c.from_residual.ensures.1 in
    rw (p.1, p.2) (quoted-stops _ c.in_err-got.ensures)

pub overflow_sub-content : goal.overflow_sub-content
overflow_sub-content c = omega (arith, (whole-content c.in_ok-got.ensures).long)

pub slice_bounds-content-count : goal.slice_bounds-content-count
slice_bounds-content-count c = omega (arith, (whole-content c.in_ok-got.ensures).long)

pub slice_bounds-content-start : goal.slice_bounds-content-start
slice_bounds-content-start c = omega (arith, (whole-content c.in_ok-got.ensures).long, (whole-content c.in_ok-got.ensures).inside)

pub put_text-len-requires : goal.put_text-len-requires
put_text-len-requires c = let x = whole-content c.in_ok-got.ensures in x.len ∙ sym (ap (length {A = ℕ}) (content-undone x))

pub returns : goal.returns
returns c = let x = whole-content c.in_ok-got.ensures in quoted-took _ x (rw (content-undone x) at c.put_text-len.ensures)
