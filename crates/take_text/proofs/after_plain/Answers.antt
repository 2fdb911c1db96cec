-- `take_text::after_plain` meets its contract: the loop's invariant is that all bytes so far are plain.
-- Assumes nothing.
use Rattle.std.proofs.lemmas.List.{get_or-drop}
use mathlib.Core.Path.{◌≡◌, ap, ◌∙◌}
use mathlib.Core.List.{List}
use Prim.Native.Nat.{ℕ, ◌+◌}
use native.Mathlib.Omega.{arith}
use lib.ListN.{length, get_or, length-drop}
use Rattle.laws.proofs.Parts.{tail}
use Rattle.take_text.proofs.Marking.{passes_none, passes_on}
use Rattle.take_text.proofs.after_plain.Goals as goal

pub returns-then-one : goal.returns-then-one
returns-then-one c = passes_none _ _ _ _ c.requires

pub returns-then-more-ne0 : goal.returns-then-more-ne0
returns-then-more-ne0 c = passes_none _ _ _ _ c.requires

pub loop-i-init : goal.loop-i-init
loop-i-init c = let e : c.args.at + 0 ≡ c.args.at = omega arith in rw e (passes_none _ _ _ _ c.requires)

pub loop-i-preserved : goal.loop-i-preserved
loop-i-preserved c =
    let t = tail c.args.row.now c.args.at in
    let there = rw t at c.loop-i-test.true in
    let same = ap (λ (s : List ℕ). get_or s c.loop-i.i 0) t ∙ get_or-drop c.args.at c.args.row.now c.loop-i.i 0 in
    let e : c.args.at + (c.loop-i.i + 1) ≡ c.args.at + c.loop-i.i + 1 = omega arith in
    rw e (passes_on c.loop-i.invariant c.if-one.false (omega arith) (omega (arith, there, length-drop c.args.at c.args.row.now)) (omega (arith, same)) (λ q. omega (arith, same)))

pub returns : goal.returns
returns c =
    let t = tail c.args.row.now c.args.at in
    let end = rw t at c.loop-i-test.false in
    let whole : c.args.at + c.loop-i.i ≡ length c.args.row.now = omega (arith, end, length-drop c.args.at c.args.row.now, c.loop-i.invariant.inside) in
    rw whole at c.loop-i.invariant
