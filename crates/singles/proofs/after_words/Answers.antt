-- `singles::after_words` meets its contract: the loop's invariant is that what is to be said of the rest stays.
-- Assumes nothing.
use mathlib.Core.Path.{refl}
use Prim.Native.Nat.{◌+◌}
use native.Mathlib.Omega.{arith}
use borrow.Author.Rules.{rules}
use Rattle.singles.specs.Passed.{Same}
use Rattle.singles.proofs.Passed.{here}
use Rattle.singles.proofs.Highs.{eight-on}
use Rattle.singles.proofs.after_words.Goals as goal

pub loop-i-init : goal.loop-i-init
loop-i-init c = here _ _ (search rules)

pub returns-then-not-w1 : goal.returns-then-not-w1
returns-then-not-w1 c =
    let one : Same c.args.s.now c.args.from (c.loop-i.i + 8) = eight-on (λ i. (c.type_inv.s i).fits) c.loop-i.invariant _ refl (omega arith) c.eight_single-w0.ensures c.if-not-w0.false in
    one

pub returns-then-not-w2 : goal.returns-then-not-w2
returns-then-not-w2 c =
    let one : Same c.args.s.now c.args.from (c.loop-i.i + 8) = eight-on (λ i. (c.type_inv.s i).fits) c.loop-i.invariant _ refl (omega arith) c.eight_single-w0.ensures c.if-not-w0.false in
    let two : Same c.args.s.now c.args.from (c.loop-i.i + 16) = eight-on (λ i. (c.type_inv.s i).fits) one _ (omega arith) (omega arith) c.eight_single-w1.ensures c.if-not-w1.false in
    two

pub returns-then-not-w3 : goal.returns-then-not-w3
returns-then-not-w3 c =
    let one : Same c.args.s.now c.args.from (c.loop-i.i + 8) = eight-on (λ i. (c.type_inv.s i).fits) c.loop-i.invariant _ refl (omega arith) c.eight_single-w0.ensures c.if-not-w0.false in
    let two : Same c.args.s.now c.args.from (c.loop-i.i + 16) = eight-on (λ i. (c.type_inv.s i).fits) one _ (omega arith) (omega arith) c.eight_single-w1.ensures c.if-not-w1.false in
    let three : Same c.args.s.now c.args.from (c.loop-i.i + 24) = eight-on (λ i. (c.type_inv.s i).fits) two _ (omega arith) (omega arith) c.eight_single-w2.ensures c.if-not-w2.false in
    three

pub loop-i-preserved : goal.loop-i-preserved
loop-i-preserved c =
    let one : Same c.args.s.now c.args.from (c.loop-i.i + 8) = eight-on (λ i. (c.type_inv.s i).fits) c.loop-i.invariant _ refl (omega arith) c.eight_single-w0.ensures c.if-not-w0.false in
    let two : Same c.args.s.now c.args.from (c.loop-i.i + 16) = eight-on (λ i. (c.type_inv.s i).fits) one _ (omega arith) (omega arith) c.eight_single-w1.ensures c.if-not-w1.false in
    let three : Same c.args.s.now c.args.from (c.loop-i.i + 24) = eight-on (λ i. (c.type_inv.s i).fits) two _ (omega arith) (omega arith) c.eight_single-w2.ensures c.if-not-w2.false in
    let four : Same c.args.s.now c.args.from (c.loop-i.i + 32) = eight-on (λ i. (c.type_inv.s i).fits) three _ (omega arith) (omega arith) c.eight_single-w3.ensures c.if-not-w3.false in
    four
