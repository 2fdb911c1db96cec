-- Each contract is an equation.
-- Assumes nothing.
use mathlib.Core.Path.{ap, ◌∙◌}
use mathlib.Core.List.{List}
use Prim.Native.Nat.{ℕ}
use Rattle.laws.proofs.Unique.{by-equation}
use Rattle.utf8.specs.Unique.{OneIsText, OneFirstChar, OneIsChar, OneCharBytes}

pub one-is-text : OneIsText
one-is-text s = by-equation _

pub one-first-char : OneFirstChar
one-first-char s = by-equation _

pub one-is-char : OneIsChar
one-is-char c = by-equation _

pub one-char-bytes : OneCharBytes
one-char-bytes c r t p q =
    ap (λ (a : List ℕ). (a, r.1)) (by-equation _ _ _ p.stored q.stored) ∙ ap (λ (n : ℕ). (t.0, n)) (by-equation _ _ _ p.size q.size)
