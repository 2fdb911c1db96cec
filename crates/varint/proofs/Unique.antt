-- Each contract is an equation.
-- Assumes nothing.
use mathlib.Core.Path.{ap, ◌∙◌}
use mathlib.Core.List.{List}
use Prim.Native.Nat.{ℕ}
use Rattle.laws.proofs.Unique.{by-equation}
use Rattle.varint.specs.Unique.{OneVarintTake, OneAtWidth, OnePut, OneSize}

pub one-varint-take : OneVarintTake
one-varint-take k top s = by-equation _

pub one-at-width : OneAtWidth
one-at-width w s = by-equation _

pub one-put : OnePut
one-put before at x r t p q =
    ap (λ (a : List ℕ). (a, r.1)) (by-equation _ _ _ p.stored q.stored) ∙ ap (λ (n : ℕ). (t.0, n)) (by-equation _ _ _ p.size q.size)

pub one_size : OneSize
one_size x = by-equation _
