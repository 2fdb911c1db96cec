-- `fixint::bytes` meets its contract: the lowest N are the word's, and zeros where it has no more.
-- Assumes nothing.
use mathlib.Core.Path.{◌≡◌, ap, ◌∙◌}
use mathlib.Core.List.{List, reverse, ◌++◌}
use Prim.Native.Nat.{ℕ, ◌^◌, ◌<◌, min}
use lib.ListN.{take, drop, replicate}
use Rattle.std.specs.Int.{w64, to_le_bytes}
use Rattle.wire.specs.Numbers.{little_bytes, in_order}
use Rattle.fixint.specs.Sizes.{order_of}
use Rattle.fixint.proofs.Digits.{low-bytes}
use Rattle.fixint.proofs.bytes.Goals as goal

-- what is copied over the front of the zeros
laid : (n m x : ℕ) (word part : List ℕ) → part ≡ take m word → word ≡ to_le_bytes w64 x → m ≡ min n 8 → x < 2 ^ 64 → part ++ drop m (replicate n 0) ≡ little_bytes n x
laid n m x word part e d h fits = ap (λ s. s ++ drop m (replicate n 0)) (e ∙ ap (take m) d) ∙ low-bytes n m x h fits

pub returns-then-big : goal.returns-then-big
unfolding order_of in_order
returns-then-big g c = let n = g.row.N in
    rw c.if-big.true (c.reverse.ensures.after ∙ ap reverse (laid n c.min-few.result c.args.x c.to_le_bytes.result c.copy_from_slice.new.self c.copy_from_slice.ensures.after c.to_le_bytes.ensures c.min-few.ensures c.ranges.x.fits))

pub returns-else-big : goal.returns-else-big
unfolding order_of in_order
returns-else-big g c = let n = g.row.N in
    rw c.if-big.false (laid n c.min-few.result c.args.x c.to_le_bytes.result c.copy_from_slice.new.self c.copy_from_slice.ensures.after c.to_le_bytes.ensures c.min-few.ensures c.ranges.x.fits)
