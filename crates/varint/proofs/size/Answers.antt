-- `varint::size` meets its contract: the bytes are counted as the loop that stores them goes.
-- Assumes nothing.
use native.Mathlib.Omega.{arith}
use Rattle.varint.proofs.Writing.{count-begin, count-stop, count-more}
use Rattle.varint.proofs.size.Goals as goal

pub returns-then-x-lt128 : goal.returns-then-x-lt128
returns-then-x-lt128 c = count-stop (count-begin _ c.ranges.x.fits) (omega arith)

pub returns-then-x-lt16384 : goal.returns-then-x-lt16384
returns-then-x-lt16384 c = count-stop (count-more (count-begin _ c.ranges.x.fits) (omega arith)) (omega arith)

pub returns-then-x-lt2097152 : goal.returns-then-x-lt2097152
returns-then-x-lt2097152 c = count-stop (count-more (count-more (count-begin _ c.ranges.x.fits) (omega arith)) (omega arith)) (omega arith)

pub returns-then-x-lt268435456 : goal.returns-then-x-lt268435456
returns-then-x-lt268435456 c = count-stop (count-more (count-more (count-more (count-begin _ c.ranges.x.fits) (omega arith)) (omega arith)) (omega arith)) (omega arith)

pub returns-then-x-lt34359738368 : goal.returns-then-x-lt34359738368
returns-then-x-lt34359738368 c = count-stop (count-more (count-more (count-more (count-more (count-begin _ c.ranges.x.fits) (omega arith)) (omega arith)) (omega arith)) (omega arith)) (omega arith)

pub returns-then-x-lt4398046511104 : goal.returns-then-x-lt4398046511104
returns-then-x-lt4398046511104 c = count-stop (count-more (count-more (count-more (count-more (count-more (count-begin _ c.ranges.x.fits) (omega arith)) (omega arith)) (omega arith)) (omega arith)) (omega arith)) (omega arith)

pub returns-then-x-lt562949953421312 : goal.returns-then-x-lt562949953421312
returns-then-x-lt562949953421312 c = count-stop (count-more (count-more (count-more (count-more (count-more (count-more (count-begin _ c.ranges.x.fits) (omega arith)) (omega arith)) (omega arith)) (omega arith)) (omega arith)) (omega arith)) (omega arith)

pub returns-then-x-lt72057594037927936 : goal.returns-then-x-lt72057594037927936
returns-then-x-lt72057594037927936 c = count-stop (count-more (count-more (count-more (count-more (count-more (count-more (count-more (count-begin _ c.ranges.x.fits) (omega arith)) (omega arith)) (omega arith)) (omega arith)) (omega arith)) (omega arith)) (omega arith)) (omega arith)

pub returns-then-x-lt9223372036854775808 : goal.returns-then-x-lt9223372036854775808
returns-then-x-lt9223372036854775808 c = count-stop (count-more (count-more (count-more (count-more (count-more (count-more (count-more (count-more (count-begin _ c.ranges.x.fits) (omega arith)) (omega arith)) (omega arith)) (omega arith)) (omega arith)) (omega arith)) (omega arith)) (omega arith)) (omega arith)

pub returns : goal.returns
returns c = count-stop (count-more (count-more (count-more (count-more (count-more (count-more (count-more (count-more (count-more (count-begin _ c.ranges.x.fits) (omega arith)) (omega arith)) (omega arith)) (omega arith)) (omega arith)) (omega arith)) (omega arith)) (omega arith)) (omega arith)) (omega arith)
