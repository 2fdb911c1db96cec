-- `put_number::put_word` meets its contract: digits alone, or behind a minus.
-- Assumes nothing.
use Prim.Native.Nat.{◌+◌, ◌-◌}
use native.Mathlib.Omega.{arith}
use Rattle.put_number.proofs.Laying.{lays-puts, lays-both, word_low, word-high}
use Rattle.put_number.proofs.put_word.Goals as goal

pub returns-then-a-above : goal.returns-then-a-above
returns-then-a-above c = rw (word_low c.args.above c.args.a (omega arith)) c.put_decimal.ensures

pub returns : goal.returns
returns c = rw (word-high c.args.above c.args.a (18446744073709551615 - c.args.a + 1) (omega arith) (omega arith)) (lays-both (omega arith) (lays-puts c.put_byte-next.ensures) c.put_decimal-2.ensures)
