-- `write_item::is_ready` meets its contract: only where every test says so is there anything to show.
-- Assumes nothing.
use mathlib.Core.Path.{refl, sym, ◌∙◌}
use native.Mathlib.Omega.{arith}
use Rattle.wire.specs.Answers.{room_of}
use Rattle.laws.proofs.Splits.{not-both}
use Rattle.write_item.proofs.is_ready.Goals as goal

pub returns-then-number-ge9 : goal.returns-then-number-ge9
returns-then-number-ge9 c = record { is = λ e. not-both e refl }

pub returns-then-room-lt-MOST : goal.returns-then-room-lt-MOST
returns-then-room-lt-MOST c = record { is = λ e. not-both e refl }

pub returns-then-room-at : goal.returns-then-room-at
returns-then-room-at c = record { is = λ e. not-both e refl }

pub first-first-requires : goal.first-first-requires
unfolding room_of
first-first-requires c = omega arith

pub second-second-requires : goal.second-second-requires
unfolding room_of
second-second-requires c = omega arith

pub returns-then-second-eq0 : goal.returns-then-second-eq0
unfolding room_of
returns-then-second-eq0 c = record {
  is = λ e. record {
    low = omega arith;
    wide = omega arith;
    more = omega arith;
    fits = λ pool. rw (← c.first-first.ensures, ← c.second-second.ensures, c.if-second-eq0.true) (sym ((c.fits_int.ensures.with 0).at pool) ∙ e);
  };
}

pub returns : goal.returns
returns c = record { is = λ e. not-both e refl }
