-- Each case holds by computing both sides.
-- Assumes nothing.
use mathlib.Core.Path.{refl}
use Rattle.wire.specs.Tests.{pick}
use Rattle.wire.specs.Answers.{numbered, done, write_says, write_answer, out_with}
use Rattle.wire.specs.Sending.{unfilled, groups_of, groups, group, coded, encode, frame, sends}
use Rattle.wire.specs.SendingCases.{full, sent, sending, Frames, Outputs}

-- to open this is to compute all definitions
unfoldable sends-open : Unit {0}
unfolding pick numbered done write_says write_answer out_with unfilled groups_of groups group coded encode frame sends full sent sending
sends-open = tt

pub frames-hold : Frames
unfolding sends-open
frames-hold = record {
  nothing = refl;
  one_zero = refl;
  mixed = refl;
  zero_last = refl;
  almost_full = refl;
  almost_full_and_zero = refl;
  full_last = refl;
  full_and_zero = refl;
  full_and_more = refl;
  twice_full = refl;
}

pub outputs-hold : Outputs
unfolding sends-open
outputs-hold = record { fits = refl; behind = refl; over = refl; none = refl }
