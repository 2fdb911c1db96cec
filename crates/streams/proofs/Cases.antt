-- The accident, computed.
-- Assumes nothing.
use mathlib.Core.Path.{refl}
use Rattle.wire.specs.Tests.{pick}
use Rattle.wire.specs.Frames.{room, gap_after, to_zero, no_message, framed, groups_by, decode_by, feed_on, feed_end, feed_fit, feed_by, feed_bridge, spills, feed_fresh, feed_waiting, feed_marked, feed}
use Rattle.streams.specs.Stream.{again, steps, handed_by, handed}
use Rattle.streams.specs.Cases.{array, accident, Hold}

pub cases-hold : Hold
unfolding pick room gap_after to_zero no_message framed groups_by decode_by feed_on feed_end feed_fit feed_by feed_bridge spills feed_fresh feed_waiting feed_marked feed again steps handed_by handed array accident
cases-hold = record { dropped = refl; taken = refl }
