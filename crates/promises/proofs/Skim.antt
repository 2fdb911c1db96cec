-- A skim and a read are the same reading, with the same room.
-- Assumes nothing.
use mathlib.Core.Path.{refl}
use Rattle.wire.specs.Answers.{reads, skims}
use Rattle.promises.specs.Skim.{SkimIsRead}

pub skim-is-read : SkimIsRead
unfolding skims reads
skim-is-read table message store = refl
