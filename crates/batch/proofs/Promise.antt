-- The contracts of writing, of the check, of the part and of compaction are equations.
-- Assumes nothing.
use mathlib.Core.Path.{sym, ap₂, ◌∙◌}
use lib.ListN.{length}
use Rattle.laws.proofs.Unique.{by-equation}
use Rattle.desk.specs.Compact.{compacts}
use Rattle.batch.specs.Promise.{OneCheck, OnePart, OneWriting, OneCompaction}

pub one-check : OneCheck
one-check table batch = by-equation _

pub one-part : OnePart
one-part batch found = by-equation _

pub one-writing : OneWriting
one-writing made out x y a b = ap₂ (λ r s. (r, s)) (a.answered ∙ sym b.answered) (a.stored ∙ sym b.stored)

pub one-compaction : OneCompaction
one-compaction table batch out = one-writing (compacts table batch (length out)) out
