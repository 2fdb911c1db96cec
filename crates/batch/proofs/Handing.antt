-- A part that lies in the batch is handed back as it stands there, and one that would reach beyond it is empty.
-- Assumes nothing.
use mathlib.Core.Path.{◌≡◌}
use mathlib.Core.List.{List, []}
use Prim.Native.Nat.{ℕ, ◌+◌, ◌-◌, ◌≤◌, ◌<◌}
use native.Mathlib.Omega.{arith}
use lib.ListN.{length, take, drop}
use lib.Seq.{drop-length}
use borrow.Author.Tests.{le-leb, lt-leb}
use Rattle.wire.specs.Tests.{pick}
use Rattle.laws.proofs.Parts.{tail}
use Rattle.desk.specs.declared.Fault.{Fault}
use Rattle.desk.specs.BatchFound.{BatchFound}
use Rattle.desk.specs.BatchFound.{Part, Refused}
use Rattle.desk.specs.Batch.{part_of}

pub part-inside : (s : List ℕ) (from len : ℕ) → from + len ≤ length s → take (from + len - from) (drop from s) ≡ part_of s (Part from len)
unfolding part_of pick
part-inside s from len h =
    let n : from + len - from ≡ len = omega arith in
    rw (n, le-leb (from + len) (length s) h)

pub part-beyond : (s : List ℕ) (from len : ℕ) → length s < from + len → take (length s - length s) (drop (length s) s) ≡ part_of s (Part from len)
unfolding part_of pick
part-beyond s from len h = rw (tail s (length s), drop-length s, lt-leb (from + len) (length s) h)

pub part-found : (s : List ℕ) {a : BatchFound} {from len : ℕ} → a ≡ Part from len → {r : List ℕ} → r ≡ part_of s (Part from len) → r ≡ part_of s a
part-found s e h = rw e h

pub part-refused : (s : List ℕ) {a : BatchFound} {why : Fault} → a ≡ Refused why → [] ≡ part_of s a
unfolding part_of
part-refused s e = rw e
