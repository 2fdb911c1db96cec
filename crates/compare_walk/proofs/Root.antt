-- The rounds of the root, whose number stands in the trailer, are the whole shape.
-- Assumes nothing.
use mathlib.Core.Path.{◌≡◌, ap, ◌∙◌}
use mathlib.Core.Bool.{false}
use mathlib.Core.List.{List}
use Prim.Native.Nat.{ℕ, ◌+◌}
use native.Mathlib.Omega.{arith}
use lib.ListN.{length}
use Rattle.wire.specs.declared.Layout.{Layout}
use Rattle.wire.specs.Checked.{Good}
use Rattle.wire.specs.Walk.{walk}
use Rattle.wire.specs.Table.{check, shape_of}
use Rattle.wire.specs.Reading.{front}
use Rattle.laws.specs.Tables.{node_shape}
use Rattle.laws.proofs.Tables.{good-table}
use Rattle.table.specs.declared.Way.{Way}
use Rattle.table.specs.Parts.{Flat, node_step, rounds_step}
use Rattle.table.proofs.Stretches.{rounds-once, flat-rounds, root-number}
use Rattle.desk.specs.Path.{most_entries}
use Rattle.desk.specs.Differ.{beside}
use Rattle.beside.specs.Meeting.{meeting}
use Rattle.compare_walk.specs.Walked.{Walked}
use Rattle.compare_walk.specs.Steps.{lay, Gives}
use Rattle.compare_walk.proofs.Items.{ends-bare}

pub root-gives : (table one other : List ℕ) {l : Layout} (at : ℕ) {way : Way} {w : Walked} (s : List ℕ) {st : List ℕ} → check table ≡ Good l → at + 4 ≡ length table → Flat table l l.nodes at 1 way
    → Gives (lay most_entries (rounds_step meeting table l 1 way.headed way.from way.width (beside (front one) (front other))) 0 0 0 s) w st
    → Gives (lay most_entries (walk meeting (shape_of table l) (beside (front one) (front other))) 0 0 0 s) w st
root-gives table one other {l} at s good e flat g =
    let goods = good-table table l good in
    let z = beside (front one) (front other) in
    let root : rounds_step meeting table l 1 false at 1 z ≡ walk meeting (node_shape table l l.root) z
    = rounds-once meeting table l ends-bare at z ∙ (unfold node_step in ap (λ i. walk meeting (node_shape table l i) z) (root-number table good at e)) in
    rw goods.its_shape (rw (← flat-rounds goods (omega arith) meeting ends-bare flat 1, root) at g)
