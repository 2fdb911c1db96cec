-- The leaves in front of a list: an entry that is ready is a leaf's, and the row behind the entry that heads it is the whole list.
-- Assumes nothing.
use mathlib.Core.Path.{◌≡◌, refl, sym, ap, ◌∙◌}
use mathlib.Core.Bool.{true, false}
use mathlib.Core.List.{List}
use Prim.Native.Nat.{ℕ, ◌+◌, ◌^◌, ◌<◌, ◌≤◌}
use native.Mathlib.Omega.{arith}
use lib.ListN.{length}
use Rattle.wire.specs.declared.Layout.{Layout}
use Rattle.wire.specs.Checked.{Good}
use Rattle.wire.specs.Table.{kind_of, node_at, record_of, shape_of, check}
use Rattle.wire.specs.Writing.{Wrote, misfit, head_bytes, writing, write}
use Rattle.wire.specs.Answers.{room_of}
use Rattle.laws.specs.KindRanges.{IsLeaf}
use Rattle.laws.specs.Tables.{GoodTable}
use Rattle.laws.proofs.Tables.{good-table}
use Rattle.write_item.specs.Pooled.{Pooled}
use Rattle.write_item.specs.Pooled as pooled
use Rattle.write_item.specs.Own.{is_some, Fitting, SpellsEntry, Spells, Pools}
use Rattle.write_list.specs.Put.{Put}
use Rattle.write_list.specs.Put.{Done, Misfit}
use Rattle.table.specs.declared.Way.{Way}
use Rattle.table.specs.Parts.{under, node_step, row_step}
use Rattle.table.proofs.Stretches.{row-end, root-falls}
use Rattle.write_list.specs.declared.Ahead.{Ahead}
use Rattle.write_list.specs.Begun.{Begun}
use Rattle.write_list.specs.Begun.{At}
use Rattle.write_list.specs.Steps.{entries, write_leaf, Gives, Begins, Leads, LeafPut, Leaf, Reaches, Nothing}
use Rattle.entry.specs.Words.{first_at, second_at}
use Rattle.write_list.proofs.Going.{going-begin, going_on, going_end, keeps-done, keeps_same}
use Rattle.write_list.proofs.Nodes.{start-lacks, start-going, leaf-starts, node-leaf}
use Rattle.write_list.proofs.Rounds.{Flattened, flattened, round-one, row_one, root-once}

-- the numbers in front of those with children
pub low-leaf : (k : ℕ) → k < 15 → IsLeaf k
low-leaf k h = record { small = omega (arith, h); outer = λ i. omega (arith, h, i.0) }

-- the entry e, of the node i with the kind's number k
pub ready-gives : {s : List ℕ} {l : Layout} {i : ℕ} → GoodTable s l → i < l.nodes → {k : ℕ} → k ≡ (node_at s (record_of l i)).number → {ws : List ℕ} {e room : ℕ} → Fitting k ws e room
    → {a : ℕ} → a ≡ first_at ws e → {u n : ℕ} {before out : List ℕ} → Spells (kind_of k) a u before n out → (pool : List ℕ)
    → Gives (node_step (writing pool) s l i (entries ws e)) ws u before (Done (e + 1) n) out
ready-gives good below {k} ek {ws} {e} f ea puts pool =
    let leaf : IsLeaf k = low-leaf k (omega (arith, f.low)) in
    rw (node-leaf good below pool ws e ek leaf) (going_end (start-going (leaf-starts (kind_of k) pool ws e f.more ea refl) (rw ea (f.fits pool)) (λ bs q. (puts.with pool _).puts 0 q)) refl)

-- the leaf that was put
pub leaf-gives : {s : List ℕ} {l : Layout} {i : ℕ} → GoodTable s l → i < l.nodes → {k : ℕ} → k ≡ (node_at s (record_of l i)).number → {ws : List ℕ} {e : ℕ} {pool : List ℕ} {u : ℕ} {before : List ℕ} {r : Put} {out : List ℕ}
    → LeafPut k ws e pool u before r out → Gives (node_step (writing pool) s l i (entries ws e)) ws u before r out
leaf-gives good below ek {ws} {e} {pool} p = rw (node-leaf good below pool ws e ek p.leaf) p.gives

-- none was put
pub no-leaf : {k : ℕ} {ws : List ℕ} {e : ℕ} {pool : List ℕ} {u : ℕ} {before : List ℕ} {i : ℕ} → Leaf k ws e pool u before (Misfit i) before
no-leaf {i = i} = record { put = λ {j} {n} e. let z : ◌≡◌ {A = Put} (Misfit i) (Done j n) = e in let o : ◌≡◌ {A = ℕ} 0 1 = cc in absurd (omega arith); kept = keeps_same }

-- a text or bytes, which was put or not
module _ {k : ℕ} {pool : List ℕ} {a b u : ℕ} {before : List ℕ} {r : Pooled} {out : List ℕ} (p : Pools k pool a b u before r out) {ws : List ℕ} {e : ℕ} where
  pub content-put : 12 ≤ k → k ≤ 13 → e < room_of ws → a ≡ first_at ws e → b ≡ second_at ws e → {n : ℕ} → r ≡ pooled.Put n → Leaf k ws e pool u before (Done (e + 1) n) out
  content-put l h more ea eb {n} q =
      let d : (is_some (head_bytes (kind_of k) 0 pool a b) ≡ true) × SpellsEntry (kind_of k) pool a b u before n out = rw q at p.holds in
      let leaf : IsLeaf k = low-leaf k (omega (arith, h)) in
      record { put = λ z. record { leaf = leaf; more = more; gives = going_end (start-going (leaf-starts (kind_of k) pool ws e more ea eb) d.0 (λ bs s. d.1.puts 0 s)) refl }; kept = keeps-done }

  pub content-none : r ≡ pooled.Misfit → {i : ℕ} → Leaf k ws e pool u before (Misfit i) out
  content-none q =
      let d : (is_some (head_bytes (kind_of k) 0 pool a b) ≡ false) × (out ≡ before) = rw q at p.holds in
      rw d.1 no-leaf

pub content-lacks : {k : ℕ} {pool : List ℕ} {a b u : ℕ} {before : List ℕ} {r : Pooled} {out : List ℕ} → Pools k pool a b u before r out → r ≡ pooled.Misfit → (ws : List ℕ) (e : ℕ)
    → e < room_of ws → a ≡ first_at ws e → b ≡ second_at ws e → write_leaf (kind_of k) pool (entries ws e) ≡ misfit e
content-lacks {k} {pool} {a} {b} {before = before} {out = out} p q ws e more ea eb =
    let d : (is_some (head_bytes (kind_of k) 0 pool a b) ≡ false) × (out ≡ before) = rw q at p.holds in
    start-lacks (leaf-starts (kind_of k) pool ws e more ea eb) d.0

-- ---- a root that is a leaf

pub root-leaf : (s : List ℕ) {l : Layout} → check s ≡ Good l → {k : ℕ} → k ≡ (node_at s (record_of l l.root)).number → IsLeaf k → (pool ws : List ℕ)
    → write (shape_of s l) pool (entries ws 0) ≡ write_leaf (kind_of k) pool (entries ws 0)
unfolding node_step write
root-leaf s {l} good ek leaf pool ws =
    let g = good-table s l good in
    ap (λ t. write t pool (entries ws 0)) g.its_shape ∙ node-leaf g g.root_below pool ws 0 ek leaf

-- ---- how far a list was put

pub reaches-on : {pool s : List ℕ} {l : Layout} {w : Wrote} {ws : List ℕ} {u : ℕ} {before : List ℕ} {a : Ahead} {mid : List ℕ} {r : Ahead} {out : List ℕ} → length before < 2 ^ 63
    → Reaches pool s l w ws u before a mid → Reaches pool s l (row_step (writing pool) s l a.child a.left (entries ws a.at)) ws a.used mid r out
    → Reaches pool s l w ws u before r out
reaches-on small f g = record { falls = g.falls; going = going_on small f.going g.going }

-- where no row is left, the whole was put
pub reaches_end : {pool s : List ℕ} {l : Layout} {w : Wrote} {ws : List ℕ} {u : ℕ} {before : List ℕ} {r : Ahead} {out : List ℕ} → Reaches pool s l w ws u before r out → r.left ≡ 0
    → Gives w ws u before (Done r.at r.used) out
reaches_end {pool} {s} {l} f z = going_end f.going (row-end (writing pool) s l _ _ _ (omega (arith, z)))

module _ (s : List ℕ) {l : Layout} (good : check s ≡ Good l) (at : ℕ) (place : at + 4 ≡ length s) where
  -- the root alone is a row
  root-row : (pool ws : List ℕ) → write (shape_of s l) pool (entries ws 0) ≡ row_step (writing pool) s l at 1 (entries ws 0)
  root-row pool ws = sym (root-once s good at place pool (entries ws 0)) ∙ row_one s l pool at 1 (entries ws 0)

  pub nothing_put : Nothing s l (record { at = 0; used = 0; child = at; left = 1 })
  nothing_put = record { all = λ pool ws out. record { falls = root-falls s good at place; going = rw (root-row pool ws) (going-begin _ 0 out (omega arith)) } }

  module _ {way : Way} (f : Flattened s l l.nodes at 1 way) {ws : List ℕ} {r : Begun} (b : Begins way.headed ws 0 r) {start : ℕ} (q : r ≡ At start)
      {before : List ℕ} {on : Ahead} {out : List ℕ} (led : Leads s l way.from way.width ws start before on out) (pool : List ℕ) where
    behind-head : write (shape_of s l) pool (entries ws 0) ≡ row_step (writing pool) s l way.from way.width (entries ws start)
    behind-head =
        let begun : under (writing pool) way.headed way.width (row_step (writing pool) s l way.from way.width) (entries ws 0) ≡ row_step (writing pool) s l way.from way.width (entries ws start) = rw q at (b.holds pool way.width (row_step (writing pool) s l way.from way.width)) in
        sym (root-once s good at place pool (entries ws 0)) ∙ flattened f pool 1 (entries ws 0) ∙ round-one s l pool way.from way.width (entries ws 0) way.headed ∙ begun

    pub ints-reach : Reaches pool s l (write (shape_of s l) pool (entries ws 0)) ws 0 before on out
    ints-reach = record { falls = led.falls; going = rw behind-head (led.going pool) }
