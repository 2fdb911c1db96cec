-- Rounds of a stretch: the first one and the others; and a stretch of one struct, which is gone through by its fields, behind its entry.
-- Assumes nothing.
use mathlib.Core.Path.{◌≡◌, refl, sym, ap, ◌∙◌}
use mathlib.Core.Bool.{Bool, true, false}
use mathlib.Core.List.{List, []}
use Prim.Native.Nat.{ℕ, ◌+◌, ◌-◌, ◌<◌, ◌≤◌}
use lib.ListN.{length}
use lib.Dec.{eqb}
use borrow.Author.Tests.{eq-eqb, ne_eqb}
use Rattle.wire.specs.declared.Layout.{Layout}
use Rattle.wire.specs.Checked.{Good}
use Rattle.wire.specs.Shape.{struct}
use Rattle.wire.specs.Walk.{times}
use Rattle.wire.specs.Table.{u16_at, shape_of, check}
use Rattle.wire.specs.Writing.{Left, Wrote, misfit, single, head_bytes, write_on, write_then, write_entry, write_item, writing, write}
use Rattle.wire.specs.Answers.{room_of}
use Rattle.laws.specs.Tables.{node_shape, GoodTable}
use Rattle.laws.proofs.Tables.{good-table}
use Rattle.laws.proofs.Own.{single-yes, single-no, single-second}
use Rattle.table.specs.declared.Way.{Way}
use Rattle.table.specs.Parts.{Falls, Flat, under, node_step, row_step, rounds_step}
use Rattle.table.proofs.Stretches.{row_first, rounds-first, rounds-once, root-number, flat-falls, flat-rounds}
use Rattle.write_list.specs.Put.{Put}
use Rattle.write_list.specs.Begun.{Begun}
use Rattle.write_list.specs.Begun.{At, Misfit}
use Rattle.write_list.specs.Steps.{entries, Sure, Gives, Begins}
use Rattle.entry.specs.Words.{first_at, second_at}
use Rattle.write_list.proofs.Entries.{entries_none}
use Rattle.write_list.proofs.Going.{First, after_none, then-nothing}
use Rattle.write_list.proofs.Nodes.{Starts, item-starts}

-- ---- a stretch, and its rounds

pub stretch-first : (s : List ℕ) (l : Layout) (pool : List ℕ) (from n : ℕ) (x : Left) {i : ℕ} → i ≡ u16_at s from → 0 < n
    → First (row_step (writing pool) s l from n x) (node_step (writing pool) s l i) (row_step (writing pool) s l (from + 2) (n - 1)) x
stretch-first s l pool from n x {i} e h = record { is = row_first (writing pool) s l from n x h i e }

module _ (s : List ℕ) (l : Layout) (pool : List ℕ) (c : ℕ) (h : Bool) (from n : ℕ) {ws : List ℕ} {i : ℕ} {r : Begun} (b : Begins h ws i r) (z : 0 < c) where
  more : rounds_step (writing pool) s l c h from n (entries ws i) ≡ write_on (under (writing pool) h n (row_step (writing pool) s l from n) (entries ws i)) (rounds_step (writing pool) s l (c - 1) h from n)
  unfolding write_then
  more = rounds-first (writing pool) s l c h from n (entries ws i) z

  pub round-first : {j : ℕ} → r ≡ At j → First (rounds_step (writing pool) s l c h from n (entries ws i)) (row_step (writing pool) s l from n) (rounds_step (writing pool) s l (c - 1) h from n) (entries ws j)
  unfolding write_then
  round-first {j} q =
      let begun : under (writing pool) h n (row_step (writing pool) s l from n) (entries ws i) ≡ row_step (writing pool) s l from n (entries ws j) = rw q at (b.holds pool n (row_step (writing pool) s l from n)) in
      record { is = more ∙ ap (λ w. write_on w (rounds_step (writing pool) s l (c - 1) h from n)) begun }

  pub round-misfit : r ≡ Misfit → rounds_step (writing pool) s l c h from n (entries ws i) ≡ misfit i
  unfolding write_on
  round-misfit q =
      let begun : under (writing pool) h n (row_step (writing pool) s l from n) (entries ws i) ≡ misfit i = rw q at (b.holds pool n (row_step (writing pool) s l from n)) in
      more ∙ ap (λ w. write_on w (rounds_step (writing pool) s l (c - 1) h from n)) begun

-- one round is the row, as it stands or as a struct's fields
module _ (s : List ℕ) (l : Layout) (pool : List ℕ) (from n : ℕ) (x : Left) where
  pub round-one : (h : Bool) → rounds_step (writing pool) s l 1 h from n x ≡ under (writing pool) h n (row_step (writing pool) s l from n) x
  unfolding rounds_step times
  round-one h = then-nothing (under (writing pool) h n (row_step (writing pool) s l from n)) x

  pub row_one : rounds_step (writing pool) s l 1 false from n x ≡ row_step (writing pool) s l from n x
  unfolding under
  row_one = round-one false

-- ---- a stretch that is one struct alone

-- the way of a stretch in a good table, which every writing may take instead
pub record Flattened (s : List ℕ) (l : Layout) (i from n : ℕ) (way : Way) : Type 0 where
  pub good : GoodTable s l
  pub few : i ≤ l.nodes
  pub flat : Flat s l i from n way

pub flattens : {s : List ℕ} {l : Layout} {i from n : ℕ} {way : Way} → GoodTable s l → i ≤ l.nodes → Flat s l i from n way → Flattened s l i from n way
flattens g h f = record { good = g; few = h; flat = f }

module _ {s : List ℕ} {l : Layout} {i from n : ℕ} {way : Way} (f : Flattened s l i from n way) where
  pub flattened-falls : Falls s way.from way.width i
  flattened-falls = flat-falls f.good f.few f.flat

  pub flattened : (pool : List ℕ) (c : ℕ) (x : Left)
      → rounds_step (writing pool) s l c false from n x ≡ rounds_step (writing pool) s l c way.headed way.from way.width x
  flattened pool c x = ap (λ g. g x) (flat-rounds f.good f.few (writing pool) then-nothing f.flat c)

  module _ (pool : List ℕ) (c : ℕ) (x : Left) where
    pub flat-sure : {judged : Bool} → Sure judged (rounds_step (writing pool) s l c false from n x) → Sure judged (rounds_step (writing pool) s l c way.headed way.from way.width x)
    flat-sure h = rw (← (flattened pool c x)) h

    pub flat-gives : {ws : List ℕ} {u : ℕ} {before : List ℕ} {r : Put} {out : List ℕ} → Gives (rounds_step (writing pool) s l c way.headed way.from way.width x) ws u before r out
        → Gives (rounds_step (writing pool) s l c false from n x) ws u before r out
    flat-gives h = rw (flattened pool c x) h

-- the whole shape is the root's node, once
pub root-once : (s : List ℕ) {l : Layout} → check s ≡ Good l → (at : ℕ) → at + 4 ≡ length s → (pool : List ℕ) (x : Left)
    → rounds_step (writing pool) s l 1 false at 1 x ≡ write (shape_of s l) pool x
unfolding node_step write
root-once s {l} good at place pool x =
    rounds-once (writing pool) s l then-nothing at x ∙ ap (λ i. write (node_shape s l i) pool x) (root-number s good at place)
    ∙ ap (λ t. write t pool x) (sym (good-table s l good).its_shape)

-- ---- the entry that heads a round

pub begins-bare : (ws : List ℕ) (at : ℕ) → Begins false ws at (At at)
unfolding under
begins-bare ws at = record { holds = λ pool n f. refl }

module _ (ws : List ℕ) (at : ℕ) where
  pub begins-end : room_of ws ≤ at → Begins true ws at Misfit
  unfolding under write_item write_entry
  begins-end z = record { holds = λ pool n f. ap (write_item pool struct n (λ a. f)) (entries_none ws at z) }

  -- and it has the words a and b
  module _ (left : at < room_of ws) {a b : ℕ} (ea : a ≡ first_at ws at) (eb : b ≡ second_at ws at) where
    struct-starts : (pool : List ℕ) (n : ℕ) (f : Left → Wrote) → Starts (under (writing pool) true n f (entries ws at)) (single (eqb a 0) b []) (f (entries ws (at + 1))) at
    unfolding under head_bytes
    struct-starts pool n f = item-starts struct n pool (λ a. f) ws at left ea eb

    pub begins-first : (a ≡ 0 → ⊥) → Begins true ws at Misfit
    begins-first z = record { holds = λ pool n f. (struct-starts pool n f).lacks (single-no _ _ [] (ne_eqb a 0 z)) }

    pub begins-second : (b ≡ 0 → ⊥) → Begins true ws at Misfit
    begins-second z = record { holds = λ pool n f. (struct-starts pool n f).lacks (single-second _ _ [] z) }

    pub begins-next : a ≡ 0 → b ≡ 0 → Begins true ws at (At (at + 1))
    begins-next y z = record { holds = λ pool n f. (struct-starts pool n f).has [] (single-yes _ _ [] (eq-eqb a 0 y) z) ∙ after_none (f (entries ws (at + 1))) }
