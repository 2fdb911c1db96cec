-- What a step of the reading does to what the open items leave to be read.
-- Assumes nothing.
use mathlib.Core.Path.{◌≡◌, refl, sym, ap, ◌∙◌}
use mathlib.Core.Bool.{false}
use mathlib.Core.List.{List, ◌∷◌}
use Prim.Native.Nat.{ℕ, zero, suc, ◌+◌, ◌-◌, ◌*◌, ◌<◌, ◌≤◌}
use native.Mathlib.Omega.{arith}
use Rattle.wire.specs.declared.Layout.{Layout}
use Rattle.wire.specs.Walk.{times}
use Rattle.wire.specs.Table.{u16_at}
use Rattle.wire.specs.Reading.{Head, Spot, Run, run_after, read_on, read_nothing, read_then, reading}
use Rattle.laws.proofs.Runs.{then-then}
use Rattle.table.specs.Parts.{node_step, row_step, rounds_step, under}
use Rattle.table.proofs.Stretches.{row-end, row_first, rounds-end, rounds-first}
use Rattle.read_item.specs.Lay.{lay}
use Rattle.read_item.proofs.Laying.{lay-then}
use Rattle.open.specs.declared.Held.{Held}
use Rattle.open.specs.Items.{leaving, unread, pending}

-- ---- steps and what is read after them

-- a step in the place of another
then-as : (f e g : Spot → Run) (x : Spot) → f x ≡ e x → read_then f g x ≡ read_then e g x
unfolding read_then
then-as f e g x q = rw q

-- in the place of nothing
pub then-none : (f g : Spot → Run) (x : Spot) → f x ≡ read_nothing x → read_then f g x ≡ g x
unfolding read_then read_nothing read_on run_after
then-none f g x q = rw q

-- a step in the place of another that is laid alike
pub lay-alike : (room : ℕ) (f e g : Spot → Run) (x y : Spot) (m k : ℕ) (s t : List ℕ) → lay room (f x) m s ≡ lay room (e y) k t
    → lay room (read_then f g x) m s ≡ lay room (read_then e g y) k t
lay-alike room f e g x y m k s t same = lay-then room f g x m s ∙ rw same (sym (lay-then room e g y k t))

module _ (h : Head) (s : List ℕ) (l : Layout) where
  -- a row's first number, and then the others
  pub row-then : (from n : ℕ) (g : Spot → Run) (x : Spot) → 0 < n → (i : ℕ) → i ≡ u16_at s from
      → read_then (row_step (reading h) s l from n) g x ≡ read_then (node_step (reading h) s l i) (read_then (row_step (reading h) s l (from + 2) (n - 1)) g) x
  row-then from n g x some i e =
      then-as _ (read_then (node_step (reading h) s l i) (row_step (reading h) s l (from + 2) (n - 1))) g x (row_first (reading h) s l from n x some i e)
      ∙ then-then (node_step (reading h) s l i) (row_step (reading h) s l (from + 2) (n - 1)) g x

  -- rounds of no numbers
  pub rounds-empty : (c from n : ℕ) → n ≤ 0 → (x : Spot) → rounds_step (reading h) s l c false from n x ≡ read_nothing x
  unfolding rounds_step under times
  rounds-empty zero from n e x = refl
  rounds-empty (suc c) from n e x = then-none (row_step (reading h) s l from n) _ x (row-end (reading h) s l from n x e) ∙ rounds-empty c from n e x

-- ---- the last of the open items

module _ (h : Head) (s : List ℕ) (l : Layout) (f : Held) (fs : List Held) (x : Spot) where
  abbrev rounds : ℕ → Spot → Run
  rounds c = rounds_step (reading h) s l c f.headed f.from f.width

  -- a round is over
  pub pending-over : f.left ≤ 0 → pending h s l (f ∷ fs) x ≡ read_then (rounds f.rounds) (pending h s l fs) x
  unfolding pending
  pending-over e = then-none (row_step (reading h) s l (unread f) f.left) (read_then (rounds f.rounds) (pending h s l fs)) x (row-end (reading h) s l (unread f) f.left x e)

  -- an item whose children are done is closed
  pub pending-close : f.left ≤ 0 → f.rounds ≤ 0 → pending h s l (f ∷ fs) x ≡ pending h s l fs x
  pending-close e z = pending-over e ∙ then-none (rounds f.rounds) (pending h s l fs) x (rounds-end (reading h) s l f.rounds f.headed f.from f.width x z)

  -- the next round begins, and is one of all its numbers
  pub pending-round : f.left ≤ 0 → 0 < f.rounds
      → pending h s l (f ∷ fs) x ≡ read_then (under (reading h) f.headed f.width (row_step (reading h) s l f.from f.width)) (read_then (rounds (f.rounds - 1)) (pending h s l fs)) x
  pending-round e z =
      let first = under (reading h) f.headed f.width (row_step (reading h) s l f.from f.width) in
      pending-over e
      ∙ then-as (rounds f.rounds) (read_then first (rounds (f.rounds - 1))) (pending h s l fs) x (rounds-first (reading h) s l f.rounds f.headed f.from f.width x z)
      ∙ then-then first (rounds (f.rounds - 1)) (pending h s l fs) x

  pub begun-pending : (c : ℕ) → read_then (row_step (reading h) s l f.from f.width) (read_then (rounds c) (pending h s l fs)) x ≡ pending h s l (leaving f f.width c ∷ fs) x
  unfolding pending
  begun-pending c = let e : f.from + 2 * (f.width - f.width) ≡ f.from = omega arith in rw e

  -- the next child, and then the others
  pub pending-child : 0 < f.left → f.left ≤ f.width → (i : ℕ) → i ≡ u16_at s (unread f) → pending h s l (f ∷ fs) x ≡ read_then (node_step (reading h) s l i) (pending h s l (leaving f (f.left - 1) f.rounds ∷ fs)) x
  unfolding pending
  pending-child e w i q =
      let next : unread f + 2 ≡ f.from + 2 * (f.width - (f.left - 1)) = omega arith in
      let after = read_then (rounds f.rounds) (pending h s l fs) in
      row-then h s l (unread f) f.left after x e i q
      ∙ ap (λ (k : ℕ). read_then (node_step (reading h) s l i) (read_then (row_step (reading h) s l k (f.left - 1)) after) x) next
