-- Chains of children bound how many items are open: each is opened above one whose children's chains are longer than its own children's.
-- Assumes nothing.
use mathlib.Core.Path.{◌≡◌}
use mathlib.Core.Bool.{true}
use mathlib.Core.List.{List, ◌∷◌}
use Prim.Native.Nat.{ℕ, suc, ◌+◌, ◌-◌, ◌*◌, ◌<◌, ◌≤◌}
use native.Mathlib.Nat.{add-zero}
use native.Mathlib.Omega.{arith}
use lib.ListN.{length}
use borrow.Author.Tests.{ltb-true}
use Rattle.wire.specs.declared.Layout.{Layout}
use Rattle.wire.specs.Shape.{Shape, node, depth}
use Rattle.wire.specs.Walk.{Follow, each, only, is_known}
use Rattle.wire.specs.Table.{u16_at, node_at, record_of}
use Rattle.laws.specs.Tables.{node_first, node_count, node_shape, GoodTable}
use Rattle.laws.proofs.Tables.{child-shorter}
use Rattle.table.specs.declared.Way.{Way}
use Rattle.table.specs.Parts.{Falls, Flat, bare, alone, fields_of, followed}
use Rattle.open.specs.declared.Held.{Held}
use Rattle.open.specs.Items.{leaving, Sinks, Chain, bottom, over}

-- ---- children's chains

pub depth-some : (t : Shape) → 0 < depth t
unfolding depth
depth-some (node k ts) = omega arith

module _ {s : List ℕ} {l : Layout} where
  module _ {from n most : ℕ} (d : Sinks s l from n most) where
    -- some child's chain is one
    pub sinks-some : 0 < n → 0 < most
    sinks-some h = omega (arith, d.at 0 h, depth-some (node_shape s l (u16_at s (from + 2 * 0))))

    pub sinks-followed : (way : Follow) → is_known way n ≡ true → Sinks s l (followed way from n).from (followed way from n).width most
    unfolding followed is_known
    sinks-followed (each c) k = d
    sinks-followed (only v) k = record { at = λ c b. let e : from + 2 * v + 2 * c ≡ from + 2 * v = omega arith in rw e (d.at v (ltb-true v n k)) }

  module _ (g : GoodTable s l) where
    pub node-sinks : {i : ℕ} → i < l.nodes → {most : ℕ} → depth (node_shape s l i) ≤ suc most → Sinks s l (node_first l i (node_at s (record_of l i))) (node_count (node_at s (record_of l i))) most
    node-sinks {i} b h = record { at = λ c k. let short = child-shorter g b c k in omega arith }

    pub flat-sinks : {i from n most : ℕ} {way : Way} → i ≤ l.nodes → Sinks s l from n most → Flat s l i from n way → Sinks s l way.from way.width most
    unfolding fields_of
    flat-sinks few d (bare f e) = rw e d
    flat-sinks {from = from} {most = most} few d (alone {c} one is low k e) =
        let short : depth (node_shape s l c) ≤ most = rw is (rw (add-zero from) at (d.at 0 (omega arith))) in
        rw e (node-sinks {i = c} (omega arith) (omega arith))

  -- ---- open items

  -- 256 always do: above an item's chain of k there are at most 257 less k
  pub chain-few : {k : ℕ} {fs : List Held} → Chain s l k fs → k + length fs ≤ 257
  chain-few (bottom h) = omega arith
  chain-few (over h f d w c) = let few = chain-few c in omega arith

  pub chain-lower : {j k : ℕ} {fs : List Held} → j ≤ k → Chain s l k fs → Chain s l j fs
  chain-lower {j} h (bottom b) = bottom {k = j} (omega arith)
  chain-lower {j} h (over {most = most} b f d w c) = let less : j ≤ most = omega arith in over less f d w c

  module _ {k : ℕ} {f : Held} {fs : List Held} where
    pub chain-falls : Chain s l k (f ∷ fs) → Falls s f.from f.width l.nodes
    chain-falls (over h g d w c) = g

    pub chain_left : Chain s l k (f ∷ fs) → f.left ≤ f.width
    chain_left (over h g d w c) = w

    -- the item is closed
    pub chain-closed : Chain s l k (f ∷ fs) → Chain s l k fs
    chain-closed (over {most} h g d w c) = let less : k ≤ suc most = omega arith in chain-lower less c

    -- it has other numbers and rounds left
    pub chain-leaving : Chain s l k (f ∷ fs) → (left rounds : ℕ) → left ≤ f.width → Chain s l k (leaving f left rounds ∷ fs)
    chain-leaving (over h g d w c) left rounds b = over h g d b c

    pub chain-fewer : Chain s l k (f ∷ fs) → {left : ℕ} → left ≤ f.left → Chain s l k (leaving f left f.rounds ∷ fs)
    chain-fewer chain {left} b = chain-leaving chain left f.rounds (omega (arith, chain_left chain))

    -- a child of it may be opened above it
    pub chain-child : Chain s l k (f ∷ fs) → (c : ℕ) → c < f.width → Chain s l (depth (node_shape s l (u16_at s (f.from + 2 * c)))) (f ∷ fs)
    chain-child (over h g d w c) j b = over (d.at j b) g d w c
