-- Where a path leads, in the table's numbers: a node, and then its child at the path's next position.
-- Assumes nothing.
use mathlib.Core.Path.{◌≡◌, refl, sym, ap, ◌∙◌}
use mathlib.Core.Bool.{Bool, true, false}
use mathlib.Core.List.{List, [], ◌∷◌}
use mathlib.Core.Option.{none, some}
use Prim.Native.Nat.{ℕ, zero, suc, ◌+◌, ◌*◌, ◌<◌, ◌≤◌}
use native.Mathlib.Nat.{add-zero, not-suc-le-zero}
use native.Mathlib.Omega.{arith}
use lib.ListN.{length, get_or, drop}
use lib.Seq.{drop-length}
use Rattle.wire.specs.declared.Layout.{Layout}
use Rattle.wire.specs.Tests.{pick, given}
use Rattle.wire.specs.Shape.{Shape}
use Rattle.wire.specs.Table.{u16_at, Node, node_at, record_of, shapes_at, shape_of}
use Rattle.laws.specs.Tables.{node_kind, node_first, node_count, node_child, node_shape, node_shapes, GoodNode, GoodTable}
use Rattle.laws.proofs.Splits.{by-lt, by-test, not-both}
use Rattle.laws.proofs.Parts.{next}
use Rattle.laws.proofs.Tables.{next_place}
use Rattle.desk.specs.Path.{is_field, is_passed, leads, leads_at}
use Rattle.find.specs.Steps.{is_some, Inward}

-- ---- one step

module _ (f : ℕ → Shape) (s : List ℕ) (path : List ℕ) where
  child-leads : (from n a : ℕ) → a < n → leads_at (shapes_at f s from n) a path ≡ leads (f (u16_at s (from + 2 * a))) path
  unfolding leads_at shapes_at
  child-leads from zero a h = absurd (not-suc-le-zero h)
  child-leads from (suc n) zero h = rw (add-zero from)
  child-leads from (suc n) (suc a) h = rw (next_place from a) (child-leads (from + 2) n a (omega arith))

  child-lacks : (from n a : ℕ) → n ≤ a → leads_at (shapes_at f s from n) a path ≡ none
  unfolding leads_at shapes_at
  child-lacks from zero a h = refl
  child-lacks from (suc n) zero h = absurd (not-suc-le-zero h)
  child-lacks from (suc n) (suc a) h = child-lacks (from + 2) n a (omega arith)

module _ {s : List ℕ} {l : Layout} {i : ℕ} {r : Node} (g : GoodNode s l i r) where
  end-leads : is_some (leads (node_shape s l i) []) ≡ is_field (node_kind r)
  unfolding leads
  end-leads = rw g.its_shape (go (is_field (node_kind r)))
    where
      go : (b : Bool) → is_some (pick b (some (node_kind r)) none) ≡ b
      go true = unfold pick is_some in refl
      go false = unfold pick is_some in refl

  module _ (a : ℕ) (path : List ℕ) where
    node-leads : leads (node_shape s l i) (a ∷ path) ≡ given (is_passed (node_kind r)) (λ _. leads_at (node_shapes s l i r) a path) none
    unfolding leads
    node-leads = rw g.its_shape

    on-leads : is_passed (node_kind r) ≡ true → a < node_count r → leads (node_shape s l i) (a ∷ path) ≡ leads (node_shape s l (node_child s l i r a)) path
    on-leads p h = node-leads ∙ rw p (unfold given in child-leads (node_shape s l) s path (node_first l i r) (node_count r) a h)

    stop-leads : is_passed (node_kind r) ≡ false → is_some (leads (node_shape s l i) (a ∷ path)) ≡ false
    stop-leads p = rw (node-leads, p) (unfold given is_some in refl)

    wide-leads : node_count r ≤ a → is_some (leads (node_shape s l i) (a ∷ path)) ≡ false
    wide-leads h =
        by-test (is_passed (node_kind r))
        (λ p. rw (node-leads, p) (unfold given in rw (child-lacks (node_shape s l) s path (node_first l i r) (node_count r) a h) (unfold is_some in refl)))
        stop-leads

    -- a path that leads to an item goes through the node
    leads-inward : is_some (leads (node_shape s l i) (a ∷ path)) ≡ true → Inward r a
    leads-inward e =
        record {
          passed = by-test (is_passed (node_kind r)) (λ p. p) (λ p. not-both e (stop-leads p));
          there = by-lt a (node_count r) (λ h. h) (λ h. not-both e (wide-leads h));
        }

-- ---- the loop

-- the first i positions lead to a node, and the rest of the path from there as the path from the root
pub record Leading (s : List ℕ) (l : Layout) (path : List ℕ) (node i : ℕ) : Type 0 where
  pub below : node < l.nodes
  pub few : i ≤ length path
  pub same : leads (node_shape s l node) (drop i path) ≡ leads (shape_of s l) path

module _ {s : List ℕ} {l : Layout} (g : GoodTable s l) (path : List ℕ) where
  pub lead-start : Leading s l path l.root 0
  lead-start = record { below = g.root_below; few = omega arith; same = ap (λ t. leads t path) (sym g.its_shape) }

  module _ {node i : ℕ} (at : Leading s l path node i) where
    abbrev r : Node
    r = node_at s (record_of l node)

    here : GoodNode s l node (node_at s (record_of l node))
    here = g.node-good node at.below

    module _ (more : i < length path) where
      split : drop i path ≡ get_or path i 0 ∷ drop (i + 1) path
      split = next path i more

      refuses : is_some (leads (node_shape s l node) (get_or path i 0 ∷ drop (i + 1) path)) ≡ false → false ≡ is_some (leads (shape_of s l) path)
      refuses e = sym (ap is_some (sym at.same) ∙ ap (λ p. is_some (leads (node_shape s l node) p)) split ∙ e)

      pub lead-stop : is_passed (node_kind r) ≡ false → false ≡ is_some (leads (shape_of s l) path)
      lead-stop p = refuses (stop-leads here (get_or path i 0) (drop (i + 1) path) p)

      pub lead-wide : node_count r ≤ get_or path i 0 → false ≡ is_some (leads (shape_of s l) path)
      lead-wide h = refuses (wide-leads here (get_or path i 0) (drop (i + 1) path) h)

      -- the child is in front of the node
      pub lead-next : is_passed (node_kind r) ≡ true → get_or path i 0 < node_count r → {c : ℕ} → c ≡ node_child s l node r (get_or path i 0) → Leading s l path c (i + 1)
      lead-next p h e =
          record {
            below = omega (arith, here.children-below (get_or path i 0) h);
            few = omega arith;
            same = rw e (sym (on-leads here (get_or path i 0) (drop (i + 1) path) p h) ∙ ap (leads (node_shape s l node)) (sym split) ∙ at.same);
          }

      pub lead-inward : is_some (leads (shape_of s l) path) ≡ true → Inward r (get_or path i 0)
      lead-inward e = leads-inward here (get_or path i 0) (drop (i + 1) path) (ap (λ p. is_some (leads (node_shape s l node) p)) (sym split) ∙ ap is_some at.same ∙ e)

    module _ (done : length path ≤ i) where
      pub lead-rest : drop i path ≡ []
      lead-rest = let e : i ≡ length path = omega (arith, at.few) in rw e (drop-length path)

      pub lead-end : is_some (leads (shape_of s l) path) ≡ is_field (node_kind r)
      lead-end = ap is_some (sym at.same) ∙ ap (λ p. is_some (leads (node_shape s l node) p)) lead-rest ∙ end-leads here
