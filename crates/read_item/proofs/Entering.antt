-- An item of a node, by any sound way to read its own bytes: no room, refused, or taken with a stretch behind it.
-- Assumes nothing.
use mathlib.Core.Path.{◌≡◌, refl, sym, ap, ap₂, ◌∙◌}
use mathlib.Core.Bool.{true, false}
use mathlib.Core.List.{List}
use Prim.Native.Nat.{ℕ, ◌+◌, ◌-◌, ◌*◌, ◌≤◌, ◌<◌}
use native.Mathlib.Omega.{arith}
use lib.ListN.{length}
use Rattle.wire.specs.declared.Refusal.{Refusal}
use Rattle.wire.specs.declared.Refusal.TheVariants.{Room}
use Rattle.wire.specs.declared.Own.{Own}
use Rattle.wire.specs.Item.{Item}
use Rattle.wire.specs.Item.{Took, Refused}
use Rattle.wire.specs.declared.Layout.{Layout}
use Rattle.wire.specs.Walk.{each, following, is_known, times, along, walks}
use Rattle.wire.specs.Table.{kind_of, Node, node_at, record_of}
use Rattle.wire.specs.Reading.{Head, Spot, reached, refused, past, entry_of, enter, read_item, reading}
use Rattle.laws.specs.Bounds.{Fits, takes}
use Rattle.laws.specs.Heads.{Sound}
use Rattle.laws.specs.KindRanges.{IsInner}
use Rattle.laws.specs.Tables.{node_kind, node_first, node_count, node_shape, node_shapes, GoodTable}
use Rattle.laws.proofs.Runs.{then-nothing}
use Rattle.laws.proofs.Children.{walk-node, read_none}
use Rattle.laws.proofs.EachKind.{outer-kinds}
use Rattle.laws.proofs.Numbering.{kind-below}
use Rattle.table.specs.declared.Stretch.{Stretch}
use Rattle.table.specs.Parts.{Falls, followed, node_step, rounds_step}
use Rattle.table.proofs.Stretches.{node-falls, falls-followed, along-followed}
use Rattle.entry.specs.Words.{with_entry}
use Rattle.read_item.specs.Entered.{Entered}
use Rattle.read_item.specs.Entered.{On, Refused as Refusing}
use Rattle.read_item.specs.Lay.{Left, lay}
use Rattle.read_item.specs.Steps.{spot, own_of, after_of, Enters, goes, stops}
use Rattle.read_item.proofs.Laying.{left, laid_none, lay-nothing, lay-entry, lay-refused}

-- ---- what the code finds

-- the number of a node's kind, and how many children it has
pub record Found (r : Node) (number n : ℕ) : Type 0 where
  pub kind : number ≡ r.number
  pub count : n ≡ node_count r

module _ {r : Node} {k n : ℕ} (f : Found r k n) (h : Head) (bs : List ℕ) (p : ℕ) {got : Item} (found : got ≡ h (kind_of k) n p bs) where
  own_is : own_of h r (spot bs p) ≡ got
  unfolding own_of
  own_is = sym (found ∙ ap₂ (λ (k n : ℕ). h (kind_of k) n p bs) f.kind f.count)

  module _ {l : Layout} {i m : ℕ} {s : List ℕ} where
    pub enters-same : {e : Refusal} {a : Entered} → got ≡ Refused e → a ≡ Refusing e → Enters l i r p m s (own_of h r (spot bs p)) a s
    enters-same q w = rw (own_is ∙ q, w) stops

    pub enters_on : {own : Own} (from : ℕ) {to : Stretch} {t : List ℕ} → got ≡ Took own → from ≡ node_first l i r → to ≡ followed (following (kind_of k) own.first) from n
        → t ≡ with_entry own.first own.second p m s → Enters l i r p m s (own_of h r (spot bs p)) (On to own.used) t
    enters_on {own} from {to} q first follows put =
        let after : to ≡ after_of l i r own.first = unfold after_of in (follows ∙ rw (first, f.kind, f.count)) in
        rw (own_is ∙ q, after, put) goes

module _ {s : List ℕ} {l : Layout} {i : ℕ} (g : GoodTable s l) (below : i < l.nodes) where
  pub number_small : (k : ℕ) → k ≡ (node_at s (record_of l i)).number → k < 32
  number_small k e = omega (arith, kind-below (node_at s (record_of l i)).number (g.node-good i below).is-kind)

  pub children-inside : {n from : ℕ} → n ≡ node_count (node_at s (record_of l i)) → from ≡ node_first l i (node_at s (record_of l i)) → from + 2 * n ≤ length s
  children-inside count first = rw (first, count) (node-falls g below).inside

-- ---- what it leaves

-- An item of the node i was taken at a spot: its own bytes are there, the nodes that follow fall, and what they leave is the whole.
pub record Goes (h : Head) (room : ℕ) (whole : Left) (s : List ℕ) (l : Layout) (i : ℕ) (x : Spot) (m : ℕ) (to : Stretch) (used : ℕ) (store : List ℕ) : Type 0 where
  pub inside : used ≤ length x.bytes
  pub falls : Falls s to.from to.width i
  pub rest : whole ≡ lay room (rounds_step (reading h) s l to.rounds false to.from to.width (past used x)) (m + 1) store

module _ (h : Head) (room : ℕ) {s : List ℕ} {l : Layout} {i : ℕ} (g : GoodTable s l) (below : i < l.nodes) (x : Spot) (m : ℕ) (store : List ℕ) where
  abbrev node : Node
  node = node_at s (record_of l i)

  pub item-full : room ≤ m → lay room (node_step (reading h) s l i x) m store ≡ left (refused Room x.place) m store
  unfolding lay node_step
  item-full full =
      let none : room - m ≡ 0 = omega arith in
      rw (none, read_none h (node_shape s l i) x) (laid_none (refused Room x.place) m store)

  module _ (some : m < room) where
    entered : {own : Item} → own_of h node x ≡ own
        → lay room (node_step (reading h) s l i x) m store ≡ lay room (enter own (λ a. along (reading h) (following (node_kind node) a) (walks (reading h) (node_shapes s l i node))) x) m store
    unfolding own_of node_step read_item
    entered q = rw (walk-node (reading h) (g.node-good i below) x, q)

    pub item_refused : {e : Refusal} → own_of h node x ≡ Refused e → lay room (node_step (reading h) s l i x) m store ≡ left (refused e x.place) m store
    unfolding enter
    item_refused {e} q = entered q ∙ lay-refused room m store e x.place some

    took : {own : Own} → own_of h node x ≡ Took own → lay room (node_step (reading h) s l i x) m store
        ≡ lay room (along (reading h) (following (node_kind node) own.first) (walks (reading h) (node_shapes s l i node)) (past own.used x)) (m + 1) (with_entry own.first own.second x.place m store)
    unfolding enter with_entry
    took {own} q = entered q ∙ lay-entry room m store (entry_of own x) _ some

    pub item-goes : Sound h → {own : Own} → own_of h node x ≡ Took own
        → Goes h room (lay room (node_step (reading h) s l i x) m store) s l i x m (after_of l i node own.first) own.used (with_entry own.first own.second x.place m store)
    unfolding after_of
    item-goes sound {own} q =
        let taken : h (node_kind node) (node_count node) x.place x.bytes ≡ Took own = unfold own_of in q in
        let knows : is_known (following (node_kind node) own.first) (node_count node) ≡ true = sound.knows (node_kind node) (node_count node) x.place x.bytes taken in
        record {
          inside = ends (rw taken at (sound.inside (node_kind node) (node_count node) x.place x.bytes));
          falls = falls-followed (node-falls g below) (following (node_kind node) own.first) knows;
          rest = took q ∙ ap (λ r. lay room r (m + 1) (with_entry own.first own.second x.place m store)) (along-followed (reading h) s l then-nothing _ _ _ knows (past own.used x));
        }
      where
        ends : Fits x.bytes (Took own) → own.used ≤ length x.bytes
        ends (takes l) = l

    -- nothing follows a leaf
    pub item-alone : {own : Own} → (IsInner node.number → ⊥) → own_of h node x ≡ Took own
        → lay room (node_step (reading h) s l i x) m store ≡ left (reached (past own.used x)) (m + 1) (with_entry own.first own.second x.place m store)
    unfolding along times
    item-alone {own} outer q =
        let none : following (node_kind node) own.first ≡ each 0 = unfold following in outer-kinds (λ q. following q own.first ≡ each 0) (λ x. refl) (λ c. refl) node.number outer in
        took q ∙ rw none (lay-nothing room (past own.used x) (m + 1) (with_entry own.first own.second x.place m store))
