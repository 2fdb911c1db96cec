-- The key fields that a root has at two places, by its children's numbers.
-- Assumes nothing.
use mathlib.Core.Path.{◌≡◌, refl, sym, ap, ap₂, ◌∙◌, subst}
use mathlib.Core.Bool.{Bool, true, false, not}
use mathlib.Core.List.{List}
use Prim.Native.Nat.{ℕ, zero, suc, ◌+◌, ◌-◌, ◌*◌, ◌≤◌, ◌<◌}
use native.Mathlib.Nat.{add-zero}
use native.Mathlib.Omega.{arith}
use lib.ListN.{length}
use lib.Dec.{ltb, eqb}
use borrow.Author.Tests.{lt-ltb, eqb-true, eqb-false, eq-eqb, ne_eqb}
use Rattle.wire.specs.declared.Layout.{Layout}
use Rattle.wire.specs.Tests.{pick, both}
use Rattle.wire.specs.Shape.{unsigned, int, Kind, plain, struct, same_kind, Shape, node}
use Rattle.wire.specs.Table.{u16_at, kinds, is_kind, kind_of, Node, node_at, record_of, child_count, shapes_at, shape_of}
use Rattle.laws.specs.Range.{AreBytes}
use Rattle.laws.specs.Tables.{node_kind, node_first, node_count, node_shape, GoodTable}
use Rattle.laws.proofs.Splits.{by-test, not-both, both_yes, both_right}
use Rattle.laws.proofs.Numbering.{same_number}
use Rattle.laws.proofs.Tables.{next_place}
use Rattle.table.specs.Parts.{Falls}
use Rattle.table.proofs.Stretches.{node-falls}
use Rattle.desk.specs.Messages.{fields_of, is_of, has_field, store_kind, product_kind, Keyed, is_keyed}
use Rattle.messages.specs.declared.Fields.{Fields}
use Rattle.messages.specs.Found.{At, Unfit}
use Rattle.messages.specs.Fields.{field_count, first_place, second_place, keys_of, key_width, IsKey, Ordered, Finds, found, unfit}

-- ---- a field among children

module _ (k : Kind) (f : ℕ → Shape) (s : List ℕ) where
  field_at : (from n i : ℕ) → i < n → has_field k (shapes_at f s from n) i ≡ is_of k (f (u16_at s (from + 2 * i)))
  unfolding has_field shapes_at
  field_at from zero i h = absurd (omega arith)
  field_at from (suc n) zero h = rw (add-zero from)
  field_at from (suc n) (suc i) h = rw (next_place from i) (field_at (from + 2) n i (omega arith))

  field-none : (from n i : ℕ) → n ≤ i → has_field k (shapes_at f s from n) i ≡ false
  unfolding has_field shapes_at
  field-none from zero i h = refl
  field-none from (suc n) zero h = absurd (omega arith)
  field-none from (suc n) (suc i) h = field-none (from + 2) n i (omega arith)

module _ {s : List ℕ} {l : Layout} (g : GoodTable s l) where
  abbrev root : Node
  root = node_at s (record_of l l.root)

  abbrev from : ℕ
  from = node_first l l.root root

  abbrev width : ℕ
  width = node_count root

  abbrev number_at : ℕ → ℕ
  number_at at = (node_at s (record_of l (u16_at s at))).number

  root-shape : shape_of s l ≡ node (node_kind root) (shapes_at (node_shape s l) s from width)
  root-shape = g.its_shape ∙ (g.node-good l.root g.root_below).its_shape

  root-falls : Falls s from width l.root
  root-falls = node-falls g g.root_below

  pub its-falls : {i : ℕ} → i < width → Falls s (from + 2 * i) 1 l.nodes
  its-falls {i} h =
      record {
        inside = omega (arith, root-falls.inside);
        below = λ c b. let e : from + 2 * i + 2 * c ≡ from + 2 * i = omega arith in let f = root-falls.below i h in rw e (omega (arith, g.root_below));
      }

  kind-root : root.number ≡ 18 → node_kind root ≡ struct
  unfolding kind_of kinds
  kind-root e = ap kind_of e

  pub few-fields : AreBytes s → root.number ≡ 18 → width < 65536
  few-fields h e = rw (ap (λ k. child_count k root.b) (kind-root e)) (unfold child_count node_at u16_at in omega (arith, h (record_of l l.root + 4), h (record_of l l.root + 4 + 1)))

  module _ (number : ℕ) (ok : is_kind number ≡ true) (struct-root : root.number ≡ 18) where
    its-fields : fields_of (shape_of s l) ≡ shapes_at (node_shape s l) s from width
    its-fields = ap fields_of root-shape ∙ go (node_kind root) (kind-root struct-root)
      where
        go : (k : Kind) → k ≡ struct → fields_of (node k (shapes_at (node_shape s l) s from width)) ≡ shapes_at (node_shape s l) s from width
        go k e = unfold fields_of pick in rw (ap (λ k. same_kind k struct) e ∙ struct-itself)
          where
            struct-itself : same_kind struct struct ≡ true
            struct-itself = unfold kind_of kinds is_kind in (same_number 18 18 refl refl ∙ eq-eqb 18 18 refl)

    field-number : (i : ℕ) → i < width → has_field (kind_of number) (fields_of (shape_of s l)) i ≡ eqb (number_at (from + 2 * i)) number
    field-number i h = rw its-fields (field_at (kind_of number) (node_shape s l) s from width i h ∙ go)
      where
        below : u16_at s (from + 2 * i) < l.nodes
        below = omega (arith, root-falls.below i h, g.root_below)

        turned : (a b : ℕ) → eqb a b ≡ eqb b a
        turned a b = by-test (eqb b a) (λ e. eq-eqb a b (sym (eqb-true b a e)) ∙ sym e) (λ e. ne_eqb a b (λ q. eqb-false b a e (sym q)) ∙ sym e)

        go : is_of (kind_of number) (node_shape s l (u16_at s (from + 2 * i))) ≡ eqb (number_at (from + 2 * i)) number
        go =
            let n = g.node-good (u16_at s (from + 2 * i)) below in
            ap (is_of (kind_of number)) n.its_shape ∙ (unfold is_of in (same_number number (number_at (from + 2 * i)) ok n.is-kind ∙ turned number (number_at (from + 2 * i))))

    field-beyond : (i : ℕ) → width ≤ i → has_field (kind_of number) (fields_of (shape_of s l)) i ≡ false
    field-beyond i h = rw its-fields (field-none (kind_of number) (node_shape s l) s from width i h)

  -- ---- unfit

  module _ (store product : ℕ) where
    abbrev keys : Keyed
    keys = record { shape = shape_of s l; store = store; product = product }

    no_store : has_field store_kind (fields_of (shape_of s l)) store ≡ false → is_keyed keys ≡ false
    unfolding is_keyed both
    no_store e = rw e (by-test (ltb store 65536) (λ t. rw t) (λ t. rw t))

    no-product : has_field product_kind (fields_of (shape_of s l)) product ≡ false → is_keyed keys ≡ false
    unfolding is_keyed
    no-product e = by-test (is_keyed keys) (λ t. not-both (both_right _ _ (both_right _ _ t)) e) (λ t. t)

    pub no-struct : (root.number ≡ 18 → ⊥) → is_keyed keys ≡ false
    no-struct ne = no_store (ap (λ t. has_field store_kind (fields_of t) store) root-shape ∙ go)
      where
        other : same_kind (node_kind root) struct ≡ false
        other = unfold kind_of kinds is_kind in (same_number root.number 18 (g.node-good l.root g.root_below).is-kind refl ∙ ne_eqb root.number 18 ne)

        go : has_field store_kind (fields_of (node (node_kind root) (shapes_at (node_shape s l) s from width))) store ≡ false
        go = unfold fields_of pick has_field in rw other

    module _ (struct-root : root.number ≡ 18) where
      pub store-beyond : width ≤ store → is_keyed keys ≡ false
      unfolding kind_of kinds is_kind
      store-beyond h = no_store (field-beyond 7 refl struct-root store h)

      pub product-beyond : width ≤ product → is_keyed keys ≡ false
      unfolding kind_of kinds is_kind
      product-beyond h = no-product (field-beyond 8 refl struct-root product h)

      pub store_other : store < width → false ≡ eqb (number_at (from + 2 * store)) 7 → is_keyed keys ≡ false
      unfolding kind_of kinds is_kind
      store_other h e = no_store (field-number 7 refl struct-root store h ∙ sym e)

      pub product-other : product < width → false ≡ eqb (number_at (from + 2 * product)) 8 → is_keyed keys ≡ false
      unfolding kind_of kinds is_kind
      product-other h e = no-product (field-number 8 refl struct-root product h ∙ sym e)

      -- ---- fit

      module _ (few : width < 65536) (hs : store < width) (hp : product < width) (es : true ≡ eqb (number_at (from + 2 * store)) 7) (ep : true ≡ eqb (number_at (from + 2 * product)) 8) where
        pub not_same : store ≡ product → ⊥
        not_same e =
            let a = eqb-true (number_at (from + 2 * store)) 7 (sym es) in
            let b = eqb-true (number_at (from + 2 * product)) 8 (sym ep) in
            let q : number_at (from + 2 * store) ≡ number_at (from + 2 * product) = ap (λ i. number_at (from + 2 * i)) e in
            omega arith

        is-keyed : is_keyed keys ≡ true
        unfolding is_keyed kind_of kinds is_kind
        is-keyed =
            both_yes _ _ (both_yes _ _ (lt-ltb store 65536 (omega arith)) (field-number 7 refl struct-root store hs ∙ sym es))
            (both_yes _ _ (lt-ltb product 65536 (omega arith)) (field-number 8 refl struct-root product hp ∙ sym ep))

        key-at : (i number : ℕ) (narrow : Bool) → true ≡ eqb (number_at (from + 2 * i)) number → kind_of number ≡ plain (int unsigned (key_width narrow)) → IsKey s l (from + 2 * i) narrow
        key-at i number narrow e k = record { kind = ap kind_of (eqb-true (number_at (from + 2 * i)) number (sym e)) ∙ k }

        store-key : IsKey s l (from + 2 * store) true
        unfolding kind_of kinds key_width
        store-key = key-at store 7 true es refl

        product-key : IsKey s l (from + 2 * product) false
        unfolding kind_of kinds key_width
        product-key = key-at product 8 false ep refl

        pub its-keys : {f : Fields} → Ordered from width store product f → Finds s l store product (At f)
        its-keys {f} o = found (record { good = g; fits = ap is_keyed same ∙ is-keyed; root = its-root; falls = its-falls-all; first = first; second = second }) same
          where
            same : keys_of s l f ≡ keys
            same = unfold keys_of in rw (o.its-store, o.its-product)

            its-root : shape_of s l ≡ node struct (shapes_at (node_shape s l) s f.from (field_count f))
            its-root = root-shape ∙ ap (λ k. node k (shapes_at (node_shape s l) s from width)) (kind-root struct-root) ∙ ap₂ (λ at n. node struct (shapes_at (node_shape s l) s at n)) (sym o.start) (sym o.all)

            its-falls-all : Falls s f.from (field_count f) l.nodes
            its-falls-all = subst (λ n. Falls s f.from n l.nodes) (sym o.all) (subst (λ at. Falls s at width l.nodes) (sym o.start) (record { inside = root-falls.inside; below = λ c h. let b = root-falls.below c h in omega (arith, g.root_below) }))

            first : IsKey s l (f.from + 2 * f.before) f.ahead
            first = go f.ahead refl
              where
                at : (i : ℕ) (b : Bool) → f.before ≡ i → IsKey s l (from + 2 * i) b → IsKey s l (f.from + 2 * f.before) b
                at i b e k = let q : f.from + 2 * f.before ≡ from + 2 * i = omega (arith, o.start) in rw q k

                go : (b : Bool) → f.ahead ≡ b → IsKey s l (f.from + 2 * f.before) b
                go true e = at store true (unfold pick first_place in (rw e at o.its-store)) store-key
                go false e = at product false (unfold pick first_place in (rw e at o.its-product)) product-key

            second : IsKey s l (f.from + 2 * (f.before + 1) + 2 * f.between) (not f.ahead)
            second = go f.ahead refl
              where
                at : (i : ℕ) (b : Bool) → f.before + 1 + f.between ≡ i → IsKey s l (from + 2 * i) b → IsKey s l (f.from + 2 * (f.before + 1) + 2 * f.between) b
                at i b e k = let q : f.from + 2 * (f.before + 1) + 2 * f.between ≡ from + 2 * i = omega (arith, o.start) in rw q k

                go : (b : Bool) → f.ahead ≡ b → IsKey s l (f.from + 2 * (f.before + 1) + 2 * f.between) (not b)
                go true e = at product false (unfold pick second_place in (rw e at o.its-product)) product-key
                go false e = at store true (unfold pick second_place in (rw e at o.its-store)) store-key

-- ---- as the code goes

pub number-below : {s : List ℕ} {at n i : ℕ} → Falls s at 1 n → i ≡ u16_at s at → i < n
number-below {at} f e = rw e (rw (add-zero at) at (f.below 0 (omega arith)))

pub number_is : (s : List ℕ) (l : Layout) (at number : ℕ) {i k : ℕ} → i ≡ u16_at s at → k ≡ (node_at s (record_of l i)).number → eqb k number ≡ eqb (node_at s (record_of l (u16_at s at))).number number
number_is s l at number e q = ap (λ k. eqb k number) (q ∙ ap (λ i. (node_at s (record_of l i)).number) e)

pub store-ahead : {from width store product : ℕ} → (store < width) × (product < width) → store < product
    → Ordered from width store product (record { from = from; before = store; between = product - store - 1; behind = width - product - 1; ahead = true })
unfolding field_count first_place second_place pick
store-ahead h l = let a = h.0 in let b = h.1 in record { start = refl; all = omega arith; its-store = refl; its-product = omega arith }

pub store-behind : {from width store product : ℕ} → (store < width) × (product < width) → (store ≡ product → ⊥) → product ≤ store
    → Ordered from width store product (record { from = from; before = product; between = store - product - 1; behind = width - store - 1; ahead = false })
unfolding field_count first_place second_place pick
store-behind h ne l = let a = h.0 in let b = h.1 in record { start = refl; all = omega (arith, ne); its-store = omega (arith, ne); its-product = refl }

not-true : {b : Bool} → not b ≡ true → b ≡ false
not-true {b} = go b
  where
    go : (b : Bool) → not b ≡ true → b ≡ false
    go true q = sym q
    go false q = refl

not-false : {b : Bool} → not b ≡ false → b ≡ true
not-false {b} = go b
  where
    go : (b : Bool) → not b ≡ false → b ≡ true
    go true q = refl
    go false q = sym q

-- a root that is a struct, with so many fields whose numbers stand at an offset
pub record Root (s : List ℕ) (l : Layout) (at n : ℕ) : Type 0 where
  pub good : GoodTable s l
  pub number : (node_at s (record_of l l.root)).number ≡ 18
  pub start : at ≡ node_first l l.root (node_at s (record_of l l.root))
  pub many : n ≡ node_count (node_at s (record_of l l.root))

pub root_is : {s : List ℕ} {l : Layout} {at n number : ℕ} → GoodTable s l → number ≡ (node_at s (record_of l l.root)).number → number ≡ 18
    → at ≡ node_first l l.root (node_at s (record_of l l.root)) → n ≡ node_count (node_at s (record_of l l.root)) → Root s l at n
root_is g e q a b = record { good = g; number = sym e ∙ q; start = a; many = b }

module _ {s : List ℕ} {l : Layout} {at n : ℕ} (r : Root s l at n) where
  pub root-part : {i : ℕ} → i < n → Falls s (at + 2 * i) 1 l.nodes
  root-part {i} h = subst (λ at. Falls s (at + 2 * i) 1 l.nodes) (sym r.start) (its-falls r.good (omega (arith, r.many)))

  pub root-bound : {i : ℕ} → i < n → at + 2 * i + 2 ≤ length s
  root-bound h = omega (arith, (root-part h).inside)

  module _ (store product : ℕ) where
    pub no-store-there : n ≤ store → Finds s l store product Unfit
    no-store-there h = unfit (store-beyond r.good store product r.number (omega (arith, r.many)))

    pub no-product-there : n ≤ product → Finds s l store product Unfit
    no-product-there h = unfit (product-beyond r.good store product r.number (omega (arith, r.many)))

    is_at : (i number : ℕ) {b : Bool} → b ≡ eqb (node_at s (record_of l (u16_at s (at + 2 * i)))).number number
        → b ≡ eqb (node_at s (record_of l (u16_at s (node_first l l.root (node_at s (record_of l l.root)) + 2 * i)))).number number
    is_at i number e = e ∙ ap (λ at. eqb (node_at s (record_of l (u16_at s (at + 2 * i)))).number number) r.start

    pub other-store : {b : Bool} → store < n → b ≡ eqb (node_at s (record_of l (u16_at s (at + 2 * store)))).number 7 → b ≡ false → Finds s l store product Unfit
    other-store h e q = unfit (store_other r.good store product r.number (omega (arith, r.many)) (sym q ∙ is_at store 7 e))

    pub other-product : {b : Bool} → product < n → b ≡ eqb (node_at s (record_of l (u16_at s (at + 2 * product)))).number 8 → b ≡ false → Finds s l store product Unfit
    other-product h e q = unfit (product-other r.good store product r.number (omega (arith, r.many)) (sym q ∙ is_at product 8 e))

    module _ {a b : Bool} (few : AreBytes s) (hs : store < n) (hp : product < n)
        (ea : a ≡ eqb (node_at s (record_of l (u16_at s (at + 2 * store)))).number 7) (qa : a ≡ true) (eb : b ≡ eqb (node_at s (record_of l (u16_at s (at + 2 * product)))).number 8) (qb : b ≡ true) where
      pub two_fields : store ≡ product → ⊥
      two_fields = not_same r.good store product r.number (few-fields r.good few r.number) (omega (arith, r.many)) (omega (arith, r.many)) (sym qa ∙ is_at store 7 ea) (sym qb ∙ is_at product 8 eb)

      pub fields-there : {f : Fields} → Ordered at n store product f → Finds s l store product (At f)
      fields-there {f} o =
          its-keys r.good store product r.number (few-fields r.good few r.number) (omega (arith, r.many)) (omega (arith, r.many)) (sym qa ∙ is_at store 7 ea) (sym qb ∙ is_at product 8 eb)
          (record { start = o.start ∙ r.start; all = o.all ∙ r.many; its-store = o.its-store; its-product = o.its-product })
