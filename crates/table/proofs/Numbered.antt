-- What a kind's number tells of a record, by the ranges of the code's matches.
-- Assumes nothing.
use mathlib.Core.Path.{◌≡◌, refl, ◌∙◌}
use mathlib.Core.Bool.{Bool, true, false}
use mathlib.Core.List.{List}
use Prim.Native.Nat.{ℕ, ◌+◌, ◌*◌, ◌<◌, ◌≤◌}
use native.Mathlib.Omega.{arith}
use lib.Dec.{eqb, ltb, leb}
use borrow.Author.Tests.{eq-eqb, ne_eqb, le-leb, lt-leb, lt-ltb, ltb-true}
use Rattle.wire.specs.declared.Layout.{Layout}
use Rattle.wire.specs.Tests.{pick, given, both}
use Rattle.wire.specs.Shape.{Plain, Content, Kind, plain, pooled}
use Rattle.wire.specs.Walk.{following, is_known}
use Rattle.wire.specs.Table.{u16_at, kinds, is_kind, kind_of, record_of, first_child, child_count, below, good_places, good_kind}
use Rattle.laws.proofs.Splits.{by-lt, by-eq}
use Rattle.laws.proofs.EachKind.{end, ◌&◌, in-kinds, low-kinds, high-kinds}
use Rattle.table.specs.declared.Stretch.{Stretch}
use Rattle.table.specs.Parts.{listed, followed}

-- ---- a record

-- a struct without fields
no_fields_lem : (s : List ℕ) (l : Layout) (i a b : ℕ) → b ≡ 0 → eqb a 0 ≡ both (pick (eqb b 0) (eqb a 0) true) (listed s l i a b)
unfolding pick both listed below
no_fields_lem s l i a b e =
    by-eq a 0 (λ f. rw (e, f, le-leb 0 l.places (omega arith))) (λ f. rw (eq-eqb b 0 e, ne_eqb a 0 f))

given-true : (t : Bool) → t ≡ given t (λ _. true) false
unfolding given
given-true true = refl
given-true false = refl

given_both : (x y z : Bool) → both x (both y z) ≡ given (both x y) (λ _. z) false
unfolding given both
given_both true true z = refl
given_both true false z = refl
given_both false y z = refl

module _ (s : List ℕ) (l : Layout) (i k a b : ℕ) where
  abbrev Kinded : Bool → Type 0
  Kinded t = t ≡ both (is_kind k) (good_kind s l i (kind_of k) a b)

  kind : {t : Bool} → k < 32 → t ≡ good_kind s l i (kind_of k) a b → Kinded t
  unfolding is_kind kinds both
  kind h e = rw (lt-ltb k 32 h) e

  abbrev Alone : Kind → Type 0
  Alone q = both (eqb a 0) (eqb b 0) ≡ good_kind s l i q a b

  alone-plain : (x : Plain) → Alone (plain x)
  unfolding good_kind good_places child_count below
  alone-plain x = given-true _

  alone-pooled : (x : Content) → Alone (pooled x)
  unfolding good_kind good_places child_count below
  alone-pooled x = given-true _

  pub kinded-low : k < 15 → Kinded (both (eqb a 0) (eqb b 0))
  kinded-low h = kind (omega arith) (low-kinds Alone alone-plain alone-pooled k h)

  pub kinded-high : 19 < k → k < 32 → Kinded (both (eqb a 0) (eqb b 0))
  kinded-high g h = kind h (high-kinds Alone alone-plain alone-pooled k g)

  kinded-fields : k ≡ 18 → Kinded (both (pick (eqb b 0) (eqb a 0) true) (listed s l i a b))
  unfolding good_kind good_places first_child child_count listed kind_of kinds
  kinded-fields e = kind (omega arith) (rw e (given_both _ _ _))

  kinded-variants : k ≡ 19 → Kinded (both (leb 1 b) (listed s l i a b))
  unfolding good_kind good_places first_child child_count listed kind_of kinds
  kinded-variants e = kind (omega arith) (rw e (given_both _ _ _))

  -- where there are children, the list decides; a struct alone may have none
  pub kinded-list : 17 < k → k < 20 → 1 ≤ b → Kinded (listed s l i a b)
  unfolding pick both
  kinded-list g h some =
      by-eq k 18
      (λ e. rw (ne_eqb b 0 (λ none. omega arith)) at (kinded-fields e))
      (λ e. rw (le-leb 1 b some) at (kinded-variants (omega arith)))

  pub kinded-bare : k ≡ 18 → b ≡ 0 → Kinded (eqb a 0)
  kinded-bare e f = no_fields_lem s l i a b f ∙ kinded-fields e

  pub no-variants : k ≡ 19 → b ≡ 0 → Kinded false
  unfolding both
  no-variants e f = rw (lt-leb 1 b (omega arith)) at (kinded-variants e)

  -- a and b are themselves the numbers of an option's, a sequence's and a map's children
  module _ (ra : a ≡ u16_at s (record_of l i + 2)) (rb : b ≡ u16_at s (record_of l i + 4)) where
    one : both (eqb b 0) (ltb a i) ≡ given (eqb b 0) (λ _. below s i (record_of l i + 2) 1) false
    unfolding below given both
    one = rw ra (go (eqb b 0) _)
      where
        go : (x y : Bool) → both x y ≡ given x (λ _. both y true) false
        go true true = refl
        go true false = refl
        go false y = refl

    kinded-one : 14 < k → k < 17 → Kinded (both (eqb b 0) (ltb a i))
    unfolding good_kind good_places first_child child_count kinds
    kinded-one g h =
        kind (omega arith) (in-kinds (λ q. both (eqb b 0) (ltb a i) ≡ good_kind s l i q a b) 15 2 refl (one & one & end) k g (omega arith))

    kinded-map : k ≡ 17 → Kinded (both (ltb a i) (ltb b i))
    unfolding good_kind good_places first_child child_count below given both kind_of kinds
    kinded-map e =
        let next : record_of l i + 4 ≡ record_of l i + 2 + 2 = omega arith in
        kind (omega arith) (rw (e, ra, rb, next) (go (ltb (u16_at s (record_of l i + 2)) i) (ltb (u16_at s (record_of l i + 2 + 2)) i)))
      where
        go : (x y : Bool) → both x y ≡ both x (both y true)
        go true true = refl
        go true false = refl
        go false y = refl

    pub kinded-own : 14 < k → k < 18 → Kinded (pick (eqb k 17) (both (ltb a i) (ltb b i)) (both (eqb b 0) (ltb a i)))
    unfolding pick
    kinded-own g h =
        by-eq k 17 (λ e. rw (eq-eqb k 17 e) (kinded-map e)) (λ e. rw (ne_eqb k 17 e) (kinded-one g (omega arith)))

-- ---- the children

module _ (l : Layout) (i a k : ℕ) where
  pub from-record : k < 18 → record_of l i + 2 ≡ first_child l i (kind_of k) a
  unfolding first_child kinds
  from-record h =
      by-lt k 15 (λ g. low-kinds (λ q. record_of l i + 2 ≡ first_child l i q a) (λ x. refl) (λ c. refl) k g)
      (λ g. in-kinds (λ q. record_of l i + 2 ≡ first_child l i q a) 15 3 refl (refl & refl & refl & end) k g h)

  pub from_list : 17 < k → k < 20 → l.children + 2 * a ≡ first_child l i (kind_of k) a
  unfolding first_child kinds
  from_list g h = in-kinds (λ q. l.children + 2 * a ≡ first_child l i q a) 18 2 refl (refl & refl & end) k g h

  pub from-high : 19 < k → record_of l i + 2 ≡ first_child l i (kind_of k) a
  unfolding first_child
  from-high h = high-kinds (λ q. record_of l i + 2 ≡ first_child l i q a) (λ x. refl) (λ c. refl) k h

module _ (b k : ℕ) where
  pub count_low : k < 15 → 0 ≡ child_count (kind_of k) b
  unfolding child_count
  count_low h = low-kinds (λ q. 0 ≡ child_count q b) (λ x. refl) (λ c. refl) k h

  pub count-one : 14 < k → k < 17 → 1 ≡ child_count (kind_of k) b
  unfolding child_count kinds
  count-one g h = in-kinds (λ q. 1 ≡ child_count q b) 15 2 refl (refl & refl & end) k g h

  pub count_map : k ≡ 17 → 2 ≡ child_count (kind_of k) b
  unfolding child_count kind_of kinds
  count_map e = rw e

  pub count-list : 17 < k → k < 20 → b ≡ child_count (kind_of k) b
  unfolding child_count kinds
  count-list g h = in-kinds (λ q. b ≡ child_count q b) 18 2 refl (refl & refl & end) k g h

  pub count-high : 19 < k → 0 ≡ child_count (kind_of k) b
  unfolding child_count
  count-high h = high-kinds (λ q. 0 ≡ child_count q b) (λ x. refl) (λ c. refl) k h

-- ---- what follows

module _ (a from n k : ℕ) where
  abbrev Follows : Stretch → Type 0
  Follows t = t ≡ followed (following (kind_of k) a) from n

  pub to_low : k < 15 → Follows (record { rounds = 0; from = from; width = n })
  unfolding followed following
  to_low h = low-kinds (λ q. record { rounds = 0; from = from; width = n } ≡ followed (following q a) from n) (λ x. refl) (λ c. refl) k h

  pub to-count : 14 < k → k < 18 → Follows (record { rounds = a; from = from; width = n })
  unfolding followed following kinds
  to-count g h = in-kinds (λ q. record { rounds = a; from = from; width = n } ≡ followed (following q a) from n) 15 3 refl (refl & refl & refl & end) k g h

  pub to_fields : k ≡ 18 → Follows (record { rounds = 1; from = from; width = n })
  unfolding followed following kind_of kinds
  to_fields e = rw e

  pub to-variant : k ≡ 19 → Follows (record { rounds = 1; from = from + 2 * a; width = 1 })
  unfolding followed following kind_of kinds
  to-variant e = rw e

  pub to_high : 19 < k → Follows (record { rounds = 0; from = from; width = n })
  unfolding followed following
  to_high h = high-kinds (λ q. record { rounds = 0; from = from; width = n } ≡ followed (following q a) from n) (λ x. refl) (λ c. refl) k h

  -- a variant that is known is among the children
  pub known-variant : k ≡ 19 → is_known (following (kind_of k) a) n ≡ true → a < n
  unfolding is_known following kind_of kinds
  known-variant e h = ltb-true a n (rw e at h)
