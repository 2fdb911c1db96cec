-- The check's tests, by what the code finds: of a node, of its children's numbers, of the nodes one after the other, and of the whole.
-- Assumes nothing.
use mathlib.Core.Path.{◌≡◌, refl, sym, ap, ◌∙◌}
use mathlib.Core.Bool.{Bool, true, false}
use mathlib.Core.List.{List}
use Prim.Native.Nat.{ℕ, suc, max, ◌+◌, ◌-◌, ◌<◌, ◌≤◌}
use native.Mathlib.Omega.{arith}
use lib.Dec.{eqb, ltb}
use lib.ListN.{length, get_or}
use borrow.Author.Tests.{eqb-true, ltb-true, eq-eqb, ne_eqb, le-leb, lt-leb, lt-ltb, le-ltb}
use Rattle.wire.specs.declared.Refusal.TheVariants.{Trailer, Record}
use Rattle.wire.specs.declared.Ending.{Ending}
use Rattle.wire.specs.declared.Layout.{Layout}
use Rattle.wire.specs.Checked.{Good, Bad}
use Rattle.wire.specs.Tests.{pick, given, both}
use Rattle.wire.specs.Table.{u16_at, u32_at, TableForm, first, second, size_of, mark_of, table_form, ending_at, layout_at, good_trailer, kinds, is_kind, kind_of, node_at, record_of, below, good_kind, good_node, chain_of, short_chain, good_in, check_from, check_at, check_as, check}
use Rattle.laws.proofs.Splits.{by-lt, by_le, by-eq, both_left, both_right}
use Rattle.table.specs.Parts.{bad_at}
use Rattle.table.proofs.Numbered.{kinded-low}

-- ---- a node

-- two bytes as one number: the first alone, or no kind's
low-pair : (s : List ℕ) (at : ℕ) → u16_at s at < 256 → (get_or s (at + 1) 0 ≡ 0) × (u16_at s at ≡ get_or s at 0)
unfolding u16_at
low-pair s at h = (omega arith, omega arith)

high-pair : (s : List ℕ) (at : ℕ) → 31 < u16_at s at → get_or s (at + 1) 0 ≡ 0 → 32 ≤ get_or s at 0
unfolding u16_at
high-pair s at h e = omega (arith, e)

-- a record that is read: the kind's number and the zero byte as one number, and then a and b
module _ (s : List ℕ) (l : Layout) (i at head : ℕ) (here : at ≡ record_of l i) (rh : head ≡ u16_at s at) where
  pub node-odd : 31 < head → false ≡ good_node s l i (node_at s (record_of l i))
  unfolding good_node node_at is_kind kinds both
  node-odd h =
      rw (← here)
      (by-eq (get_or s (at + 1) 0) 0
      (λ e. rw (le-ltb (get_or s at 0) 32 (high-pair s at (rw (← rh) h) e)))
      (λ e. rw (ne_eqb (get_or s (at + 1) 0) 0 e) (go (is_kind (get_or s at 0)) _)))
    where
      go : (x y : Bool) → false ≡ both (both x false) y
      go true y = refl
      go false y = refl

  pub node-even : (a b : ℕ) → a ≡ u16_at s (at + 2) → b ≡ u16_at s (at + 4) → head < 256
      → both (is_kind head) (good_kind s l i (kind_of head) a b) ≡ good_node s l i (node_at s (record_of l i))
  unfolding good_node node_at both
  node-even a b ra rb h =
      let p = low-pair s at (rw (← rh) h) in
      rw (← here, ra, rb, rh, p.1, p.0) (go (is_kind (get_or s at 0)) _)
    where
      go : (x y : Bool) → both x y ≡ both (both x true) y
      go true y = refl
      go false y = refl

-- a leaf, whose record is the kind's number and zeros
pub node-leaf : (s : List ℕ) (l : Layout) (i at : ℕ) → at ≡ record_of l i → both (ltb (u32_at s at) 15) (eqb (u16_at s (at + 4)) 0) ≡ true
    → true ≡ good_node s l i (node_at s (record_of l i))
unfolding u32_at both
node-leaf s l i at here e =
    let front = ltb (u32_at s at) 15 in
    let last = eqb (u16_at s (at + 4)) 0 in
    let low = ltb-true (u32_at s at) 15 (both_left front last e) in
    let behind = eqb-true (u16_at s (at + 4)) 0 (both_right front last e) in
    kinded-low s l i (u16_at s at) 0 0 (omega arith)
    ∙ node-even s l i at (u16_at s at) here refl 0 0 (omega arith) (sym behind) (omega arith)

-- ---- the numbers of children

module _ (s : List ℕ) (i at left : ℕ) where
  more : 0 < left → below s i at left ≡ both (ltb (u16_at s at) i) (below s i (at + 2) (left - 1))
  unfolding below
  more h = let e : left ≡ suc (left - 1) = omega arith in ap (below s i at) e

  -- the largest of none is 0, which is below whatever a number is below
  pub below-start : 0 < left → both (ltb 0 i) (below s i at left) ≡ below s i at left
  unfolding both
  below-start h = by-lt 0 i (λ lo. rw (lt-ltb 0 i lo)) (λ hi. rw (le-ltb 0 i hi, more h, le-ltb (u16_at s at) i (omega arith)))

  -- number by number
  module _ (child : ℕ) (c : child ≡ u16_at s at) (h : 0 < left) where
    pub below-no : i ≤ child → false ≡ below s i at left
    unfolding both
    below-no g = rw (more h, ← c, le-ltb child i g)

    pub below_next : child < i → below s i at left ≡ below s i (at + 2) (left - 1)
    unfolding both
    below_next g = rw (more h, ← c, lt-ltb child i g)

  pub below_none : left ≤ 0 → true ≡ below s i at left
  unfolding below
  below_none h = let e : left ≡ 0 = omega arith in rw e

  max-below : (a b : ℕ) (x : Bool) → both (ltb (max a b) i) x ≡ both (ltb a i) (both (ltb b i) x)
  unfolding both
  max-below a b x =
      by-lt a i
      (λ lo. by-lt b i (λ low. rw (lt-ltb a i lo, lt-ltb b i low, lt-ltb (max a b) i (omega arith))) (λ high. rw (lt-ltb a i lo, le-ltb b i high, le-ltb (max a b) i (omega arith))))
      (λ hi. rw (le-ltb a i hi, le-ltb (max a b) i (omega arith)))

  -- one number more
  pub below-turn : (largest child : ℕ) (whole : Bool) → both (ltb largest i) (below s i at left) ≡ whole → 0 < left → child ≡ u16_at s at
      → both (ltb (max largest child) i) (below s i (at + 2) (left - 1)) ≡ whole
  below-turn largest child whole e h c = rw c (max-below largest (u16_at s at) _ ∙ ap (both (ltb largest i)) (sym (more h)) ∙ e)

  -- none is left, and the largest decides
  pub below_end : (largest : ℕ) → left ≤ 0 → ltb largest i ≡ both (ltb largest i) (below s i at left)
  unfolding below both
  below_end largest h = let e : left ≡ 0 = omega arith in rw e (go (ltb largest i))
    where
      go : (x : Bool) → x ≡ both x true
      go true = refl
      go false = refl

-- ---- the nodes

module _ (form : TableForm) (s : List ℕ) (l : Layout) (i left : ℕ) where
  pub from-none : left ≤ 0 → Good l ≡ check_from form s l i left
  unfolding check_from
  from-none h = let e : left ≡ 0 = omega arith in rw e

  next : 0 < left → check_from form s l i left ≡ given (good_in form s l i) (λ _. check_from form s l (i + 1) (left - 1)) (Bad Record i)
  unfolding check_from
  next h = let e : left ≡ suc (left - 1) = omega arith in ap (check_from form s l i) e

  pub from-no : 0 < left → false ≡ good_in form s l i → Bad Record i ≡ check_from form s l i left
  unfolding given
  from-no h e = rw (next h, ← e)

  pub from_next : 0 < left → true ≡ good_in form s l i → check_from form s l i left ≡ check_from form s l (i + 1) (left - 1)
  unfolding given
  from_next h e = rw (next h, ← e)

-- in the second form the chain is looked at where the record is good
module _ (s : List ℕ) (l : Layout) (i : ℕ) where
  pub second-bad : false ≡ good_node s l i (node_at s (record_of l i)) → false ≡ good_in second s l i
  unfolding good_in given
  second-bad e = rw (← e)

  module _ (e : true ≡ good_node s l i (node_at s (record_of l i))) where
    pub second-long : 256 < chain_of s l i → false ≡ good_in second s l i
    unfolding good_in given short_chain
    second-long h = rw (← e, lt-leb (chain_of s l i) 256 h)

    pub second-good : chain_of s l i ≤ 256 → true ≡ good_in second s l i
    unfolding good_in given short_chain
    second-good h = rw (← e, le-leb (chain_of s l i) 256 h)

module _ (l : Layout) (i : ℕ) where
  pub bad-node : i < l.nodes → Bad Record i ≡ bad_at l i
  unfolding bad_at pick
  bad-node h = rw (lt-ltb i l.nodes h)

  pub no-bad : l.nodes ≤ i → Good l ≡ bad_at l i
  unfolding bad_at pick
  no-bad h = rw (le-ltb i l.nodes h)

-- ---- the whole

module _ (form : TableForm) (s : List ℕ) where
  pub check-short : length s < size_of form → Bad Trailer 0 ≡ check_as form s
  unfolding check_as given
  check-short h = rw (lt-leb (size_of form) (length s) h)

  -- a trailer that is read
  module _ (end : ℕ) (h : end + size_of form ≡ length s) (t : Ending) (e : t ≡ ending_at form s end) where
    at : check_as form s ≡ check_at form s t end
    unfolding check_as given
    at = let here : length s - size_of form ≡ end = omega arith in rw (le-leb (size_of form) (length s) (omega arith), here, e)

    pub check-bad : false ≡ good_trailer form t end → Bad Trailer 0 ≡ check_as form s
    unfolding check_at given
    check-bad g = rw (at, ← g)

    pub check-good : true ≡ good_trailer form t end → check_from form s (layout_at t end) 0 (layout_at t end).nodes ≡ check_as form s
    unfolding check_at given layout_at
    check-good g = rw (at, ← g)

module _ (s : List ℕ) where
  check-first : (u16_at s (length s - 2) ≡ 0x5057 → ⊥) → check_as first s ≡ check s
  unfolding check table_form mark_of pick
  check-first h = rw (ne_eqb (u16_at s (length s - 2)) 0x5057 h)

  check-second : u16_at s (length s - 2) ≡ 0x5057 → check_as second s ≡ check s
  unfolding check table_form mark_of pick
  check-second h = rw (eq-eqb (u16_at s (length s - 2)) 0x5057 h)

  -- a good trailer of the first form has its mark
  pub first_good : (end : ℕ) → end + 10 ≡ length s → good_trailer first (ending_at first s end) end ≡ true → check_as first s ≡ check s
  unfolding good_trailer ending_at mark_of
  first_good end h g =
      let here : length s - 2 ≡ end + 8 = omega arith in
      let own = eqb-true (u16_at s (end + 8)) 0x5053 (both_left _ _ g) in
      check-first (λ m. let m' = rw here at m in omega arith)

  other-mark : (u16_at s (length s - 2) ≡ 0x5057 → ⊥) → Bad Trailer 0 ≡ check_as second s
  unfolding check_as check_at good_trailer ending_at size_of mark_of given both
  other-mark no-mark =
      by_le 14 (length s)
      (λ h.
      let here : length s - 14 + 12 ≡ length s - 2 = omega arith in
      rw (le-leb 14 (length s) h, here, ne_eqb (u16_at s (length s - 2)) 0x5057 no-mark))
      (λ h. rw (lt-leb 14 (length s) h))

  -- what is no table of the first form is the second's, or no table
  pub first-bad : Bad Trailer 0 ≡ check_as first s → check_as second s ≡ check s
  first-bad e = by-eq (u16_at s (length s - 2)) 0x5057 check-second (λ m. sym (other-mark m) ∙ e ∙ check-first m)
