-- A pair of nodes in one step, its children in one turn each, and the pairs that are marked.
-- Assumes nothing.
use mathlib.Core.Path.{◌≡◌, refl, ap₂, ◌∙◌, sym}
use mathlib.Core.Bool.{Bool, true, false}
use mathlib.Core.List.{List}
use mathlib.Core.Logic.{⊎_elim}
use Prim.Native.Nat.{ℕ, zero, suc, ◌+◌, ◌-◌, ◌*◌, ◌/◌, ◌^◌, ◌<◌, ◌≤◌}
use native.Mathlib.Nat.{le_of_suc-le-suc, not-suc-le-zero, suc-mul, mul-le-mul, mul-le-mul_right}
use native.Mathlib.Omega.{arith}
use lib.ListN.{length}
use borrow.Author.Tests.{ne_eqb, eq-eqb, leb-true, leb-false, eqb-true, eqb-false}
use Rattle.wire.specs.declared.Layout.{Layout}
use Rattle.wire.specs.Tests.{pick, both}
use Rattle.wire.specs.Shape.{Shape}
use Rattle.wire.specs.Table.{u16_at, kind_of, node_at, record_of, shapes_at, shape_of}
use Rattle.wire.specs.Append.{is_open, is_open_root, matches, firsts, appends}
use Rattle.wire.specs.Answers.{zeroed}
use Rattle.laws.specs.Tables.{node_first, node_count, node_shape, GoodTable}
use Rattle.laws.proofs.Splits.{by-test, by-lt, not-both}
use Rattle.laws.proofs.Areas.{length-zeroed, area-bytes}
use Rattle.laws.proofs.Children.{shapes-none, shapes-more, matches-nodes, appends-nodes, firsts-counts}
use Rattle.table.specs.Parts.{Falls}
use Rattle.table.proofs.Stretches.{falls-next, node-falls}
use Rattle.bits.specs.Marks.{marking}
use Rattle.bits.proofs.Bits.{marking-only, none-marked}
use Rattle.append.specs.Area.{pair_bit, Sound}
use Rattle.append.specs.Compare.{suits, alike, Begun, Asked, Told}

-- ---- counts of children

suited : (free : Bool) (n k : ℕ) → suits free n k ≡ true → (n ≤ k) × (free ≡ false → n ≡ k)
unfolding pick
suited true n k e = (leb-true n k e, λ f. not-both refl f)
suited false n k e = let same = eqb-true n k e in (omega arith, λ f. same)

unsuited : {X : Type 0} (free : Bool) (n k : ℕ) → n ≤ k → (free ≡ false → n ≡ k) → suits free n k ≡ false → X
unfolding pick
unsuited true n k h same e = absurd (omega (arith, leb-false n k e))
unsuited false n k h same e = absurd (eqb-false n k e (same refl))

module _ (f g : ℕ → Shape) (s t : List ℕ) where
  -- so many old children, and as many first ones of the new
  abbrev pub Pairs : (from at n : ℕ) → Bool
  Pairs from at n = firsts false (shapes_at f s from n) (shapes_at g t at n)

  pub pairs-none : (from at n : ℕ) → n ≤ 0 → true ≡ Pairs from at n
  unfolding firsts
  pairs-none from at n h = rw (shapes-none f s from n h, shapes-none g t at n h)

  pairs-more : (from at n : ℕ) → 0 < n → Pairs from at n ≡ both (matches (f (u16_at s from)) (g (u16_at t at))) (Pairs (from + 2) (at + 2) (n - 1))
  unfolding firsts
  pairs-more from at n h = rw (shapes-more f s from n h, shapes-more g t at n h)

  pub pairs-no : (from at n : ℕ) → 0 < n → false ≡ matches (f (u16_at s from)) (g (u16_at t at)) → false ≡ Pairs from at n
  unfolding both
  pairs-no from at n h e = rw (pairs-more from at n h, ← e)

  pub pairs_next : (from at n : ℕ) → 0 < n → true ≡ matches (f (u16_at s from)) (g (u16_at t at)) → Pairs (from + 2) (at + 2) (n - 1) ≡ Pairs from at n
  unfolding both
  pairs_next from at n h e = rw (pairs-more from at n h, ← e)

  -- where the counts go together, more children decide nothing
  pairs-free : (free : Bool) (from at n k : ℕ) → n ≤ k → (free ≡ false → n ≡ k)
      → Pairs from at n ≡ firsts free (shapes_at f s from n) (shapes_at g t at k)
  unfolding firsts shapes_at
  pairs-free free from at zero zero h same = refl
  pairs-free true from at zero (suc k) h same = refl
  pairs-free false from at zero (suc k) h same = let e : 0 ≡ suc k = same refl in absurd (omega arith)
  pairs-free free from at (suc n) zero h same = absurd (not-suc-le-zero h)
  pairs-free free from at (suc n) (suc k) h same =
      rw (pairs-free free (from + 2) (at + 2) n k (le_of_suc-le-suc h) (λ e. let w : suc n ≡ suc k = same e in omega arith))

-- ---- the pairs' bits: as many as there are pairs, each its own

-- the rows before the row i, and with it
rows : (w : ℕ) {i n : ℕ} → i < n → i * w + w ≤ n * w
rows w {i} h = rw (← suc-mul i w) (mul-le-mul_right w h)

pair-below : (n w i j : ℕ) → i < n → j < w → i * w + j < n * w
pair-below n w i j h k = omega (arith, rows w h)

one-pair : (w p q i j : ℕ) → q < w → j < w → p * w + q ≡ i * w + j → (p ≡ i) × (q ≡ j)
one-pair w p q i j k k' e =
    by-lt p i (λ h. absurd (omega (arith, rows w h))) (λ h. by-lt i p (λ h'. absurd (omega (arith, rows w h'))) (λ h'. same (omega arith)))
  where
    same : p ≡ i → (p ≡ i) × (q ≡ j)
    same f = let e = rw f at e in (f, omega arith)

module _ {s t : List ℕ} {l m : Layout} {a : List ℕ} (begun : Begun s l t m a) where
  pairs-few : l.nodes * m.nodes ≤ 16777216
  pairs-few = mul-le-mul begun.few-old.few-nodes begun.few-new.few-nodes

  pub as_long : {b : List ℕ} → length b ≡ length a → Begun s l t m b
  as_long e = record {
    old = begun.old;
    new = begun.new;
    few-old = begun.few-old;
    few-new = begun.few-new;
    room = rw e begun.room;
  }

  module _ {i : ℕ} (h : i < l.nodes) where
    row-few : i * m.nodes < 16777216 + 1
    row-few = omega (arith, rows m.nodes h, pairs-few)

    pair-few : {j : ℕ} → j < m.nodes → i * m.nodes + j < 16777216
    pair-few {j} k = omega (arith, pair-below l.nodes m.nodes i j h k, pairs-few)

-- ---- two nodes

falls-fewer : {s : List ℕ} {from n k i : ℕ} → k ≤ n → Falls s from n i → Falls s from k i
falls-fewer h f = record { inside = omega (arith, f.inside); below = λ c l. f.below c (omega arith) }

-- where a comparison of children stands: those that are left decide, and no pair is marked that does not match
pub record Left (s : List ℕ) (l : Layout) (i : ℕ) (t : List ℕ) (m : Layout) (j : ℕ) (free : Bool) (a : List ℕ) (n from at : ℕ) : Type 0 where
  pub same : Pairs (node_shape s l) (node_shape t m) s t from at n ≡ alike free s l i t m j
  pub olds : Falls s from n i
  pub news : Falls t at n j
  pub sound : Sound s l t m a

abbrev Number : List ℕ → Layout → ℕ → ℕ
Number s l i = (node_at s (record_of l i)).number

-- the first things that a comparison finds: kinds' numbers x and y, n old children and k new ones
module _ {s t : List ℕ} {l m : Layout} {i j x y : ℕ} {a : List ℕ} (asked : Asked s l i t m j a) (free : Bool) (old : x ≡ Number s l i) (new : y ≡ Number t m j) where
  pub alike-other : (x ≡ y → ⊥) → false ≡ alike free s l i t m j
  unfolding alike both
  alike-other ne = rw (← old, ← new, ne_eqb x y ne)

  module _ (same : x ≡ y) {n k : ℕ} (olds : n ≡ node_count (node_at s (record_of l i))) (news : k ≡ node_count (node_at t (record_of m j))) where
    step : alike free s l i t m j
        ≡ firsts free (shapes_at (node_shape s l) s (node_first l i (node_at s (record_of l i))) n) (shapes_at (node_shape t m) t (node_first m j (node_at t (record_of m j))) k)
    unfolding alike both
    step = rw (eq-eqb (Number s l i) (Number t m j) (sym old ∙ same ∙ new), olds, news)

    pub alike-unsuited : suits free n k ≡ false → false ≡ alike free s l i t m j
    alike-unsuited e =
        by-test (alike free s l i t m j)
        (λ w. let c = firsts-counts free _ _ s t _ _ n k (sym step ∙ w) in unsuited free n k c.0 c.1 e)
        (λ w. sym w)

    -- the children are compared from the first on
    pub left-start : {from at : ℕ} → suits free n k ≡ true
        → from ≡ node_first l i (node_at s (record_of l i)) → at ≡ node_first m j (node_at t (record_of m j)) → Left s l i t m j free a n from at
    left-start fits f g =
        let c = suited free n k fits in
        let fewer = c.0 in
        record {
          same = rw (f, g) (pairs-free _ _ s t free _ _ n k c.0 c.1 ∙ sym step);
          olds = rw (f, olds) (node-falls asked.begun.old asked.left);
          news = rw g (falls-fewer (omega arith) (node-falls asked.begun.new asked.right));
          sound = asked.sound;
        }

-- the turn of the old node p and the new node q, after which the area is b
module _ {s t : List ℕ} {l m : Layout} {i j : ℕ} {free : Bool} {a b : List ℕ} {n from at p q : ℕ} {r : Bool}
    (here : Left s l i t m j free a n from at) (some : 0 < n) (old : p ≡ u16_at s from) (new : q ≡ u16_at t at)
    (told : Told s l t m (matches (node_shape s l p) (node_shape t m q)) b r) where
  turn : r ≡ matches (node_shape s l (u16_at s from)) (node_shape t m (u16_at t at))
  turn = told.answer ∙ ap₂ (λ x y. matches (node_shape s l x) (node_shape t m y)) old new

  pub left-no : r ≡ false → false ≡ alike free s l i t m j
  left-no e = pairs-no _ _ s t from at n some (sym e ∙ turn) ∙ here.same

  pub left-next : r ≡ true → Left s l i t m j free b (n - 1) (from + 2) (at + 2)
  left-next e = record {
    same = pairs_next _ _ s t from at n some (sym e ∙ turn) ∙ here.same;
    olds = falls-next here.olds some;
    news = falls-next here.news some;
    sound = told.sound;
  }

-- ---- the marks

module _ {s t : List ℕ} {l m : Layout} {i j : ℕ} {a : List ℕ} (asked : Asked s l i t m j a) where
  pub matches-alike : {x : ℕ} {free : Bool} → x ≡ Number s l i → free ≡ is_open (kind_of x) → alike free s l i t m j ≡ matches (node_shape s l i) (node_shape t m j)
  unfolding alike
  matches-alike e f = rw (f, e) (sym (matches-nodes (asked.begun.old.node-good i asked.left) (asked.begun.new.node-good j asked.right)))

  -- a pair's number fits a word, and its bit lies within the area
  pub row_fits : i * m.nodes < 2 ^ 64
  row_fits = omega (arith, row-few asked.begun asked.left)

  pub pair_fits : i * m.nodes + j < 2 ^ 64
  pair_fits = omega (arith, pair-few asked.begun asked.left asked.right)

  pub pair_inside : pair_bit m i j / 8 < length a
  pair_inside = omega (arith, pair-few asked.begun asked.left asked.right, area-bytes, asked.begun.room)

  -- marking a pair that matches keeps the area sound
  pub sound-marking : {b : List ℕ} → length b ≡ length a → Sound s l t m b → true ≡ matches (node_shape s l i) (node_shape t m j)
      → Sound s l t m (marking b (pair_bit m i j))
  sound-marking {b} same sound is = record {
    found = λ p q h k e. ⊎_elim (λ w. here p q k w) (λ w. sound.found p q h k w) (marking-only b (pair_bit m i j) (rw same pair_inside) (pair_bit m p q) e);
  }
    where
      here : (p q : ℕ) → q < m.nodes → pair_bit m p q ≡ pair_bit m i j → matches (node_shape s l p) (node_shape t m q) ≡ true
      here p q k w =
          let (e, f) = one-pair m.nodes p q i j k asked.right w in
          rw (e, f) (sym is)

-- ---- the bits of all pairs cleared, and the roots

module _ {s t : List ℕ} {l m : Layout} {a : List ℕ} (begun : Begun s l t m a) where
  -- the bytes that they take, as a number and within the area
  abbrev used : ℕ
  used = (l.nodes * m.nodes + 7) / 8

  pub pairs-fit : l.nodes * m.nodes < 2 ^ 64
  pairs-fit = omega (arith, pairs-few begun)

  pub used-fits : l.nodes * m.nodes + 7 < 2 ^ 64
  used-fits = omega (arith, pairs-few begun)

  pub used-inside : used ≤ length a
  used-inside = omega (arith, pairs-few begun, area-bytes, begun.room)

  pub roots-asked : {b : List ℕ} {n : ℕ} → n ≡ used → b ≡ zeroed n a → Asked s l l.root t m m.root b
  roots-asked e f = rw (f, e) (record {
    begun = as_long begun (length-zeroed used a used-inside);
    left = begun.old.root_below;
    right = begun.new.root_below;
    sound = record { found = λ i j h k f. none-marked used (pair_bit m i j) a (omega (arith, pair-below l.nodes m.nodes i j h k)) f };
  })

pub appends-alike : {s t : List ℕ} {l m : Layout} → GoodTable s l × GoodTable t m → {x : ℕ} {free : Bool} → x ≡ Number s l l.root → free ≡ is_open_root (kind_of x)
    → alike free s l l.root t m m.root ≡ appends (shape_of s l) (shape_of t m)
unfolding alike
appends-alike {l} {m} (old, new) e f =
    rw (f, e, old.its_shape, new.its_shape)
    (sym (appends-nodes (old.node-good l.root old.root_below) (new.node-good m.root new.root_below)))
