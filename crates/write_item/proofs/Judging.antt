-- Some value has an entry exactly where its kind's test lets it: by the ranges of the kinds' numbers.
-- Assumes nothing.
use mathlib.Core.Path.{◌≡◌, refl, sym, ap, ◌∙◌}
use mathlib.Core.Bool.{Bool, true, false}
use mathlib.Core.List.{List}
use mathlib.Core.Option.{none}
use Prim.Native.Nat.{ℕ, ◌+◌, ◌-◌, ◌<◌, ◌≤◌}
use native.Mathlib.Omega.{arith}
use lib.ListN.{length, take, drop}
use lib.Dec.{ltb, leb, eqb}
use borrow.Author.Tests.{lt-ltb, le-leb, lt-leb, leb-true, eqb-true, eqb-false}
use Rattle.wire.specs.Tests.{pick, both}
use Rattle.wire.specs.Shape.{bits, signed, unsigned, Plain, bool, i8, u8, f32, f64, char, unit, int, fixed, Kind, plain, pooled, option, sequence, map, struct, enum}
use Rattle.wire.specs.Numbers.{is_word}
use Rattle.wire.specs.Text.{is_char}
use Rattle.wire.specs.Table.{kinds, kind_of}
use Rattle.wire.specs.Values.{part, is_pooled}
use Rattle.wire.specs.Reading.{is_content}
use Rattle.wire.specs.Writing.{when, single, plain_bytes, head_bytes}
use Rattle.laws.proofs.Splits.{by-test, not-both, both_left, both_right, by-lt}
use Rattle.laws.proofs.Rule.{at}
use Rattle.laws.proofs.Own.{single-second}
use Rattle.laws.proofs.EachKind.{end, ◌&◌, in-kinds}
use Rattle.texts.specs.Contents.{content_if}
use Rattle.write_item.specs.Own.{sign_at, width_at, is_some, Judges, JudgesLeaf}
use Rattle.write_item.proofs.Sixths.{signed-int, unsigned-int, little-sixth, big-sixth}

-- to unfold this is to compute an item's own bytes from its kind's number
unfoldable pub numbered : ℕ
unfolding kinds kind_of head_bytes plain_bytes
numbered = 0

-- ---- a test

pub some-when : (t : Bool) (s : List ℕ) → t ≡ is_some (when t s)
unfolding when is_some
some-when true s = refl
some-when false s = refl

some-single : (t : Bool) (s : List ℕ) → t ≡ is_some (single t 0 s)
unfolding single both when is_some
some-single true s = refl
some-single false s = refl

-- a number's second word is 0
leaf-second : (l : Plain) (a b : ℕ) → (b ≡ 0 → ⊥) → plain_bytes l a b ≡ none
unfolding plain_bytes
leaf-second bool a b h = single-second _ b _ h
leaf-second i8 a b h = single-second _ b _ h
leaf-second u8 a b h = single-second _ b _ h
leaf-second f32 a b h = single-second _ b _ h
leaf-second f64 a b h = single-second _ b _ h
leaf-second char a b h = single-second _ b _ h
leaf-second unit a b h = single-second _ b _ h
leaf-second (int g w) a b h = single-second _ b _ h
leaf-second (fixed o g w) a b h = single-second _ b _ h

second : (k : Kind) (n : ℕ) (pool : List ℕ) (a b : ℕ) → is_pooled k ≡ false → (b ≡ 0 → ⊥) → head_bytes k n pool a b ≡ none
unfolding head_bytes is_pooled
second (plain l) n pool a b p h = leaf-second l a b h
second (pooled c) n pool a b p h = not-both refl p
second option n pool a b p h = single-second _ b _ h
second sequence n pool a b p h = single-second _ b _ h
second map n pool a b p h = single-second _ b _ h
second struct n pool a b p h = single-second _ b _ h
second enum n pool a b p h = single-second _ b _ h

pub no_second : (k : Kind) (n : ℕ) (pool : List ℕ) (a b : ℕ) → is_pooled k ≡ false → (b ≡ 0 → ⊥) → false ≡ is_some (head_bytes k n pool a b)
unfolding is_some
no_second k n pool a b p h = rw (second k n pool a b p h)

-- ---- leaves

module _ {a : ℕ} {r : Bool} where
  leaf : (x : Plain) (t : Bool) (s : List ℕ) → r ≡ t → plain_bytes x a 0 ≡ single t 0 s → JudgesLeaf (plain x) a r
  unfolding head_bytes
  leaf x t s e f = record { with = λ n. record { at = λ pool. e ∙ some-single t s ∙ ap is_some (sym f) } }

  pub judges-bool : (k : ℕ) → k ≡ 0 → r ≡ leb a 1 → JudgesLeaf (kind_of k) a r
  unfolding numbered
  judges-bool k q e = rw q (leaf bool _ _ e refl)

  pub judges-i8 : (k : ℕ) → k ≡ 1 → r ≡ is_word signed 8 a → JudgesLeaf (kind_of k) a r
  unfolding numbered
  judges-i8 k q e = rw q (leaf i8 _ _ e refl)

  pub judges-u8 : (k : ℕ) → k ≡ 5 → r ≡ is_word unsigned 8 a → JudgesLeaf (kind_of k) a r
  unfolding numbered
  judges-u8 k q e = rw q (leaf u8 _ _ e refl)

  pub judges-f32 : (k : ℕ) → k ≡ 9 → r ≡ is_word unsigned 32 a → JudgesLeaf (kind_of k) a r
  unfolding numbered
  judges-f32 k q e = rw q (leaf f32 _ _ e refl)

  pub judges-f64 : (k : ℕ) → k ≡ 10 → r ≡ is_word unsigned 64 a → JudgesLeaf (kind_of k) a r
  unfolding numbered
  judges-f64 k q e = rw q (leaf f64 _ _ e refl)

  pub judges-char : (k : ℕ) → k ≡ 11 → r ≡ is_char a → JudgesLeaf (kind_of k) a r
  unfolding numbered
  judges-char k q e = rw q (leaf char _ _ e refl)

  -- the k-th of six
  pub judges-signed : (k : ℕ) → 2 ≤ k → k ≤ 4 → r ≡ is_word (sign_at (k - 2)) (bits (width_at (k - 2))) a → JudgesLeaf (kind_of k) a r
  unfolding plain_bytes
  judges-signed k l h e = rw (signed-int k l h) (leaf (int _ _) _ _ e refl)

  pub judges-unsigned : (k : ℕ) → 6 ≤ k → k ≤ 8 → r ≡ is_word (sign_at (k - 3)) (bits (width_at (k - 3))) a → JudgesLeaf (kind_of k) a r
  unfolding plain_bytes
  judges-unsigned k l h e = rw (unsigned-int k l h) (leaf (int _ _) _ _ e refl)

  pub judges-little : (k : ℕ) → 20 ≤ k → k ≤ 25 → r ≡ is_word (sign_at (k - 20)) (bits (width_at (k - 20))) a → JudgesLeaf (kind_of k) a r
  unfolding plain_bytes
  judges-little k l h e = rw (little-sixth k l h) (leaf (fixed _ _ _) _ _ e refl)

  pub judges-big : (k : ℕ) → 26 ≤ k → k ≤ 31 → r ≡ is_word (sign_at (k - 26)) (bits (width_at (k - 26))) a → JudgesLeaf (kind_of k) a r
  unfolding plain_bytes
  judges-big k l h e = rw (big-sixth k l h) (leaf (fixed _ _ _) _ _ e refl)

  -- a unit, among the texts
  pub judges-unit : (k : ℕ) → 12 ≤ k → k ≤ 14 → is_pooled (kind_of k) ≡ false → r ≡ eqb a 0 → JudgesLeaf (kind_of k) a r
  unfolding numbered is_pooled
  judges-unit k l h p e =
      in-kinds (λ x. is_pooled x ≡ false → JudgesLeaf x a r) 12 3 refl ((λ q. not-both refl q) & (λ q. not-both refl q) & (λ q. leaf unit _ _ e refl) & end) k l (omega arith) p

-- ---- items with children

module _ {n a : ℕ} {r : Bool} where
  inner : (k : Kind) (t : Bool) (s : List ℕ) → r ≡ t → ((pool : List ℕ) → head_bytes k n pool a 0 ≡ single t 0 s) → Judges k n a r
  inner k t s e f = record { at = λ pool. e ∙ some-single t s ∙ ap is_some (sym (f pool)) }

  pub judges-option : (k : ℕ) → k ≡ 15 → r ≡ leb a 1 → Judges (kind_of k) n a r
  unfolding numbered
  judges-option k q e = rw q (inner option _ _ e (λ pool. refl))

  pub judges-count : (k : ℕ) → 16 ≤ k → k < 18 → r ≡ is_word unsigned 64 a → Judges (kind_of k) n a r
  unfolding numbered
  judges-count k l h e = in-kinds (λ x. Judges x n a r) 16 2 refl (inner sequence _ _ e (λ pool. refl) & inner map _ _ e (λ pool. refl) & end) k l (omega arith)

  pub judges-struct : (k : ℕ) → k ≡ 18 → r ≡ eqb a 0 → Judges (kind_of k) n a r
  unfolding numbered
  judges-struct k q e = rw q (inner struct _ _ e (λ pool. refl))

  pub judges-enum : (k : ℕ) → k ≡ 19 → r ≡ both (ltb a n) (is_word unsigned 32 a) → Judges (kind_of k) n a r
  unfolding numbered
  judges-enum k q e = rw q (inner enum _ _ e (λ pool. refl))

pub is_known_lem : (n a : ℕ) (t : Bool) → a < n → t ≡ both (ltb a n) t
unfolding both
is_known_lem n a t h = rw (lt-ltb a n h)

-- ---- texts and bytes

module _ (pool : List ℕ) (a b : ℕ) where
  pub part-beyond : (t : Bool) → length pool < a + b → false ≡ both (leb (a + b) (length pool)) t
  unfolding both
  part-beyond t h = rw (lt-leb (a + b) (length pool) h)

  pub part-within : (t : Bool) → a + b ≤ length pool → t ≡ both (leb (a + b) (length pool)) t
  unfolding both
  part-within t h = rw (le-leb (a + b) (length pool) h)

  -- as the code takes it
  pub part-is : (to : ℕ) → to ≡ a + b → take (to - a) (drop a pool) ≡ part pool a b
  unfolding part
  part-is to e = let n : to - a ≡ b = omega arith in rw n

  pub judges-text : (k n : ℕ) {r : Bool} → k ≡ 12 → r ≡ both (leb (a + b) (length pool)) (is_content (content_if true) (part pool a b)) → r ≡ is_some (head_bytes (kind_of k) n pool a b)
  unfolding numbered content_if
  judges-text k n q e = rw q (e ∙ some-when _ _)

  pub judges-bytes : (k n : ℕ) {r : Bool} → k ≡ 13 → r ≡ both (leb (a + b) (length pool)) (is_content (content_if false) (part pool a b)) → r ≡ is_some (head_bytes (kind_of k) n pool a b)
  unfolding numbered content_if
  judges-bytes k n q e = rw q (e ∙ some-when _ _)

  -- of either
  pub judges-pooled : (k n : ℕ) {r : Bool} → 12 ≤ k → k ≤ 13 → r ≡ both (leb (a + b) (length pool)) (is_content (content_if (eqb k 12)) (part pool a b)) → r ≡ is_some (head_bytes (kind_of k) n pool a b)
  judges-pooled k n l h e =
      by-test (eqb k 12)
      (λ t. judges-text k n (eqb-true k 12 t) (rw t at e))
      (λ f. judges-bytes k n (let z = eqb-false k 12 f in by-lt k 13 (λ m. absurd (z (omega arith))) (λ m. omega arith)) (rw f at e))

-- by one computed test of the list of kinds
pub not-pooled : (k : ℕ) → k < 32 → (12 ≤ k → k ≤ 13 → ⊥) → is_pooled (kind_of k) ≡ false
unfolding kinds kind_of is_pooled pick both
not-pooled k h f =
    by-test (is_pooled (kind_of k))
    (λ e.
    let t : both (leb 12 k) (leb k 13) ≡ true = rw e at (at (plain unit) (λ j x. pick (is_pooled x) (both (leb 12 j) (leb j 13)) true) kinds refl k h) in
    absurd (f (leb-true 12 k (both_left (leb 12 k) (leb k 13) t)) (leb-true k 13 (both_right (leb 12 k) (leb k 13) t))))
    (λ e. e)
