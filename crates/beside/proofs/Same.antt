-- When two items are the same: their values are equal, and so is what follows them.
-- Assumes nothing.
use mathlib.Core.Path.{◌≡◌, refl, sym, ◌∙◌}
use mathlib.Core.Bool.{Bool, true, false}
use mathlib.Core.List.{List, [], ◌∷◌}
use Prim.Native.Nat.{ℕ}
use native.Mathlib.Omega.{arith}
use lib.Dec.{eqb}
use borrow.Author.Tests.{eqb-true, eq-eqb}
use Rattle.wire.specs.Tests.{pick, both}
use Rattle.wire.specs.Shape.{Kind, plain, pooled, option, sequence, map, struct, enum}
use Rattle.wire.specs.Walk.{following}
use Rattle.wire.specs.Values.{Entry, Value, number, content, is_pooled, value_of}
use Rattle.laws.proofs.Splits.{both_left, both_right}
use Rattle.desk.specs.Differ.{same_bytes, same_value, same_item}

pub not-true : {A : Type 0} → ◌≡◌ {A = Bool} false true → A
not-true e = let z : ◌≡◌ {A = ℕ} 0 1 = cc in absurd (omega arith)

-- ---- bytes and values

eqb-turn : (a b : ℕ) → eqb a b ≡ eqb b a
eqb-turn a b = go (eqb a b) (eqb b a) refl refl
  where
    go : (x y : Bool) → eqb a b ≡ x → eqb b a ≡ y → x ≡ y
    go true true p q = refl
    go false false p q = refl
    go true false p q = not-true (sym q ∙ eq-eqb b a (sym (eqb-true a b p)))
    go false true p q = not-true (sym p ∙ eq-eqb a b (sym (eqb-true b a q)))

pub bytes-true : (s t : List ℕ) → same_bytes s t ≡ true → s ≡ t
unfolding same_bytes
bytes-true [] [] e = refl
bytes-true [] (b ∷ t) e = not-true e
bytes-true (a ∷ s) [] e = not-true e
bytes-true (a ∷ s) (b ∷ t) e =
    rw (eqb-true a b (both_left (eqb a b) (same_bytes s t) e), bytes-true s t (both_right (eqb a b) (same_bytes s t) e))

bytes-refl : (s : List ℕ) → same_bytes s s ≡ true
unfolding same_bytes both
bytes-refl [] = refl
bytes-refl (a ∷ s) = rw (eq-eqb a a refl) (bytes-refl s)

bytes-turn : (s t : List ℕ) → same_bytes s t ≡ same_bytes t s
unfolding same_bytes
bytes-turn [] [] = refl
bytes-turn [] (b ∷ t) = refl
bytes-turn (a ∷ s) [] = refl
bytes-turn (a ∷ s) (b ∷ t) = rw (eqb-turn a b, bytes-turn s t)

pub value-true : (v w : Value) → same_value v w ≡ true → v ≡ w
unfolding same_value
value-true (number a b) (number c d) e =
    rw (eqb-true a c (both_left (eqb a c) (eqb b d) e), eqb-true b d (both_right (eqb a c) (eqb b d) e))
value-true (number a b) (content t) e = not-true e
value-true (content s) (number c d) e = not-true e
value-true (content s) (content t) e = rw (bytes-true s t e)

pub value-refl : (v : Value) → same_value v v ≡ true
unfolding same_value both
value-refl (number a b) = rw (eq-eqb a a refl) (eq-eqb b b refl)
value-refl (content s) = bytes-refl s

value-turn : (v w : Value) → same_value v w ≡ same_value w v
unfolding same_value
value-turn (number a b) (number c d) = rw (eqb-turn a c, eqb-turn b d)
value-turn (number a b) (content t) = refl
value-turn (content s) (number c d) = refl
value-turn (content s) (content t) = bytes-turn s t

-- ---- items

pub item-turn : (pool pool' : List ℕ) (k : Kind) (e f : Entry) → same_item pool pool' k e f ≡ same_item pool' pool k f e
unfolding same_item
item-turn pool pool' k e f = value-turn _ _

pub item-values : (pool pool' : List ℕ) (k : Kind) (e f : Entry) → same_item pool pool' k e f ≡ true
    → value_of pool (record { kind = k; entry = e }) ≡ value_of pool' (record { kind = k; entry = f })
unfolding same_item
item-values pool pool' k e f h = value-true _ _ h

number-first : {a b c d : ℕ} → number a b ≡ number c d → a ≡ c
number-first e = cc

-- what follows two items that are the same is the same
pub item-follows : (pool pool' : List ℕ) (k : Kind) (e f : Entry) → same_item pool pool' k e f ≡ true → following k e.first ≡ following k f.first
unfolding same_item value_of is_pooled pick following
item-follows pool pool' (plain l) e f h = refl
item-follows pool pool' (pooled c) e f h = refl
item-follows pool pool' option e f h = rw (number-first (value-true _ _ h))
item-follows pool pool' sequence e f h = rw (number-first (value-true _ _ h))
item-follows pool pool' map e f h = rw (number-first (value-true _ _ h))
item-follows pool pool' struct e f h = refl
item-follows pool pool' enum e f h = rw (number-first (value-true _ _ h))
