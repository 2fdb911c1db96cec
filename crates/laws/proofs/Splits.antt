-- A test has one of two answers, and each side of a choice need only hold where its answer is given.
-- Assumes nothing.
use mathlib.Core.Path.{◌≡◌, refl, sym, subst}
use mathlib.Core.Bool.{Bool, true, false}
use Prim.Native.Nat.{ℕ, ◌+◌, ◌<◌, ◌≤◌}
use native.Mathlib.Omega.{arith}
use lib.Dec.{ltb, leb, eqb}
use borrow.Author.Tests.{ltb-true, ltb-false, leb-true, leb-false, eqb-true, eqb-false}
use Rattle.wire.specs.Tests.{pick, given, both}

-- ---- tests

pub by-test {ℓ} : {X : Type ℓ} (t : Bool) → (t ≡ true → X) → (t ≡ false → X) → X
by-test true f g = f refl
by-test false f g = g refl

pub by-lt {ℓ} : {X : Type ℓ} (a b : ℕ) → (a < b → X) → (b ≤ a → X) → X
by-lt a b f g = by-test (ltb a b) (λ e. f (ltb-true a b e)) (λ e. g (ltb-false a b e))

pub by_le {ℓ} : {X : Type ℓ} (a b : ℕ) → (a ≤ b → X) → (b < a → X) → X
by_le a b f g = by-test (leb a b) (λ e. f (leb-true a b e)) (λ e. g (leb-false a b e))

pub by-eq {ℓ} : {X : Type ℓ} (a b : ℕ) → (a ≡ b → X) → ((a ≡ b → ⊥) → X) → X
by-eq a b f g = by-test (eqb a b) (λ e. f (eqb-true a b e)) (λ e. g (eqb-false a b e))

pub not-both {ℓ} : {X : Type ℓ} {t : Bool} → t ≡ true → t ≡ false → X
not-both e f = let z : ◌≡◌ {A = ℕ} 0 1 = cc in absurd (omega arith)

-- what holds below i and at i holds up to i
pub up_to {ℓ} : (P : ℕ → Type ℓ) (i : ℕ) → ((j : ℕ) → j < i → P j) → P i → (j : ℕ) → j < i + 1 → P j
up_to P i below here j h = by-eq j i (λ same. subst P (sym same) here) (λ other. below j (omega arith))

-- ---- choices

pub of-pick {ℓ m} : {X : Type ℓ} (P : X → Type m) (t : Bool) (x y : X) → (t ≡ true → P x) → (t ≡ false → P y) → P (pick t x y)
unfolding pick
of-pick P true x y f g = f refl
of-pick P false x y f g = g refl

pub of-given {ℓ m} : {X : Type ℓ} (P : X → Type m) (t : Bool) (x : Unit {0} → X) (y : X) → (t ≡ true → P (x tt)) → (t ≡ false → P y) → P (given t x y)
unfolding given
of-given P true x y f g = f refl
of-given P false x y f g = g refl

-- ---- two tests

pub both_yes : (a b : Bool) → a ≡ true → b ≡ true → both a b ≡ true
unfolding both
both_yes a b e f = rw (e, f)

pub both_left : (a b : Bool) → both a b ≡ true → a ≡ true
unfolding both
both_left true b e = refl
both_left false b e = e

pub both_right : (a b : Bool) → both a b ≡ true → b ≡ true
unfolding both
both_right true b e = e
both_right false b e = cc
