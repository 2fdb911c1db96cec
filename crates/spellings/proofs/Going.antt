-- How an acceptor's steps are put together and taken apart.
-- Assumes nothing.
use mathlib.Core.Path.{◌≡◌, refl, sym}
use mathlib.Core.Path as paths
use mathlib.Core.Bool.{Bool, true, false}
use mathlib.Core.List.{List, [], ◌∷◌, ◌++◌, append-nil, append_assoc}
use mathlib.Core.Option.{none, some, some-injective, none-ne-some}
use Prim.Native.Nat.{ℕ}
use lib.Dec.{eqb}
use borrow.Author.Tests.{eqb-true}
use Rattle.wire.specs.Tests.{pick, both}
use Rattle.laws.proofs.Splits.{by-test}
use Rattle.spellings.specs.Accept.{Acceptor, when}
use Rattle.spellings.specs.Exact.{Goes, stays, steps, is_separator}

pub when-some : {X : Type 0} (t : Bool) (x y : X) → when t x ≡ some y → (t ≡ true) × (x ≡ y)
unfolding when
when-some true x y e = (refl, some-injective x y e)
when-some false x y e = absurd (none-ne-some y e)

pub when_true : {X : Type 0} (t : Bool) (x : X) → t ≡ true → when t x ≡ some x
unfolding when
when_true t x e = rw e

pub when_false : {X : Type 0} (t : Bool) (x : X) → t ≡ false → when t x ≡ none
unfolding when
when_false t x e = rw e

pub both-no : (a b : Bool) → a ≡ false → both a b ≡ false
unfolding both
both-no a b e = rw e

pub by-separator : {X : Type 0} (b : ℕ) → is_separator b ≡ true → (b ≡ 44 → X) → (b ≡ 13 → X) → X
unfolding is_separator pick
by-separator b h f g = by-test (eqb b 44) (λ e. f (eqb-true b 44 e)) (λ e. g (eqb-true b 13 (rw e at h)))

module _ (A : Acceptor) where
  pub one : {x y : A.State} {b : ℕ} → A.step x b ≡ some y → Goes A x (b ∷ []) y
  one e = steps e stays

  pub goes_on : {x y z : A.State} {s t : List ℕ} → Goes A x s y → Goes A y t z → Goes A x (s ++ t) z
  goes_on stays h = h
  goes_on (steps e g) h = steps e (goes_on g h)

  -- what holds of the start, and is kept by every step, holds wherever the acceptor goes
  module _ (At : A.State → List ℕ → Type 0) (kept : (x y : A.State) (b : ℕ) (s : List ℕ) → At x s → A.step x b ≡ some y → At y (s ++ b ∷ [])) where
    from : {x y : A.State} {t : List ℕ} (s : List ℕ) → Goes A x t y → At x s → At y (s ++ t)
    from {x = x} s stays h = paths.subst (λ t. At x t) (sym (append-nil s)) h
    from {y = z} s (steps {x = x} {y = y} {b = b} {s = t} e g) h = paths.subst (λ u. At z u) (append_assoc s (b ∷ []) t) (from (s ++ b ∷ []) g (kept x y b s h e))

    pub everywhere : {y : A.State} {t : List ℕ} → Goes A A.start t y → At A.start [] → At y t
    everywhere g h = from [] g h
