-- Open items in a list: one that is put stands there, and those below it stay.
-- Assumes nothing.
use mathlib.Core.Path.{◌≡◌, refl, ap₂, ◌∙◌}
use mathlib.Core.Bool.{Bool, true, false}
use mathlib.Core.List.{List, [], ◌∷◌}
use Prim.Native.Nat.{ℕ, zero, suc, ◌+◌, ◌*◌, ◌/◌, ◌%◌, ◌<◌, ◌≤◌}
use native.Mathlib.Nat.{add-zero, not-suc-le-zero}
use native.Mathlib.Numerals.{add-one}
use native.Mathlib.Omega.{arith}
use lib.ListN.{length, get_or, set, length-set}
use lib.Dec.{eqb}
use lib.Seq.{sets, get_or-set_same, get_or-set_other}
use borrow.Author.Tests.{eq-eqb, ne_eqb}
use Rattle.open.specs.declared.Held.{Held}
use Rattle.open.specs.Items.{width_word, held_at, holding, helds_of}

-- ---- words from a place on

sets-before : (vs o : List ℕ) (k j : ℕ) → j < k → get_or (sets o k vs) j 0 ≡ get_or o j 0
sets-before [] o k j h = refl
sets-before (v ∷ vs) o k j h = sets-before vs (set o k v) (suc k) j (omega arith) ∙ get_or-set_other o k j v 0 (λ e. omega arith)

sets-at : (vs o : List ℕ) (k j : ℕ) → k + length vs ≤ length o → j < length vs → get_or (sets o k vs) (k + j) 0 ≡ get_or vs j 0
sets-at [] o k j fits h = absurd (not-suc-le-zero h)
sets-at (v ∷ vs) o k zero fits h = rw (add-zero k) (sets-before vs (set o k v) (suc k) k (omega arith) ∙ get_or-set_same o k v 0 (omega arith))
sets-at (v ∷ vs) o k (suc j) fits h =
    let e : k + suc j ≡ suc k + j = omega arith in
    rw e (sets-at vs (set o k v) (suc k) j (simp length-set (omega arith)) (omega arith))

-- ---- the second word

half : (w : ℕ) (h : Bool) → width_word w h / 2 ≡ w
unfolding width_word
half w true = omega arith
half w false = omega arith

odd : (w : ℕ) (h : Bool) → eqb (width_word w h % 2) 1 ≡ h
unfolding width_word
odd w true = eq-eqb ((2 * w + 1) % 2) 1 (omega arith)
odd w false = ne_eqb ((2 * w + 0) % 2) 1 (λ e. omega arith)

-- ---- an open item

module _ (o : List ℕ) (i : ℕ) (f : Held) where
  abbrev own : List ℕ
  own = f.from ∷ width_word f.width f.headed ∷ f.left ∷ f.rounds ∷ []

  holding-at : 4 * i + 4 ≤ length o → held_at (holding o i f) i ≡ f
  unfolding held_at holding
  holding-at h =
      let first = rw (add-zero (4 * i)) at (sets-at own o (4 * i) 0 h (omega arith)) in
      rw (first, sets-at own o (4 * i) 1 h (omega arith), sets-at own o (4 * i) 2 h (omega arith), sets-at own o (4 * i) 3 h (omega arith), half f.width f.headed, odd f.width f.headed)

  holding-below : (j : ℕ) → j < i → held_at (holding o i f) j ≡ held_at o j
  unfolding held_at holding
  holding-below j h =
      rw (sets-before own o (4 * i) (4 * j) (omega arith), sets-before own o (4 * i) (4 * j + 1) (omega arith), sets-before own o (4 * i) (4 * j + 2) (omega arith), sets-before own o (4 * i) (4 * j + 3) (omega arith))

  helds-below : (n : ℕ) → n ≤ i → helds_of (holding o i f) n ≡ helds_of o n
  unfolding helds_of
  helds-below zero h = refl
  helds-below (suc n) h = ap₂ ◌∷◌ (holding-below n (omega arith)) (helds-below n (omega arith))

  -- it is the last one, above the others
  pub helds-held : 4 * i + 4 ≤ length o → helds_of (holding o i f) (i + 1) ≡ f ∷ helds_of o i
  unfolding helds_of
  helds-held h = rw (add-one i) (ap₂ ◌∷◌ (holding-at h) (helds-below i (omega arith)))

pub helds-length : (o : List ℕ) (n : ℕ) → length (helds_of o n) ≡ n
unfolding helds_of
helds-length o zero = refl
helds-length o (suc n) = rw (helds-length o n)

-- words put one after the other
pub holds-words : (o : List ℕ) (i : ℕ) (f : Held) {word : ℕ} → word ≡ width_word f.width f.headed
    → set (set (set (set o (4 * i) f.from) (4 * i + 1) word) (4 * i + 2) f.left) (4 * i + 3) f.rounds ≡ holding o i f
unfolding holding
holds-words o i f e =
    let second : 4 * i + 1 ≡ suc (4 * i) = omega arith in
    let third : 4 * i + 2 ≡ suc (suc (4 * i)) = omega arith in
    let fourth : 4 * i + 3 ≡ suc (suc (suc (4 * i))) = omega arith in
    rw (e, second, third, fourth)
