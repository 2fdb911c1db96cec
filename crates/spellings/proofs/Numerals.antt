-- Numbers in decimal: their acceptor is exact.
-- Assumes nothing.
use mathlib.Core.Path.{◌≡◌, refl}
use mathlib.Core.Path as paths
use mathlib.Core.Bool.{true}
use mathlib.Core.List.{List, [], ◌∷◌, ◌++◌, append-nil}
use mathlib.Core.Option.{none, some, some-injective, none-ne-some}
use Prim.Native.Nat.{ℕ, zero, suc, ◌+◌, ◌-◌, ◌*◌, ◌/◌, ◌%◌, ◌^◌, ◌<◌, ◌≤◌}
use native.Mathlib.Omega.{arith}
use lib.Dec.{ltb, leb, eqb}
use borrow.Author.Tests.{ltb-true, leb-true, eqb-true, lt-ltb, le-leb, lt-leb, ne_eqb}
use Rattle.wire.specs.Tests.{pick, given, both}
use Rattle.wire.specs.Values.{Value, number, content}
use Rattle.laws.proofs.Splits.{by-test, by-lt, by_le, not-both, both_yes, both_left, both_right}
use Rattle.desk.specs.Csv.{minus, numeral, in_range, may, digits_f, decimal, spelled_word, spelled, Begins}
use Rattle.spellings.specs.Accept.{Acceptor, numbers, acceptor, Figure, nothing, minused, plus, under, is_digit, another, first, figure_step, figure_value}
use Rattle.spellings.specs.Exact.{Goes, steps, Whole, is_separator, styled, ExactStyle}
use Rattle.spellings.proofs.Going.{when-some, when_true, when_false, by-separator, one, goes_on, everywhere}

-- ---- digits

pub digits-few : (f x : ℕ) → x < 10 → digits_f (suc f) x ≡ (48 + x) ∷ []
unfolding digits_f given
digits-few f x h = rw (lt-leb 10 x h)

pub digits_more : (f x : ℕ) → 10 ≤ x → digits_f (suc f) x ≡ digits_f f (x / 10) ++ (48 + x % 10) ∷ []
unfolding digits_f given
digits_more f x h = rw (le-leb 10 x h)

-- any count above the number will do
pub digits-any : (f g x : ℕ) → x < f → x < g → digits_f f x ≡ digits_f g x
digits-any zero g x h k = absurd (omega arith)
digits-any (suc f) zero x h k = absurd (omega arith)
digits-any (suc f) (suc g) x h k =
    by-lt x 10 (λ l. rw (digits-few f x l, digits-few g x l))
    (λ l. rw (digits_more f x l, digits_more g x l, digits-any f g (x / 10) (omega arith) (omega arith)))

pub decimal_digit : (d : ℕ) → d < 10 → decimal d ≡ (48 + d) ∷ []
unfolding decimal
decimal_digit d h = digits-few d d h

pub decimal-more : (x d : ℕ) → 0 < x → d < 10 → decimal (10 * x + d) ≡ decimal x ++ (48 + d) ∷ []
unfolding decimal
decimal-more x d h k =
    let q : (10 * x + d) / 10 ≡ x = omega arith in
    let m : (10 * x + d) % 10 ≡ d = omega arith in
    rw (digits_more (10 * x + d) (10 * x + d) (omega arith), q, m, digits-any (10 * x + d) (suc x) x (omega arith) (omega arith))

-- ---- digit after digit

pub is_digit_lem : (b : ℕ) → is_digit b ≡ true → (48 ≤ b) × (b ≤ 57)
unfolding is_digit
is_digit_lem b h = (leb-true 48 b (both_left _ _ h), leb-true b 57 (both_right (leb 48 b) _ h))

pub digit-is : (d : ℕ) → d < 10 → is_digit (48 + d) ≡ true
unfolding is_digit
digit-is d h = both_yes _ _ (le-leb 48 (48 + d) (omega arith)) (le-leb (48 + d) 57 (omega arith))

first_goes : (least most : ℕ) (f : ℕ → Figure) (d : ℕ) → d < 10 → least ≤ d → d ≤ most → first least most f (48 + d) ≡ some (f d)
unfolding first
first_goes least most f d h l m =
    let e : 48 + d - 48 ≡ d = omega arith in
    rw e (when_true _ _ (both_yes _ _ (digit-is d h) (both_yes _ _ (le-leb least d l) (le-leb d most m))))

another-goes : (most : ℕ) (f : ℕ → Figure) (x d : ℕ) → 0 < x → d < 10 → 10 * x + d ≤ most → another most f x (48 + d) ≡ some (f (10 * x + d))
unfolding another
another-goes most f x d p h m =
    let e : 48 + d - 48 ≡ d = omega arith in
    rw e (when_true _ _ (both_yes _ _ (digit-is d h) (both_yes _ _ (lt-ltb 0 x p) (le-leb (10 * x + d) most m))))

module _ (below above : ℕ) where
  abbrev A : Acceptor
  A = numbers below above

  -- through all digits of a number, from where its first may stand
  module _ (from : Figure) (f : ℕ → Figure) (least most : ℕ) (few : least ≤ 1) (begins : (d : ℕ) → d < 10 → least ≤ d → d ≤ most → figure_step below above from (48 + d) ≡ some (f d))
      (goes : (x d : ℕ) → 0 < x → d < 10 → 10 * x + d ≤ most → figure_step below above (f x) (48 + d) ≡ some (f (10 * x + d))) where
    through : (c x : ℕ) → x < c → least ≤ x → x ≤ most → Goes A from (digits_f c x) (f x)
    through zero x h l m = absurd (omega arith)
    through (suc c) x h l m =
        by-lt x 10 (λ k. rw (digits-few c x k) (one A (begins x k l m)))
        (λ k.
        let whole : 10 * (x / 10) + x % 10 ≡ x = omega arith in
        rw (digits_more c x k)
        (goes_on A (through c (x / 10) (omega arith) (omega arith) (omega arith))
        (one A (rw whole at (goes (x / 10) (x % 10) (omega arith) (omega arith) (omega arith))))))

  -- ---- what is known of a state

  abbrev At : Figure → List ℕ → Type 0
  At nothing s = s ≡ []
  At minused s = (0 < below) × (s ≡ minus ∷ [])
  At (plus x) s = (x ≤ above) × (s ≡ decimal x)
  At (under x) s = (0 < x) × (x ≤ below) × (s ≡ minus ∷ decimal x)

  -- a first digit, and a further one
  first-is : (least most : ℕ) (f : ℕ → Figure) (b : ℕ) (y : Figure) → first least most f b ≡ some y
      → (48 ≤ b) × (b ≤ 57) × (least ≤ b - 48) × (b - 48 ≤ most) × (f (b - 48) ≡ y)
  unfolding first
  first-is least most f b y e =
      let h = when-some _ _ y e in
      let d = is_digit_lem b (both_left _ _ h.0) in
      let m : both (leb least (b - 48)) (leb (b - 48) most) ≡ true = both_right (is_digit b) _ h.0 in
      (d.0, d.1, leb-true least (b - 48) (both_left _ _ m), leb-true (b - 48) most (both_right (leb least (b - 48)) _ m), h.1)

  another-is : (most : ℕ) (f : ℕ → Figure) (x b : ℕ) (y : Figure) → another most f x b ≡ some y
      → (48 ≤ b) × (b ≤ 57) × (0 < x) × (10 * x + (b - 48) ≤ most) × (f (10 * x + (b - 48)) ≡ y)
  unfolding another
  another-is most f x b y e =
      let h = when-some _ _ y e in
      let d = is_digit_lem b (both_left _ _ h.0) in
      let m : both (ltb 0 x) (leb (10 * x + (b - 48)) most) ≡ true = both_right (is_digit b) _ h.0 in
      (d.0, d.1, ltb-true 0 x (both_left _ _ m), leb-true (10 * x + (b - 48)) most (both_right (ltb 0 x) _ m), h.1)

  digit-spelled : (b : ℕ) → 48 ≤ b → b ≤ 57 → b ∷ [] ≡ decimal (b - 48)
  digit-spelled b l h = let e : 48 + (b - 48) ≡ b = omega arith in rw (decimal_digit (b - 48) (omega arith), e)

  more-spelled : (x b : ℕ) → 0 < x → 48 ≤ b → b ≤ 57 → decimal x ++ b ∷ [] ≡ decimal (10 * x + (b - 48))
  more-spelled x b p l h = let e : 48 + (b - 48) ≡ b = omega arith in rw (decimal-more x (b - 48) p (omega arith), e)

  kept : (x y : Figure) (b : ℕ) (s : List ℕ) → At x s → figure_step below above x b ≡ some y → At y (s ++ b ∷ [])
  unfolding figure_step pick
  kept nothing y b s h e =
      by-test (eqb b minus)
      (λ m.
      let w = when-some _ _ y (rw m at e) in
      let is : b ≡ minus = eqb-true b minus m in
      paths.subst (λ y. At y (s ++ b ∷ [])) w.1 (ltb-true 0 below w.0, rw (h, is)))
      (λ m.
      let d = first-is 0 above plus b y (rw m at e) in
      paths.subst (λ y. At y (s ++ b ∷ [])) d.4 (d.3, rw h (digit-spelled b d.0 d.1)))
  kept minused y b s h e =
      let d = first-is 1 below under b y e in
      paths.subst (λ y. At y (s ++ b ∷ [])) d.4 (d.2, d.3, rw (h.1, ← digit-spelled b d.0 d.1))
  kept (plus x) y b s h e =
      let d = another-is above plus x b y e in
      paths.subst (λ y. At y (s ++ b ∷ [])) d.4 (d.3, rw h.1 (more-spelled x b d.2 d.0 d.1))
  kept (under x) y b s h e =
      let d = another-is below under x b y e in
      paths.subst (λ y. At y (s ++ b ∷ [])) d.4 (omega (arith, d.2), d.3, rw (h.2, ← more-spelled x b d.2 d.0 d.1))

  -- ---- the acceptor is exact

  module _ (apart : below + above < 2 ^ 64) where
    plus-may : (x : ℕ) → x ≤ above → may (numeral below above) (number x 0) ≡ true
    unfolding may in_range pick
    plus-may x h = both_yes _ _ (rw (le-leb x above h)) refl

    plus-spelled : (x : ℕ) → x ≤ above → spelled (numeral below above) (number x 0) ≡ decimal x
    unfolding spelled spelled_word given
    plus-spelled x h = rw (le-leb x above h)

    under-may : (a : ℕ) → above < a → 2 ^ 64 ≤ a + below → a < 2 ^ 64 → may (numeral below above) (number a 0) ≡ true
    unfolding may in_range pick
    under-may a l h k = both_yes _ _ (rw (lt-leb a above l) (both_yes _ _ (le-leb (2 ^ 64) (a + below) h) (lt-ltb a (2 ^ 64) k))) refl

    under-spelled : (a : ℕ) → above < a → spelled (numeral below above) (number a 0) ≡ minus ∷ decimal (2 ^ 64 - a)
    unfolding spelled spelled_word given
    under-spelled a h = rw (lt-leb a above h)

    under_back : (x : ℕ) → 0 < x → x ≤ below
        → (may (numeral below above) (number (2 ^ 64 - x) 0) ≡ true) × (spelled (numeral below above) (number (2 ^ 64 - x) 0) ≡ minus ∷ decimal x)
    under_back x l h =
        let e : 2 ^ 64 - (2 ^ 64 - x) ≡ x = omega arith in
        (under-may (2 ^ 64 - x) (omega arith) (omega arith) (omega arith), rw (under-spelled (2 ^ 64 - x) (omega arith), e))

    alive : (x : Figure) (s : List ℕ) → At x s → Begins (styled (numeral below above)) s
    unfolding styled
    alive nothing s h = record { value = number 0 0; had = plus-may 0 (omega arith); more = spelled (numeral below above) (number 0 0); spells = rw h }
    alive minused s h =
        let u = under_back 1 (omega arith) (omega (arith, h.0)) in
        record { value = number (2 ^ 64 - 1) 0; had = u.0; more = decimal 1; spells = rw h.1 u.1 }
    alive (plus x) s h = record { value = number x 0; had = plus-may x h.0; more = []; spells = rw (h.1, append-nil) (plus-spelled x h.0) }
    alive (under x) s h =
        let u = under_back x h.0 h.1 in
        record { value = number (2 ^ 64 - x) 0; had = u.0; more = []; spells = rw (h.2, append-nil) u.1 }

    whole : (x : Figure) (s : List ℕ) (v : Value) → At x s → figure_value x ≡ some v → (may (numeral below above) v ≡ true) × (spelled (numeral below above) v ≡ s)
    unfolding figure_value
    whole nothing s v h e = absurd (none-ne-some v e)
    whole minused s v h e = absurd (none-ne-some v e)
    whole (plus x) s v h e = rw (← some-injective _ v e) (plus-may x h.0, rw h.1 (plus-spelled x h.0))
    whole (under x) s v h e =
        let u = under_back x h.0 h.1 in
        rw (← some-injective _ v e) (u.0, rw h.2 u.1)

    plus-goes : (x : ℕ) → x ≤ above → Goes A nothing (decimal x) (plus x)
    unfolding decimal figure_step pick
    plus-goes x h =
        through nothing plus 0 above (omega arith)
        (λ d k l m. rw (ne_eqb (48 + d) minus (λ e. omega arith)) (first_goes 0 above plus d k l m))
        (another-goes above plus)
        (suc x) x (omega arith) (omega arith) h

    under_goes : (x : ℕ) → 0 < x → x ≤ below → Goes A nothing (minus ∷ decimal x) (under x)
    unfolding decimal figure_step pick
    under_goes x l h =
        steps (when_true _ _ (lt-ltb 0 below (omega arith)))
        (through minused under 1 below (omega arith) (first_goes 1 below under) (another-goes below under) (suc x) x (omega arith) l h)

    goes : (v : Value) → may (numeral below above) v ≡ true → Whole A (spelled (numeral below above) v) v
    unfolding may in_range pick figure_value
    goes (content s) h = not-both h refl
    goes (number a b) h = rw (eqb-true b 0 (both_right (in_range below above a) _ h)) (word (both_left _ _ h))
      where
        word : in_range below above a ≡ true → Whole A (spelled (numeral below above) (number a 0)) (number a 0)
        word k =
            by_le a above (λ l. record { end = plus a; goes = rw (plus-spelled a l) (plus-goes a l); is = refl })
            (λ l.
            let m : both (leb (2 ^ 64) (a + below)) (ltb a (2 ^ 64)) ≡ true = rw (lt-leb a above l) at k in
            let lo : 2 ^ 64 ≤ a + below = leb-true _ _ (both_left _ _ m) in
            let hi : a < 2 ^ 64 = ltb-true _ _ (both_right (leb (2 ^ 64) (a + below)) _ m) in
            let e : 2 ^ 64 - (2 ^ 64 - a) ≡ a = omega arith in
            record { end = under (2 ^ 64 - a); goes = rw (under-spelled a l) (under_goes (2 ^ 64 - a) (omega arith) (omega arith)); is = rw e })

    closed : (x : Figure) (v : Value) (b : ℕ) → is_separator b ≡ true → figure_value x ≡ some v → figure_step below above x b ≡ none
    unfolding figure_value figure_step another is_digit both
    closed nothing v b h e = absurd (none-ne-some v e)
    closed minused v b h e = absurd (none-ne-some v e)
    closed (plus x) v b h e = by-separator b h (λ q. rw q (when_false _ _ refl)) (λ q. rw q (when_false _ _ refl))
    closed (under x) v b h e = by-separator b h (λ q. rw q (when_false _ _ refl)) (λ q. rw q (when_false _ _ refl))

    pub numeral-exact : ExactStyle (numeral below above)
    unfolding styled acceptor
    numeral-exact =
        record {
          alive = λ {s} {x} g. alive x s (everywhere A At kept g refl);
          whole = λ {s} {x} {v} g e. whole x s v (everywhere A At kept g refl) e;
          goes = goes;
          closed = λ {x} {v} b h e. closed x v b h e;
        }
