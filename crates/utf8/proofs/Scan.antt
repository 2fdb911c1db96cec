-- A check that stands inside a sequence, or between two, and what one byte more makes of it.
-- Assumes nothing.
use mathlib.Core.Path.{◌≡◌, refl, sym, subst, ◌∙◌}
use mathlib.Core.Bool.{Bool, true, false}
use mathlib.Core.List.{List, [], ◌∷◌}
use Prim.Native.Nat.{ℕ, zero, suc, ◌+◌, ◌-◌, ◌<◌, ◌≤◌}
use native.Mathlib.Omega.{arith}
use lib.ListN.{length, get_or, drop, length-drop}
use lib.Dec.{ltb, leb, eqb}
use borrow.Author.Tests.{leb-true, eqb-true, eqb-false, lt-ltb, le-ltb, le-leb, ne_eqb}
use Rattle.wire.specs.Tests.{pick, both}
use Rattle.wire.specs.Text.{width_of, low_of, high_of, utf8_f, utf8}
use Rattle.laws.proofs.Splits.{by-test, by-lt, not-both, both_yes, both_left, both_right}
use Rattle.laws.proofs.Parts.{next}
use Rattle.laws.proofs.Utf8.{width_one, width-none, width_two, width_three, width_four, width-high}
use Rattle.singles.specs.Passed.{Same}
use Rattle.singles.proofs.Passed.{between}
use Rattle.utf8.specs.Scan.{is_second, starts_three, Starts, Behind}

-- `left` more bytes of a sequence at i, the next of them from lo to hi, and then whole sequences, are what a text is from `from` on
pub record Scan (s : List ℕ) (from left lo hi i : ℕ) : Type 0 where
  pub same : utf8_f left lo hi (drop i s) ≡ utf8 (drop from s)

-- ---- inside a sequence

-- a sequence that lacks bytes is none
lacks : (k lo hi : ℕ) (t : List ℕ) → length t < k → utf8_f k lo hi t ≡ false
unfolding utf8_f both
lacks zero lo hi t h = absurd (omega arith)
lacks (suc k) lo hi [] h = refl
lacks (suc k) lo hi (b ∷ t) h =
    by-test (both (leb lo b) (leb b hi)) (λ e. rw e (lacks k 0x80 0xbf t (omega arith))) (λ e. rw e)

module _ {s : List ℕ} {from left lo hi i : ℕ} (r : Scan s from left lo hi i) where
  short : i ≤ length s → length s < i + left → utf8 (drop from s) ≡ false
  short l h = sym r.same ∙ lacks left lo hi (drop i s) (simp length-drop (omega arith))

  pub done : (to : ℕ) → left ≡ 0 → i ≡ to → from ≤ i → i ≤ length s → Same s from to
  done to z e up inside =
      let here : utf8 (drop i s) ≡ utf8 (drop from s) = sym (between lo hi (drop i s)) ∙ rw z at r.same in
      subst (Same s from) e (record { up = up; inside = inside; same = here })

  -- the next byte
  module _ (h : i < length s) (k : ℕ) (more : left ≡ suc k) where
    out : both (leb lo (get_or s i 0)) (leb (get_or s i 0) hi) ≡ false → utf8 (drop from s) ≡ false
    unfolding utf8_f both
    out e = sym (rw (next s i h, more, e) at r.same)

    in-range : both (leb lo (get_or s i 0)) (leb (get_or s i 0) hi) ≡ true → Scan s from k 0x80 0xbf (i + 1)
    unfolding utf8_f both
    in-range e = record { same = rw (next s i h, more, e) at r.same }

    -- by the answer ok of a test of its range
    module _ {ok : Bool} (e : ok ≡ both (leb lo (get_or s i 0)) (leb (get_or s i 0) hi)) where
      pub refuses : ok ≡ false → utf8 (drop from s) ≡ false
      refuses f = out (sym e ∙ f)

      pub goes_on : (j : ℕ) → i + 1 ≡ j → ok ≡ true → Scan s from k 0x80 0xbf j
      goes_on j place f = subst (Scan s from k 0x80 0xbf) place (in-range (sym e ∙ f))

-- ---- what tests of bytes say

-- by the answer ok of a test of a range
module _ (b : ℕ) {ok : Bool} {low high : ℕ} (e : ok ≡ both (leb low b) (leb b high)) where
  within : ok ≡ true → (low ≤ b) × (b ≤ high)
  within f = let t = sym e ∙ f in (leb-true _ _ (both_left _ _ t), leb-true _ _ (both_right _ _ t))

  outside : ok ≡ false → low ≤ b → b ≤ high → ⊥
  outside f l h = not-both (both_yes _ _ (le-leb low b l) (le-leb b high h)) (sym e ∙ f)

-- no sequence starts with 80 to C1, nor with F5 to FF
pub from-c2 : (b : ℕ) → 0x80 ≤ b → 0 < width_of b → 0xc2 ≤ b
from-c2 b l w = by-lt b 0xc2 (λ h. absurd (omega (arith, width-none b l h))) (λ h. h)

pub to-f4 : (b : ℕ) → 0 < width_of b → b ≤ 0xf4
to-f4 b w = by-lt b 0xf5 (λ h. omega arith) (λ h. absurd (omega (arith, width-high b h)))

-- all lead bytes but four leave all of 80 to BF to the second
pub whole : (b x : ℕ) → (b ≡ 0xe0 → ⊥) → (b ≡ 0xed → ⊥) → (b ≡ 0xf0 → ⊥) → (b ≡ 0xf4 → ⊥) → is_second b x ≡ both (leb 0x80 x) (leb x 0xbf)
unfolding is_second low_of high_of pick
whole b x e0 ed f0 f4 = rw (ne_eqb b 0xe0 e0, ne_eqb b 0xf0 f0, ne_eqb b 0xed ed, ne_eqb b 0xf4 f4)

-- ---- whether a sequence of three starts

pub below-e0 : (b x : ℕ) → b < 0xe0 → starts_three b x ≡ false
unfolding starts_three both
below-e0 b x h =
    by-lt b 0x80 (λ m. rw (width_one b m)) (λ l. by-lt b 0xc2 (λ m. rw (width-none b l m)) (λ m. rw (width_two b m h)))

-- by the second byte only, where the lead byte was tested to be one that leaves all of 80 to BF to it
pub plain-three : (b x : ℕ) {ok : Bool} {low high : ℕ} → ok ≡ both (leb low b) (leb b high) → ok ≡ true → 0xe0 < low → high < 0xed
    → starts_three b x ≡ both (leb 0x80 x) (leb x 0xbf)
unfolding starts_three both
plain-three b x e f l u =
    let r = within b e f in
    rw (width_three b (omega arith) (omega arith)) (whole b x (λ q. omega arith) (λ q. omega arith) (λ q. omega arith) (λ q. omega arith))

-- the order in which the code asks
turned : (p q : Bool) → both p q ≡ both q p
unfolding both
turned true true = refl
turned true false = refl
turned false true = refl
turned false false = refl

pub from-e0 : (b x : ℕ) → 0xe0 ≤ b → starts_three b x ≡ both (is_second b x) (ltb b 0xf0)
unfolding starts_three
from-e0 b x l =
    by-lt b 0xf0 (λ h. rw (width_three b l h, lt-ltb b 0xf0 h) (turned true _))
    (λ l. by-lt b 0xf5 (λ h. rw (width_four b l h, le-ltb b 0xf0 l) (turned false _)) (λ m. rw (width-high b m, le-ltb b 0xf0 l) (turned false _)))

-- ---- at a lead byte, behind whole sequences

module _ {s : List ℕ} {from i : ℕ} (r : Same s from i) where
  opens : i < length s → (k : ℕ) → width_of (get_or s i 0) ≡ suc k → Scan s from k (low_of (get_or s i 0)) (high_of (get_or s i 0)) (i + 1)
  unfolding utf8 utf8_f both
  opens h k e =
      let less : suc k - 1 ≡ k = omega arith in
      record { same = rw (next s i h, e, lt-ltb 0 (suc k) (omega arith), less) at r.same }

  no_lead : i < length s → width_of (get_or s i 0) ≡ 0 → utf8 (drop from s) ≡ false
  unfolding utf8 utf8_f both
  no_lead h e = sym (rw (next s i h, e) at r.same)

  -- a sequence is refused
  pub refused : utf8 (drop from s) ≡ false → Behind s from i
  refused e = record { same = r; none = λ q. e }

  -- no sequence of the first one's kind is there whole
  pub lacking : {low high : ℕ} → Starts s from low high
      → (low ≤ get_or s i 0 → get_or s i 0 ≤ high → 0 < width_of (get_or s i 0) → length s < i + width_of (get_or s i 0)) → Behind s from i
  lacking {low} {high} l few = record { same = r; none = λ q. go (subst (λ (k : ℕ). Starts s k low high) (sym q) l) }
    where
      go : Starts s i low high → utf8 (drop from s) ≡ false
      go l =
          by-lt 0 (width_of (get_or s i 0))
          (λ w. short (opens l.inside (width_of (get_or s i 0) - 1) (omega arith)) (omega arith) (omega (arith, few l.from l.to w)))
          (λ z. no_lead l.inside (omega arith))

  -- the lead byte is out of the range of its kind
  pub no_such : {low high : ℕ} → Starts s from low high → {ok : Bool} {lo hi : ℕ} → ok ≡ both (leb lo (get_or s i 0)) (leb (get_or s i 0) hi) → ok ≡ false
      → (low ≤ get_or s i 0 → get_or s i 0 ≤ high → 0 < width_of (get_or s i 0) → (lo ≤ get_or s i 0) × (get_or s i 0 ≤ hi)) → Behind s from i
  no_such l e f all = lacking l (λ low high w. let r = all low high w in absurd (outside (get_or s i 0) e f r.0 r.1))

  -- by the second byte of a sequence of two or more
  module _ (h : i + 2 ≤ length s) (k : ℕ) (wide : width_of (get_or s i 0) ≡ suc (suc k)) where
    pub bad-second : is_second (get_or s i 0) (get_or s (i + 1) 0) ≡ false → Behind s from i
    unfolding is_second
    bad-second e = refused (out (opens (omega arith) (suc k) wide) (omega arith) k refl e)

    pub past-second : is_second (get_or s i 0) (get_or s (i + 1) 0) ≡ true → Scan s from k 0x80 0xbf (i + 2)
    unfolding is_second
    past-second e =
        let place : i + 1 + 1 ≡ i + 2 = omega arith in
        subst (Scan s from k 0x80 0xbf) place (in-range (opens (omega arith) (suc k) wide) (omega arith) k refl e)

  -- by the second byte of two
  module _ (h : i + 2 ≤ length s) {ok : Bool} {low high : ℕ} (e : ok ≡ both (leb low (get_or s i 0)) (leb (get_or s i 0) high)) (f : ok ≡ true) (l : 0xc2 ≤ low) (u : high < 0xe0) where
    two : width_of (get_or s i 0) ≡ 2
    two = let b = within (get_or s i 0) e f in width_two _ (omega arith) (omega arith)

    range : is_second (get_or s i 0) (get_or s (i + 1) 0) ≡ both (leb 0x80 (get_or s (i + 1) 0)) (leb (get_or s (i + 1) 0) 0xbf)
    range = let b = within (get_or s i 0) e f in whole _ _ (λ q. omega arith) (λ q. omega arith) (λ q. omega arith) (λ q. omega arith)

    pub bad-two : both (leb 0x80 (get_or s (i + 1) 0)) (leb (get_or s (i + 1) 0) 0xbf) ≡ false → Behind s from i
    bad-two q = bad-second h 0 two (range ∙ q)

    pub past_two : both (leb 0x80 (get_or s (i + 1) 0)) (leb (get_or s (i + 1) 0) 0xbf) ≡ true → Scan s from 0 0x80 0xbf (i + 2)
    past_two q = past-second h 0 two (range ∙ q)

  -- by the first two of three
  module _ (h : i + 2 ≤ length s) where
    pub no-three : Starts s from 0xe0 0xef → starts_three (get_or s i 0) (get_or s (i + 1) 0) ≡ false → Behind s from i
    unfolding starts_three both
    no-three l e =
        by-test (eqb (width_of (get_or s i 0)) 3) (λ t. bad-second h 1 (eqb-true _ _ t) (rw t at e))
        (λ t. lacking l (λ low high w. absurd (eqb-false _ _ t (width_three _ low (omega arith)))))

    pub past_three : starts_three (get_or s i 0) (get_or s (i + 1) 0) ≡ true → Scan s from 1 0x80 0xbf (i + 2)
    unfolding starts_three
    past_three e = past-second h 1 (eqb-true _ _ (both_left _ _ e)) (both_right _ _ e)

  -- the lead byte of four
  pub four-lead : {ok : Bool} {low high : ℕ} → ok ≡ both (leb low (get_or s i 0)) (leb (get_or s i 0) high) → ok ≡ true → 0xf0 ≤ low → high < 0xf5 → width_of (get_or s i 0) ≡ 4
  four-lead e f l u = let b = within (get_or s i 0) e f in width_four _ (omega arith) (omega arith)
