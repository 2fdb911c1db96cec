-- Varints, once over every width: what is read is in range, a read gives back what was written, and no shorter form is read as the same number.
-- Assumes nothing.
use mathlib.Core.Path.{◌≡◌, refl, ap, ◌∙◌}
use mathlib.Core.List.{List, [], ◌∷◌, ◌++◌}
use Prim.Native.Nat.{ℕ, zero, suc, ◌+◌, ◌*◌, ◌/◌, ◌%◌, ◌^◌, ◌<◌, ◌≤◌}
use native.Mathlib.Omega.{arith}
use native.Mathlib.Numerals.{add-one}
use lib.ListN.{length, take}
use lib.Dec.{ltb, leb}
use borrow.Author.Tests.{lt-ltb, le-ltb, le-leb, ltb-true, leb-true, eq-eqb}
use Rattle.wire.specs.declared.Own.{Own}
use Rattle.wire.specs.Item.{Item}
use Rattle.wire.specs.Item.{Took, Refused}
use Rattle.wire.specs.Tests.{pick}
use Rattle.wire.specs.Shape.{Width, w16, w32, w64, bits}
use Rattle.wire.specs.Numbers.{most, last, low, spelled, varint_f, varint, shortest_f, shortest, took}
use Rattle.laws.specs.Range.{AreBytes, span, Good, Taken, InRange}
use Rattle.laws.proofs.Splits.{by-lt, of-pick}

-- to unfold this is to compute varints
unfoldable pub varints : ℕ
unfolding pick low varint_f shortest_f span
varints = 0

-- ---- how many numbers there are

pub span_pos : (k top : ℕ) → top < span (suc k) top
unfolding span
span_pos zero top = omega arith
span_pos (suc k) top = omega (arith, span_pos k top)

pub good : (w : Width) → Good (most w) (last w)
unfolding most last span
good w16 = omega arith
good w32 = omega arith
good w64 = omega arith

-- they are the numbers of the width
pub span-bits : (w : Width) → span (most w) (last w) ≡ 2 ^ bits w
unfolding most last span bits
span-bits w16 = refl
span-bits w32 = refl
span-bits w64 = refl

-- ---- a byte at the front, and a number

pub varint-small : (k top b : ℕ) (s : List ℕ) → b < 128 → varint_f (suc (suc k)) top (b ∷ s) ≡ spelled b 1
unfolding varints
varint-small k top b s h = rw (lt-ltb b 128 h)

pub varint-more : (k top b : ℕ) (s : List ℕ) → 128 ≤ b → varint_f (suc (suc k)) top (b ∷ s) ≡ low b (varint_f (suc k) top s)
unfolding varints
varint-more k top b s h = rw (le-ltb b 128 h)

pub shortest-small : (f x : ℕ) → x < 128 → shortest_f (suc f) x ≡ x ∷ []
unfolding varints
shortest-small f x h = rw (lt-ltb x 128 h)

pub shortest-more : (f x : ℕ) → 128 ≤ x → shortest_f (suc f) x ≡ (x % 128 + 128) ∷ shortest_f f (x / 128)
unfolding varints
shortest-more f x h = rw (le-ltb x 128 h)

-- ---- what a read gives is in range

low-in : (limit b : ℕ) (s : List ℕ) (r : Item) → InRange limit s r → InRange (128 * limit) (b ∷ s) (low b r)
unfolding low
low-in limit b s (Took own) h =
    record { small = omega (arith, h.small); single = refl; some = omega arith; within = omega (arith, h.within); form = refl }
low-in limit b s (Refused e) h = tt

one_in : (limit b : ℕ) (s : List ℕ) → b < limit → InRange limit (b ∷ s) (spelled b 1)
one_in limit b s h = record { small = h; single = refl; some = omega arith; within = omega arith; form = refl }

pub in-range : (k top : ℕ) (s : List ℕ) → InRange (span k top) s (varint_f k top s)
unfolding varint_f span
in-range zero top s = tt
in-range (suc k) top [] = tt
in-range (suc zero) top (b ∷ s) =
    of-pick (InRange (top + 1) (b ∷ s)) (leb b top) _ _ (λ e. one_in (top + 1) b s (omega (arith, leb-true b top e))) (λ e. tt)
in-range (suc (suc k)) top (b ∷ s) =
    of-pick (InRange (128 * span (suc k) top) (b ∷ s)) (ltb b 128) _ _ (λ e. one_in (128 * span (suc k) top) b s (omega (arith, ltb-true b 128 e, span_pos k top)))
    (λ e. low-in (span (suc k) top) b s (varint_f (suc k) top s) (in-range (suc k) top s))

-- the same of an answer that is a value, for a caller
pub took_in : (w : Width) (s : List ℕ) {own : Own} → varint w s ≡ Took own → Taken (span (most w) (last w)) s own
unfolding varint
took_in w s e = rw e at (in-range (most w) (last w) s)

-- ---- a read gives back what was written

back : (k f top x : ℕ) (rest : List ℕ) → k ≤ f → top < 128 → x < span (suc k) top
    → varint_f (suc k) top (shortest_f (suc f) x ++ rest) ≡ spelled x (length (shortest_f (suc f) x))
unfolding varints
back zero f top x rest hf hl h = rw (lt-ltb x 128 (omega arith), le-leb x top (omega arith))
back (suc k) zero top x rest hf hl h = absurd (omega arith)
back (suc k) (suc f) top x rest hf hl h =
    by-lt x 128 (λ lo. rw (shortest-small (suc f) x lo) (varint-small k top x rest lo))
    (λ hi.
    let ih = back k f top (x / 128) rest (omega arith) hl (omega arith) in
    let whole : (x % 128 + 128) % 128 + 128 * (x / 128) ≡ x = omega arith in
    rw (shortest-more (suc f) x hi, varint-more k top (x % 128 + 128) (shortest_f (suc f) (x / 128) ++ rest) (omega arith), ih, whole, add-one))

back-of : (k top x : ℕ) (rest : List ℕ) → Good k top → x < span k top
    → varint_f k top (shortest x ++ rest) ≡ spelled x (length (shortest x))
unfolding shortest most
back-of zero top x rest g h = absurd (omega arith)
back-of (suc k) top x rest g h = back k 9 top x rest (omega arith) g.high h

pub varint-back : (w : Width) (x : ℕ) (rest : List ℕ) → x < 2 ^ bits w → varint w (shortest x ++ rest) ≡ took x 0 (length (shortest x))
unfolding varint
varint-back w x rest h =
    back-of (most w) (last w) x rest (good w) (rw (span-bits w) h) ∙ rw (eq-eqb (length (shortest x)) (length (shortest x)) refl)

-- ---- and it is the shortest

pub shortest-some : (x : ℕ) → 1 ≤ length (shortest x)
unfolding shortest most
shortest-some x =
    by-lt x 128 (λ lo. rw (shortest-small 9 x lo) (omega arith)) (λ hi. rw (shortest-more 9 x hi) (omega arith))

-- y is no longer than the n bytes at the front of s, and as long only where it is these
pub record Least (y s : List ℕ) (n : ℕ) : Type 0 where
  pub least : length y ≤ n
  pub only : n ≡ length y → take n s ≡ y

abbrev AreLeast : (short : ℕ → List ℕ) (s : List ℕ) → Item → Type 0
AreLeast short s (Took own) = Least (short own.first) s own.used
AreLeast short s (Refused e) = Unit {0}

small_least : (f x : ℕ) (s : List ℕ) → x < 128 → Least (shortest_f (suc f) x) (x ∷ s) 1
small_least f x s h = rw (shortest-small f x h) (record { least = omega arith; only = λ e. refl })

low-least : (b f : ℕ) (s : List ℕ) (i : Item) → 128 ≤ b → b < 256 → AreLeast (shortest_f (suc f)) s i → AreLeast (shortest_f (suc (suc f))) (b ∷ s) (low b i)
unfolding low
low-least b f s (Refused e) l h r = tt
low-least b f s (Took own) l h r = rw add-one (by-lt x 128 short long)
  where
    v : ℕ
    v = own.first

    n : ℕ
    n = own.used

    x : ℕ
    x = b % 128 + 128 * v

    -- the byte was not needed
    short : x < 128 → Least (shortest_f (suc (suc f)) x) (b ∷ s) (suc n)
    short lo =
        let one : 1 ≤ n = omega (arith, ap length (shortest-small f v (omega arith)), r.least) in
        rw (shortest-small (suc f) x lo) (record { least = omega arith; only = λ e. absurd (omega arith) })

    long : 128 ≤ x → Least (shortest_f (suc (suc f)) x) (b ∷ s) (suc n)
    long hi =
        let same : x / 128 ≡ v = omega arith in
        let lowest : x % 128 + 128 ≡ b = omega arith in
        rw (shortest-more (suc f) x hi, same, lowest)
        (record { least = omega (arith, r.least); only = λ e. ap (λ l. b ∷ l) (r.only (omega arith)) })

are-least : (k f top : ℕ) (s : List ℕ) → AreBytes s → top < 128 → k ≤ f → AreLeast (shortest_f (suc f)) s (varint_f (suc k) top s)
unfolding varint_f
are-least zero f top [] bs h l = tt
are-least (suc k) f top [] bs h l = tt
are-least zero f top (b ∷ s) bs h l =
    of-pick (AreLeast (shortest_f (suc f)) (b ∷ s)) (leb b top) _ _ (λ e. small_least f b s (omega (arith, leb-true b top e))) (λ e. tt)
are-least (suc k) zero top (b ∷ s) bs h l = absurd (omega arith)
are-least (suc k) (suc f) top (b ∷ s) bs h l =
    by-lt b 128 (λ lo. rw (varint-small k top b s lo) (small_least (suc f) b s lo))
    (λ hi. rw (varint-more k top b s hi) (low-least b f s _ hi (bs 0) (are-least k f top s (λ i. bs (suc i)) h (omega arith))))

least-of : (k top : ℕ) (s : List ℕ) → AreBytes s → Good k top → AreLeast shortest s (varint_f k top s)
unfolding shortest most
least-of zero top s bs g = absurd (omega arith)
least-of (suc k) top s bs g = are-least k 9 top s bs g.high (omega arith)

pub varint-least : (w : Width) (s : List ℕ) {own : Own} → AreBytes s → varint w s ≡ Took own → Least (shortest own.first) s own.used
unfolding varint
varint-least w s bs e = rw e at (least-of (most w) (last w) s bs (good w))
