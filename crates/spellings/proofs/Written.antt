-- Every value that a column may have is written, and its words say the same again.
-- Assumes nothing.
use mathlib.Core.Path.{◌≡◌, refl, sym, ◌∙◌}
use mathlib.Core.Path as paths
use mathlib.Core.Bool.{true, false}
use mathlib.Core.List.{List, []}
use mathlib.Core.Option.{some, some-injective, none-ne-some}
use Prim.Native.Nat.{ℕ, ◌+◌, ◌-◌, ◌<◌, ◌≤◌, ◌^◌}
use native.Mathlib.Omega.{arith}
use native.Mathlib.Nat.{one-le-pow}
use lib.Dec.{ltb, leb}
use lib.ListN.{length, take}
use lib.Seq.{take-length}
use borrow.Author.Tests.{ltb-true, leb-true, eqb-true, lt-ltb, le-ltb, le-leb, lt-leb}
use Rattle.wire.specs.Tests.{pick, both}
use Rattle.wire.specs.Shape.{Width, w16, w32, w64, bits, Sign, signed, unsigned, Plain, bool, i8, u8, f32, f64, char, unit, int, fixed, Content, text, raw, Kind, plain, pooled, option, sequence, map, struct, enum}
use Rattle.wire.specs.Walk.{each, following}
use Rattle.wire.specs.Values.{Value, number, content, part, value_of, is_pooled}
use Rattle.wire.specs.Numbers.{is_signed_word, is_word}
use Rattle.wire.specs.Text.{is_char}
use Rattle.wire.specs.Reading.{is_content}
use Rattle.wire.specs.Writing.{single, plain_bytes, head_bytes}
use Rattle.laws.proofs.Splits.{by_le, not-both, both_yes, both_left, both_right}
use Rattle.laws.proofs.Own.{when-yes, single-yes}
use Rattle.laws.proofs.Utf8.{char_below}
use Rattle.laws.proofs.Heads.{tag}
use Rattle.desk.specs.Csv.{Style, numeral, one_char, integers, style_of_plain, style_of_content, style_of, in_range, may, or_nothing, value_bytes}

-- a value's words in a pool, its bytes, and that it is a word's worth
pub record Written (k : Kind) (v : Value) : Type 0 where
  pub pool : List ℕ
  pub first : ℕ
  pub second : ℕ
  pub low : first < 2 ^ 64
  pub short : second < 2 ^ 64
  pub writes : head_bytes k 0 pool first second ≡ some (value_bytes k v)
  pub same : (p : ℕ) → value_of pool (tag k first second p) ≡ v

-- texts and bytes that a count can count
abbrev pub Short : Value → Type 0
Short (number a b) = Unit {0}
Short (content s) = length s < 2 ^ 64

-- ---- numbers

-- a word in range, on either side
by-range : {X : Type 0} (below above a : ℕ) → in_range below above a ≡ true → (a ≤ above → X) → (2 ^ 64 ≤ a + below → a < 2 ^ 64 → X) → X
unfolding in_range pick
by-range below above a h f g =
    by_le a above f
    (λ l.
    let m : both (leb (2 ^ 64) (a + below)) (ltb a (2 ^ 64)) ≡ true = rw (lt-leb a above l) at h in
    g (leb-true (2 ^ 64) (a + below) (both_left _ _ m)) (ltb-true a (2 ^ 64) (both_right (leb (2 ^ 64) (a + below)) _ m)))

-- halves and wholes of a word's range
signed-fits : (n a : ℕ) → 2 ^ (n - 1) ≤ 2 ^ 63 → in_range (2 ^ (n - 1)) (2 ^ (n - 1) - 1) a ≡ true → (is_signed_word n a ≡ true) × (a < 2 ^ 64)
unfolding is_signed_word pick
signed-fits n a few h =
    by-range (2 ^ (n - 1)) (2 ^ (n - 1) - 1) a h
    (λ l. let m : a < 2 ^ (n - 1) = omega (arith, one-le-pow (n - 1) 2 (omega arith)) in (rw (lt-ltb a (2 ^ (n - 1)) m), omega arith))
    (λ l k. (rw (le-ltb a (2 ^ (n - 1)) (omega arith)) (le-leb (2 ^ 64 - 2 ^ (n - 1)) a (omega arith)), k))

unsigned-fits : (n a : ℕ) → 2 ^ n ≤ 2 ^ 64 → in_range 0 (2 ^ n - 1) a ≡ true → (is_word unsigned n a ≡ true) × (a < 2 ^ 64)
unfolding is_word
unsigned-fits n a few h =
    by-range 0 (2 ^ n - 1) a h
    (λ l. let m : a < 2 ^ n = omega (arith, one-le-pow n 2 (omega arith)) in (lt-ltb a (2 ^ n) m, omega arith))
    (λ l k. absurd (omega arith))

words-fit : (g : Sign) (n a b : ℕ) → 2 ^ n ≤ 2 ^ 64 → 2 ^ (n - 1) ≤ 2 ^ 63 → may (integers g n) (number a b) ≡ true → (is_word g n a ≡ true) × (a < 2 ^ 64) × (b ≡ 0)
unfolding integers may is_word
words-fit signed n a b few half h =
    let r = signed-fits n a half (both_left _ _ h) in
    (r.0, r.1, eqb-true b 0 (both_right (in_range (2 ^ (n - 1)) (2 ^ (n - 1) - 1) a) _ h))
words-fit unsigned n a b few half h =
    let r = unsigned-fits n a few (both_left _ _ h) in
    (r.0, r.1, eqb-true b 0 (both_right (in_range 0 (2 ^ n - 1) a) _ h))

number-written : (l : Plain) (a b : ℕ) (s : List ℕ) → b ≡ 0 → a < 2 ^ 64 → plain_bytes l a 0 ≡ some s → Written (plain l) (number a b)
unfolding value_bytes or_nothing head_bytes value_of is_pooled pick
number-written l a b s z h e =
    record { pool = []; first = a; second = 0; low = h; short = omega arith; writes = rw (z, e); same = λ p. rw z }

-- as each kind's bytes are written where its test holds
ints : (g : Sign) (n : ℕ) (l : Plain) (a b : ℕ) (s : List ℕ) → 2 ^ n ≤ 2 ^ 64 → 2 ^ (n - 1) ≤ 2 ^ 63 → plain_bytes l a 0 ≡ single (is_word g n a) 0 s
    → may (integers g n) (number a b) ≡ true → Written (plain l) (number a b)
ints g n l a b s few half is h =
    let r = words-fit g n a b few half h in
    number-written l a b s r.2 r.1 (is ∙ single-yes _ 0 s r.0 refl)

width_few : (w : Width) → (2 ^ bits w ≤ 2 ^ 64) × (2 ^ (bits w - 1) ≤ 2 ^ 63)
unfolding bits
width_few w16 = (omega arith, omega arith)
width_few w32 = (omega arith, omega arith)
width_few w64 = (omega arith, omega arith)

as_some : {f g : Style} (P : Style → Type 0) → some f ≡ some g → P g → P f
as_some {f = f} {g = g} P e h = paths.subst P (sym (some-injective f g e)) h

leaf-written : (l : Plain) (f : Style) (a b : ℕ) → style_of_plain l ≡ some f → may f (number a b) ≡ true → Written (plain l) (number a b)
unfolding style_of_plain plain_bytes bits
leaf-written bool f a b e h = go (as_some (λ f. may f (number a b) ≡ true) e h)
  where
    go : may (numeral 0 1) (number a b) ≡ true → Written (plain bool) (number a b)
    go h = unfold may in by-range 0 1 a (both_left _ _ h)
        (λ l. number-written bool a b _ (eqb-true b 0 (both_right (in_range 0 1 a) _ h)) (omega arith) (single-yes _ 0 _ (le-leb a 1 l) refl))
        (λ l k. absurd (omega arith))
leaf-written i8 f a b e h = ints signed 8 i8 a b _ (omega arith) (omega arith) refl (as_some (λ f. may f (number a b) ≡ true) e h)
leaf-written u8 f a b e h = ints unsigned 8 u8 a b _ (omega arith) (omega arith) refl (as_some (λ f. may f (number a b) ≡ true) e h)
leaf-written f32 f a b e h = ints unsigned 32 f32 a b _ (omega arith) (omega arith) refl (as_some (λ f. may f (number a b) ≡ true) e h)
leaf-written f64 f a b e h = ints unsigned 64 f64 a b _ (omega arith) (omega arith) refl (as_some (λ f. may f (number a b) ≡ true) e h)
leaf-written char f a b e h = go (as_some (λ f. may f (number a b) ≡ true) e h)
  where
    go : may one_char (number a b) ≡ true → Written (plain char) (number a b)
    go h = unfold may in
        number-written char a b _ (eqb-true b 0 (both_right (is_char a) _ h)) (omega (arith, char_below a (both_left _ _ h))) (single-yes _ 0 _ (both_left _ _ h) refl)
leaf-written unit f a b e h = absurd (none-ne-some f e)
leaf-written (int g w) f a b e h = ints g (bits w) (int g w) a b _ (width_few w).0 (width_few w).1 refl (as_some (λ f. may f (number a b) ≡ true) e h)
leaf-written (fixed o g w) f a b e h = ints g (bits w) (fixed o g w) a b _ (width_few w).0 (width_few w).1 refl (as_some (λ f. may f (number a b) ≡ true) e h)

ints-no-content : (g : Sign) (n : ℕ) (s : List ℕ) → may (integers g n) (content s) ≡ false
unfolding integers may
ints-no-content signed n s = refl
ints-no-content unsigned n s = refl

bool-no-content : (s : List ℕ) → may (numeral 0 1) (content s) ≡ false
unfolding may
bool-no-content s = refl

char-no-content : (s : List ℕ) → may one_char (content s) ≡ false
unfolding may
char-no-content s = refl

pub leaf-no-content : (l : Plain) (f : Style) (s : List ℕ) → style_of_plain l ≡ some f → may f (content s) ≡ false
unfolding style_of_plain
leaf-no-content bool f s e = rw (← some-injective _ f e) (bool-no-content s)
leaf-no-content i8 f s e = rw (← some-injective _ f e) (ints-no-content _ _ s)
leaf-no-content u8 f s e = rw (← some-injective _ f e) (ints-no-content _ _ s)
leaf-no-content f32 f s e = rw (← some-injective _ f e) (ints-no-content _ _ s)
leaf-no-content f64 f s e = rw (← some-injective _ f e) (ints-no-content _ _ s)
leaf-no-content char f s e = rw (← some-injective _ f e) (char-no-content s)
leaf-no-content unit f s e = absurd (none-ne-some f e)
leaf-no-content (int g w) f s e = rw (← some-injective _ f e) (ints-no-content _ _ s)
leaf-no-content (fixed o g w) f s e = rw (← some-injective _ f e) (ints-no-content _ _ s)

-- ---- texts and bytes

pub content-fits : (c : Content) (s : List ℕ) → may (style_of_content c) (content s) ≡ true → is_content c s ≡ true
unfolding style_of_content may is_content
content-fits text s h = h
content-fits raw s h = refl

content-written : (c : Content) (s : List ℕ) → may (style_of_content c) (content s) ≡ true → length s < 2 ^ 64 → Written (pooled c) (content s)
unfolding value_bytes or_nothing head_bytes value_of is_pooled pick part
content-written c s h few =
    let ok : both (leb (0 + length s) (length s)) (is_content c (take (length s) s)) ≡ true
    = rw (take-length s) (both_yes _ _ (le-leb (0 + length s) (length s) (omega arith)) (content-fits c s h)) in
    record { pool = s; first = 0; second = length s; low = omega arith; short = few; writes = rw (when-yes _ _ ok); same = λ p. rw (take-length s) }

pub no_number : (c : Content) (a b : ℕ) → may (style_of_content c) (number a b) ≡ false
unfolding style_of_content may
no_number text a b = refl
no_number raw a b = refl

-- ---- any column

pub kind-written : (k : Kind) (f : Style) (v : Value) → style_of k ≡ some f → may f v ≡ true → Short v → Written k v
unfolding style_of
kind-written (plain l) f (number a b) e h short = leaf-written l f a b e h
kind-written (plain l) f (content s) e h short = not-both h (leaf-no-content l f s e)
kind-written (pooled c) f (number a b) e h short = not-both (as_some (λ f. may f (number a b) ≡ true) e h) (no_number c a b)
kind-written (pooled c) f (content s) e h short = content-written c s (as_some (λ f. may f (content s) ≡ true) e h) short
kind-written option f v e h short = absurd (none-ne-some f e)
kind-written sequence f v e h short = absurd (none-ne-some f e)
kind-written map f v e h short = absurd (none-ne-some f e)
kind-written struct f v e h short = absurd (none-ne-some f e)
kind-written enum f v e h short = absurd (none-ne-some f e)

-- a column's items have no children, and how many would be theirs doesn't matter
pub alone : (k : Kind) (f : Style) → style_of k ≡ some f → (a : ℕ) → following k a ≡ each 0
unfolding style_of following
alone (plain l) f e a = refl
alone (pooled c) f e a = refl
alone option f e a = absurd (none-ne-some f e)
alone sequence f e a = absurd (none-ne-some f e)
alone map f e a = absurd (none-ne-some f e)
alone struct f e a = absurd (none-ne-some f e)
alone enum f e a = absurd (none-ne-some f e)

pub any-count : (k : Kind) (f : Style) → style_of k ≡ some f → (n : ℕ) (pool : List ℕ) (a b : ℕ) → head_bytes k n pool a b ≡ head_bytes k 0 pool a b
unfolding style_of head_bytes
any-count (plain l) f e n pool a b = refl
any-count (pooled c) f e n pool a b = refl
any-count option f e n pool a b = absurd (none-ne-some f e)
any-count sequence f e n pool a b = absurd (none-ne-some f e)
any-count map f e n pool a b = absurd (none-ne-some f e)
any-count struct f e n pool a b = absurd (none-ne-some f e)
any-count enum f e n pool a b = absurd (none-ne-some f e)
