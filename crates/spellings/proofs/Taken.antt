-- Every value that is read of a column's kind is one that the column may have.
-- Assumes nothing.
use mathlib.Core.Path.{◌≡◌, refl}
use mathlib.Core.Bool.{true}
use mathlib.Core.List.{List, [], ◌∷◌}
use mathlib.Core.Option.{some, some-injective, none-ne-some}
use Prim.Native.Nat.{ℕ, suc, ◌+◌, ◌-◌, ◌/◌, ◌%◌, ◌<◌, ◌≤◌, ◌^◌}
use native.Mathlib.Omega.{arith}
use native.Mathlib.Nat.{one-le-pow}
use lib.Dec.{ltb, leb, eqb}
use lib.ListN.{length, take, drop, length-take}
use lib.Seq.{drop-drop, length-take-le}
use borrow.Author.Tests.{ltb-true, ltb-false, leb-true, eqb-false, lt-ltb, le-leb}
use Rattle.wire.specs.declared.Refusal.{Refusal}
use Rattle.wire.specs.declared.Own.{Own}
use Rattle.wire.specs.Item.{Item}
use Rattle.wire.specs.Item.{Took, Refused}
use Rattle.wire.specs.Tests.{pick, both}
use Rattle.wire.specs.Shape.{Width, w64, bits, size, Order, le, Sign, signed, unsigned, Plain, bool, i8, u8, f32, f64, char, unit, int, fixed, Content, text, raw, Kind, plain, pooled, option, sequence, map, struct, enum}
use Rattle.wire.specs.Values.{number, content, part, value_of, is_pooled}
use Rattle.wire.specs.Numbers.{word, unzigzag, unzigzagged, on_first, little, in_order, word_of, varint}
use Rattle.wire.specs.Text.{utf8}
use Rattle.wire.specs.Reading.{flag, counted, char_of, is_content, content_of, read_plain, head}
use Rattle.laws.specs.Range.{AreBytes}
use Rattle.laws.proofs.Splits.{by-lt, of-pick, not-both, both_yes, both_left, both_right}
use Rattle.laws.proofs.Numbers.{Bits, bits8, bits32, bits64, bits_of, bytes-of-width, signed_low, signed_high}
use Rattle.laws.proofs.Varints.{took_in, span-bits}
use Rattle.laws.proofs.Bytes.{below-take, below-drop, front-lt}
use Rattle.laws.proofs.Utf8.{first-char-of}
use Rattle.laws.proofs.Heads.{tag}
use Rattle.desk.specs.Csv.{Style, numeral, one_char, integers, style_of_plain, style_of_content, style_of, are_bytes, in_range, may}
use Rattle.spellings.proofs.Written.{Short}

-- of an item that was taken
abbrev pub OfTook : (ℕ → ℕ → Type 0) → Item → Type 0
OfTook P (Took own) = P own.first own.second
OfTook P (Refused e) = Unit {0}

-- ---- numbers

range-low : (below above a : ℕ) → a ≤ above → in_range below above a ≡ true
unfolding in_range
range-low below above a h = of-pick (λ t. t ≡ true) (leb a above) true _ (λ e. refl) (λ e. not-both (le-leb a above h) e)

range-high : (below above a : ℕ) → 2 ^ 64 ≤ a + below → a < 2 ^ 64 → in_range below above a ≡ true
unfolding in_range
range-high below above a h k = of-pick (λ t. t ≡ true) (leb a above) true _ (λ e. refl) (λ e. both_yes _ _ (le-leb (2 ^ 64) (a + below) h) (lt-ltb a (2 ^ 64) k))

-- n bits as a word, and a varint's number as a word
module _ (n : ℕ) (part : Bits n) where
  positive : 1 ≤ 2 ^ (n - 1)
  positive = one-le-pow (n - 1) 2 (omega arith)

  word_may : (g : Sign) (x : ℕ) → x < 2 ^ n → may (integers g n) (number (word g n x) 0) ≡ true
  unfolding may integers word
  word_may unsigned x h = both_yes _ _ (range-low 0 (2 ^ n - 1) x (omega arith)) refl
  word_may signed x h =
      by-lt x (2 ^ (n - 1))
      (λ l. rw (signed_low n x l) (both_yes _ _ (range-low (2 ^ (n - 1)) (2 ^ (n - 1) - 1) x (omega arith)) refl))
      (λ l. rw (signed_high n x l)
      (both_yes _ _ (range-high (2 ^ (n - 1)) (2 ^ (n - 1) - 1) (2 ^ 64 - 2 ^ n + x) (omega (arith, part.whole, part.half)) (omega (arith, part.whole, part.half))) refl))

  unzigzag-may : (z : ℕ) → z < 2 ^ n → in_range (2 ^ (n - 1)) (2 ^ (n - 1) - 1) (unzigzag z) ≡ true
  unfolding unzigzag
  unzigzag-may z h =
      of-pick (λ a. in_range (2 ^ (n - 1)) (2 ^ (n - 1) - 1) a ≡ true) (eqb (z % 2) 0) (z / 2) (2 ^ 64 - (z + 1) / 2)
      (λ e. range-low (2 ^ (n - 1)) (2 ^ (n - 1) - 1) (z / 2) (omega (arith, part.half)))
      (λ e.
      let o : z % 2 ≡ 1 = omega (arith, eqb-false (z % 2) 0 e) in
      range-high (2 ^ (n - 1)) (2 ^ (n - 1) - 1) (2 ^ 64 - (z + 1) / 2) (omega (arith, part.half, part.whole)) (omega (arith, o)))

  unzigzagged-may : (g : Sign) (z : ℕ) → z < 2 ^ n → may (integers g n) (number (unzigzagged g z) 0) ≡ true
  unfolding may integers unzigzagged
  unzigzagged-may unsigned z h = both_yes _ _ (range-low 0 (2 ^ n - 1) z (omega arith)) refl
  unzigzagged-may signed z h = both_yes _ _ (unzigzag-may z h) refl

-- a number that is taken is one that a style has
abbrev Number : Style → Item → Type 0
Number f i = OfTook (λ a b. may f (number a b) ≡ true) i

word-taken : (o : Order) (g : Sign) (n k : ℕ) → Bits n → 256 ^ k ≡ 2 ^ n → (s : List ℕ) → AreBytes s
    → Number (integers g n) (word_of k (λ b. word g n (little (in_order o b))) s)
unfolding word_of
word-taken o g n k part same s ok =
    of-pick (Number (integers g n)) (leb k (length s)) _ _ (λ e. word_may n part g _ (rw same at (front-lt o k s ok (leb-true k (length s) e)))) (λ e. tt)

int-taken : (g : Sign) (w : Width) (s : List ℕ) → Number (integers g (bits w)) (on_first (unzigzagged g) (varint w s))
int-taken g w s = go (varint w s) refl
  where
    go : (i : Item) → varint w s ≡ i → Number (integers g (bits w)) (on_first (unzigzagged g) i)
    go (Refused e) h = unfold on_first in tt
    go (Took own) h =
        let t = took_in w s h in
        unfold on_first in rw t.single (unzigzagged-may (bits w) (bits_of w) g own.first (rw (span-bits w) at t.small))

flag-taken : (e : Refusal) (s : List ℕ) → Number (numeral 0 1) (flag e s)
unfolding flag may
flag-taken e [] = tt
flag-taken e (b ∷ s) = of-pick (Number (numeral 0 1)) (leb b 1) _ _ (λ h. both_yes _ _ (range-low 0 1 b (leb-true b 1 h)) refl) (λ h. tt)

-- ---- chars, texts and bytes

char-of-taken : (count : Own) (s : List ℕ) → Number one_char (char_of count s)
unfolding char_of may
char-of-taken count s =
    let c : ℕ = count.first in
    of-pick (Number one_char) (ltb 4 c) _ _ (λ e. tt)
    (λ e. of-pick (Number one_char) (ltb (length s) c) _ _ (λ e. tt)
    (λ e. of-pick (Number one_char) (both (ltb 0 c) (utf8 (take c s))) _ _
    (λ h.
    let some_bytes : 0 < length (take c s) = rw (length-take-le c s (ltb-false (length s) c e)) (ltb-true 0 c (both_left _ _ h)) in
    both_yes _ _ (first-char-of (take c s) some_bytes (both_right (ltb 0 c) _ h)).is-char refl)
    (λ h. tt)))

counted-taken : (P : ℕ → ℕ → Type 0) (i : Item) (g : Own → Item) → ((own : Own) → i ≡ Took own → OfTook P (g own)) → OfTook P (counted i g)
unfolding counted
counted-taken P (Took own) g h = h own refl
counted-taken P (Refused e) g h = tt

pub char-taken : (s : List ℕ) → Number one_char (read_plain char s)
unfolding read_plain
char-taken s = counted-taken _ (varint w64 s) _ (λ own e. char-of-taken own (drop own.used s))

are-bytes : (s : List ℕ) → AreBytes s → are_bytes s ≡ true
unfolding are_bytes
are-bytes [] h = refl
are-bytes (b ∷ s) h = both_yes _ _ (lt-ltb b 256 (h 0)) (are-bytes s (λ i. h (suc i)))

content-may : (k : Content) (s : List ℕ) → AreBytes s → is_content k s ≡ true → may (style_of_content k) (content s) ≡ true
unfolding style_of_content may is_content
content-may text s ok h = h
content-may raw s ok h = are-bytes s ok

-- ---- any column

leaf-taken : (l : Plain) (f : Style) (s : List ℕ) → style_of_plain l ≡ some f → AreBytes s → Number f (read_plain l s)
unfolding style_of_plain read_plain word in_order bits
leaf-taken bool f s e ok = rw (← some-injective _ f e) (flag-taken _ s)
leaf-taken i8 f s e ok = rw (← some-injective _ f e) (word-taken le signed 8 1 bits8 refl s ok)
leaf-taken u8 f s e ok = rw (← some-injective _ f e) (word-taken le unsigned 8 1 bits8 refl s ok)
leaf-taken f32 f s e ok = rw (← some-injective _ f e) (word-taken le unsigned 32 4 bits32 refl s ok)
leaf-taken f64 f s e ok = rw (← some-injective _ f e) (word-taken le unsigned 64 8 bits64 refl s ok)
leaf-taken char f s e ok = rw (← some-injective _ f e) (char-taken s)
leaf-taken unit f s e ok = absurd (none-ne-some f e)
leaf-taken (int g w) f s e ok = rw (← some-injective _ f e) (int-taken g w s)
leaf-taken (fixed o g w) f s e ok = rw (← some-injective _ f e) (word-taken o g (bits w) (size w) (bits_of w) (bytes-of-width w) s ok)

-- what an item of a column says, of a message at a place
abbrev pub Says : List ℕ → Kind → Style → ℕ → ℕ → ℕ → Type 0
Says message k f p a b = (may f (value_of message (tag k a b p)) ≡ true) × Short (value_of message (tag k a b p))

of_number : (message : List ℕ) (l : Plain) (f : Style) (p : ℕ) (i : Item) → Number f i → OfTook (Says message (plain l) f p) i
unfolding value_of is_pooled pick
of_number message l f p (Took own) h = (h, tt)
of_number message l f p (Refused e) h = tt

content-says : (message : List ℕ) (k : Content) (p c u : ℕ) → AreBytes message → c < 2 ^ bits w64 → is_content k (take c (drop u (drop p message))) ≡ true
    → Says message (pooled k) (style_of_content k) p (p + u) c
unfolding value_of is_pooled pick part bits
content-says message k p c u ok few h =
    let at : drop u (drop p message) ≡ drop (p + u) message = drop-drop u p message in
    let t : List ℕ = take c (drop (p + u) message) in
    (content-may k t (below-take 256 c _ (below-drop 256 (p + u) message ok)) (rw at at h), omega (arith, few, length-take c (drop (p + u) message)))

content-of-taken : (message : List ℕ) (k : Content) (p : ℕ) (count : Own) → AreBytes message → count.first < 2 ^ bits w64
    → OfTook (Says message (pooled k) (style_of_content k) p) (content_of k p count (drop count.used (drop p message)))
unfolding content_of
content-of-taken message k p count ok few =
    let c : ℕ = count.first in
    let u : ℕ = count.used in
    of-pick (OfTook (Says message (pooled k) (style_of_content k) p)) (ltb (length (drop u (drop p message))) c) _ _ (λ e. tt)
    (λ e. of-pick (OfTook (Says message (pooled k) (style_of_content k) p)) (is_content k (take c (drop u (drop p message)))) _ _ (λ h. content-says message k p c u ok few h) (λ h. tt))

content-taken : (message : List ℕ) (k : Content) (p n : ℕ) → AreBytes message → OfTook (Says message (pooled k) (style_of_content k) p) (head (pooled k) n p (drop p message))
unfolding head
content-taken message k p n ok =
    counted-taken _ (varint w64 (drop p message)) _
    (λ own e. content-of-taken message k p own ok (rw (span-bits w64) at (took_in w64 (drop p message) e).small))

pub kind-taken : (message : List ℕ) (k : Kind) (f : Style) (p n : ℕ) → style_of k ≡ some f → AreBytes message → OfTook (Says message k f p) (head k n p (drop p message))
unfolding style_of
kind-taken message (plain l) f p n e ok = unfold head in of_number message l f p (read_plain l (drop p message)) (leaf-taken l f (drop p message) e (below-drop 256 p message ok))
kind-taken message (pooled c) f p n e ok = rw (← some-injective _ f e) (content-taken message c p n ok)
kind-taken message option f p n e ok = absurd (none-ne-some f e)
kind-taken message sequence f p n e ok = absurd (none-ne-some f e)
kind-taken message map f p n e ok = absurd (none-ne-some f e)
kind-taken message struct f p n e ok = absurd (none-ne-some f e)
kind-taken message enum f p n e ok = absurd (none-ne-some f e)
