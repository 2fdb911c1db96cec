-- A char's bytes are a text of that char alone, and the first char of a text has the text's first bytes: by the number of bytes.
-- Assumes nothing.
use mathlib.Core.Path.{◌≡◌, refl, sym}
use mathlib.Core.Bool.{Bool, true}
use mathlib.Core.List.{List, [], ◌∷◌, ◌++◌}
use Prim.Native.Nat.{ℕ, suc, ◌+◌, ◌-◌, ◌*◌, ◌/◌, ◌%◌, ◌≤◌, ◌<◌}
use native.Mathlib.Omega.{arith}
use native.Mathlib.Nat.{div-div-eq-div-mul}
use lib.Dec.{leb, eqb}
use lib.ListN.{length, take, length-append}
use lib.Seq.{take-append_seam, take-length}
use borrow.Author.Tests.{ltb-true, leb-true, eqb-true, lt-ltb, le-ltb, le-leb, eq-eqb, ne_eqb}
use Rattle.wire.specs.Tests.{pick, both}
use Rattle.wire.specs.Text.{utf8_f, utf8, width_of, low_of, high_of, lead_part, sixes, first_char, is_char, char_bytes}
use Rattle.laws.proofs.Splits.{by-lt, by-eq, not-both, of-pick, both_left, both_right}

-- ---- lead bytes

pub width_one : (b : ℕ) → b < 0x80 → width_of b ≡ 1
unfolding width_of pick
width_one b h = rw (lt-ltb b 0x80 h)

pub width-none : (b : ℕ) → 0x80 ≤ b → b < 0xc2 → width_of b ≡ 0
unfolding width_of pick
width-none b l h = rw (le-ltb b 0x80 l, lt-ltb b 0xc2 h)

pub width_two : (b : ℕ) → 0xc2 ≤ b → b < 0xe0 → width_of b ≡ 2
unfolding width_of pick
width_two b l h = rw (le-ltb b 0x80 (omega arith), le-ltb b 0xc2 l, lt-ltb b 0xe0 h)

pub width_three : (b : ℕ) → 0xe0 ≤ b → b < 0xf0 → width_of b ≡ 3
unfolding width_of pick
width_three b l h = rw (le-ltb b 0x80 (omega arith), le-ltb b 0xc2 (omega arith), le-ltb b 0xe0 l, lt-ltb b 0xf0 h)

pub width_four : (b : ℕ) → 0xf0 ≤ b → b < 0xf5 → width_of b ≡ 4
unfolding width_of pick
width_four b l h =
    rw (le-ltb b 0x80 (omega arith), le-ltb b 0xc2 (omega arith), le-ltb b 0xe0 (omega arith), le-ltb b 0xf0 l, lt-ltb b 0xf5 h)

pub width-high : (b : ℕ) → 0xf5 ≤ b → width_of b ≡ 0
unfolding width_of pick
width-high b l =
    rw (le-ltb b 0x80 (omega arith), le-ltb b 0xc2 (omega arith), le-ltb b 0xe0 (omega arith), le-ltb b 0xf0 (omega arith), le-ltb b 0xf5 l)

-- a lead byte's range, and so its width
by-lead : {X : Type 0} (b : ℕ) → (b < 0x80 → X) → (0xc2 ≤ b → b < 0xe0 → X) → (0xe0 ≤ b → b < 0xf0 → X) → (0xf0 ≤ b → b < 0xf5 → X)
    → (width_of b ≡ 0 → X) → X
by-lead b one two three four none =
    by-lt b 0x80 one (λ l. by-lt b 0xc2 (λ h. none (width-none b l h)) (λ l. by-lt b 0xe0 (two l) (λ l. by-lt b 0xf0 (three l) (λ l. by-lt b 0xf5 (four l) (λ l. none (width-high b l))))))

pub width_few : (b : ℕ) → width_of b ≤ 4
width_few b =
    by-lead b (λ h. omega (arith, width_one b h)) (λ l h. omega (arith, width_two b l h)) (λ l h. omega (arith, width_three b l h))
    (λ l h. omega (arith, width_four b l h))
    (λ e. omega arith)

-- the byte x may stand behind the lead byte b
record Second (b x : ℕ) : Type 0 where
  low : 0x80 ≤ x
  high : x ≤ 0xbf
  e0 : b ≡ 0xe0 → 0xa0 ≤ x
  ed : b ≡ 0xed → x ≤ 0x9f
  f0 : b ≡ 0xf0 → 0x90 ≤ x
  f4 : b ≡ 0xf4 → x ≤ 0x8f

second-low : (b x : ℕ) → Second b x → low_of b ≤ x
unfolding low_of
second-low b x h =
    of-pick (λ lo. lo ≤ x) (eqb b 0xe0) _ _ (λ e. h.e0 (eqb-true b 0xe0 e))
    (λ f. of-pick (λ lo. lo ≤ x) (eqb b 0xf0) _ _ (λ e. h.f0 (eqb-true b 0xf0 e)) (λ f. h.low))

second-high : (b x : ℕ) → Second b x → x ≤ high_of b
unfolding high_of
second-high b x h =
    of-pick (λ hi. x ≤ hi) (eqb b 0xed) _ _ (λ e. h.ed (eqb-true b 0xed e))
    (λ f. of-pick (λ hi. x ≤ hi) (eqb b 0xf4) _ _ (λ e. h.f4 (eqb-true b 0xf4 e)) (λ f. h.high))

low-least : (b : ℕ) → 0x80 ≤ low_of b
unfolding low_of
low-least b =
    of-pick (λ lo. 0x80 ≤ lo) (eqb b 0xe0) _ _ (λ e. omega arith)
    (λ f. of-pick (λ lo. 0x80 ≤ lo) (eqb b 0xf0) _ _ (λ e. omega arith) (λ f. omega arith))

high-most : (b : ℕ) → high_of b ≤ 0xbf
unfolding high_of
high-most b =
    of-pick (λ hi. hi ≤ 0xbf) (eqb b 0xed) _ _ (λ e. omega arith)
    (λ f. of-pick (λ hi. hi ≤ 0xbf) (eqb b 0xf4) _ _ (λ e. omega arith) (λ f. omega arith))

is-second : (b x : ℕ) → low_of b ≤ x → x ≤ high_of b → Second b x
unfolding low_of high_of pick
is-second b x l h =
    record {
      low = omega (arith, low-least b);
      high = omega (arith, high-most b);
      e0 = λ e. rw (eq-eqb b 0xe0 e) at l;
      ed = λ e. rw (eq-eqb b 0xed e) at h;
      f0 = λ e. rw (ne_eqb b 0xe0 (λ q. omega arith), eq-eqb b 0xf0 e) at l;
      f4 = λ e. rw (ne_eqb b 0xed (λ q. omega arith), eq-eqb b 0xf4 e) at h;
    }

-- ---- code points

pub char-one : (c : ℕ) → c < 0x80 → char_bytes c ≡ c ∷ []
unfolding char_bytes pick
char-one c h = rw (lt-ltb c 0x80 h)

pub char-two : (c : ℕ) → 0x80 ≤ c → c < 0x800 → char_bytes c ≡ (0xc0 + c / 64) ∷ (0x80 + c % 64) ∷ []
unfolding char_bytes pick
char-two c l h = rw (le-ltb c 0x80 l, lt-ltb c 0x800 h)

pub char-three : (c : ℕ) → 0x800 ≤ c → c < 0x10000 → char_bytes c ≡ (0xe0 + c / 4096) ∷ (0x80 + c / 64 % 64) ∷ (0x80 + c % 64) ∷ []
unfolding char_bytes pick
char-three c l h = rw (le-ltb c 0x80 (omega arith), le-ltb c 0x800 l, lt-ltb c 0x10000 h)

pub char-four : (c : ℕ) → 0x10000 ≤ c
    → char_bytes c ≡ (0xf0 + c / 262144) ∷ (0x80 + c / 4096 % 64) ∷ (0x80 + c / 64 % 64) ∷ (0x80 + c % 64) ∷ []
unfolding char_bytes pick
char-four c l = rw (le-ltb c 0x80 (omega arith), le-ltb c 0x800 (omega arith), le-ltb c 0x10000 l)

char-low : (c : ℕ) → c < 0xd800 → is_char c ≡ true
unfolding is_char pick
char-low c h = rw (lt-ltb c 0xd800 h)

char-high : (c : ℕ) → 0xe000 ≤ c → c < 0x110000 → is_char c ≡ true
unfolding is_char pick
char-high c l h = rw (le-ltb c 0xd800 (omega arith), le-ltb c 0xe000 l, lt-ltb c 0x110000 h)

-- a code point is below the surrogates or above them
pub by-char {ℓ} : {X : Type ℓ} (c : ℕ) → is_char c ≡ true → (c < 0xd800 → X) → (0xe000 ≤ c → c < 0x110000 → X) → X
unfolding is_char pick
by-char c e f g =
    by-lt c 0xd800 f
    (λ h. by-lt c 0xe000 (λ l. not-both (rw (le-ltb _ _ h, lt-ltb _ _ l) at e) refl) (λ l. g l (ltb-true c 0x110000 (rw (le-ltb _ _ h, le-ltb _ _ l) at e))))

pub char_below : (c : ℕ) → is_char c ≡ true → c < 0x110000
char_below c e = by-char c e (λ l. omega arith) (λ l h. h)

-- ---- a char's bytes

-- bytes behind a lead byte
abbrev Tail : List ℕ → Type 0
Tail [] = Unit {0}
Tail (b ∷ s) = (0x80 ≤ b) × (b ≤ 0xbf) × Tail s

-- the first of them is in the lead's range
abbrev Ranged : ℕ → List ℕ → Type 0
Ranged b [] = Unit {0}
Ranged b (x ∷ s) = Second b x

tail-valid : (s : List ℕ) → Tail s → utf8_f (length s) 0x80 0xbf s ≡ true
unfolding utf8_f both
tail-valid [] h = refl
tail-valid (b ∷ s) h = rw (le-leb 0x80 b h.0, le-leb b 0xbf h.1) (tail-valid s h.2)

-- the bytes s are a text of one char, c
pub record IsText (c : ℕ) (s : List ℕ) : Type 0 where
  pub some_bytes : 0 < length s
  pub few_bytes : length s ≤ 4
  pub valid : utf8 s ≡ true
  pub first_char_is : first_char s ≡ c

-- a lead byte, and as many bytes behind it as it wants
module _ (b : ℕ) where
  range-valid : (s : List ℕ) → Tail s → Ranged b s → utf8_f (length s) (low_of b) (high_of b) s ≡ true
  unfolding utf8_f both
  range-valid [] h r = refl
  range-valid (x ∷ s) h r = rw (le-leb (low_of b) x (second-low b x r), le-leb x (high_of b) (second-high b x r)) (tail-valid s h.2)

  text : (c : ℕ) (s : List ℕ) → length s ≤ 3 → width_of b ≡ suc (length s) → Tail s → Ranged b s → sixes (lead_part (suc (length s)) b) s ≡ c → IsText c (b ∷ s)
  unfolding utf8 utf8_f first_char both
  text c s few width h r is =
      let less : suc (length s) - 1 ≡ length s = omega arith in
      record {
        some_bytes = omega arith;
        few_bytes = omega arith;
        valid = rw (width, lt-ltb 0 (suc (length s)) (omega arith), less) (range-valid s h r);
        first_char_is = rw (width, less, take-length s) is;
      }

module _ (c : ℕ) (is : is_char c ≡ true) where
  one-text : c < 0x80 → IsText c (char_bytes c)
  unfolding sixes lead_part
  one-text h = rw (char-one c h) (text c c [] (omega arith) (width_one c h) tt tt refl)

  two-text : 0x80 ≤ c → c < 0x800 → IsText c (char_bytes c)
  unfolding sixes lead_part
  two-text l h =
      let b : ℕ = 0xc0 + c / 64 in
      let x : ℕ = 0x80 + c % 64 in
      rw (char-two c l h) (text b c (x ∷ []) (omega arith) (width_two b (omega arith) (omega arith)) (omega arith) (omega arith) (omega arith))

  three-text : 0x800 ≤ c → c < 0x10000 → IsText c (char_bytes c)
  unfolding sixes lead_part
  three-text l h =
      let b : ℕ = 0xe0 + c / 4096 in
      let x : ℕ = 0x80 + c / 64 % 64 in
      let no_surrogate : b ≡ 0xed → x ≤ 0x9f = λ e. by-char c is (λ l. omega arith) (λ l h. absurd (omega arith)) in
      rw (char-three c l h)
      (text b c (x ∷ (0x80 + c % 64) ∷ []) (omega arith) (width_three b (omega arith) (omega arith)) (omega arith)
      (record { low = omega arith; high = omega arith; e0 = λ e. omega arith; ed = no_surrogate; f0 = λ e. omega arith; f4 = λ e. omega arith })
      (omega (arith, div-div-eq-div-mul c 64 64)))

  four-text : 0x10000 ≤ c → IsText c (char_bytes c)
  unfolding sixes lead_part
  four-text l =
      let h : c < 0x110000 = char_below c is in
      let b : ℕ = 0xf0 + c / 262144 in
      let x : ℕ = 0x80 + c / 4096 % 64 in
      rw (char-four c l)
      (text b c (x ∷ (0x80 + c / 64 % 64) ∷ (0x80 + c % 64) ∷ []) (omega arith) (width_four b (omega arith) (omega arith)) (omega arith) (omega arith)
      (omega (arith, div-div-eq-div-mul c 64 64, div-div-eq-div-mul c 4096 64)))

  pub char-text : IsText c (char_bytes c)
  char-text = by-lt c 0x80 one-text (λ l. by-lt c 0x800 (two-text l) (λ l. by-lt c 0x10000 (three-text l) four-text))

-- ---- a text's first char

-- the next byte of a sequence is in its range
next-is : (lo hi x : ℕ) (rest : Bool) → both (both (leb lo x) (leb x hi)) rest ≡ true → (lo ≤ x) × (x ≤ hi) × (rest ≡ true)
next-is lo hi x rest e =
    let r : both (leb lo x) (leb x hi) ≡ true = both_left _ rest e in
    (leb-true lo x (both_left _ (leb x hi) r), leb-true x hi (both_right (leb lo x) _ r), both_right (both (leb lo x) (leb x hi)) rest e)

-- c is a char, and its bytes are the front of s
pub record CharOf (c : ℕ) (s : List ℕ) : Type 0 where
  pub is-char : is_char c ≡ true
  pub few : length (char_bytes c) ≤ length s
  pub front : char_bytes c ≡ take (length (char_bytes c)) s

char_of_lem : (c : ℕ) (t s : List ℕ) → is_char c ≡ true → char_bytes c ≡ t → CharOf c (t ++ s)
char_of_lem c t s h e = record { is-char = h; few = rw e (simp length-append (omega arith)); front = rw e (sym (take-append_seam t s)) }

one-first : (b : ℕ) (s : List ℕ) → b < 0x80 → CharOf (first_char (b ∷ s)) (b ∷ s)
unfolding first_char lead_part sixes
one-first b s h = rw (width_one b h) (char_of_lem b (b ∷ []) s (char-low b (omega arith)) (char-one b h))

two-first : (b : ℕ) (s : List ℕ) → 0xc2 ≤ b → b < 0xe0 → utf8_f 1 (low_of b) (high_of b) s ≡ true → CharOf (first_char (b ∷ s)) (b ∷ s)
unfolding utf8_f first_char lead_part sixes
two-first b [] l h e = not-both refl (sym e)
two-first b (x ∷ s) l h e =
    let r = next-is (low_of b) (high_of b) x _ e in
    let q : Second b x = is-second b x r.0 r.1 in
    let c : ℕ = 64 * (b - 0xc0) + (x - 0x80) in
    let first : 0xc0 + c / 64 ≡ b = omega arith in
    let second : 0x80 + c % 64 ≡ x = omega arith in
    rw (width_two b l h)
    (char_of_lem c (b ∷ x ∷ []) s (char-low c (omega arith)) (rw (char-two c (omega arith) (omega arith), first, second)))

three-first : (b : ℕ) (s : List ℕ) → 0xe0 ≤ b → b < 0xf0 → utf8_f 2 (low_of b) (high_of b) s ≡ true → CharOf (first_char (b ∷ s)) (b ∷ s)
unfolding utf8_f first_char lead_part sixes
three-first b [] l h e = not-both refl (sym e)
three-first b (x ∷ []) l h e = not-both refl (sym (next-is (low_of b) (high_of b) x _ e).2)
three-first b (x ∷ y ∷ s) l h e =
    let r = next-is (low_of b) (high_of b) x _ e in
    let q = next-is 0x80 0xbf y _ r.2 in
    rw (width_three b l h) (go (is-second b x r.0 r.1) q.0 q.1)
  where
    c : ℕ
    c = 64 * (64 * (b - 0xe0) + (x - 0x80)) + (y - 0x80)

    large : Second b x → 0x800 ≤ c
    large q = by-eq b 0xe0 (λ e. omega (arith, q.e0 e)) (λ n. omega (arith, n))

    char : Second b x → 0x80 ≤ y → y ≤ 0xbf → is_char c ≡ true
    char q ly hy =
        by-eq b 0xed (λ e. char-low c (omega (arith, q.ed e)))
        (λ n. by-lt b 0xed (λ m. char-low c (omega arith)) (λ m. char-high c (omega (arith, n)) (omega arith)))

    go : Second b x → 0x80 ≤ y → y ≤ 0xbf → CharOf c (b ∷ x ∷ y ∷ s)
    go q ly hy =
        let lo : 0x80 ≤ x = q.low in
        let hi : x ≤ 0xbf = q.high in
        let up : c / 64 ≡ 64 * (b - 0xe0) + (x - 0x80) = omega arith in
        let first : 0xe0 + c / 4096 ≡ b = omega arith in
        let second : 0x80 + c / 64 % 64 ≡ x = rw up (omega arith) in
        let third : 0x80 + c % 64 ≡ y = omega arith in
        char_of_lem c (b ∷ x ∷ y ∷ []) s (char q ly hy) (rw (char-three c (large q) (omega arith), first, second, third))

four-first : (b : ℕ) (s : List ℕ) → 0xf0 ≤ b → b < 0xf5 → utf8_f 3 (low_of b) (high_of b) s ≡ true → CharOf (first_char (b ∷ s)) (b ∷ s)
unfolding utf8_f first_char lead_part sixes
four-first b [] l h e = not-both refl (sym e)
four-first b (x ∷ []) l h e = not-both refl (sym (next-is (low_of b) (high_of b) x _ e).2)
four-first b (x ∷ y ∷ []) l h e = not-both refl (sym (next-is 0x80 0xbf y _ (next-is (low_of b) (high_of b) x _ e).2).2)
four-first b (x ∷ y ∷ z ∷ s) l h e =
    let r = next-is (low_of b) (high_of b) x _ e in
    let q = next-is 0x80 0xbf y _ r.2 in
    let t = next-is 0x80 0xbf z _ q.2 in
    rw (width_four b l h) (go (is-second b x r.0 r.1) q.0 q.1 t.0 t.1)
  where
    c : ℕ
    c = 64 * (64 * (64 * (b - 0xf0) + (x - 0x80)) + (y - 0x80)) + (z - 0x80)

    large : Second b x → 0x10000 ≤ c
    large q = by-eq b 0xf0 (λ e. omega (arith, q.f0 e)) (λ n. omega (arith, n))

    small : Second b x → y ≤ 0xbf → z ≤ 0xbf → c < 0x110000
    small q hy hz = by-eq b 0xf4 (λ e. omega (arith, q.f4 e)) (λ n. omega (arith, n))

    go : Second b x → 0x80 ≤ y → y ≤ 0xbf → 0x80 ≤ z → z ≤ 0xbf → CharOf c (b ∷ x ∷ y ∷ z ∷ s)
    go q ly hy lz hz =
        let lo : 0x80 ≤ x = q.low in
        let hi : x ≤ 0xbf = q.high in
        let big : 0x10000 ≤ c = large q in
        let up : c / 64 ≡ 64 * (64 * (b - 0xf0) + (x - 0x80)) + (y - 0x80) = omega arith in
        let upper : c / 4096 ≡ 64 * (b - 0xf0) + (x - 0x80) = omega arith in
        let first : 0xf0 + c / 262144 ≡ b = omega arith in
        let second : 0x80 + c / 4096 % 64 ≡ x = rw upper (omega arith) in
        let third : 0x80 + c / 64 % 64 ≡ y = rw up (omega arith) in
        let fourth : 0x80 + c % 64 ≡ z = omega arith in
        char_of_lem c (b ∷ x ∷ y ∷ z ∷ []) s (char-high c (omega arith) (small q hy hz))
        (rw (char-four c big, first, second, third, fourth))

pub first-char-of : (s : List ℕ) → 0 < length s → utf8 s ≡ true → CharOf (first_char s) s
unfolding utf8 utf8_f both
first-char-of [] h valid = absurd (omega arith)
first-char-of (b ∷ s) h valid =
    by-lead b (one-first b s) (λ l h. two-first b s l h (wide 1 (width_two b l h))) (λ l h. three-first b s l h (wide 2 (width_three b l h)))
    (λ l h. four-first b s l h (wide 3 (width_four b l h)))
    (λ w. not-both refl (sym (rw w at valid)))
  where
    wide : (k : ℕ) → width_of b ≡ suc k → utf8_f k (low_of b) (high_of b) s ≡ true
    wide k w = let less : suc k - 1 ≡ k = omega arith in rw (w, lt-ltb 0 (suc k) (omega arith), less) at valid
