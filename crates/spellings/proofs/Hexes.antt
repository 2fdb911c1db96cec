-- Bytes in hexadecimal: their acceptor is exact.
-- Assumes nothing.
use mathlib.Core.Path.{◌≡◌, refl, sym, ap, ◌∙◌}
use mathlib.Core.Path as paths
use mathlib.Core.Bool.{true, false}
use mathlib.Core.List.{List, [], ◌∷◌, ◌++◌, append-nil, append_assoc}
use mathlib.Core.Option.{Option, none, some, some-injective, none-ne-some}
use Prim.Native.Nat.{ℕ, ◌+◌, ◌-◌, ◌*◌, ◌/◌, ◌%◌, ◌<◌, ◌≤◌}
use native.Mathlib.Omega.{arith}
use lib.Dec.{ltb, leb, eqb}
use borrow.Author.Tests.{ltb-true, leb-true, eqb-true, lt-ltb, le-ltb, le-leb, lt-leb, ne_eqb}
use Rattle.wire.specs.Tests.{pick, both}
use Rattle.wire.specs.Values.{Value, number, content}
use Rattle.laws.proofs.Splits.{by-test, by-lt, not-both, both_yes, both_left, both_right}
use Rattle.desk.specs.Csv.{quote, hex, are_bytes, may, digit_of, hexes, hex_of, quoted, spelled, Begins}
use Rattle.spellings.specs.Accept.{pairs, acceptor, when, is_digit, Hexing, before, even, odd, closed, hex_value, high, low, hex_step, hexed_value}
use Rattle.spellings.specs.Exact.{Goes, stays, steps, Whole, is_separator, styled, ExactStyle}
use Rattle.spellings.proofs.Going.{when-some, when_true, one, goes_on, everywhere}
use Rattle.spellings.proofs.Numerals.{is_digit_lem, digit-is}

-- ---- digits

digit-few : (x : ℕ) → x < 10 → digit_of x ≡ 48 + x
unfolding digit_of pick
digit-few x h = rw (lt-ltb x 10 h)

digit-more : (x : ℕ) → 10 ≤ x → digit_of x ≡ 87 + x
unfolding digit_of pick
digit-more x h = rw (le-ltb x 10 h)

not_digit : (b : ℕ) → 57 < b → is_digit b ≡ false
unfolding is_digit both
not_digit b h = rw (le-leb 48 b (omega arith), lt-leb b 57 h)

hex-is : (b x : ℕ) → hex_value b ≡ some x → (x < 16) × (digit_of x ≡ b)
unfolding hex_value pick
hex-is b x e =
    by-test (is_digit b)
    (λ d.
    let r = is_digit_lem b d in
    let lo : 48 ≤ b = r.0 in
    let hi : b ≤ 57 = r.1 in
    let v : b - 48 ≡ x = some-injective _ _ (rw d at e) in
    (omega arith, rw (digit-few x (omega arith)) (omega arith)))
    (λ d.
    let w = when-some _ _ x (rw d at e) in
    let lo : 97 ≤ b = leb-true 97 b (both_left _ _ w.0) in
    let hi : b ≤ 102 = leb-true b 102 (both_right (leb 97 b) _ w.0) in
    let v : b - 87 ≡ x = w.1 in
    (omega arith, rw (digit-more x (omega arith)) (omega arith)))

hex-of : (x : ℕ) → x < 16 → hex_value (digit_of x) ≡ some x
unfolding hex_value pick
hex-of x h =
    by-lt x 10
    (λ l. let e : 48 + x - 48 ≡ x = omega arith in rw (digit-few x l, digit-is x l, e))
    (λ l.
    let e : 87 + x - 87 ≡ x = omega arith in
    rw (digit-more x l, not_digit (87 + x) (omega arith), e) (when_true _ _ (both_yes _ _ (le-leb 97 (87 + x) (omega arith)) (le-leb (87 + x) 102 (omega arith)))))

digit-no-quote : (x : ℕ) → eqb (digit_of x) quote ≡ false
digit-no-quote x = by-lt x 10 (λ l. rw (digit-few x l) (ne_eqb (48 + x) quote (λ e. omega arith))) (λ l. rw (digit-more x l) (ne_eqb (87 + x) quote (λ e. omega arith)))

-- ---- bytes

pub bytes-append : (s t : List ℕ) → are_bytes s ≡ true → are_bytes t ≡ true → are_bytes (s ++ t) ≡ true
unfolding are_bytes
bytes-append [] t h k = k
bytes-append (b ∷ s) t h k = both_yes _ _ (both_left _ _ h) (bytes-append s t (both_right (ltb b 256) _ h) k)

hexes-append : (s t : List ℕ) → hexes (s ++ t) ≡ hexes s ++ hexes t
unfolding hexes hex_of
hexes-append [] t = refl
hexes-append (b ∷ s) t = rw (hexes-append s t)

hexes-one : (h x : ℕ) → h < 16 → x < 16 → hexes ((16 * h + x) ∷ []) ≡ digit_of h ∷ digit_of x ∷ []
unfolding hexes hex_of
hexes-one h x l k =
    let q : (16 * h + x) / 16 ≡ h = omega arith in
    let m : (16 * h + x) % 16 ≡ x = omega arith in
    rw (q, m)

-- a byte behind bytes: both its digits behind theirs
hexes-more : (s : List ℕ) (h x : ℕ) → h < 16 → x < 16 → hexes (s ++ (16 * h + x) ∷ []) ≡ hexes s ++ digit_of h ∷ digit_of x ∷ []
hexes-more s h x l k = hexes-append s _ ∙ ap (λ t. hexes s ++ t) (hexes-one h x l k)

bytes-more : (s : List ℕ) (h x : ℕ) → are_bytes s ≡ true → h < 16 → x < 16 → are_bytes (s ++ (16 * h + x) ∷ []) ≡ true
unfolding are_bytes
bytes-more s h x a l k = bytes-append s _ a (both_yes _ _ (lt-ltb (16 * h + x) 256 (omega arith)) refl)

-- ---- what is known of a state

abbrev At : Hexing → List ℕ → Type 0
At before s = s ≡ []
At (even c) s = (are_bytes c ≡ true) × (s ≡ quote ∷ hexes c)
At (odd c h) s = (are_bytes c ≡ true) × (h < 16) × (s ≡ quote ∷ (hexes c ++ digit_of h ∷ []))
At (closed c) s = (are_bytes c ≡ true) × (s ≡ quoted (hexes c))

high_is : (c : List ℕ) (o : Option ℕ) (y : Hexing) → high c o ≡ some y → (x : ℕ) × (o ≡ some x) × (odd c x ≡ y)
unfolding high
high_is c none y e = absurd (none-ne-some y e)
high_is c (some x) y e = (x, refl, some-injective _ _ e)

low-is : (c : List ℕ) (h : ℕ) (o : Option ℕ) (y : Hexing) → low c h o ≡ some y → (x : ℕ) × (o ≡ some x) × (even (c ++ (16 * h + x) ∷ []) ≡ y)
unfolding low
low-is c h none y e = absurd (none-ne-some y e)
low-is c h (some x) y e = (x, refl, some-injective _ _ e)

kept : (x y : Hexing) (b : ℕ) (s : List ℕ) → At x s → hex_step x b ≡ some y → At y (s ++ b ∷ [])
unfolding hex_step pick quoted are_bytes hexes hex_of
kept before y b s h e =
    let w = when-some _ _ y e in
    let is : b ≡ quote = eqb-true b quote w.0 in
    paths.subst (λ y. At y (s ++ b ∷ [])) w.1 (refl, rw (h, is))
kept (even c) y b s h e =
    by-test (eqb b quote)
    (λ m.
    let is : b ≡ quote = eqb-true b quote m in
    paths.subst (λ y. At y (s ++ b ∷ [])) (some-injective _ _ (rw m at e)) (h.0, rw (h.1, is)))
    (λ m.
    let d = high_is c (hex_value b) y (rw m at e) in
    let x = hex-is b d.0 d.1 in
    paths.subst (λ y. At y (s ++ b ∷ [])) d.2 (h.0, x.0, rw (h.1, x.1)))
kept (odd c g) y b s h e =
    let d = low-is c g (hex_value b) y e in
    let x = hex-is b d.0 d.1 in
    paths.subst (λ y. At y (s ++ b ∷ [])) d.2
    (bytes-more c g d.0 h.0 h.1 x.0, rw (h.2, hexes-more c g d.0 h.1 x.0, x.1) (ap (λ t. quote ∷ t) (append_assoc (hexes c) (digit_of g ∷ []) (b ∷ []))))
kept (closed c) y b s h e = absurd (none-ne-some y e)

-- ---- the acceptor is exact

alive : (x : Hexing) (s : List ℕ) → At x s → Begins (styled hex) s
unfolding styled may spelled quoted are_bytes
alive before s h = record { value = content []; had = refl; more = spelled hex (content []); spells = rw h }
alive (even c) s h = record { value = content c; had = h.0; more = quote ∷ []; spells = rw h.1 }
alive (odd c g) s h =
    record {
      value = content (c ++ (16 * g + 0) ∷ []);
      had = bytes-more c g 0 h.0 h.1 (omega arith);
      more = digit_of 0 ∷ quote ∷ [];
      spells = rw (h.2, hexes-more c g 0 h.1 (omega arith)) (simp append_assoc);
    }
alive (closed c) s h = record { value = content c; had = h.0; more = []; spells = rw (h.1, append-nil) }

whole : (x : Hexing) (s : List ℕ) (v : Value) → At x s → hexed_value x ≡ some v → (may hex v ≡ true) × (spelled hex v ≡ s)
unfolding hexed_value may spelled
whole before s v h e = absurd (none-ne-some v e)
whole (even c) s v h e = absurd (none-ne-some v e)
whole (odd c g) s v h e = absurd (none-ne-some v e)
whole (closed c) s v h e = rw (← some-injective _ v e) (h.0, sym h.1)

through : (c d : List ℕ) → are_bytes d ≡ true → Goes pairs (even c) (hexes d) (even (c ++ d))
unfolding hexes hex_of are_bytes hex_step pick high low
through c [] h = rw (append-nil c) stays
through c (b ∷ d) h =
    let lt : b < 256 = ltb-true b 256 (both_left _ _ h) in
    let w : 16 * (b / 16) + b % 16 ≡ b = omega arith in
    let rest = through (c ++ b ∷ []) d (both_right (ltb b 256) _ h) in
    let left : hex_step (even c) (digit_of (b / 16)) ≡ some (odd c (b / 16)) = rw (digit-no-quote (b / 16), hex-of (b / 16) (omega arith)) in
    let right : hex_step (odd c (b / 16)) (digit_of (b % 16)) ≡ some (even (c ++ b ∷ [])) = rw (hex-of (b % 16) (omega arith), w) in
    steps left (steps right (rw (append_assoc c (b ∷ []) d) at rest))

goes : (v : Value) → may hex v ≡ true → Whole pairs (spelled hex v) v
unfolding may spelled quoted hex_step hexed_value pick when
goes (number a b) h = not-both h refl
goes (content s) h = record { end = closed s; goes = steps refl (goes_on pairs (through [] s h) (one pairs refl)); is = refl }

shut : (x : Hexing) (v : Value) (b : ℕ) → is_separator b ≡ true → hexed_value x ≡ some v → hex_step x b ≡ none
unfolding hexed_value hex_step
shut before v b h e = absurd (none-ne-some v e)
shut (even c) v b h e = absurd (none-ne-some v e)
shut (odd c g) v b h e = absurd (none-ne-some v e)
shut (closed c) v b h e = refl

pub hex-exact : ExactStyle hex
unfolding styled acceptor
hex-exact =
    record {
      alive = λ {s} {x} g. alive x s (everywhere pairs At kept g refl);
      whole = λ {s} {x} {v} g e. whole x s v (everywhere pairs At kept g refl) e;
      goes = goes;
      closed = λ {x} {v} b h e. shut x v b h e;
    }
