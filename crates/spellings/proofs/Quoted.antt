-- Texts and chars between quotes: their acceptor, one for both, is exact.
-- Assumes nothing.
use mathlib.Core.Path.{◌≡◌, refl, sym, ap, ◌∙◌}
use mathlib.Core.Path as paths
use mathlib.Core.Bool.{Bool, true, false}
use mathlib.Core.List.{List, [], ◌∷◌, ◌++◌, append-nil, append_assoc, head-eq_of_cons-eq, tail-eq_of_cons-eq}
use mathlib.Core.Option.{none, some, some-injective, none-ne-some}
use Prim.Native.Nat.{ℕ, zero, suc, ◌+◌, ◌-◌, ◌/◌, ◌<◌, ◌≤◌}
use native.Mathlib.Omega.{arith}
use lib.Dec.{ltb, leb, eqb}
use lib.ListN.{length, take, length-append}
use lib.Seq.{take-length}
use borrow.Author.Tests.{ltb-true, leb-true, eqb-true, eqb-false, lt-ltb, le-leb, ne_eqb}
use Rattle.wire.specs.Tests.{pick, both}
use Rattle.wire.specs.Values.{Value, number, content}
use Rattle.wire.specs.Text.{utf8_f, utf8, width_of, low_of, high_of, first_char, is_char, char_bytes}
use Rattle.laws.proofs.Splits.{by-test, by-lt, by-eq, of-pick, not-both, both_yes, both_left, both_right}
use Rattle.laws.proofs.Utf8.{width_one, width_two, width_three, width_four, char-one, char-two, char-three, char-four, char_below, char-text, first-char-of}
use Rattle.desk.specs.Csv.{quote, one_char, any_text, may, doubled, quoted, spelled, Begins}
use Rattle.spellings.specs.Accept.{quotes, acceptor, when, Quoting, outside, inside, at_quote, may_follow, quote_step, char_value, quoted_value}
use Rattle.spellings.specs.Exact.{Goes, stays, steps, Whole, is_separator, styled, ExactStyle}
use Rattle.spellings.proofs.Going.{when-some, when_true, when_false, by-separator, one, everywhere}

-- ---- doubled quotes

doubled-append : (s t : List ℕ) → doubled (s ++ t) ≡ doubled s ++ doubled t
unfolding doubled pick
doubled-append [] t = refl
doubled-append (b ∷ s) t = by-test (eqb b quote) (λ e. rw (e, doubled-append s t)) (λ e. rw (e, doubled-append s t))

doubled-other : (b : ℕ) (s : List ℕ) → (b ≡ quote → ⊥) → doubled (b ∷ s) ≡ b ∷ doubled s
unfolding doubled pick
doubled-other b s h = rw (ne_eqb b quote h)

doubled-quote : (s : List ℕ) → doubled (quote ∷ s) ≡ quote ∷ quote ∷ doubled s
unfolding doubled pick
doubled-quote s = refl

-- ---- open chars

low-least : (b : ℕ) → 0x80 ≤ low_of b
unfolding low_of
low-least b =
    of-pick (λ lo. 0x80 ≤ lo) (eqb b 0xe0) _ _ (λ e. omega arith) (λ f. of-pick (λ lo. 0x80 ≤ lo) (eqb b 0xf0) _ _ (λ e. omega arith) (λ f. omega arith))

high-e0 : high_of 0xe0 ≡ 0xbf
unfolding high_of pick
high-e0 = refl

high-f0 : high_of 0xf0 ≡ 0xbf
unfolding high_of pick
high-f0 = refl

high-least : (b : ℕ) → 0x80 ≤ high_of b
unfolding high_of
high-least b =
    of-pick (λ hi. 0x80 ≤ hi) (eqb b 0xed) _ _ (λ e. omega arith) (λ f. of-pick (λ hi. 0x80 ≤ hi) (eqb b 0xf4) _ _ (λ e. omega arith) (λ f. omega arith))

low-high : (b : ℕ) → low_of b ≤ high_of b
unfolding low_of
low-high b =
    of-pick (λ lo. lo ≤ high_of b) (eqb b 0xe0) _ _ (λ e. rw (eqb-true b 0xe0 e, high-e0) (omega arith))
    (λ f. of-pick (λ lo. lo ≤ high_of b) (eqb b 0xf0) _ _ (λ e. rw (eqb-true b 0xf0 e, high-f0) (omega arith)) (λ f. high-least b))

-- between chars the range isn't looked at
zero-any : (lo hi lo' hi' : ℕ) (s : List ℕ) → utf8_f 0 lo hi s ≡ utf8_f 0 lo' hi' s
unfolding utf8_f
zero-any lo hi lo' hi' [] = refl
zero-any lo hi lo' hi' (b ∷ s) = refl

-- bytes that close an open char
unfoldable fill : ℕ → ℕ → List ℕ
fill zero lo = []
fill (suc k) lo = lo ∷ fill k 0x80

fill-closes : (k lo hi : ℕ) → (0 < k → (0x80 ≤ lo) × (lo ≤ hi)) → utf8_f k lo hi (fill k lo) ≡ true
unfolding utf8_f fill
fill-closes zero lo hi h = refl
fill-closes (suc k) lo hi h = both_yes _ _ (both_yes _ _ (le-leb lo lo (omega arith)) (le-leb lo hi (h (omega arith)).1)) (fill-closes k 0x80 0xbf (λ _. (omega arith, omega arith)))

fill-length : (k lo : ℕ) → length (fill k lo) ≡ k
unfolding fill
fill-length zero lo = refl
fill-length (suc k) lo = omega (arith, fill-length k 0x80)

-- ---- what is known of a state

-- k more bytes of a char are open behind c, the next from lo to hi
record Open (c : List ℕ) (k lo hi : ℕ) : Type 0 where
  rest : (t : List ℕ) → utf8 (c ++ t) ≡ utf8_f k lo hi t
  range : 0 < k → (0x80 ≤ lo) × (lo ≤ hi)

-- no more than a char, of which k bytes are open
abbrev Lone : List ℕ → ℕ → Type 0
Lone [] k = k ≡ 0
Lone (b ∷ s) k = width_of b ≡ length s + 1 + k

abbrev Fits : Bool → List ℕ → ℕ → Type 0
Fits false c k = Unit {0}
Fits true c k = Lone c k

abbrev At : Bool → Quoting → List ℕ → Type 0
At one outside s = s ≡ []
At one (inside c k lo hi) s = Open c k lo hi × Fits one c k × (s ≡ quote ∷ doubled c)
At one (at_quote c) s = Open c 0 0 0 × Fits one c 0 × (s ≡ quote ∷ (doubled c ++ quote ∷ []))

open_none : Open [] 0 0 0
unfolding utf8
open_none = record { rest = λ t. refl; range = λ h. absurd (omega arith) }

open_any : {c : List ℕ} {lo hi : ℕ} → Open c 0 lo hi → Open c 0 0 0
open_any {lo = lo} {hi = hi} o = record { rest = λ t. o.rest t ∙ zero-any lo hi 0 0 t; range = λ h. absurd (omega arith) }

-- a lead byte, and a byte behind one
lead-on : (b lo hi : ℕ) (t : List ℕ) → 0 < width_of b → utf8_f 0 lo hi (b ∷ t) ≡ utf8_f (width_of b - 1) (low_of b) (high_of b) t
unfolding utf8_f both
lead-on b lo hi t w = rw (lt-ltb 0 (width_of b) w)

next-on : (b k lo hi : ℕ) (t : List ℕ) → lo ≤ b → b ≤ hi → utf8_f (suc k) lo hi (b ∷ t) ≡ utf8_f k 0x80 0xbf t
unfolding utf8_f both
next-on b k lo hi t l h = rw (le-leb lo b l, le-leb b hi h)

open-lead : (c : List ℕ) (b lo hi : ℕ) → Open c 0 lo hi → 0 < width_of b → Open (c ++ b ∷ []) (width_of b - 1) (low_of b) (high_of b)
open-lead c b lo hi o w =
    record { rest = λ t. rw (append_assoc c (b ∷ []) t) (o.rest (b ∷ t) ∙ lead-on b lo hi t w); range = λ _. (low-least b, low-high b) }

open_next : (c : List ℕ) (b k lo hi : ℕ) → Open c (suc k) lo hi → lo ≤ b → b ≤ hi → Open (c ++ b ∷ []) k 0x80 0xbf
open_next c b k lo hi o l h =
    record { rest = λ t. rw (append_assoc c (b ∷ []) t) (o.rest (b ∷ t) ∙ next-on b k lo hi t l h); range = λ _. (omega arith, omega arith) }

-- a quote is a char
open-quote : (c : List ℕ) → Open c 0 0 0 → Open (c ++ quote ∷ []) 0 0 0
open-quote c o =
    let w : width_of quote ≡ 1 = width_one quote (omega arith) in
    open_any (rw w at (open-lead c quote 0 0 o (omega arith)))

-- a first char's lead, where another char may follow, and a byte behind it
lone-lead : (one : Bool) (c : List ℕ) (b : ℕ) → may_follow one c ≡ true → 0 < width_of b → Fits one (c ++ b ∷ []) (width_of b - 1)
unfolding may_follow
lone-lead false c b h w = tt
lone-lead true [] b h w = omega arith
lone-lead true (a ∷ c) b h w = not-both h refl

lone-next : (one : Bool) (c : List ℕ) (b k : ℕ) → Fits one c (suc k) → Fits one (c ++ b ∷ []) k
lone-next false c b k h = tt
lone-next true [] b k h = absurd (omega arith)
lone-next true (a ∷ c) b k h = omega (arith, h, length-append c (b ∷ []))

lone-quote : (one : Bool) (c : List ℕ) → may_follow one c ≡ true → Fits one (c ++ quote ∷ []) 0
lone-quote one c h = let w : width_of quote ≡ 1 = width_one quote (omega arith) in rw w at (lone-lead one c quote h (omega arith))

doubled-nil : doubled [] ≡ []
unfolding doubled
doubled-nil = refl

doubled-more : (c : List ℕ) (b : ℕ) → (b ≡ quote → ⊥) → quote ∷ doubled c ++ b ∷ [] ≡ quote ∷ doubled (c ++ b ∷ [])
doubled-more c b h = rw (doubled-append c (b ∷ []), doubled-other b [] h, doubled-nil)

doubled-again : (c : List ℕ) → quote ∷ (doubled c ++ quote ∷ [] ++ quote ∷ []) ≡ quote ∷ doubled (c ++ quote ∷ [])
doubled-again c = rw (doubled-append c (quote ∷ []), doubled-quote [], doubled-nil, append_assoc (doubled c) (quote ∷ []) (quote ∷ []))

lone-none : (one : Bool) → Fits one [] 0
lone-none false = tt
lone-none true = refl

kept : (one : Bool) (x y : Quoting) (b : ℕ) (s : List ℕ) → At one x s → quote_step one x b ≡ some y → At one y (s ++ b ∷ [])
unfolding quote_step pick
kept one outside y b s h e =
    let w = when-some _ _ y e in
    let is : b ≡ quote = eqb-true b quote w.0 in
    paths.subst (λ y. At one y (s ++ b ∷ [])) w.1 (open_none, lone-none one, rw (h, is, doubled-nil))
kept one (inside c zero lo hi) y b s h e =
    by-test (eqb b quote)
    (λ m.
    let is : b ≡ quote = eqb-true b quote m in
    paths.subst (λ y. At one y (s ++ b ∷ [])) (some-injective _ _ (rw m at e)) (open_any h.0, h.1, rw (h.2, is)))
    (λ m.
    let w = when-some _ _ y (rw m at e) in
    let wide : 0 < width_of b = ltb-true 0 (width_of b) (both_right (may_follow one c) _ w.0) in
    paths.subst (λ y. At one y (s ++ b ∷ [])) w.1
    (open-lead c b lo hi h.0 wide, lone-lead one c b (both_left _ _ w.0) wide, rw h.2 (doubled-more c b (eqb-false b quote m))))
kept one (inside c (suc k) lo hi) y b s h e =
    let w = when-some _ _ y e in
    let l : lo ≤ b = leb-true lo b (both_left _ _ w.0) in
    let u : b ≤ hi = leb-true b hi (both_right (leb lo b) _ w.0) in
    let r : 0x80 ≤ lo = (h.0.range (omega arith)).0 in
    paths.subst (λ y. At one y (s ++ b ∷ [])) w.1 (open_next c b k lo hi h.0 l u, lone-next one c b k h.1, rw h.2 (doubled-more c b (λ q. omega arith)))
kept one (at_quote c) y b s h e =
    let w = when-some _ _ y e in
    let is : b ≡ quote = eqb-true b quote (both_left _ _ w.0) in
    paths.subst (λ y. At one y (s ++ b ∷ [])) w.1
    (open-quote c h.0, lone-quote one c (both_right (eqb b quote) _ w.0), rw (h.2, is) (doubled-again c))

-- ---- through a whole text

-- another char stands there, so it may follow
follows : (one : Bool) (c : List ℕ) (b : ℕ) (t : List ℕ) → Fits one c 0 → Fits one (c ++ b ∷ t) 0 → may_follow one c ≡ true
unfolding may_follow
follows false c b t h k = refl
follows true [] b t h k = refl
follows true (a ∷ c) b t h k = absurd (omega (arith, h, k, length-append c (b ∷ t)))

lead-valid : (b lo hi : ℕ) (t : List ℕ) → utf8_f 0 lo hi (b ∷ t) ≡ true → (0 < width_of b) × (utf8_f (width_of b - 1) (low_of b) (high_of b) t ≡ true)
unfolding utf8_f
lead-valid b lo hi t u = (ltb-true 0 (width_of b) (both_left _ _ u), both_right (ltb 0 (width_of b)) _ u)

next-valid : (b k lo hi : ℕ) (t : List ℕ) → utf8_f (suc k) lo hi (b ∷ t) ≡ true → (lo ≤ b) × (b ≤ hi) × (utf8_f k 0x80 0xbf t ≡ true)
unfolding utf8_f
next-valid b k lo hi t u =
    let r : both (leb lo b) (leb b hi) ≡ true = both_left _ _ u in
    (leb-true lo b (both_left _ _ r), leb-true b hi (both_right (leb lo b) _ r), both_right (both (leb lo b) (leb b hi)) _ u)

end-open : (k lo hi : ℕ) → utf8_f (suc k) lo hi [] ≡ false
unfolding utf8_f
end-open k lo hi = refl

step-close : (one : Bool) (c : List ℕ) (lo hi : ℕ) → quote_step one (inside c 0 lo hi) quote ≡ some (at_quote c)
unfolding quote_step pick
step-close one c lo hi = refl

step_twice : (one : Bool) (c : List ℕ) → may_follow one c ≡ true → quote_step one (at_quote c) quote ≡ some (inside (c ++ quote ∷ []) 0 0 0)
unfolding quote_step
step_twice one c h = when_true _ _ (both_yes _ _ refl h)

step-lead : (one : Bool) (c : List ℕ) (b lo hi : ℕ) → (b ≡ quote → ⊥) → may_follow one c ≡ true → 0 < width_of b
    → quote_step one (inside c 0 lo hi) b ≡ some (inside (c ++ b ∷ []) (width_of b - 1) (low_of b) (high_of b))
unfolding quote_step pick
step-lead one c b lo hi n h w = rw (ne_eqb b quote n) (when_true _ _ (both_yes _ _ h (lt-ltb 0 (width_of b) w)))

step-next : (one : Bool) (c : List ℕ) (b k lo hi : ℕ) → lo ≤ b → b ≤ hi → quote_step one (inside c (suc k) lo hi) b ≡ some (inside (c ++ b ∷ []) k 0x80 0xbf)
unfolding quote_step
step-next one c b k lo hi l h = when_true _ _ (both_yes _ _ (le-leb lo b l) (le-leb b hi h))

through : (one : Bool) (c t : List ℕ) (k lo hi : ℕ) → Open c k lo hi → Fits one c k → utf8_f k lo hi t ≡ true → Fits one (c ++ t) 0
    → Goes (quotes one) (inside c k lo hi) (doubled t ++ quote ∷ []) (at_quote (c ++ t))
through one c [] zero lo hi o f u l = rw (doubled-nil, append-nil c) (steps (step-close one c lo hi) stays)
through one c [] (suc k) lo hi o f u l = not-both u (end-open k lo hi)
through one c (b ∷ t) zero lo hi o f u l =
    let v = lead-valid b lo hi t u in
    let m : may_follow one c ≡ true = follows one c b t f l in
    by-eq b quote
    (λ q.
    let w : width_of b ≡ 1 = width_one b (omega arith) in
    let u' : utf8_f 0 (low_of b) (high_of b) t ≡ true = rw w at v.1 in
    let l' : Fits one (c ++ quote ∷ [] ++ t) 0 = rw (append_assoc c (quote ∷ []) t, ← q) l in
    let on = through one (c ++ quote ∷ []) t 0 0 0 (open-quote c (open_any o)) (lone-quote one c m) (zero-any 0 0 _ _ t ∙ u') l' in
    rw (q, doubled-quote t) (steps (step-close one c lo hi) (steps (step_twice one c m) (rw (append_assoc c (quote ∷ []) t) at on))))
    (λ n.
    let l' : Fits one (c ++ b ∷ [] ++ t) 0 = rw (append_assoc c (b ∷ []) t) l in
    let on = through one (c ++ b ∷ []) t (width_of b - 1) (low_of b) (high_of b) (open-lead c b lo hi o v.0) (lone-lead one c b m v.0) v.1 l' in
    rw (doubled-other b t n) (steps (step-lead one c b lo hi n m v.0) (rw (append_assoc c (b ∷ []) t) at on)))
through one c (b ∷ t) (suc k) lo hi o f u l =
    let v = next-valid b k lo hi t u in
    let r : 0x80 ≤ lo = (o.range (omega arith)).0 in
    let n : lo ≤ b = v.0 in
    let l' : Fits one (c ++ b ∷ [] ++ t) 0 = rw (append_assoc c (b ∷ []) t) l in
    let on = through one (c ++ b ∷ []) t k 0x80 0xbf (open_next c b k lo hi o v.0 v.1) (lone-next one c b k f) v.2 l' in
    rw (doubled-other b t (λ q. omega arith)) (steps (step-next one c b k lo hi v.0 v.1) (rw (append_assoc c (b ∷ []) t) at on))

-- from the first quote to the last
spelled-goes : (one : Bool) (t : List ℕ) → utf8 t ≡ true → Fits one t 0 → Goes (quotes one) outside (quoted (doubled t)) (at_quote t)
unfolding quoted quote_step when utf8
spelled-goes one t u l = steps refl (through one [] t 0 0 0 open_none (lone-none one) u l)

-- ---- what a state's bytes begin

-- an open char closed
closes : {c : List ℕ} {k lo hi : ℕ} → Open c k lo hi → utf8 (c ++ fill k lo) ≡ true
closes {k = k} {lo = lo} {hi = hi} o = o.rest (fill k lo) ∙ fill-closes k lo hi o.range

valid : {c : List ℕ} → Open c 0 0 0 → utf8 c ≡ true
unfolding utf8_f
valid {c = c} o = rw (append-nil c) at (o.rest [])

-- bytes between quotes whose front they are
front-spelled : (c t : List ℕ) → quoted (doubled (c ++ t)) ≡ quote ∷ doubled c ++ (doubled t ++ quote ∷ [])
unfolding quoted
front-spelled c t = rw (doubled-append c t) (ap (λ s. quote ∷ s) (append_assoc (doubled c) (doubled t) (quote ∷ [])))

-- ---- texts

text-alive : (x : Quoting) (s : List ℕ) → At false x s → Begins (styled any_text) s
unfolding styled may spelled quoted
text-alive outside s h = record { value = content []; had = valid open_none; more = quoted (doubled []); spells = rw h }
text-alive (inside c k lo hi) s h =
    record { value = content (c ++ fill k lo); had = closes h.0; more = doubled (fill k lo) ++ quote ∷ []; spells = rw h.2 (front-spelled c (fill k lo)) }
text-alive (at_quote c) s h = record { value = content c; had = valid h.0; more = []; spells = rw (h.2, append-nil) }

text-whole : (x : Quoting) (s : List ℕ) (v : Value) → At false x s → quoted_value false x ≡ some v → (may any_text v ≡ true) × (spelled any_text v ≡ s)
unfolding quoted_value may spelled quoted
text-whole outside s v h e = absurd (none-ne-some v e)
text-whole (inside c k lo hi) s v h e = absurd (none-ne-some v e)
text-whole (at_quote c) s v h e = rw (← some-injective _ v e) (valid h.0, sym h.2)

text-goes : (v : Value) → may any_text v ≡ true → Whole (quotes false) (spelled any_text v) v
unfolding may spelled quoted_value
text-goes (number a b) h = not-both h refl
text-goes (content s) h = record { end = at_quote s; goes = spelled-goes false s h tt; is = refl }

shut : (one : Bool) (x : Quoting) (v : Value) (b : ℕ) → is_separator b ≡ true → quoted_value one x ≡ some v → quote_step one x b ≡ none
unfolding quoted_value quote_step both
shut one outside v b h e = absurd (none-ne-some v e)
shut one (inside c k lo hi) v b h e = absurd (none-ne-some v e)
shut one (at_quote c) v b h e = by-separator b h (λ q. rw q (when_false _ _ refl)) (λ q. rw q (when_false _ _ refl))

pub text-exact : ExactStyle any_text
unfolding styled acceptor
text-exact =
    record {
      alive = λ {s} {x} g. text-alive x s (everywhere (quotes false) (At false) (kept false) g refl);
      whole = λ {s} {x} {v} g e. text-whole x s v (everywhere (quotes false) (At false) (kept false) g refl) e;
      goes = text-goes;
      closed = λ {x} {v} b h e. shut false x v b h e;
    }

-- ---- chars

char-lone : (a : ℕ) → is_char a ≡ true → Lone (char_bytes a) 0
char-lone a h =
    by-lt a 0x80 (λ l. rw (char-one a l) (omega (arith, width_one a l)))
    (λ m. by-lt a 0x800
    (λ l. rw (char-two a m l) (omega (arith, width_two (0xc0 + a / 64) (omega arith) (omega arith))))
    (λ m. by-lt a 0x10000
    (λ l. rw (char-three a m l) (omega (arith, width_three (0xe0 + a / 4096) (omega arith) (omega arith))))
    (λ m. rw (char-four a m) (omega (arith, width_four (0xf0 + a / 262144) (omega arith) (omega (arith, char_below a h)))))))

-- two chars, one the other's front
same-lone : (r : List ℕ) (b : ℕ) (s : List ℕ) → 0 < length r → Lone r 0 → r ≡ take (length r) (b ∷ s) → Lone (b ∷ s) 0 → r ≡ b ∷ s
same-lone [] b s p h e k = absurd (omega arith)
same-lone (x ∷ r) b s p h e k =
    let head : x ≡ b = head-eq_of_cons-eq e in
    let tail : r ≡ take (length r) s = tail-eq_of_cons-eq e in
    let w : width_of x ≡ length s + 1 + 0 = rw head k in
    let long : length r ≡ length s = omega (arith, h, w) in
    let all : r ≡ s = tail ∙ ap (λ n. take n s) long ∙ take-length s in
    rw (head, all)

-- one char's bytes are the bytes of the char that they are
lone-char : (b : ℕ) (s : List ℕ) → utf8 (b ∷ s) ≡ true → Lone (b ∷ s) 0 → (is_char (first_char (b ∷ s)) ≡ true) × (char_bytes (first_char (b ∷ s)) ≡ b ∷ s)
lone-char b s u l =
    let c = first-char-of (b ∷ s) (omega arith) u in
    let is : is_char (first_char (b ∷ s)) ≡ true = c.is-char in
    (is, same-lone (char_bytes (first_char (b ∷ s))) b s (char-text (first_char (b ∷ s)) is).some_bytes (char-lone (first_char (b ∷ s)) is) c.front l)

char-may : (a : ℕ) → is_char a ≡ true → may one_char (number a 0) ≡ true
unfolding may
char-may a h = both_yes _ _ h refl

char-begins : (b : ℕ) (s more front : List ℕ) → utf8 (b ∷ s) ≡ true → Lone (b ∷ s) 0 → quoted (doubled (b ∷ s)) ≡ front ++ more → Begins (styled one_char) front
unfolding styled spelled
char-begins b s more front u l e =
    let c = lone-char b s u l in
    record { value = number (first_char (b ∷ s)) 0; had = char-may _ c.0; more = more; spells = rw c.1 e }

fill-lone : (b : ℕ) (c : List ℕ) (k lo : ℕ) → Lone (b ∷ c) k → Lone (b ∷ c ++ fill k lo) 0
fill-lone b c k lo h = omega (arith, h, length-append c (fill k lo), fill-length k lo)

-- one digit, and a quote alone
digit-valid : (utf8 (48 ∷ []) ≡ true) × (quoted (doubled (48 ∷ [])) ≡ quote ∷ doubled [] ++ 48 ∷ quote ∷ [])
unfolding utf8 utf8_f both width_of pick quoted doubled
digit-valid = (refl, refl)

quote-valid : (utf8 (quote ∷ []) ≡ true) × (quoted (doubled (quote ∷ [])) ≡ quote ∷ (doubled [] ++ quote ∷ []) ++ quote ∷ quote ∷ [])
unfolding utf8 utf8_f both width_of pick quoted doubled
quote-valid = (refl, refl)

char-alive : (x : Quoting) (s : List ℕ) → At true x s → Begins (styled one_char) s
unfolding quoted
char-alive outside s h = char-begins 48 [] (quoted (doubled (48 ∷ []))) s digit-valid.0 (omega (arith, width_one 48 (omega arith))) (rw h)
char-alive (inside [] k lo hi) s h =
    char-begins 48 [] (48 ∷ quote ∷ []) s digit-valid.0 (omega (arith, width_one 48 (omega arith))) (rw h.2 digit-valid.1)
char-alive (inside (b ∷ c) k lo hi) s h =
    char-begins b (c ++ fill k lo) (doubled (fill k lo) ++ quote ∷ []) s (closes h.0) (fill-lone b c k lo h.1) (rw h.2 (front-spelled (b ∷ c) (fill k lo)))
char-alive (at_quote []) s h =
    char-begins quote [] (quote ∷ quote ∷ []) s quote-valid.0 (omega (arith, width_one quote (omega arith))) (rw h.2 quote-valid.1)
char-alive (at_quote (b ∷ c)) s h = char-begins b c [] s (valid h.0) h.1 (rw (h.2, append-nil))

char-whole : (x : Quoting) (s : List ℕ) (v : Value) → At true x s → quoted_value true x ≡ some v → (may one_char v ≡ true) × (spelled one_char v ≡ s)
unfolding quoted_value char_value spelled quoted
char-whole outside s v h e = absurd (none-ne-some v e)
char-whole (inside c k lo hi) s v h e = absurd (none-ne-some v e)
char-whole (at_quote []) s v h e = absurd (none-ne-some v e)
char-whole (at_quote (b ∷ c)) s v h e =
    let l = lone-char b c (valid h.0) h.1 in
    rw (← some-injective _ v e) (char-may _ l.0, rw l.1 (sym h.2))

-- a char's bytes are some, and give its value
char-valued : (t : List ℕ) (a : ℕ) → 0 < length t → first_char t ≡ a → quoted_value true (at_quote t) ≡ some (number a 0)
unfolding quoted_value char_value
char-valued [] a p e = absurd (omega arith)
char-valued (b ∷ t) a p e = rw e

char-goes : (v : Value) → may one_char v ≡ true → Whole (quotes true) (spelled one_char v) v
unfolding may spelled
char-goes (content s) h = not-both h refl
char-goes (number a b) h = rw (eqb-true b 0 (both_right (is_char a) _ h)) (go (both_left _ _ h))
  where
    go : is_char a ≡ true → Whole (quotes true) (quoted (doubled (char_bytes a))) (number a 0)
    go is =
        let t = char-text a is in
        record { end = at_quote (char_bytes a); goes = spelled-goes true (char_bytes a) t.valid (char-lone a is); is = char-valued (char_bytes a) a t.some_bytes t.first_char_is }

pub char-exact : ExactStyle one_char
unfolding styled acceptor
char-exact =
    record {
      alive = λ {s} {x} g. char-alive x s (everywhere (quotes true) (At true) (kept true) g refl);
      whole = λ {s} {x} {v} g e. char-whole x s v (everywhere (quotes true) (At true) (kept true) g refl) e;
      goes = char-goes;
      closed = λ {x} {v} b h e. shut true x v b h e;
    }

-- ---- what was gone through to the closing quote

pub quoted-at : (one : Bool) {c s : List ℕ} → Goes (quotes one) outside s (at_quote c) → (utf8 c ≡ true) × (s ≡ quoted (doubled c))
unfolding quoted
quoted-at one g = let h = everywhere (quotes one) (At one) (kept one) g refl in (valid h.0, h.2)

pub char-at : {b : ℕ} {c s : List ℕ} → Goes (quotes true) outside s (at_quote (b ∷ c)) → (is_char (first_char (b ∷ c)) ≡ true) × (char_bytes (first_char (b ∷ c)) ≡ b ∷ c)
char-at {b} {c} g = let h = everywhere (quotes true) (At true) (kept true) g refl in lone-char b c (valid h.0) h.1
