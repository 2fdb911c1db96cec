-- The steps of a text or a char: its first quote, a char's bytes, a quote, and its end.
-- Assumes nothing.
use Rattle.std.specs.Prelude.{Some, None, Result, Ok, Err}
use mathlib.Core.Path.{◌≡◌, refl, sym, ap, ◌∙◌}
use mathlib.Core.Bool.{Bool, true, false}
use mathlib.Core.List.{List}
use mathlib.Core.Option.{none, some}
use Prim.Native.Nat.{ℕ, zero, suc, ◌+◌, ◌-◌, ◌<◌, ◌≤◌}
use native.Mathlib.Omega.{arith}
use lib.Dec.{ltb, leb, eqb}
use lib.ListN.{length, get_or}
use borrow.Author.Tests.{lt-ltb, le-ltb, le-leb, lt-leb, eq-eqb, ne_eqb}
use Rattle.wire.specs.Tests.{pick, both}
use Rattle.wire.specs.Text.{width_of, low_of, high_of}
use Rattle.laws.proofs.Splits.{by-test, by-lt, both_yes, both_left, both_right}
use Rattle.desk.specs.Csv.{quote}
use Rattle.spellings.specs.Accept.{when}
use Rattle.take_number.specs.declared.Stop.{Stop}
use Rattle.take_number.specs.Scans.{Ends}
use Rattle.take_number.proofs.Figures.{at_there, at_test}
use Rattle.take_number.proofs.Scanning.{ends-here, ends_on}
use Rattle.take_text.specs.declared.Quoted.{Quoted}
use Rattle.take_text.specs.declared.Step.{Step}
use Rattle.take_text.specs.Marks.{Mark, before, within, behind, may_go_on, mark_step, marks, is_whole, Answers, quoted, stops, Turns, on, closes, out, AtQuote, is_quote, PassesPlain, behind_run}

-- ---- tests

pub quote-there : (s : List ℕ) (i : ℕ) → is_quote s i ≡ true → (i < length s) × (get_or s i 0 ≡ quote)
quote-there s i h = at_there s i quote h

pub quote-test : (s : List ℕ) (i : ℕ) → i < length s → eqb (get_or s i 0) quote ≡ is_quote s i
quote-test s i h = at_test s i quote h

pub quote-is : (s : List ℕ) (i : ℕ) → i < length s → get_or s i 0 ≡ quote → is_quote s i ≡ true
quote-is s i h e = sym (quote-test s i h) ∙ eq-eqb (get_or s i 0) quote e

pub may-one : (one : Bool) (n : ℕ) → one ≡ true → eqb n 0 ≡ may_go_on one n
unfolding may_go_on
may-one one n e = rw e

pub may-any : (one : Bool) (n : ℕ) → one ≡ false → true ≡ may_go_on one n
unfolding may_go_on
may-any one n e = rw e

pub both-test : (a b : Bool) → a ≡ true → b ≡ both a b
unfolding both
both-test a b e = rw e

pub both-none : (a b : Bool) → a ≡ false → false ≡ both a b
unfolding both
both-none a b e = rw e

pub whole-one : (one : Bool) (n : ℕ) → one ≡ true → ltb 0 n ≡ is_whole one (behind n)
unfolding is_whole
whole-one one n e = rw e

pub whole-any : (one : Bool) (n : ℕ) → one ≡ false → true ≡ is_whole one (behind n)
unfolding is_whole
whole-any one n e = rw e

-- ---- lead bytes

module _ (b : ℕ) where
  pub width-1 : b < 0x80 → 1 ≡ width_of b
  unfolding width_of pick
  width-1 h = rw (lt-ltb b 0x80 h)

  pub width-0 : 0x80 ≤ b → b < 0xc2 → 0 ≡ width_of b
  unfolding width_of pick
  width-0 h i = rw (le-ltb b 0x80 h, lt-ltb b 0xc2 i)

  pub width-2 : 0xc2 ≤ b → b < 0xe0 → 2 ≡ width_of b
  unfolding width_of pick
  width-2 h i = rw (le-ltb b 0x80 (omega arith), le-ltb b 0xc2 h, lt-ltb b 0xe0 i)

  pub width-3 : 0xe0 ≤ b → b < 0xf0 → 3 ≡ width_of b
  unfolding width_of pick
  width-3 h i = rw (le-ltb b 0x80 (omega arith), le-ltb b 0xc2 (omega arith), le-ltb b 0xe0 h, lt-ltb b 0xf0 i)

  pub width-4 : 0xf0 ≤ b → b < 0xf5 → 4 ≡ width_of b
  unfolding width_of pick
  width-4 h i = rw (le-ltb b 0x80 (omega arith), le-ltb b 0xc2 (omega arith), le-ltb b 0xe0 (omega arith), le-ltb b 0xf0 h, lt-ltb b 0xf5 i)

  pub width-none : 0xf5 ≤ b → 0 ≡ width_of b
  unfolding width_of pick
  width-none h = rw (le-ltb b 0x80 (omega arith), le-ltb b 0xc2 (omega arith), le-ltb b 0xe0 (omega arith), le-ltb b 0xf0 (omega arith), le-ltb b 0xf5 h)

  pub low-e0 : b ≡ 0xe0 → 0xa0 ≡ low_of b
  unfolding low_of pick
  low-e0 e = rw (eq-eqb b 0xe0 e)

  pub low-f0 : b ≡ 0xf0 → 0x90 ≡ low_of b
  unfolding low_of pick
  low-f0 e = rw (ne_eqb b 0xe0 (λ z. omega arith), eq-eqb b 0xf0 e)

  pub low_any : (b ≡ 0xe0 → ⊥) → (b ≡ 0xf0 → ⊥) → 0x80 ≡ low_of b
  unfolding low_of pick
  low_any e f = rw (ne_eqb b 0xe0 e, ne_eqb b 0xf0 f)

  pub high-ed : b ≡ 0xed → 0x9f ≡ high_of b
  unfolding high_of pick
  high-ed e = rw (eq-eqb b 0xed e)

  pub high-f4 : b ≡ 0xf4 → 0x8f ≡ high_of b
  unfolding high_of pick
  high-f4 e = rw (ne_eqb b 0xed (λ z. omega arith), eq-eqb b 0xf4 e)

  pub high-any : (b ≡ 0xed → ⊥) → (b ≡ 0xf4 → ⊥) → 0xbf ≡ high_of b
  unfolding high_of pick
  high-any e f = rw (ne_eqb b 0xed e, ne_eqb b 0xf4 f)

-- ---- ends

-- inside it no spelling is whole
within-not : (one : Bool) (n k lo hi : ℕ) → is_whole one (within n k lo hi) ≡ false
unfolding is_whole
within-not one n k lo hi = refl

-- no byte goes on
module _ (one : Bool) (n k lo hi : ℕ) (s : List ℕ) (i : ℕ) where
  pub no-turn : i < length s → mark_step one (within n k lo hi) (get_or s i 0) ≡ none → Turns one n k lo hi s i (Err (record { at = i }))
  no-turn h e = out (stops (ends-here (marks one) s i (omega arith) (λ l. e)) (within-not one n k lo hi))

  pub row_ends : i ≤ length s → length s ≤ i → Answers one (within n k lo hi) s i (Err (record { at = i }))
  row_ends h l = stops (ends-here (marks one) s i h (λ m. absurd (omega arith))) (within-not one n k lo hi)

  pub a_turn : {j l m o : ℕ} → i < length s → j ≡ i + 1 → mark_step one (within n k lo hi) (get_or s i 0) ≡ some (within (n + 1) l m o) → Turns one n k lo hi s i (Ok (Some (record { at = j; rest = record { more = l; low = m; high = o } })))
  a_turn h e f = rw e (on (λ y z r. ends_on (marks one) s i h f r) (omega arith) (omega arith))

-- ---- steps of a char's bytes

module _ (one : Bool) (n : ℕ) (b : ℕ) where
  pub open-low : (k lo hi : ℕ) → 0 < k → b < lo → mark_step one (within n k lo hi) b ≡ none
  unfolding mark_step both when
  open-low zero lo hi h l = absurd (omega arith)
  open-low (suc k) lo hi h l = rw (lt-leb lo b l)

  pub open-high : (k lo hi : ℕ) → 0 < k → hi < b → mark_step one (within n k lo hi) b ≡ none
  unfolding mark_step both when
  open-high zero lo hi h l = absurd (omega arith)
  open-high (suc k) lo hi h l = by-test (leb lo b) (λ e. rw (e, lt-leb b hi l)) (λ e. rw e)

  pub open-on : (k lo hi : ℕ) → 0 < k → lo ≤ b → b ≤ hi → mark_step one (within n k lo hi) b ≡ some (within (n + 1) (k - 1) 0x80 0xbf)
  unfolding mark_step both when
  open-on zero lo hi h l m = absurd (omega arith)
  open-on (suc k) lo hi h l m = let e : suc k - 1 ≡ k = omega arith in rw (le-leb lo b l, le-leb b hi m, e)

  module _ (k lo hi : ℕ) (z : k ≤ 0) where
    closed-k : k ≡ 0
    closed-k = omega (arith, z)

    pub lead-quote : b ≡ quote → mark_step one (within n k lo hi) b ≡ some (behind n)
    unfolding mark_step pick
    lead-quote e = rw (closed-k, eq-eqb b quote e)

    pub lead-no : (b ≡ quote → ⊥) → may_go_on one n ≡ false → mark_step one (within n k lo hi) b ≡ none
    unfolding mark_step pick both when
    lead-no e f = rw (closed-k, ne_eqb b quote e, f)

    pub lead-none : (b ≡ quote → ⊥) → width_of b < 1 → mark_step one (within n k lo hi) b ≡ none
    unfolding mark_step pick both when
    lead-none e f = by-test (may_go_on one n) (λ m. rw (closed-k, ne_eqb b quote e, m, le-ltb 0 (width_of b) (omega arith))) (λ m. rw (closed-k, ne_eqb b quote e, m))

    pub lead-on : (b ≡ quote → ⊥) → may_go_on one n ≡ true → 1 ≤ width_of b → mark_step one (within n k lo hi) b ≡ some (within (n + 1) (width_of b - 1) (low_of b) (high_of b))
    unfolding mark_step pick both when
    lead-on e f h = rw (closed-k, ne_eqb b quote e, f, lt-ltb 0 (width_of b) h)

-- ---- a quote

module _ (one : Bool) (n : ℕ) (s : List ℕ) (i : ℕ) (q : is_quote s i ≡ true) where
  behind-step : (j : ℕ) → both (is_quote s j) (may_go_on one n) ≡ true → mark_step one (behind n) (get_or s j 0) ≡ some (within (n + 1) 0 0 0)
  unfolding mark_step when
  behind-step j h = rw (both_yes _ _ (eq-eqb (get_or s j 0) quote (quote-there s j (both_left _ _ h)).1) (both_right (is_quote s j) _ h))

  behind-none : (j : ℕ) → both (is_quote s j) (may_go_on one n) ≡ false → j < length s → mark_step one (behind n) (get_or s j 0) ≡ none
  unfolding mark_step when
  behind-none j h l = rw (ap (λ t. both t (may_go_on one n)) (quote-test s j l) ∙ h)

  pub two-quotes : {t : Bool} → t ≡ both (is_quote s (i + 1)) (may_go_on one n) → t ≡ true → AtQuote one n s i (Ok (Some (record { at = i + 1 + 1; rest = record { more = 0; low = 0; high = 0 } })))
  two-quotes e f =
      let h : both (is_quote s (i + 1)) (may_go_on one n) ≡ true = sym e ∙ f in
      let l = quote-there s i q in
      let m = quote-there s (i + 1) (both_left _ _ h) in
      record {
        any = λ lo hi. on (λ y z r. ends_on (marks one) s i l.0 (lead-quote one n (get_or s i 0) 0 lo hi (omega arith) l.1) (ends_on (marks one) s (i + 1) m.0 (behind-step (i + 1) h) r)) (omega arith) (omega (arith, m.0));
      }

  module _ {t : Bool} (e : t ≡ both (is_quote s (i + 1)) (may_go_on one n)) (f : t ≡ false) where
    ends-behind : (lo hi : ℕ) → Ends (marks one) (within n 0 lo hi) s i (behind n) (i + 1)
    ends-behind lo hi =
        let l = quote-there s i q in
        ends_on (marks one) s i l.0 (lead-quote one n (get_or s i 0) 0 lo hi (omega arith) l.1) (ends-here (marks one) s (i + 1) (omega (arith, l.0)) (behind-none (i + 1) (sym e ∙ f)))

    pub closing-quote : is_whole one (behind n) ≡ true → AtQuote one n s i (Ok None)
    closing-quote w = record { any = λ lo hi. closes (quoted (ends-behind lo hi) w) }

    pub empty-quote : is_whole one (behind n) ≡ false → AtQuote one n s i (Err (record { at = i + 1 }))
    empty-quote w = record { any = λ lo hi. out (stops (ends-behind lo hi) w) }

-- ---- all bytes

pub record Going (one : Bool) (s : List ℕ) (from at n k lo hi : ℕ) : Type 0 where
  pub finish : {y : Mark} {z : ℕ} → Ends (marks one) (within n k lo hi) s at y z → Ends (marks one) (within 0 0 0 0) s from y z
  pub inside : at ≤ length s
  pub few : n ≤ at

pub going-begin : (one : Bool) (s : List ℕ) (from : ℕ) → from ≤ length s → Going one s from from 0 0 0 0
going-begin one s from h = record { finish = λ e. e; inside = h; few = omega arith }

module _ {one : Bool} {s : List ℕ} {from at n k lo hi : ℕ} (g : Going one s from at n k lo hi) where
  going-answer : {r : Result Quoted Stop} → Answers one (within n k lo hi) s at r → Answers one (within 0 0 0 0) s from r
  going-answer (quoted e w) = quoted (g.finish e) w
  going-answer (stops e w) = stops (g.finish e) w

  pub going_end : length s ≤ at → Answers one (within 0 0 0 0) s from (Err (record { at = at }))
  going_end h = going-answer (row_ends one n k lo hi s at g.inside h)

  pub going-out : {r : Stop} → Turns one n k lo hi s at (Err r) → Answers one (within 0 0 0 0) s from (Err r)
  going-out (out r) = going-answer r

  pub going-closed : Turns one n k lo hi s at (Ok None) → Answers one (within 0 0 0 0) s from (Ok (record { len = n; at = at + 1 }))
  going-closed (closes r) = going-answer r

  pub going_on : {t : Step} → Turns one n k lo hi s at (Ok (Some t)) → Going one s from t.at (n + 1) t.rest.more t.rest.low t.rest.high × (at < t.at)
  going_on (on f h i) = (record { finish = λ r. g.finish (f _ _ r); inside = i; few = omega (arith, g.few) }, h)

-- ---- plain bytes

pub passes_none : (one : Bool) (k : ℕ) (s : List ℕ) (i : ℕ) → i ≤ length s → PassesPlain one k s i i
passes_none one k s i h = record { forth = omega arith; inside = h; between = λ l. absurd (omega arith); plain = λ p l m. absurd (omega arith) }

pub passes_on : {one : Bool} {k : ℕ} {s : List ℕ} {i j : ℕ} → PassesPlain one k s i j → one ≡ false → k ≡ 0 → j < length s → get_or s j 0 < 0x80 → (get_or s j 0 ≡ quote → ⊥) → PassesPlain one k s i (j + 1)
passes_on {s = s} {j = j} g o z h l q =
    record {
      forth = omega (arith, g.forth);
      inside = omega arith;
      between = λ m. (o, z);
      plain =
          λ p a b. by-lt p j (λ m. g.plain p a m)
          (λ m. let e : p ≡ j = omega arith in rw e (l, q));
    }

pub run-some : (run plain was : ℕ) → 0 < run → plain ≡ behind_run run plain was
unfolding behind_run
run-some zero plain was h = absurd (omega arith)
run-some (suc run) plain was h = refl

pub run_none : (run plain was : ℕ) → run ≤ 0 → was ≡ behind_run run plain was
unfolding behind_run
run_none zero plain was h = refl
run_none (suc run) plain was h = absurd (omega arith)

plain_step : (n lo hi b : ℕ) → b < 0x80 → (b ≡ quote → ⊥) → mark_step false (within n 0 lo hi) b ≡ some (within (n + 1) 0 0x80 0xbf)
plain_step n lo hi b h q =
    let w : width_of b - 1 ≡ 0 = omega (arith, width-1 b h) in
    lead-on false n b 0 lo hi (omega arith) q (sym (may-any false n refl)) (omega (arith, width-1 b h)) ∙ rw (w, sym (low_any b (λ e. omega arith) (λ e. omega arith)), sym (high-any b (λ e. omega arith) (λ e. omega arith)))

module _ {s : List ℕ} {from i n lo hi : ℕ} (g : Going false s from i n 0 lo hi) where
  plain-run : (m : ℕ) → i + m ≤ length s → ((p : ℕ) → i ≤ p → p < i + m → (get_or s p 0 < 0x80) × (get_or s p 0 ≡ quote → ⊥)) → Going false s from (i + m) (n + m) 0 (behind_run m 0x80 lo) (behind_run m 0xbf hi)
  unfolding behind_run
  plain-run zero h f = let e : i + 0 ≡ i = omega arith in let d : n + 0 ≡ n = omega arith in rw (e, d) g
  plain-run (suc m) h f =
      let r = plain-run m (omega arith) (λ p a b. f p a (omega arith)) in
      let b = f (i + m) (omega arith) (omega arith) in
      let e : i + suc m ≡ i + m + 1 = omega arith in
      let d : n + suc m ≡ n + m + 1 = omega arith in
      rw (e, d) (record { finish = λ z. r.finish (ends_on (marks false) s (i + m) (omega arith) (plain_step (n + m) _ _ (get_or s (i + m) 0) b.0 b.1) z); inside = omega arith; few = omega (arith, r.few) })

module _ {one : Bool} {s : List ℕ} {from i n k lo hi j : ℕ} (g : Going one s from i n k lo hi) (r : PassesPlain one k s i j) where
  some-passed : i < j → Going one s from j (n + (j - i)) k (behind_run (j - i) 0x80 lo) (behind_run (j - i) 0xbf hi)
  some-passed l =
      let e : i + (j - i) ≡ j = omega arith in
      rw ((r.between l).0, (r.between l).1) (rw e at (plain-run (rw ((r.between l).0, (r.between l).1) at g) (j - i) (omega (arith, r.inside)) (λ p a b. r.plain p a (omega arith))))

  none_passed : j ≤ i → Going one s from j (n + (j - i)) k (behind_run (j - i) 0x80 lo) (behind_run (j - i) 0xbf hi)
  unfolding behind_run
  none_passed l =
      let d : j - i ≡ 0 = omega arith in
      let z : n + 0 ≡ n = omega arith in
      let e : j ≡ i = omega (arith, r.forth) in
      rw (d, z, e) g

  pub going-plain : Going one s from j (n + (j - i)) k (behind_run (j - i) 0x80 lo) (behind_run (j - i) 0xbf hi)
  going-plain = by-lt i j some-passed none_passed

  pub going-run : {a b : ℕ} → a ≡ behind_run (j - i) 0x80 lo → b ≡ behind_run (j - i) 0xbf hi → Going one s from j (n + (j - i)) k a b
  going-run e f = rw (e, f) going-plain

-- ---- from the first quote on

module _ (one : Bool) (s : List ℕ) (i : ℕ) where
  before-step : is_quote s i ≡ true → mark_step one before (get_or s i 0) ≡ some (within 0 0 0 0)
  unfolding mark_step when
  before-step h = rw (eq-eqb (get_or s i 0) quote (quote-there s i h).1)

  before-none : is_quote s i ≡ false → i < length s → mark_step one before (get_or s i 0) ≡ none
  unfolding mark_step when
  before-none h l = rw (quote-test s i l ∙ h)

  pub opened : {r : Result Quoted Stop} → is_quote s i ≡ true → Answers one (within 0 0 0 0) s (i + 1) r → Answers one before s i r
  opened h (quoted e w) = quoted (ends_on (marks one) s i (quote-there s i h).0 (before-step h) e) w
  opened h (stops e w) = stops (ends_on (marks one) s i (quote-there s i h).0 (before-step h) e) w

  pub not_opened : i ≤ length s → is_quote s i ≡ false → Answers one before s i (Err (record { at = i }))
  unfolding is_whole
  not_opened h e = stops (ends-here (marks one) s i h (before-none e)) refl
