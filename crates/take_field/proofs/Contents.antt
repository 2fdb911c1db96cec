-- A char, a text or bytes that were taken: what stands between the quotes is the spelling of one content, and the value's bytes are that
-- content behind its count.
-- Assumes nothing.
use Rattle.std.specs.Prelude.{Ok, Err}
use mathlib.Core.Path.{◌≡◌, refl, sym, ap, ◌∙◌}
use mathlib.Core.Path as paths
use mathlib.Core.Bool.{Bool, true, false}
use mathlib.Core.List.{List, [], ◌∷◌, ◌++◌, append_assoc}
use mathlib.Core.Option.{none, some-injective}
use Prim.Native.Nat.{ℕ, zero, suc, ◌+◌, ◌-◌, ◌≤◌}
use native.Mathlib.Omega.{arith}
use lib.Dec.{ltb, leb, eqb}
use lib.ListN.{length, take, drop, length-append}
use lib.Seq.{drop-drop, take-append_seam, take-length}
use borrow.Author.Tests.{le-leb, lt-ltb, ne_eqb}
use Rattle.wire.specs.Tests.{pick, both}
use Rattle.wire.specs.Shape.{char, text, plain, pooled}
use Rattle.wire.specs.Table.{kinds, kind_of}
use Rattle.wire.specs.Text.{utf8, width_of, low_of, high_of, first_char, is_char, char_bytes}
use Rattle.wire.specs.Values.{number, content, part}
use Rattle.wire.specs.Reading.{is_content}
use Rattle.wire.specs.Writing.{with_count, plain_bytes, head_bytes}
use Rattle.laws.proofs.Splits.{by-test, not-both, both_yes}
use Rattle.laws.proofs.Own.{when-yes, single-yes}
use Rattle.desk.specs.Csv.{quote, one_char, any_text, style_of_plain, style_of_content, style_of, doubled, quoted, or_nothing, value_bytes}
use Rattle.spellings.specs.Accept.{when, acceptor, Quoting, outside, inside, at_quote, may_follow, quote_step, quoted_value, char_value, quotes, scan}
use Rattle.spellings.specs.Exact.{Goes, neither, each, Beside}
use Rattle.spellings.proofs.Beside.{scans-alike}
use Rattle.spellings.proofs.Quoted.{quoted-at, char-at}
use Rattle.put_number.specs.Lays.{Lays}
use Rattle.take_number.specs.declared.Stop.{Stop}
use Rattle.take_number.specs.Scans.{Ends}
use Rattle.take_text.specs.declared.Quoted.{Quoted}
use Rattle.take_text.specs.Marks.{Mark, before, within, behind, may_go_on, mark_step, marks, is_whole, Answers}
use Rattle.take_text.specs.Marks as mark
use Rattle.put_content.specs.Undone.{undoubled}
use Rattle.put_content.proofs.Undoing.{undone}
use Rattle.take_field.specs.Field.{Took}
use Rattle.take_field.specs.Taking.{Takes, took, stops, TakesKind, quoted_kind}
use Rattle.take_field.proofs.Numbers.{gone}

-- ---- counts beside contents

-- states that stand for the same
data Same : Mark → Quoting → Type 0 where
  outsides : Same before outside
  insides : (c : List ℕ) (k lo hi : ℕ) → Same (within (length c) k lo hi) (inside c k lo hi)
  at_quotes : (c : List ℕ) → Same (behind (length c)) (at_quote c)

may-same : (one : Bool) (c : List ℕ) → may_go_on one (length c) ≡ may_follow one c
unfolding may_go_on may_follow
may-same false c = refl
may-same true [] = refl
may-same true (b ∷ c) = ne_eqb (length (b ∷ c)) 0 (λ e. omega arith)

one_more : (c : List ℕ) (b k lo hi : ℕ) → Same (within (length c + 1) k lo hi) (inside (c ++ b ∷ []) k lo hi)
one_more c b k lo hi = paths.subst (λ n. Same (within n k lo hi) (inside (c ++ b ∷ []) k lo hi)) (length-append c (b ∷ [])) (insides (c ++ b ∷ []) k lo hi)

beside : (one : Bool) → Beside (marks one) (quotes one) Same
unfolding mark_step quote_step pick when
beside one x y b outsides = by-test (eqb b quote) (λ e. rw e (each (insides [] 0 0 0))) (λ e. rw e neither)
beside one x y b (insides c zero lo hi) =
    by-test (eqb b quote) (λ e. rw e (each (at_quotes c)))
    (λ e. rw (e, may-same one c)
    (by-test (both (may_follow one c) (ltb 0 (width_of b))) (λ t. rw t (each (one_more c b (width_of b - 1) (low_of b) (high_of b)))) (λ t. rw t neither)))
beside one x y b (insides c (suc k) lo hi) = by-test (both (leb lo b) (leb b hi)) (λ t. rw t (each (one_more c b k 0x80 0xbf))) (λ t. rw t neither)
beside one x y b (at_quotes c) =
    rw (may-same one c) (by-test (both (eqb b quote) (may_follow one c)) (λ t. rw t (each (one_more c quote 0 0 0))) (λ t. rw t neither))

record Went (one : Bool) (s : List ℕ) (i : ℕ) (y : Mark) (j : ℕ) : Type 0 where
  state : Quoting
  ends : Ends (quotes one) outside s i state j
  same : Same y state

went : (one : Bool) {s : List ℕ} {i j : ℕ} {y : Mark} → Ends (marks one) before s i y j → Went one s i y j
went one {s} {i} {j} {y} e =
    let a = scans-alike (marks one) (quotes one) Same (beside one) (drop i s) before outside outsides in
    record {
      state = (scan (quotes one) outside (drop i s)).state;
      ends = record { state = refl; place = omega (arith, e.place, a.used); left = sym a.left ∙ e.left; inside = e.inside };
      same = paths.subst (λ x. Same x (scan (quotes one) outside (drop i s)).state) e.state a.states;
    }

-- ---- between quotes

pub inner : (s d t : List ℕ) (i j : ℕ) → drop i s ≡ quoted d ++ t → i + length (quoted d) ≡ j → take (j - 1 - (i + 1)) (drop (i + 1) s) ≡ d
unfolding quoted
inner s d t i j e l =
    let n : j - 1 - (i + 1) ≡ length d = omega (arith, l, length-append d (quote ∷ [])) in
    let behind : drop (i + 1) s ≡ d ++ (quote ∷ t) = sym (drop-drop 1 i s) ∙ ap (drop 1) e ∙ append_assoc d (quote ∷ []) t in
    rw (n, behind) (take-append_seam d (quote ∷ t))

pub quoted-long : (d : List ℕ) → length (quoted d) ≡ length d + 2
unfolding quoted
quoted-long d = simp length-append (omega arith)

-- what stands at a text or char that is whole
pub record Content (one : Bool) (s : List ℕ) (i : ℕ) (q : Quoted) : Type 0 where
  pub bytes : List ℕ
  pub ends : Ends (quotes one) outside s i (at_quote bytes) q.at
  pub goes : (front : List ℕ) × Goes (quotes one) outside front (at_quote bytes)
  pub valid : utf8 bytes ≡ true
  pub len : q.len ≡ length bytes
  pub whole : is_whole one (behind (length bytes)) ≡ true
  pub between : take (q.at - 1 - (i + 1)) (drop (i + 1) s) ≡ doubled bytes
  pub long : i + 2 ≤ q.at
  pub inside : q.at ≤ length s

pub whole-content : {one : Bool} {s : List ℕ} {i : ℕ} {q : Quoted} → Answers one before s i (Ok q) → Content one s i q
whole-content {one} {s} {i} {q} (mark.quoted e w) = let x = went one e in at x.state x.ends x.same refl w
  where
    at : {y : Mark} (z : Quoting) → Ends (quotes one) outside s i z q.at → Same y z → y ≡ behind q.len → is_whole one (behind q.len) ≡ true → Content one s i q
    at outside n outsides f w = let z : ◌≡◌ {A = ℕ} 0 1 = cc in absurd (omega arith)
    at (inside c k lo hi) n (insides d l m o) f w = let z : ◌≡◌ {A = ℕ} 0 1 = cc in absurd (omega arith)
    at (at_quote c) n (at_quotes d) f w =
        let g = gone (quotes one) n in
        let v = quoted-at one g.goes in
        let len : length c ≡ q.len = cc in
        record {
          bytes = c;
          ends = n;
          goes = (g.front, g.goes);
          valid = v.0;
          len = sym len;
          whole = ap (is_whole one) f ∙ w;
          between = inner s (doubled c) (drop q.at s) i q.at (g.split ∙ ap (λ t. t ++ drop q.at s) v.1) (rw v.1 at g.long);
          long = omega (arith, g.long, ap length v.1, quoted-long (doubled c));
          inside = n.inside;
        }

-- what is not whole has no value
not-whole : (one : Bool) (y : Mark) (z : Quoting) → Same y z → is_whole one y ≡ false → quoted_value one z ≡ none
unfolding is_whole quoted_value char_value
not-whole one y z outsides e = refl
not-whole one y z (insides c k lo hi) e = refl
not-whole false y z (at_quotes c) e = not-both refl e
not-whole true y z (at_quotes []) e = refl
not-whole true y z (at_quotes (b ∷ c)) e = not-both (lt-ltb 0 (length (b ∷ c)) (omega arith)) e

-- ---- texts

text-bytes : (c : List ℕ) → utf8 c ≡ true → value_bytes (pooled text) (content c) ≡ with_count c
unfolding value_bytes or_nothing head_bytes part is_content
text-bytes c h =
    let ok : both (leb (0 + length c) (length c)) (utf8 (take (length c) c)) ≡ true = rw (take-length c) (both_yes _ _ (le-leb (0 + length c) (length c) (omega arith)) h) in
    rw (when-yes _ (with_count (take (length c) c)) ok, take-length c)

char-bytes : (c : List ℕ) → is_char (first_char c) ≡ true → char_bytes (first_char c) ≡ c → value_bytes (plain char) (number (first_char c) 0) ≡ with_count c
unfolding value_bytes or_nothing head_bytes plain_bytes
char-bytes c h e = rw (single-yes (is_char (first_char c)) 0 (with_count (char_bytes (first_char c))) h refl, e)

module _ {s : List ℕ} {i : ℕ} where
  pub text-took : {q : Quoted} {u n : ℕ} {out after : List ℕ} (c : Content false s i q) → Lays (with_count c.bytes) u out n after → TakesKind (kind_of 12) s i u out (Took q.at n) after
  unfolding kind_of kinds style_of style_of_content
  text-took {q} {u} {n} {out} {after} c l =
      record { of = λ f e. paths.subst (λ f. Takes f (pooled text) s i u out (Took q.at n) after) (some-injective _ f e) go }
    where
      go : Takes any_text (pooled text) s i u out (Took q.at n) after
      go =
          let m : Lays (value_bytes (pooled text) (content c.bytes)) u out n after = rw (text-bytes c.bytes c.valid) l in
          unfold acceptor quoted_value in took {v = content c.bytes} c.ends refl m

  pub text-stops : {r : Stop} {u : ℕ} {out : List ℕ} → Answers false before s i (Err r) → TakesKind (kind_of 12) s i u out (Err r) out
  unfolding kind_of kinds style_of style_of_content
  text-stops {r} {u} {out} a =
      record { of = λ f e. paths.subst (λ f. Takes f (pooled text) s i u out (Err r) out) (some-injective _ f e) (go a) }
    where
      go : Answers false before s i (Err r) → Takes any_text (pooled text) s i u out (Err r) out
      go (mark.stops {y = y} x w) = unfold acceptor in (let e = went false x in stops e.ends (not-whole false y e.state e.same w) refl)

  -- ---- chars

  pub char-took : {q : Quoted} {u n : ℕ} {out after : List ℕ} (c : Content true s i q) → Lays (with_count c.bytes) u out n after → TakesKind (kind_of 11) s i u out (Took q.at n) after
  unfolding kind_of kinds style_of style_of_plain
  char-took {q} {u} {n} {out} {after} c l =
      record { of = λ f e. paths.subst (λ f. Takes f (plain char) s i u out (Took q.at n) after) (some-injective _ f e) (go c.bytes c.ends c.goes.1 c.whole l) }
    where
      go : (d : List ℕ) → Ends (quotes true) outside s i (at_quote d) q.at → Goes (quotes true) outside c.goes.0 (at_quote d) → is_whole true (behind (length d)) ≡ true
          → Lays (with_count d) u out n after → Takes one_char (plain char) s i u out (Took q.at n) after
      go [] x g w l = unfold is_whole in not-both w refl
      go (b ∷ d) x g w l =
          let h = char-at g in
          let m : Lays (value_bytes (plain char) (number (first_char (b ∷ d)) 0)) u out n after = rw (char-bytes (b ∷ d) h.0 h.1) l in
          unfold acceptor quoted_value char_value in took {v = number (first_char (b ∷ d)) 0} x refl m

  pub char-stops : {r : Stop} {u : ℕ} {out : List ℕ} → Answers true before s i (Err r) → TakesKind (kind_of 11) s i u out (Err r) out
  unfolding kind_of kinds style_of style_of_plain
  char-stops {r} {u} {out} a =
      record { of = λ f e. paths.subst (λ f. Takes f (plain char) s i u out (Err r) out) (some-injective _ f e) (go a) }
    where
      go : Answers true before s i (Err r) → Takes one_char (plain char) s i u out (Err r) out
      go (mark.stops {y = y} x w) = unfold acceptor in (let e = went true x in stops e.ends (not-whole true y e.state e.same w) refl)

-- ---- either, by its number

pub content-undone : {one : Bool} {s : List ℕ} {i : ℕ} {q : Quoted} (c : Content one s i q) → undoubled (take (q.at - 1 - (i + 1)) (drop (i + 1) s)) ≡ c.bytes
content-undone c = ap undoubled c.between ∙ undone c.bytes

pub quoted-took : (one : Bool) {s : List ℕ} {i : ℕ} {q : Quoted} {u n : ℕ} {out after : List ℕ} (c : Content one s i q) → Lays (with_count c.bytes) u out n after
    → TakesKind (quoted_kind one) s i u out (Took q.at n) after
quoted-took true c l = char-took c l
quoted-took false c l = text-took c l

pub quoted-stops : (one : Bool) {s : List ℕ} {i : ℕ} {r : Stop} {u : ℕ} {out : List ℕ} → Answers one before s i (Err r) → TakesKind (quoted_kind one) s i u out (Err r) out
quoted-stops true a = char-stops a
quoted-stops false a = text-stops a
