-- Bytes that were taken in hexadecimal: what stands between the quotes are the digits of one content, and the value's bytes are that
-- content behind its count.
-- Assumes nothing.
use Rattle.std.specs.Prelude.{Ok, Err}
use mathlib.Core.Path.{◌≡◌, refl, sym, ap, ◌∙◌}
use mathlib.Core.Path as paths
use mathlib.Core.Bool.{true, false}
use mathlib.Core.List.{List, [], ◌∷◌, ◌++◌}
use mathlib.Core.Option.{none, some, some-injective}
use Prim.Native.Nat.{ℕ, zero, suc, ◌+◌, ◌-◌, ◌*◌, ◌/◌, ◌%◌, ◌<◌, ◌≤◌}
use native.Mathlib.Omega.{arith}
use lib.Dec.{ltb, leb, eqb}
use lib.ListN.{length, get_or, take, drop, length-append}
use lib.Seq.{take-length}
use borrow.Author.Tests.{ltb-true, le-leb, lt-ltb, le-ltb}
use Rattle.wire.specs.Tests.{pick, both}
use Rattle.wire.specs.Shape.{raw, pooled}
use Rattle.wire.specs.Table.{kinds, kind_of}
use Rattle.wire.specs.Values.{content, part}
use Rattle.wire.specs.Reading.{is_content}
use Rattle.wire.specs.Writing.{with_count, head_bytes}
use Rattle.laws.proofs.Splits.{by-test, by-lt, not-both, both_yes, both_left, both_right}
use Rattle.laws.proofs.Own.{when-yes}
use Rattle.desk.specs.Csv.{quote, hex, style_of_content, style_of, are_bytes, may, digit_of, hex_of, hexes, spelled, or_nothing, value_bytes}
use Rattle.spellings.specs.Accept.{when, acceptor, is_digit, Hexing, before, even, odd, closed, hex_value, high, low, hex_step, hexed_value, pairs, scan}
use Rattle.spellings.specs.Exact.{neither, each, Beside, styled}
use Rattle.spellings.proofs.Beside.{scans-alike}
use Rattle.spellings.proofs.Hexes.{hex-exact}
use Rattle.put_number.specs.Lays.{Lays}
use Rattle.take_number.specs.declared.Stop.{Stop}
use Rattle.take_number.specs.Scans.{Ends}
use Rattle.take_text.specs.declared.Quoted.{Quoted}
use Rattle.take_hex.specs.Pairs.{is_hex, Pair, pair_step, counts, is_closed, Answers}
use Rattle.take_hex.specs.Pairs as pair
use Rattle.put_content.specs.Undone.{number_of, unhexed, IsHex, digit, letter, AreHex}
use Rattle.take_field.specs.Field.{Took}
use Rattle.take_field.specs.Taking.{Takes, took, stops, TakesKind}
use Rattle.take_field.proofs.Numbers.{gone}
use Rattle.take_field.proofs.Contents.{inner, quoted-long}

-- ---- counts beside contents

data Same : Pair → Hexing → Type 0 where
  befores : Same pair.before before
  evens : (c : List ℕ) → Same (pair.even (length c)) (even c)
  odds : (c : List ℕ) (h : ℕ) → Same (pair.odd (length c)) (odd c h)
  closeds : (c : List ℕ) → Same (pair.closed (length c)) (closed c)

one_more : (c : List ℕ) (x : ℕ) → Same (pair.even (length c + 1)) (even (c ++ x ∷ []))
one_more c x = paths.subst (λ n. Same (pair.even n) (even (c ++ x ∷ []))) (length-append c (x ∷ [])) (evens (c ++ x ∷ []))

-- a digit has a number, and another byte none
hex-digits : (b : ℕ) {X : Type 0} → (is_hex b ≡ true → (x : ℕ) → hex_value b ≡ some x → X) → (is_hex b ≡ false → hex_value b ≡ none → X) → X
unfolding is_hex hex_value pick when
hex-digits b f g =
    by-test (is_digit b) (λ e. f (rw e) (b - 48) (rw e))
    (λ e. by-test (both (leb 97 b) (leb b 102)) (λ t. f (rw (e, t)) (b - 87) (rw (e, t))) (λ t. g (rw (e, t)) (rw (e, t))))

beside : Beside counts pairs Same
unfolding pair_step hex_step pick when high low
beside x y b befores = by-test (eqb b quote) (λ e. rw e (each (evens []))) (λ e. rw e neither)
beside x y b (evens c) =
    by-test (eqb b quote) (λ e. rw e (each (closeds c)))
    (λ e. hex-digits b (λ h v f. rw (e, h, f) (each (odds c v))) (λ h f. rw (e, h, f) neither))
beside x y b (odds c d) = hex-digits b (λ h v f. rw (h, f) (each (one_more c (16 * d + v)))) (λ h f. rw (h, f) neither)
beside x y b (closeds c) = neither

record Went (s : List ℕ) (i : ℕ) (y : Pair) (j : ℕ) : Type 0 where
  state : Hexing
  ends : Ends pairs before s i state j
  same : Same y state

went : {s : List ℕ} {i j : ℕ} {y : Pair} → Ends counts pair.before s i y j → Went s i y j
went {s} {i} {j} {y} e =
    let a = scans-alike counts pairs Same beside (drop i s) pair.before before befores in
    record {
      state = (scan pairs before (drop i s)).state;
      ends = record { state = refl; place = omega (arith, e.place, a.used); left = sym a.left ∙ e.left; inside = e.inside };
      same = paths.subst (λ x. Same x (scan pairs before (drop i s)).state) e.state a.states;
    }

-- ---- digits undone

number-digit : (x : ℕ) → x < 16 → number_of (digit_of x) ≡ x
unfolding number_of digit_of pick
number-digit x h = by-lt x 10 (λ l. rw (lt-ltb x 10 l, lt-ltb (48 + x) 97 (omega arith)) (omega arith)) (λ l. rw (le-ltb x 10 l, le-ltb (87 + x) 97 (omega arith)) (omega arith))

digit-hex : (x : ℕ) → x < 16 → IsHex (digit_of x)
unfolding digit_of pick
digit-hex x h = by-lt x 10 (λ l. rw (lt-ltb x 10 l) (digit (omega arith) (omega arith))) (λ l. rw (le-ltb x 10 l) (letter (omega arith) (omega arith)))

unhexed-back : (c : List ℕ) → are_bytes c ≡ true → unhexed (hexes c) ≡ c
unfolding unhexed hexes hex_of are_bytes
unhexed-back [] h = refl
unhexed-back (b ∷ c) h =
    let l : b < 256 = ltb-true b 256 (both_left _ _ h) in
    let rest = unhexed-back c (both_right (ltb b 256) _ h) in
    let same : 16 * (b / 16) + b % 16 ≡ b = omega arith in
    rw (number-digit (b / 16) (omega arith), number-digit (b % 16) (omega arith), same, rest)

are-hex : (c : List ℕ) → are_bytes c ≡ true → AreHex (hexes c)
unfolding hexes hex_of are_bytes
are-hex [] h = record { each = λ i l. absurd (omega arith) }
are-hex (b ∷ c) h =
    let l : b < 256 = ltb-true b 256 (both_left _ _ h) in
    let rest = are-hex c (both_right (ltb b 256) _ h) in
    record { each = λ i m. go i m l rest }
  where
    go : (i : ℕ) → i < length (digit_of (b / 16) ∷ digit_of (b % 16) ∷ hexes c) → b < 256 → AreHex (hexes c) → IsHex (get_or (digit_of (b / 16) ∷ digit_of (b % 16) ∷ hexes c) i 0)
    go zero m l r = digit-hex (b / 16) (omega arith)
    go (suc zero) m l r = digit-hex (b % 16) (omega arith)
    go (suc (suc i)) m l r = r.each i (omega arith)

-- ---- what stands at bytes that are whole

pub record Content (s : List ℕ) (i : ℕ) (q : Quoted) : Type 0 where
  pub bytes : List ℕ
  pub ends : Ends pairs before s i (closed bytes) q.at
  pub len : q.len ≡ length bytes
  pub back : unhexed (take (q.at - 1 - (i + 1)) (drop (i + 1) s)) ≡ bytes
  pub digits : AreHex (take (q.at - 1 - (i + 1)) (drop (i + 1) s))
  pub long : i + 2 ≤ q.at
  pub inside : q.at ≤ length s

pub whole-content : {s : List ℕ} {i : ℕ} {q : Quoted} → Answers pair.before s i (Ok q) → Content s i q
unfolding acceptor styled may spelled
whole-content {s} {i} {q} (pair.hexed x) = let e = went x in at e.state e.ends e.same refl
  where
    at : {y : Pair} (z : Hexing) → Ends pairs before s i z q.at → Same y z → y ≡ pair.closed q.len → Content s i q
    at before n befores f = let z : ◌≡◌ {A = ℕ} 0 1 = cc in absurd (omega arith)
    at (even c) n (evens d) f = let z : ◌≡◌ {A = ℕ} 0 1 = cc in absurd (omega arith)
    at (odd c h) n (odds d g) f = let z : ◌≡◌ {A = ℕ} 0 1 = cc in absurd (omega arith)
    at (closed c) n (closeds d) f =
        let g = gone pairs n in
        let v = hex-exact.whole {v = content c} g.goes (unfold hexed_value in refl) in
        let between : take (q.at - 1 - (i + 1)) (drop (i + 1) s) ≡ hexes c = inner s (hexes c) (drop q.at s) i q.at (g.split ∙ ap (λ t. t ++ drop q.at s) (sym v.1)) (rw (← v.1) at g.long) in
        let len : length c ≡ q.len = cc in
        record {
          bytes = c;
          ends = n;
          len = sym len;
          back = ap unhexed between ∙ unhexed-back c v.0;
          digits = rw between (are-hex c v.0);
          long = omega (arith, g.long, ap length v.1, quoted-long (hexes c));
          inside = n.inside;
        }

not-whole : (y : Pair) (z : Hexing) → Same y z → is_closed y ≡ false → hexed_value z ≡ none
unfolding is_closed hexed_value
not-whole y z befores e = refl
not-whole y z (evens c) e = refl
not-whole y z (odds c h) e = refl
not-whole y z (closeds c) e = not-both refl e

raw-bytes : (c : List ℕ) → value_bytes (pooled raw) (content c) ≡ with_count c
unfolding value_bytes or_nothing head_bytes part is_content
raw-bytes c = rw (when-yes _ (with_count (take (length c) c)) (both_yes _ _ (le-leb (0 + length c) (length c) (omega arith)) refl), take-length c)

module _ {s : List ℕ} {i : ℕ} where
  pub hex-took : {q : Quoted} {u n : ℕ} {out after : List ℕ} (c : Content s i q) → Lays (with_count c.bytes) u out n after → TakesKind (kind_of 13) s i u out (Took q.at n) after
  unfolding kind_of kinds style_of style_of_content
  hex-took {q} {u} {n} {out} {after} c l =
      record { of = λ f e. paths.subst (λ f. Takes f (pooled raw) s i u out (Took q.at n) after) (some-injective _ f e) go }
    where
      go : Takes hex (pooled raw) s i u out (Took q.at n) after
      go =
          let m : Lays (value_bytes (pooled raw) (content c.bytes)) u out n after = rw (raw-bytes c.bytes) l in
          unfold acceptor hexed_value in took {v = content c.bytes} c.ends refl m

  pub hex-stops : {r : Stop} {u : ℕ} {out : List ℕ} → Answers pair.before s i (Err r) → TakesKind (kind_of 13) s i u out (Err r) out
  unfolding kind_of kinds style_of style_of_content
  hex-stops {r} {u} {out} a =
      record { of = λ f e. paths.subst (λ f. Takes f (pooled raw) s i u out (Err r) out) (some-injective _ f e) (go a) }
    where
      go : Answers pair.before s i (Err r) → Takes hex (pooled raw) s i u out (Err r) out
      go (pair.stops {y = y} x w) = unfold acceptor in (let e = went x in stops e.ends (not-whole y e.state e.same w) refl)
