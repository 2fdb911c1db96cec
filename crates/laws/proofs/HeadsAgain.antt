-- An item that was read is written again, with its message as pool, in no more bytes than it was read of, and in the same bytes exactly if it was in its shortest form: by its kind.
-- Assumes nothing.
use mathlib.Core.Path.{◌≡◌, refl, sym, ap, ◌∙◌}
use mathlib.Core.Bool.{true}
use mathlib.Core.List.{List, [], ◌∷◌}
use mathlib.Core.Option.{some}
use Prim.Native.Nat.{ℕ, ◌+◌, ◌≤◌, ◌<◌, ◌^◌}
use native.Mathlib.Omega.{arith}
use lib.Dec.{ltb, leb, eqb}
use lib.ListN.{length, take, drop, length-drop}
use lib.Seq.{length-take-le, take-length, take-add, drop-drop}
use borrow.Author.Tests.{ltb-true, ltb-false, leb-true, eqb-true, lt-ltb, le-leb, eq-eqb}
use Rattle.wire.specs.declared.Refusal.{Refusal}
use Rattle.wire.specs.declared.Refusal.TheVariants.{BadBool, BadOption}
use Rattle.wire.specs.declared.Own.{Own}
use Rattle.wire.specs.Item.{Item}
use Rattle.wire.specs.Item.{Took, Refused}
use Rattle.wire.specs.Tests.{both}
use Rattle.wire.specs.Shape.{Width, w32, w64, bits, size, Order, le, Sign, signed, unsigned, Plain, bool, i8, u8, f32, f64, char, unit, int, fixed, Content, Kind, plain, pooled, option, sequence, map, struct, enum}
use Rattle.wire.specs.Numbers.{most, varint, shortest, word, is_word, unzigzagged, on_first, took, little, little_bytes, in_order, word_of}
use Rattle.wire.specs.Text.{utf8, first_char, char_bytes}
use Rattle.wire.specs.Values.{part}
use Rattle.wire.specs.Reading.{flag, counted, char_in, char_of, is_content, content_in, content_of, read_plain, known, head}
use Rattle.wire.specs.Writing.{with_count, plain_bytes, head_bytes}
use Rattle.laws.specs.Range.{AreBytes}
use Rattle.laws.proofs.Splits.{both_yes, both_left, both_right, of-pick}
use Rattle.laws.proofs.Own.{when-yes, single-yes}
use Rattle.laws.proofs.Varints.{span-bits, took_in, shortest-small, shortest-some, varint-least}
use Rattle.laws.proofs.Numbers.{Bits, bits8, bits32, bits64, bits_of, bytes-of-width}
use Rattle.laws.proofs.NumbersAgain.{zigzag-again, fixed-again}
use Rattle.laws.proofs.Utf8.{CharOf, first-char-of}
use Rattle.laws.proofs.Contents.{length-with_count}

-- an item with n children, which was read of bytes at the front of s, is written to the bytes `out`
pub record ItemAgain (k : Kind) (n : ℕ) (message s : List ℕ) (own : Own) : Type 0 where
  pub out : List ℕ
  pub writes : head_bytes k n message own.first own.second ≡ some out
  pub there : own.used ≤ length s
  pub few : length out ≤ own.used
  pub then_same : own.shortest ≡ true → out ≡ take own.used s
  pub then-shortest : length out ≡ own.used → own.shortest ≡ true

abbrev pub AgainItem : Kind → ℕ → (message s : List ℕ) → Item → Type 0
AgainItem k n message s (Took own) = ItemAgain k n message s own
AgainItem k n message s (Refused why) = Unit {0}

-- what has one form only
one_form : (k : Kind) (n : ℕ) (message s : List ℕ) {a b u : ℕ} (out : List ℕ) → head_bytes k n message a b ≡ some out → u ≤ length s → out ≡ take u s
    → AgainItem k n message s (took a b u)
one_form k n message s {u} out w l same =
    record { out = out; writes = w; there = l; few = rw same (omega (arith, length-take-le u s l)); then_same = λ e. same; then-shortest = λ e. refl }

flag-again : (k : Kind) (n : ℕ) (message s : List ℕ) (why : Refusal) → ((a : ℕ) → leb a 1 ≡ true → head_bytes k n message a 0 ≡ some (a ∷ []))
    → AgainItem k n message s (flag why s)
unfolding flag
flag-again k n message [] why w = tt
flag-again k n message (b ∷ s) why w =
    of-pick (AgainItem k n message (b ∷ s)) (leb b 1) _ _ (λ l. one_form k n message (b ∷ s) (b ∷ []) (w b l) (omega arith) refl) (λ l. tt)

-- what is known of a varint that was read
record Varint (w : Width) (s : List ℕ) (own : Own) : Type 0 where
  there : own.used ≤ length s
  alone : own.second ≡ 0
  small : own.first < 2 ^ bits w
  least : length (shortest own.first) ≤ own.used
  only : own.shortest ≡ true → take own.used s ≡ shortest own.first
  short : own.used ≡ length (shortest own.first) → own.shortest ≡ true

varint-read : (w : Width) (s : List ℕ) {own : Own} → AreBytes s → varint w s ≡ Took own → Varint w s own
varint-read w s {own} bs e =
    let t = took_in w s e in
    let l = varint-least w s bs e in
    record {
      there = t.within;
      alone = t.single;
      small = rw (span-bits w) at t.small;
      least = l.least;
      only = λ h. l.only (eqb-true own.used _ (sym t.form ∙ h));
      short = λ h. t.form ∙ eq-eqb own.used _ h;
    }

-- an item that is a varint, whose first word may be another
varint-again : (k : Kind) (n : ℕ) (message s : List ℕ) {w : Width} {own : Own} (a : ℕ) → Varint w s own → head_bytes k n message a own.second ≡ some (shortest own.first)
    → ItemAgain k n message s (record { first = a; second = own.second; used = own.used; shortest = own.shortest })
varint-again k n message s {own} a v w =
    record {
      out = shortest own.first;
      writes = w;
      there = v.there;
      few = v.least;
      then_same = λ e. sym (v.only e);
      then-shortest = λ e. v.short (sym e);
    }

-- an item of the message, of which the bytes s stand from p on
module _ (n : ℕ) (message : List ℕ) (p : ℕ) (s : List ℕ) (at : drop p message ≡ s) (bs : AreBytes s) where
  fixed-item : (l : Plain) (o : Order) (g : Sign) (m j : ℕ) → Bits m → 256 ^ j ≡ 2 ^ m
      → ((a : ℕ) → is_word g m a ≡ true → plain_bytes l a 0 ≡ some (in_order o (little_bytes j a)))
      → AgainItem (plain l) n message s (word_of j (λ b. word g m (little (in_order o b))) s)
  unfolding word_of head_bytes
  fixed-item l o g m j part same w =
      of-pick (AgainItem (plain l) n message s) (leb j (length s)) _ _
      (λ e.
      let there = leb-true j (length s) e in
      let again = fixed-again m j part same o g s bs there in
      one_form (plain l) n message s _ (w _ again.0) there again.1)
      (λ e. tt)

  varint-item : (k : Kind) (w : Width) → ((a : ℕ) → a < 2 ^ bits w → head_bytes k n message a 0 ≡ some (shortest a)) → AgainItem k n message s (varint w s)
  varint-item k w wr = go (varint w s) refl
    where
      go : (i : Item) → varint w s ≡ i → AgainItem k n message s i
      go (Took own) e = let v = varint-read w s bs e in varint-again k n message s own.first v (rw v.alone (wr own.first v.small))
      go (Refused r) e = tt

  int-item : (g : Sign) (w : Width) → AgainItem (plain (int g w)) n message s (on_first (unzigzagged g) (varint w s))
  unfolding on_first head_bytes plain_bytes
  int-item g w = go (varint w s) refl
    where
      go : (i : Item) → varint w s ≡ i → AgainItem (plain (int g w)) n message s (on_first (unzigzagged g) i)
      go (Took own) e =
          let v = varint-read w s bs e in
          let again = zigzag-again (bits w) (bits_of w) g own.first v.small in
          varint-again (plain (int g w)) n message s (unzigzagged g own.first) v
          (rw again.1 (single-yes _ own.second (shortest own.first) again.0 v.alone))
      go (Refused r) e = tt

  variant-item : AgainItem enum n message s (known n (varint w32 s))
  unfolding known head_bytes is_word bits
  variant-item = go (varint w32 s) refl
    where
      go : (i : Item) → varint w32 s ≡ i → AgainItem enum n message s (known n i)
      go (Took own) e =
          of-pick (AgainItem enum n message s) (ltb own.first n) _ _
          (λ q.
          let v = varint-read w32 s bs e in
          varint-again enum n message s own.first v
          (single-yes _ own.second (shortest own.first) (both_yes _ _ q (lt-ltb own.first (2 ^ 32) v.small)) v.alone))
          (λ q. tt)
      go (Refused r) e = tt

  -- as many bytes as a count says, behind it
  module _ (count : Own) (e : varint w64 s ≡ Took count) (l : count.first ≤ length (drop count.used s)) where
    abbrev c : ℕ
    c = count.first

    abbrev m : ℕ
    m = count.used

    abbrev counts : List ℕ
    counts = take c (drop m s)

    v : Varint w64 s count
    v = varint-read w64 s bs e

    one : 1 ≤ m
    one = omega (arith, shortest-some c, v.least)

    behind : m + c ≤ length s
    behind = omega (arith, length-drop m s, v.there)

    inside : p + m + c ≤ length message
    inside = omega (arith, behind, one, length-drop p message, ap length at)

    many : length counts ≡ c
    many = length-take-le c (drop m s) l

    is-part : part message (p + m) c ≡ counts
    unfolding part
    is-part = rw (← drop-drop m p message, at)

    -- where the count is the shortest, it and the bytes are what is written
    is-counted : count.shortest ≡ true → with_count counts ≡ take (m + c) s
    unfolding with_count
    is-counted q = rw (many, ← (v.only q)) (sym (take-add m c s))

    length-out : length (with_count counts) ≡ length (shortest c) + c
    length-out = rw many at (length-with_count counts)

    content-again : (k : Content) → is_content k counts ≡ true → ItemAgain (pooled k) n message s (content_in p count)
    unfolding head_bytes
    content-again k q =
        record {
          out = with_count counts;
          writes = rw is-part (when-yes _ _ (both_yes _ _ (le-leb (p + m + c) (length message) inside) q));
          there = behind;
          few = omega (arith, length-out, v.least);
          then_same = is-counted;
          then-shortest = λ y. v.short (omega (arith, length-out));
        }

    -- where they are a text and few, the first char is written again
    char-again : c ≤ 4 → 0 < c → utf8 counts ≡ true → ItemAgain (plain char) n message s (char_in count counts)
    unfolding both head_bytes plain_bytes shortest most
    char-again few pos valid =
        record {
          out = with_count (char_bytes x);
          writes = single-yes _ 0 (with_count (char_bytes x)) h.is-char refl;
          there = behind;
          few = omega (arith, long, one, small);
          then_same = then_same;
          then-shortest = λ y.
              both_yes count.shortest (eqb c k) (v.short (omega (arith, long, one, small, short))) (eq-eqb c k (omega (arith, long, one, small)));
        }
      where
        x : ℕ
        x = first_char counts

        k : ℕ
        k = length (char_bytes x)

        h : CharOf x counts
        h = first-char-of counts (rw many pos) valid

        small : k ≤ c
        small = rw many at h.few

        short : length (shortest c) ≡ 1
        short = ap length (shortest-small 9 c (omega arith))

        long : length (with_count (char_bytes x)) ≡ 1 + k
        long = length-with_count (char_bytes x) ∙ ap (◌+ k) (ap length (shortest-small 9 k (omega (arith, small))))

        then_same : both count.shortest (eqb c k) ≡ true → with_count (char_bytes x) ≡ take (m + c) s
        then_same y =
            let own : c ≡ k = eqb-true c k (both_right count.shortest (eqb c k) y) in
            let same : char_bytes x ≡ counts = h.front ∙ ap (λ j. take j counts) (sym own ∙ sym many) ∙ take-length counts in
            ap with_count same ∙ is-counted (both_left count.shortest (eqb c k) y)

  content-item : (k : Content) → AgainItem (pooled k) n message s (counted (varint w64 s) (λ count. content_of k p count (drop count.used s)))
  unfolding counted content_of
  content-item k = go (varint w64 s) refl
    where
      go : (i : Item) → varint w64 s ≡ i → AgainItem (pooled k) n message s (counted i (λ count. content_of k p count (drop count.used s)))
      go (Refused r) e = tt
      go (Took count) e =
          of-pick (AgainItem (pooled k) n message s) (ltb (length (drop count.used s)) count.first) _ _ (λ _. tt)
          (λ there.
          of-pick (AgainItem (pooled k) n message s) (is_content k (take count.first (drop count.used s))) _ _
          (content-again count e (ltb-false _ _ there) k) (λ _. tt))

  char-item : AgainItem (plain char) n message s (counted (varint w64 s) (λ count. char_of count (drop count.used s)))
  unfolding counted char_of
  char-item = go (varint w64 s) refl
    where
      go : (i : Item) → varint w64 s ≡ i → AgainItem (plain char) n message s (counted i (λ count. char_of count (drop count.used s)))
      go (Refused r) e = tt
      go (Took count) e =
          of-pick (AgainItem (plain char) n message s) (ltb 4 count.first) _ _ (λ _. tt)
          (λ few.
          of-pick (AgainItem (plain char) n message s) (ltb (length (drop count.used s)) count.first) _ _ (λ _. tt)
          (λ there.
          of-pick (AgainItem (plain char) n message s) (both (ltb 0 count.first) (utf8 (take count.first (drop count.used s)))) _ _
          (λ q. char-again count e (ltb-false _ _ there) (ltb-false 4 count.first few) (ltb-true 0 count.first (both_left _ _ q)) (both_right (ltb 0 count.first) _ q))
          (λ _. tt)))

  plain-again : (l : Plain) → AgainItem (plain l) n message s (read_plain l s)
  unfolding read_plain head_bytes plain_bytes word in_order
  plain-again bool = flag-again (plain bool) n message s BadBool (λ a h. single-yes _ 0 _ h refl)
  plain-again i8 = fixed-item i8 le signed 8 1 bits8 refl (λ a h. single-yes _ 0 _ h refl)
  plain-again u8 = fixed-item u8 le unsigned 8 1 bits8 refl (λ a h. single-yes _ 0 _ h refl)
  plain-again f32 = fixed-item f32 le unsigned 32 4 bits32 refl (λ a h. single-yes _ 0 _ h refl)
  plain-again f64 = fixed-item f64 le unsigned 64 8 bits64 refl (λ a h. single-yes _ 0 _ h refl)
  plain-again char = char-item
  plain-again unit = one_form (plain unit) n message s [] (single-yes _ 0 _ refl refl) (omega arith) refl
  plain-again (int g w) = int-item g w
  plain-again (fixed o g w) = fixed-item (fixed o g w) o g (bits w) (size w) (bits_of w) (bytes-of-width w) (λ a h. single-yes _ 0 _ h refl)

  pub head-again : (k : Kind) → AgainItem k n message s (head k n p s)
  unfolding head head_bytes is_word bits
  head-again (plain l) = plain-again l
  head-again (pooled k) = content-item k
  head-again option = flag-again option n message s BadOption (λ a h. single-yes _ 0 _ h refl)
  head-again sequence = varint-item sequence w64 (λ a h. single-yes _ 0 _ (lt-ltb a (2 ^ 64) h) refl)
  head-again map = varint-item map w64 (λ a h. single-yes _ 0 _ (lt-ltb a (2 ^ 64) h) refl)
  head-again struct = one_form struct n message s [] (single-yes _ 0 _ refl refl) (omega arith) refl
  head-again enum = variant-item
