-- The message that an import writes is made of bytes; and so the exported rows are exactly the rows of all value lists.
-- Assumes nothing.
use mathlib.Core.Path.{◌≡◌, refl, sym, ap, ◌∙◌}
use mathlib.Core.Path as paths
use mathlib.Core.Bool.{Bool, true, false}
use mathlib.Core.List.{List, [], ◌∷◌, ◌++◌, append-nil}
use mathlib.Core.Option.{some, some-injective, none-ne-some}
use Prim.Native.Nat.{ℕ, zero, suc, ◌+◌, ◌-◌, ◌%◌, ◌/◌, ◌<◌, ◌≤◌}
use native.Mathlib.Omega.{arith}
use lib.Dec.{ltb, leb, eqb}
use lib.ListN.{length}
use borrow.Author.Tests.{ltb-true, leb-true, le-leb}
use Rattle.wire.specs.Tests.{pick, both}
use Rattle.wire.specs.Shape.{w64, size, Plain, bool, i8, u8, f32, f64, char, unit, int, fixed, Content, text, raw, Kind, plain, pooled, option, sequence, map, struct, enum, Shape, Shapes, none as no_shape, more}
use Rattle.wire.specs.Table.{shape_of}
use Rattle.wire.specs.Values.{Value, number, content}
use Rattle.wire.specs.Numbers.{shortest_f, shortest, little_bytes, in_order, zigzagged, most}
use Rattle.wire.specs.Text.{utf8_f, utf8, width_of, low_of, high_of, char_bytes}
use Rattle.wire.specs.Writing.{when, single, with_count, plain_bytes, head_bytes}
use Rattle.laws.specs.Range.{AreBytes}
use Rattle.laws.proofs.Splits.{by-lt, of-pick, not-both, both_left, both_right}
use Rattle.laws.proofs.Bytes.{below-order}
use Rattle.laws.proofs.Utf8.{width-high, char-text}
use Rattle.desk.specs.Csv.{Style, style_of_content, style_of, are_bytes, may, may_all, row, Column, kind_of_root, columns, columns_of, styles_of, or_nothing, value_bytes, message_of, export_by, export_of, csv_export, bytes, within}
use Rattle.spellings.proofs.Written.{Short, content-fits, leaf-no-content, no_number}
use Rattle.spellings.proofs.Writes.{content-bytes}
use Rattle.spellings.proofs.Tables.{column-more, rooted}
use Rattle.spellings.proofs.Messages.{AllShort, message-reads}
use Rattle.spellings.proofs.Lengths.{short_row}
use Rattle.spellings.proofs.Trips.{was-exported, exported}
use Rattle.spellings.specs.Promises.{IsExported, ExportedExactly}

-- ---- bytes

no_bytes : AreBytes []
no_bytes i = omega arith

and_bytes : (b : ℕ) (s : List ℕ) → b < 256 → AreBytes s → AreBytes (b ∷ s)
and_bytes b s l h zero = l
and_bytes b s l h (suc i) = h i

bytes-append : (s t : List ℕ) → AreBytes s → AreBytes t → AreBytes (s ++ t)
bytes-append [] t h k = k
bytes-append (b ∷ s) t h k = and_bytes b (s ++ t) (h 0) (bytes-append s t (λ i. h (suc i)) k)

test-bytes : (s : List ℕ) → are_bytes s ≡ true → AreBytes s
unfolding are_bytes
test-bytes [] h = no_bytes
test-bytes (b ∷ s) h = and_bytes b s (ltb-true b 256 (both_left _ _ h)) (test-bytes s (both_right (ltb b 256) _ h))

little-bytes : (n x : ℕ) → AreBytes (little_bytes n x)
unfolding little_bytes
little-bytes zero x = no_bytes
little-bytes (suc n) x = and_bytes (x % 256) (little_bytes n (x / 256)) (omega arith) (little-bytes n (x / 256))

shortest-bytes : (f x : ℕ) → AreBytes (shortest_f f x)
unfolding shortest_f
shortest-bytes zero x = no_bytes
shortest-bytes (suc f) x =
    of-pick AreBytes (ltb x 128) (x ∷ []) ((x % 128 + 128) ∷ shortest_f f (x / 128)) (λ e. and_bytes x [] (omega (arith, ltb-true x 128 e)) no_bytes)
    (λ e. and_bytes (x % 128 + 128) (shortest_f f (x / 128)) (omega arith) (shortest-bytes f (x / 128)))

high-most : (b : ℕ) → high_of b ≤ 0xbf
unfolding high_of
high-most b =
    of-pick (λ hi. hi ≤ 0xbf) (eqb b 0xed) _ _ (λ e. omega arith) (λ f. of-pick (λ hi. hi ≤ 0xbf) (eqb b 0xf4) _ _ (λ e. omega arith) (λ f. omega arith))

utf8-bytes : (s : List ℕ) (k lo hi : ℕ) → hi ≤ 0xbf → utf8_f k lo hi s ≡ true → AreBytes s
unfolding utf8_f
utf8-bytes [] k lo hi l h = no_bytes
utf8-bytes (b ∷ s) zero lo hi l h =
    let w : 0 < width_of b = ltb-true 0 (width_of b) (both_left _ _ h) in
    let few : b < 0xf5 = by-lt b 0xf5 (λ x. x) (λ x. absurd (omega (arith, w, width-high b x))) in
    and_bytes b s (omega arith) (utf8-bytes s (width_of b - 1) (low_of b) (high_of b) (high-most b) (both_right (ltb 0 (width_of b)) _ h))
utf8-bytes (b ∷ s) (suc k) lo hi l h =
    let r : both (leb lo b) (leb b hi) ≡ true = both_left _ _ h in
    let u : b ≤ hi = leb-true b hi (both_right (leb lo b) _ r) in
    and_bytes b s (omega arith) (utf8-bytes s k 0x80 0xbf (omega arith) (both_right (both (leb lo b) (leb b hi)) _ h))

text-bytes : (s : List ℕ) → utf8 s ≡ true → AreBytes s
unfolding utf8
text-bytes s h = utf8-bytes s 0 0 0 (omega arith) h

short-bytes : (x : ℕ) → AreBytes (shortest x)
unfolding shortest
short-bytes x = shortest-bytes (most w64) x

counted-bytes : (s : List ℕ) → AreBytes s → AreBytes (with_count s)
unfolding with_count
counted-bytes s h = bytes-append (shortest (length s)) s (short-bytes (length s)) h

-- ---- values

single-bytes : (ok : Bool) (b : ℕ) (s : List ℕ) → (ok ≡ true → AreBytes s) → AreBytes (or_nothing (single ok b s))
unfolding single when both or_nothing
single-bytes true b s h = go (eqb b 0)
  where
    go : (t : Bool) → AreBytes (or_nothing (when t s))
    go true = h refl
    go false = no_bytes
single-bytes false b s h = no_bytes

leaf-bytes : (l : Plain) (a b : ℕ) → AreBytes (or_nothing (plain_bytes l a b))
unfolding plain_bytes
leaf-bytes bool a b = single-bytes _ b (a ∷ []) (λ h. and_bytes a [] (omega (arith, leb-true a 1 h)) no_bytes)
leaf-bytes i8 a b = single-bytes _ b (little_bytes 1 a) (λ h. little-bytes 1 a)
leaf-bytes u8 a b = single-bytes _ b (little_bytes 1 a) (λ h. little-bytes 1 a)
leaf-bytes f32 a b = single-bytes _ b (little_bytes 4 a) (λ h. little-bytes 4 a)
leaf-bytes f64 a b = single-bytes _ b (little_bytes 8 a) (λ h. little-bytes 8 a)
leaf-bytes char a b = single-bytes _ b (with_count (char_bytes a)) (λ h. counted-bytes (char_bytes a) (text-bytes (char_bytes a) (char-text a h).valid))
leaf-bytes unit a b = single-bytes _ b [] (λ h. no_bytes)
leaf-bytes (int g w) a b = single-bytes _ b (shortest (zigzagged g a)) (λ h. short-bytes (zigzagged g a))
leaf-bytes (fixed o g w) a b = single-bytes _ b (in_order o (little_bytes (size w) a)) (λ h. below-order 256 o (little_bytes (size w) a) (little-bytes (size w) a))

content-are : (c : Content) (s : List ℕ) → may (style_of_content c) (content s) ≡ true → AreBytes s
unfolding style_of_content may
content-are text s h = text-bytes s h
content-are raw s h = test-bytes s h

-- what a value is written to, where its words are written at all
written-bytes : (k : Kind) (f : Style) (v : Value) → style_of k ≡ some f → may f v ≡ true → Short v → AreBytes (value_bytes k v)
unfolding style_of
written-bytes (plain l) f (number a b) e h short = unfold value_bytes head_bytes in leaf-bytes l a b
written-bytes (plain l) f (content s) e h short = not-both h (leaf-no-content l f s e)
written-bytes (pooled c) f (number a b) e h short = not-both (rw (some-injective _ f e) h) (no_number c a b)
written-bytes (pooled c) f (content s) e h short =
    let m : may (style_of_content c) (content s) ≡ true = rw (some-injective _ f e) h in
    rw (content-bytes c s (content-fits c s m)) (counted-bytes s (content-are c s m))
written-bytes option f v e h short = absurd (none-ne-some f e)
written-bytes sequence f v e h short = absurd (none-ne-some f e)
written-bytes map f v e h short = absurd (none-ne-some f e)
written-bytes struct f v e h short = absurd (none-ne-some f e)
written-bytes enum f v e h short = absurd (none-ne-some f e)

-- ---- messages

abbrev Made : List Column → Type 0
Made cs = (vs : List Value) → may_all (styles_of cs) vs ≡ true → AllShort vs → AreBytes (message_of cs vs)

none_made : Made []
unfolding message_of
none_made vs h short = no_bytes

more-made : (k : Kind) (f : Style) (cs : List Column) → style_of k ≡ some f → Made cs → Made (record { kind = k; style = f } ∷ cs)
unfolding styles_of may_all message_of
more-made k f cs e made [] h short = not-both h refl
more-made k f cs e made (v ∷ vs) h short =
    bytes-append (value_bytes k v) (message_of cs vs) (written-bytes k f v e (both_left _ _ h) short.0) (made vs (both_right (may f v) _ h) short.1)

columns-made : (ts : Shapes) (cs : List Column) → columns ts ≡ some cs → Made cs
unfolding columns
columns-made no_shape cs e = paths.subst Made (some-injective _ cs e) none_made
columns-made (more t ts) cs e =
    let m = column-more (kind_of_root t) (style_of (kind_of_root t)) (columns ts) cs e in
    paths.subst Made (sym m.all) (more-made (kind_of_root t) m.style m.rest m.is (columns-made ts m.rest m.others))

message-bytes : (t : Shape) (cs : List Column) (vs : List Value) → columns_of t ≡ some cs → may_all (styles_of cs) vs ≡ true → AllShort vs → AreBytes (message_of cs vs)
message-bytes t cs vs e h short = let r = rooted t cs e in columns-made r.fields cs r.columned vs h short

-- ---- exported rows

fits-itself : (s : List ℕ) → within (length s) s ≡ bytes s
unfolding within pick
fits-itself s = rw (le-leb (length s) (length s) (omega arith))

pub exported-exactly : ExportedExactly
unfolding csv_export export_by
exported-exactly table s l cs good have few = (to, from)
  where
    t : Shape
    t = shape_of table l

    to : IsExported table s → (vs : List Value) × (may_all (styles_of cs) vs ≡ true) × (row (styles_of cs) vs ≡ s)
    to x =
        let e : export_of (some cs) t x.message (length s) ≡ bytes s = rw (good, have) at (x.exports (length s) ∙ fits-itself s) in
        let y = was-exported t (some cs) x.message s (length s) x.ok have e in
        let same : y.cs ≡ cs = some-injective _ _ (sym y.have ∙ have) in
        (y.vs, rw same at y.may, rw same at y.is)

    from : (vs : List Value) × (may_all (styles_of cs) vs ≡ true) × (row (styles_of cs) vs ≡ s) → IsExported table s
    from x =
        let short = short_row (styles_of cs) x.0 x.1 (rw x.2 few) in
        let m : List ℕ = message_of cs x.0 in
        let r = message-reads t cs x.0 [] have x.1 short in
        record {
          message = m;
          ok = message-bytes t cs x.0 have x.1 short;
          exports = λ room. rw (good, have) ((rw (append-nil m) at (exported t cs x.0 m [] room r)) ∙ ap (within room) x.2);
        }
