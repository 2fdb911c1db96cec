-- An item's own bytes are read back, whatever follows them, as words that stand for the same and name the same children: by its kind.
-- Assumes nothing.
use mathlib.Core.Path.{◌≡◌, refl, sym, ap, ◌∙◌}
use mathlib.Core.Bool.{Bool, true, false}
use mathlib.Core.List.{List, ◌∷◌, ◌++◌}
use mathlib.Core.Option.{some}
use Prim.Native.Nat.{ℕ, ◌+◌, ◌<◌, ◌^◌}
use native.Mathlib.Omega.{arith}
use lib.Dec.{ltb, leb, eqb}
use lib.ListN.{length, drop}
use borrow.Author.Tests.{ltb-true, eqb-true}
use Rattle.wire.specs.declared.Refusal.{Refusal}
use Rattle.wire.specs.declared.Refusal.TheVariants.{BadBool, BadOption}
use Rattle.wire.specs.Item.{Item}
use Rattle.wire.specs.Tests.{pick, both}
use Rattle.wire.specs.Shape.{w32, w64, bits, size, le, signed, unsigned, Plain, bool, i8, u8, f32, f64, char, unit, int, fixed, Content, Kind, plain, pooled, option, sequence, map, struct, enum}
use Rattle.wire.specs.Walk.{following, is_known}
use Rattle.wire.specs.Values.{Tag, part, content, is_pooled, value_of}
use Rattle.wire.specs.Numbers.{varint, shortest, word, is_word, took, in_order}
use Rattle.wire.specs.Text.{char_bytes}
use Rattle.wire.specs.Reading.{flag, char_of, is_content, content_of, read_plain, known, head}
use Rattle.wire.specs.Writing.{single, with_count, plain_bytes, head_bytes}
use Rattle.laws.proofs.Splits.{both_left, both_right}
use Rattle.laws.proofs.Own.{when-some, single-some}
use Rattle.laws.proofs.Varints.{varint-back}
use Rattle.laws.proofs.Numbers.{bits8, bits32, bits64, bits_of, bytes-of-width, int-back, fixed_back}
use Rattle.laws.proofs.Utf8.{IsText, char-text}
use Rattle.laws.proofs.Contents.{length_part, count-back, part-back, content-back, char-back}

-- ---- an item that is a number

-- what is read is the number's word again
pub record NumberBack (i : Item) (a b : ℕ) (s : List ℕ) : Type 0 where
  pub alone : b ≡ 0
  pub reads : i ≡ took a 0 (length s)

single-back : (f : List ℕ → Item) (ok : Bool) (a b : ℕ) (t : List ℕ) {s : List ℕ} (rest : List ℕ) → single ok b t ≡ some s
    → (ok ≡ true → f (t ++ rest) ≡ took a 0 (length t)) → NumberBack (f (s ++ rest)) a b s
single-back f ok a b t rest e back = let r = single-some ok b t e in rw (← r.2) (record { alone = r.1; reads = back r.0 })

flag-back : (e : Refusal) (a : ℕ) (rest : List ℕ) → leb a 1 ≡ true → flag e (a ∷ rest) ≡ took a 0 1
unfolding flag pick
flag-back e a rest h = rw h

zero-back : (a : ℕ) → eqb a 0 ≡ true → took 0 0 0 ≡ took a 0 0
zero-back a e = ap (λ x. took x 0 0) (sym (eqb-true a 0 e))

count-item : (a : ℕ) (rest : List ℕ) → is_word unsigned 64 a ≡ true → varint w64 (shortest a ++ rest) ≡ took a 0 (length (shortest a))
unfolding is_word bits
count-item a rest is = varint-back w64 a rest (ltb-true a (2 ^ 64) is)

char-item : (a : ℕ) (rest : List ℕ) → IsText a (char_bytes a) → read_plain char (with_count (char_bytes a) ++ rest) ≡ took a 0 (length (with_count (char_bytes a)))
unfolding read_plain
char-item a rest h = count-back char_of (char_bytes a) rest (omega (arith, h.few_bytes)) ∙ char-back a rest h

pub leaf-back : (l : Plain) (a b : ℕ) {s : List ℕ} (rest : List ℕ) → a < 2 ^ 64 → plain_bytes l a b ≡ some s → NumberBack (read_plain l (s ++ rest)) a b s
unfolding plain_bytes read_plain word is_word in_order
leaf-back bool a b rest h e = single-back (flag BadBool) _ a b _ rest e (flag-back BadBool a rest)
leaf-back i8 a b rest h e = single-back (read_plain i8) _ a b _ rest e (fixed_back le signed 8 1 bits8 refl a rest h)
leaf-back u8 a b rest h e = single-back (read_plain u8) _ a b _ rest e (fixed_back le unsigned 8 1 bits8 refl a rest h)
leaf-back f32 a b rest h e = single-back (read_plain f32) _ a b _ rest e (fixed_back le unsigned 32 4 bits32 refl a rest h)
leaf-back f64 a b rest h e = single-back (read_plain f64) _ a b _ rest e (fixed_back le unsigned 64 8 bits64 refl a rest h)
leaf-back char a b rest h e = single-back (read_plain char) _ a b _ rest e (λ is. char-item a rest (char-text a is))
leaf-back unit a b rest h e = single-back (read_plain unit) _ a b _ rest e (zero-back a)
leaf-back (int g w) a b rest h e = single-back (read_plain (int g w)) _ a b _ rest e (int-back g w a rest h)
leaf-back (fixed o g w) a b rest h e =
    single-back (read_plain (fixed o g w)) _ a b _ rest e (fixed_back o g (bits w) (size w) (bits_of w) (bytes-of-width w) a rest h)

-- ---- any item

-- an entry, as an item of a kind
abbrev pub tag : Kind → (a b p : ℕ) → Tag
tag k a b p = record { kind = k; entry = record { first = a; second = b; place = p } }

-- what is read of s, the bytes of an item with the words a and b, where s and then rest stand at the place p of a message
pub record ItemBack (k : Kind) (n : ℕ) (pool : List ℕ) (a b : ℕ) (s : List ℕ) (p : ℕ) (rest message : List ℕ) : Type 0 where
  pub first : ℕ
  pub second : ℕ
  pub reads : head k n p (s ++ rest) ≡ took first second (length s)
  pub same : (i j : ℕ) → value_of pool (tag k a b i) ≡ value_of message (tag k first second j)
  pub ways : following k a ≡ following k first

-- what follows a word that is written is among the children
pub written_known : (k : Kind) (n : ℕ) (pool : List ℕ) (a b : ℕ) {s : List ℕ} → head_bytes k n pool a b ≡ some s → is_known (following k a) n ≡ true
unfolding head_bytes following is_known
written_known (plain l) n pool a b e = refl
written_known (pooled c) n pool a b e = refl
written_known option n pool a b e = refl
written_known sequence n pool a b e = refl
written_known map n pool a b e = refl
written_known struct n pool a b e = refl
written_known enum n pool a b e = both_left (ltb a n) _ (single-some _ b _ e).0

-- an item with n children, with the words a and b
module _ (n : ℕ) (pool : List ℕ) (a b : ℕ) (ha : a < 2 ^ 64) (hb : b < 2 ^ 64) {s : List ℕ} (p : ℕ) (rest message : List ℕ)
    (at : drop p message ≡ s ++ rest) where
  number-back : (k : Kind) → is_pooled k ≡ false → NumberBack (head k n p (s ++ rest)) a b s → ItemBack k n pool a b s p rest message
  unfolding value_of pick
  number-back k own h = record { first = a; second = 0; reads = h.reads; same = λ i j. rw (own, h.alone); ways = refl }

  -- a text or bytes t
  pooled-back : (k : Content) (t : List ℕ) → part pool a b ≡ t → with_count t ≡ s → is_content k t ≡ true → length t < 2 ^ 64
      → ItemBack (pooled k) n pool a b s p rest message
  unfolding head following is_pooled value_of pick
  pooled-back k t is e ok few =
      rw (← e)
      (record {
        first = p + length (shortest (length t));
        second = length t;
        reads = count-back (content_of k p) t rest few ∙ content-back k p t rest ok;
        same = λ i j. ap content (is ∙ sym (part-back message t rest p (rw (← e) at at)));
        ways = refl;
      })

  pub head-back : (k : Kind) → head_bytes k n pool a b ≡ some s → ItemBack k n pool a b s p rest message
  unfolding head_bytes head known is_pooled is_word bits pick
  head-back (plain l) e = number-back (plain l) refl (leaf-back l a b rest ha e)
  head-back (pooled k) e =
      let r = when-some (both (leb (a + b) (length pool)) (is_content k (part pool a b))) _ e in
      pooled-back k (part pool a b) refl r.1 (both_right (leb (a + b) (length pool)) _ r.0) (omega (arith, length_part pool a b))
  head-back option e = number-back option refl (single-back (flag BadOption) _ a b _ rest e (flag-back BadOption a rest))
  head-back sequence e = number-back sequence refl (single-back (head sequence n p) _ a b _ rest e (count-item a rest))
  head-back map e = number-back map refl (single-back (head map n p) _ a b _ rest e (count-item a rest))
  head-back struct e = number-back struct refl (single-back (head struct n p) _ a b _ rest e (zero-back a))
  head-back enum e =
      number-back enum refl
      (single-back (head enum n p) _ a b _ rest e
      (λ is. rw (varint-back w32 a rest (ltb-true a (2 ^ 32) (both_right (ltb a n) (ltb a (2 ^ 32)) is)), both_left (ltb a n) (ltb a (2 ^ 32)) is)))
