-- The field of each kind: by its number, its style and its value.
-- Assumes nothing.
use mathlib.Core.Path.{◌≡◌, refl, ap}
use mathlib.Core.Bool.{Bool, true, false}
use mathlib.Core.List.{List}
use mathlib.Core.Option.{Option, none, some}
use Prim.Native.Nat.{ℕ, ◌+◌, ◌-◌, ◌≤◌}
use native.Mathlib.Omega.{arith}
use lib.ListN.{length}
use Rattle.wire.specs.Tests.{pick}
use Rattle.wire.specs.Shape.{bits, le, be, text, raw, Kind, plain, pooled, option, sequence, map, struct, enum}
use Rattle.wire.specs.Table.{kinds, kind_of}
use Rattle.wire.specs.Text.{is_char, char_bytes}
use Rattle.wire.specs.Values.{content, part, is_pooled, value_of}
use Rattle.laws.specs.KindRanges.{sixth}
use Rattle.laws.proofs.Splits.{not-both}
use Rattle.laws.proofs.KindRanges.{little-kind, big-kind}
use Rattle.texts.specs.Contents.{content_if}
use Rattle.desk.specs.Csv.{Style, numeral, one_char, any_text, hex, integers, style_of_plain, style_of_content, style_of, spelled_word, doubled, hexes, quoted, spelled}
use Rattle.put_field.specs.Fields.{spelled_if, field_of, Largest, LargestFixed, IsNumber, low, high, Spellable, a-number, a-char, a-part}

-- what a kind's style is computed from
unfoldable pub styling : ℕ
unfolding style_of style_of_plain style_of_content integers bits kind_of kinds sixth
styling = 0

-- ---- numbers

is_numeral : Option Style → Bool
is_numeral none = false
is_numeral (some (numeral below above)) = true
is_numeral (some one_char) = false
is_numeral (some any_text) = false
is_numeral (some hex) = false

-- a kind of numbers has no pool
numbers-only : (k : Kind) {below above : ℕ} → style_of k ≡ some (numeral below above) → is_pooled k ≡ false
unfolding style_of style_of_content is_pooled is_numeral
numbers-only (plain l) e = refl
numbers-only (pooled text) e = not-both (ap is_numeral e) refl
numbers-only (pooled raw) e = not-both (ap is_numeral e) refl
numbers-only option e = refl
numbers-only sequence e = refl
numbers-only map e = refl
numbers-only struct e = refl
numbers-only enum e = refl

pub number-field : (n : ℕ) {above : ℕ} → Largest (kind_of n) above → (message : List ℕ) (a b : ℕ) → field_of (kind_of n) message a b ≡ spelled_word above a
unfolding field_of spelled_if spelled value_of pick
number-field n l message a b = rw (l.is, numbers-only (kind_of n) l.is)

pub fixed-little : (n above : ℕ) → 20 ≤ n → n ≤ 25 → LargestFixed (n - 20) above → Largest (kind_of n) above
fixed-little n above lo hi l = rw (little-kind n lo hi) (l.in_order_is le)

pub fixed-big : (n above : ℕ) → 26 ≤ n → n ≤ 31 → LargestFixed (n - 26) above → Largest (kind_of n) above
fixed-big n above lo hi l = rw (big-kind n lo hi) (l.in_order_is be)

-- ---- chars, texts and bytes

pub char-field : (message : List ℕ) (a b : ℕ) → field_of (kind_of 11) message a b ≡ quoted (doubled (char_bytes a))
unfolding field_of spelled_if spelled value_of pick is_pooled styling
char-field message a b = refl

pub text-field : (message : List ℕ) (a b : ℕ) → field_of (kind_of 12) message a b ≡ spelled (style_of_content (content_if true)) (content (part message a b))
unfolding field_of spelled_if value_of pick is_pooled styling content_if
text-field message a b = refl

pub bytes-field : (message : List ℕ) (a b : ℕ) → field_of (kind_of 13) message a b ≡ spelled (style_of_content (content_if false)) (content (part message a b))
unfolding field_of spelled_if value_of pick is_pooled styling content_if
bytes-field message a b = refl

pub spelled-text : (s : List ℕ) → spelled (style_of_content (content_if true)) (content s) ≡ quoted (doubled s)
unfolding spelled style_of_content content_if
spelled-text s = refl

pub spelled-bytes : (s : List ℕ) → spelled (style_of_content (content_if false)) (content s) ≡ quoted (hexes s)
unfolding spelled style_of_content content_if
spelled-bytes s = refl

-- ---- what is spelled, by its number

module _ {n : ℕ} {message : List ℕ} {a b : ℕ} where
  pub its-char : Spellable n message a b → n ≡ 11 → is_char a ≡ true
  its-char (a-number (low h)) e = absurd (omega arith)
  its-char (a-number (high h k)) e = absurd (omega arith)
  its-char (a-char h k) e = k
  its-char (a-part h k l) e = absurd (omega arith)

  pub its-part : Spellable n message a b → 12 ≤ n → n ≤ 13 → a + b ≤ length message
  its-part (a-number (low h)) l m = absurd (omega arith)
  its-part (a-number (high h k)) l m = absurd (omega arith)
  its-part (a-char h k) l m = absurd (omega arith)
  its-part (a-part h k i) l m = i

  pub its-number : Spellable n message a b → (n ≡ 11 → ⊥) → (n ≡ 12 → ⊥) → (n ≡ 13 → ⊥) → IsNumber n
  its-number (a-number h) p q r = h
  its-number (a-char h k) p q r = absurd (p h)
  its-number (a-part h k i) p q r = absurd (omega arith)

-- a kind of numbers by ranges
pub low-number : {n : ℕ} → IsNumber n → n ≤ 19 → n ≤ 10
low-number (low h) k = h
low-number (high h l) k = absurd (omega arith)

pub high-number : {n : ℕ} → IsNumber n → 11 ≤ n → (20 ≤ n) × (n ≤ 31)
high-number (low h) k = absurd (omega arith)
high-number (high h l) k = (h, l)
