-- To the spreadsheet and back (T-11): which tables have rows, a value's one spelling, the row of a message, and the message of
-- a row. Import is said by export: of all value lists, with no parser.
-- Letters: k a kind, f a field's style, fs styles, cs columns, v a value, vs values, a and b an entry's words, s bytes, n a place,
-- t a shape, p a spelling of anything, l a layout.
-- Assumes nothing.
use Rattle.std.specs.Prelude.{◌≡◌, Bool, true, false, List, [], ◌∷◌, ◌++◌, ℕ, zero, suc, ◌+◌, ◌-◌, ◌/◌, ◌%◌, ◌^◌, length, drop, ltb, leb, eqb, Err}
use mathlib.Core.List as lists
use Rattle.std.proofs.Math.Option.{Option, none, some}
use Rattle.wire.specs.declared.Refusal.{Refusal}
use Rattle.wire.specs.declared.Refusal.TheVariants.{Full}
use Rattle.wire.specs.declared.Layout.{Layout}
use Rattle.wire.specs.Checked.{Checked}
use Rattle.wire.specs.Checked.{Good, Bad}
use Rattle.desk.specs.CsvAnswer.{CsvAnswer}
use Rattle.desk.specs.CsvAnswer.{Done, Refused, Unfit, NoRow}
use Rattle.wire.specs.Tests.{pick, given, both}
use Rattle.wire.specs.Shape.{bits, Sign, signed, unsigned, Plain, bool, i8, u8, f32, f64, char, unit, int, fixed, Content, text, raw, Kind, plain, pooled, option, sequence, map, struct, enum, same_kind, Shape, node, Shapes, count}
use Rattle.wire.specs.Shape as shapes
use Rattle.wire.specs.Table.{check, shape_of}
use Rattle.wire.specs.Text.{utf8, is_char, char_bytes}
use Rattle.wire.specs.Values.{Value, number, content, Valued, whole, too_short, too_long, unknown, values}
use Rattle.wire.specs.Reading.{front, Outcome, reached, refused, Run, read, fit}
use Rattle.wire.specs.Writing.{head_bytes}
use Rattle.wire.specs.Answers.{Numbered, numbered, done}
use Rattle.desk.specs.Path.{most_entries}

-- ---- bytes that have a meaning in a row

abbrev pub quote : ℕ
quote = 34

abbrev pub comma : ℕ
comma = 44

abbrev pub minus : ℕ
minus = 45

-- CRLF
abbrev pub line_end : List ℕ
line_end = 13 ∷ 10 ∷ []

-- ---- the styles of fields

-- numbers from so many below zero to so many above it, one char, a text, or bytes
pub data Style : Type 0 where
  numeral : (below above : ℕ) → Style
  one_char any_text hex : Style

-- integers of n bits
unfoldable pub integers : Sign → ℕ → Style
integers signed n = numeral (2 ^ (n - 1)) (2 ^ (n - 1) - 1)
integers unsigned n = numeral 0 (2 ^ n - 1)

-- the style of a plain kind's values, floats by their bits; a unit stands in no row
unfoldable pub style_of_plain : Plain → Option Style
style_of_plain bool = some (numeral 0 1)
style_of_plain i8 = some (integers signed 8)
style_of_plain u8 = some (integers unsigned 8)
style_of_plain f32 = some (integers unsigned 32)
style_of_plain f64 = some (integers unsigned 64)
style_of_plain char = some one_char
style_of_plain unit = none
style_of_plain (int g w) = some (integers g (bits w))
style_of_plain (fixed o g w) = some (integers g (bits w))

unfoldable pub style_of_content : Content → Style
style_of_content text = any_text
style_of_content raw = hex

-- the kinds 0 to 13 and 20 to 31 have a style, the others none
unfoldable pub style_of : Kind → Option Style
style_of (plain l) = style_of_plain l
style_of (pooled c) = some (style_of_content c)
style_of option = none
style_of sequence = none
style_of map = none
style_of struct = none
style_of enum = none

-- ---- which values a style has

unfoldable pub are_bytes : List ℕ → Bool
are_bytes [] = true
are_bytes (b ∷ s) = both (ltb b 256) (are_bytes s)

-- a word of a number in that range: the number, or 2^64 more than it below zero
unfoldable pub in_range : (below above : ℕ) → ℕ → Bool
in_range below above a = pick (leb a above) true (both (leb (2 ^ 64) (a + below)) (ltb a (2 ^ 64)))

unfoldable pub may : Style → Value → Bool
may (numeral below above) (number a b) = both (in_range below above a) (eqb b 0)
may (numeral below above) (content s) = false
may one_char (number a b) = both (is_char a) (eqb b 0)
may one_char (content s) = false
may any_text (number a b) = false
may any_text (content s) = utf8 s
may hex (number a b) = false
may hex (content s) = are_bytes s

-- ---- a value's one spelling

-- a number's decimal digits without leading zeros; any count above the number will do
unfoldable pub digits_f : ℕ → ℕ → List ℕ
digits_f zero x = []
digits_f (suc f) x = given (leb 10 x) (λ _. digits_f f (x / 10) ++ (48 + x % 10) ∷ []) ((48 + x) ∷ [])

unfoldable pub decimal : ℕ → List ℕ
decimal x = digits_f (suc x) x

-- a word's number in decimal, with a minus in front below zero
unfoldable pub spelled_word : (above : ℕ) → ℕ → List ℕ
spelled_word above a = given (leb a above) (λ _. decimal a) (minus ∷ decimal (2 ^ 64 - a))

-- a hexadecimal digit, in lower case
unfoldable pub digit_of : ℕ → ℕ
digit_of x = pick (ltb x 10) (48 + x) (87 + x)

-- a byte's two hexadecimal digits
unfoldable pub hex_of : ℕ → List ℕ
hex_of b = digit_of (b / 16) ∷ digit_of (b % 16) ∷ []

unfoldable pub hexes : List ℕ → List ℕ
hexes [] = []
hexes (b ∷ s) = hex_of b ++ hexes s

-- each quote twice
unfoldable pub doubled : List ℕ → List ℕ
doubled [] = []
doubled (b ∷ s) = pick (eqb b quote) (quote ∷ quote ∷ doubled s) (b ∷ doubled s)

unfoldable pub quoted : List ℕ → List ℕ
quoted s = quote ∷ s ++ quote ∷ []

-- a value that a style has not is spelled by no bytes
unfoldable pub spelled : Style → Value → List ℕ
spelled (numeral below above) (number a b) = spelled_word above a
spelled (numeral below above) (content s) = []
spelled one_char (number a b) = quoted (doubled (char_bytes a))
spelled one_char (content s) = []
spelled any_text (number a b) = []
spelled any_text (content s) = quoted (doubled s)
spelled hex (number a b) = []
spelled hex (content s) = quoted (hexes s)

-- ---- a row

-- the fields behind the first, each behind its comma, and the line's end
unfoldable pub later : List Style → List Value → List ℕ
later [] vs = line_end
later (f ∷ fs) [] = line_end
later (f ∷ fs) (v ∷ vs) = comma ∷ spelled f v ++ later fs vs

-- the fields with commas between them, and the line's end
unfoldable pub row : List Style → List Value → List ℕ
row [] vs = line_end
row (f ∷ fs) [] = line_end
row (f ∷ fs) (v ∷ vs) = spelled f v ++ later fs vs

-- a value for each field, which it may have
unfoldable pub may_all : List Style → List Value → Bool
may_all [] [] = true
may_all (f ∷ fs) (v ∷ vs) = both (may f v) (may_all fs vs)
may_all [] (v ∷ vs) = false
may_all (f ∷ fs) [] = false

-- ---- which tables have rows

-- a field's kind, and the style of its values
pub record Column : Type 0 where
  pub kind : Kind
  pub style : Style

unfoldable pub and_column : Kind → Option Style → Option (List Column) → Option (List Column)
and_column k none cs = none
and_column k (some f) none = none
and_column k (some f) (some cs) = some (record { kind = k; style = f } ∷ cs)

unfoldable pub kind_of_root : Shape → Kind
kind_of_root (node k ts) = k

-- a column for each field, where all have a style
unfoldable pub columns : Shapes → Option (List Column)
columns shapes.none = some []
columns (shapes.more t ts) = and_column (kind_of_root t) (style_of (kind_of_root t)) (columns ts)

abbrev pub most_fields : ℕ
most_fields = 1024

-- the root is a struct of at most so many fields that all have a style
unfoldable pub columns_of : Shape → Option (List Column)
columns_of (node k ts) = given (both (same_kind k struct) (leb (count ts) most_fields)) (λ _. columns ts) none

unfoldable pub styles_of : List Column → List Style
styles_of cs = lists.map (λ (c : Column). c.style) cs

-- ---- answers

-- the bytes that are written, or a refusal
pub data Output : Type 0 where
  bytes : List ℕ → Output
  refusal : CsvAnswer → Output

-- 12 comes last
unfoldable pub within : ℕ → List ℕ → Output
within room s = pick (leb (length s) room) (bytes s) (refusal (Refused Full 0))

unfoldable pub csv_answer : Output → CsvAnswer
csv_answer (bytes s) = Done (length s)
csv_answer (refusal r) = r

-- only the bytes written change
unfoldable pub out_after : Output → List ℕ → List ℕ
out_after (bytes s) out = s ++ drop (length s) out
out_after (refusal r) out = out

unfoldable pub csv_says : CsvAnswer → Numbered
csv_says (Done n) = done n
csv_says (Refused e n) = numbered e n
csv_says Unfit = record { number = 20; place = 0 }
csv_says (NoRow n) = record { number = 21; place = n }

-- ---- export

-- the fields' values, behind the struct's own
unfoldable pub field_values : Valued → List Value
field_values (whole []) = []
field_values (whole (v ∷ vs)) = vs
field_values (too_short vs) = []
field_values (too_long vs) = []
field_values (unknown vs) = []

-- the row of what was read, or the reader's own refusal
unfoldable pub export_run : List Column → ℕ → List Value → Outcome → Output
export_run cs room vs (reached x) = within room (row (styles_of cs) vs)
export_run cs room vs (refused e n) = refusal (Refused e n)

unfoldable pub export_read : List Column → Shape → List ℕ → ℕ → Run → Output
export_read cs t message room r = export_run cs room (field_values (values t message r.made)) r.ends

unfoldable pub export_of : Option (List Column) → Shape → List ℕ → ℕ → Output
export_of none t message room = refusal Unfit
export_of (some cs) t message room = export_read cs t message room (fit most_entries (read t (front message)))

unfoldable pub export_by : Checked → List ℕ → List ℕ → ℕ → Output
export_by (Good l) table message room = export_of (columns_of (shape_of table l)) (shape_of table l) message room
export_by (Err r) table message room = refusal (Refused r.why r.place)

unfoldable pub csv_export : (table message : List ℕ) (room : ℕ) → Output
csv_export table message room = export_by (check table) table message room

-- ---- the message of values

unfoldable pub or_nothing : Option (List ℕ) → List ℕ
or_nothing none = []
or_nothing (some s) = s

-- a value in its shortest form
unfoldable pub value_bytes : Kind → Value → List ℕ
value_bytes k (number a b) = or_nothing (head_bytes k 0 [] a b)
value_bytes k (content s) = or_nothing (head_bytes k 0 s 0 (length s))

-- a struct has no bytes of its own, so one field's bytes after the other's
unfoldable pub message_of : List Column → List Value → List ℕ
message_of [] vs = []
message_of (c ∷ cs) [] = []
message_of (c ∷ cs) (v ∷ vs) = value_bytes c.kind v ++ message_of cs vs

-- ---- where an input stops being a row

-- which values there are, and how each is spelled
pub record Spelling (X : Type 0) : Type 0 where
  pub has : X → Bool
  pub spell : X → List ℕ

-- some value's spelling begins with these bytes
pub record Begins {X : Type 0} (p : Spelling X) (s : List ℕ) : Type 0 where
  pub value : X
  pub had : p.has value ≡ true
  pub more : List ℕ
  pub spells : p.spell value ≡ s ++ more

-- what follows can't: the input ends and is no spelling, or no spelling goes on with the next byte
pub data Blocked {X : Type 0} (p : Spelling X) (front : List ℕ) : List ℕ → Type 0 where
  ends : ((w : X) → p.has w ≡ true → p.spell w ≡ front → ⊥) → Blocked p front []
  wrong : {b : ℕ} {rest : List ℕ} → (Begins p (front ++ b ∷ []) → ⊥) → Blocked p front (b ∷ rest)

-- the bytes in front of a place begin a spelling, and what follows can't
pub record Stops {X : Type 0} (p : Spelling X) (s : List ℕ) (place : ℕ) : Type 0 where
  pub front : List ℕ
  pub rest : List ℕ
  pub split : s ≡ front ++ rest
  pub long : length front ≡ place
  pub begins : Begins p front
  pub blocked : Blocked p front rest

-- the rows that are exported of a table with these fields
unfoldable pub exported_rows : List Style → Spelling (List Value)
exported_rows fs = record { has = may_all fs; spell = row fs }

-- ---- import

-- values whose row these bytes are give their message; where no exported row goes on is 21
pub data Imported (cs : List Column) (s : List ℕ) (room : ℕ) : Output → Type 0 where
  row_of : (vs : List Value) → may_all (styles_of cs) vs ≡ true → row (styles_of cs) vs ≡ s → Imported cs s room (within room (message_of cs vs))
  stops_at : (n : ℕ) → Stops (exported_rows (styles_of cs)) s n → Imported cs s room (refusal (NoRow n))

-- what import answers: the table's refusals come first
pub data Imports (table s : List ℕ) (room : ℕ) : Output → Type 0 where
  bad_table : (e : Refusal) (i : ℕ) → check table ≡ Bad e i → Imports table s room (refusal (Refused e i))
  unfit : (l : Layout) → check table ≡ Good l → columns_of (shape_of table l) ≡ none → Imports table s room (refusal Unfit)
  fits : {o : Output} (l : Layout) (cs : List Column) → check table ≡ Good l → columns_of (shape_of table l) ≡ some cs
      → Imported cs s room o → Imports table s room o
