-- Rows read byte by byte: where each field's spelling ends, its value, or where the input stops being a row.
-- Assumes nothing.
use Rattle.std.specs.Prelude.{Bool, true, false, List, [], ◌∷◌, ◌++◌, ℕ, zero, suc, ◌+◌, ◌-◌, ◌*◌, ◌^◌, ltb, leb, eqb, Err}
use Rattle.std.proofs.Math.Option.{Option, none, some}
use Rattle.wire.specs.Tests.{pick, given, both}
use Rattle.wire.specs.Values.{Value, number, content}
use Rattle.wire.specs.Text.{width_of, low_of, high_of, first_char}
use Rattle.wire.specs.Table.{check, shape_of}
use Rattle.wire.specs.Checked.{Checked}
use Rattle.wire.specs.Checked.{Good, Bad}
use Rattle.desk.specs.CsvAnswer.{Refused, Unfit, NoRow}
use Rattle.desk.specs.Csv.{quote, comma, minus, Style, numeral, one_char, any_text, hex, Column, columns_of, styles_of, Output, refusal, within, message_of}

-- goes byte by byte: the next state, unless no spelling goes on so; and the value of a state in which a spelling is whole
pub record Acceptor : Type 1 where
  pub State : Type 0
  pub start : State
  pub step : State → ℕ → Option State
  pub value : State → Option Value

unfoldable pub when {ℓ} : {X : Type ℓ} → Bool → X → Option X
when true x = some x
when false x = none

-- ---- numbers

-- nothing yet, a minus, or a number of that size so far
pub data Figure : Type 0 where
  nothing minused : Figure
  plus under : ℕ → Figure

unfoldable pub is_digit : ℕ → Bool
is_digit b = both (leb 48 b) (leb b 57)

-- a digit behind a number: none behind a leading zero, and none beyond the most
unfoldable pub another : (most : ℕ) → (ℕ → Figure) → ℕ → ℕ → Option Figure
another most f x b = when (both (is_digit b) (both (ltb 0 x) (leb (10 * x + (b - 48)) most))) (f (10 * x + (b - 48)))

-- a first digit, from the least on
unfoldable pub first : (least most : ℕ) → (ℕ → Figure) → ℕ → Option Figure
first least most f b = when (both (is_digit b) (both (leb least (b - 48)) (leb (b - 48) most))) (f (b - 48))

unfoldable pub figure_step : (below above : ℕ) → Figure → ℕ → Option Figure
figure_step below above nothing b = pick (eqb b minus) (when (ltb 0 below) minused) (first 0 above plus b)
figure_step below above minused b = first 1 below under b
figure_step below above (plus x) b = another above plus x b
figure_step below above (under x) b = another below under x b

unfoldable pub figure_value : Figure → Option Value
figure_value nothing = none
figure_value minused = none
figure_value (plus x) = some (number x 0)
figure_value (under x) = some (number (2 ^ 64 - x) 0)

-- ---- bytes in hexadecimal

-- before the quote, behind whole bytes, behind half a byte, behind the closing quote
pub data Hexing : Type 0 where
  before : Hexing
  even : List ℕ → Hexing
  odd : List ℕ → ℕ → Hexing
  closed : List ℕ → Hexing

unfoldable pub hex_value : ℕ → Option ℕ
hex_value b = pick (is_digit b) (some (b - 48)) (when (both (leb 97 b) (leb b 102)) (b - 87))

unfoldable pub high : List ℕ → Option ℕ → Option Hexing
high s none = none
high s (some x) = some (odd s x)

unfoldable pub low : List ℕ → ℕ → Option ℕ → Option Hexing
low s h none = none
low s h (some x) = some (even (s ++ (16 * h + x) ∷ []))

unfoldable pub hex_step : Hexing → ℕ → Option Hexing
hex_step before b = when (eqb b quote) (even [])
hex_step (even s) b = pick (eqb b quote) (some (closed s)) (high s (hex_value b))
hex_step (odd s h) b = low s h (hex_value b)
hex_step (closed s) b = none

unfoldable pub hexed_value : Hexing → Option Value
hexed_value before = none
hexed_value (even s) = none
hexed_value (odd s h) = none
hexed_value (closed s) = some (content s)

-- ---- texts and chars

-- before the quote; behind a text of which k more bytes of a char are open, the next from lo to hi; behind a quote, that closes or is the first of two
pub data Quoting : Type 0 where
  outside : Quoting
  inside : List ℕ → (k lo hi : ℕ) → Quoting
  at_quote : List ℕ → Quoting

-- a further char may follow in a text always, in a char only in front
unfoldable pub may_follow : (one : Bool) → List ℕ → Bool
may_follow false s = true
may_follow true [] = true
may_follow true (b ∷ s) = false

unfoldable pub quote_step : (one : Bool) → Quoting → ℕ → Option Quoting
quote_step one outside b = when (eqb b quote) (inside [] 0 0 0)
quote_step one (inside s zero lo hi) b =
    pick (eqb b quote) (some (at_quote s))
    (when (both (may_follow one s) (ltb 0 (width_of b))) (inside (s ++ b ∷ []) (width_of b - 1) (low_of b) (high_of b)))
quote_step one (inside s (suc k) lo hi) b = when (both (leb lo b) (leb b hi)) (inside (s ++ b ∷ []) k 0x80 0xbf)
quote_step one (at_quote s) b = when (both (eqb b quote) (may_follow one s)) (inside (s ++ quote ∷ []) 0 0 0)

unfoldable pub char_value : List ℕ → Option Value
char_value [] = none
char_value (b ∷ s) = some (number (first_char (b ∷ s)) 0)

unfoldable pub quoted_value : (one : Bool) → Quoting → Option Value
quoted_value one outside = none
quoted_value one (inside s k lo hi) = none
quoted_value false (at_quote s) = some (content s)
quoted_value true (at_quote s) = char_value s

-- ---- every style

abbrev pub numbers : (below above : ℕ) → Acceptor
numbers below above = record { State = Figure; start = nothing; step = figure_step below above; value = figure_value }

abbrev pub quotes : (one : Bool) → Acceptor
quotes one = record { State = Quoting; start = outside; step = quote_step one; value = quoted_value one }

abbrev pub pairs : Acceptor
pairs = record { State = Hexing; start = before; step = hex_step; value = hexed_value }

unfoldable pub acceptor : Style → Acceptor
acceptor (numeral below above) = numbers below above
acceptor one_char = quotes true
acceptor any_text = quotes false
acceptor hex = pairs

-- ---- a row

-- how far a field goes: the state there, the bytes used, and those that are left
pub record Scanned (A : Acceptor) : Type 0 where
  pub state : A.State
  pub used : ℕ
  pub left : List ℕ

unfoldable pub moved : (A : Acceptor) → Scanned A → Scanned A
moved A r = record { state = r.state; used = 1 + r.used; left = r.left }

unfoldable pub scan_on : (A : Acceptor) → A.State → ℕ → List ℕ → Option A.State → (A.State → Scanned A) → Scanned A
scan_on A x b s none on = record { state = x; used = 0; left = b ∷ s }
scan_on A x b s (some y) on = moved A (on y)

-- byte after byte, while there is a next state
unfoldable pub scan : (A : Acceptor) → A.State → List ℕ → Scanned A
scan A x [] = record { state = x; used = 0; left = [] }
scan A x (b ∷ s) = scan_on A x b s (A.step x b) (λ y. scan A y s)

-- the values of a whole row, or where it stops
pub data Parsed : Type 0 where
  took : List Value → Parsed
  stopped : ℕ → Parsed

-- so many bytes in front
unfoldable pub past : ℕ → Parsed → Parsed
past n (took vs) = took vs
past n (stopped p) = stopped (n + p)

unfoldable pub with_value : Value → Parsed → Parsed
with_value v (took vs) = took (v ∷ vs)
with_value v (stopped p) = stopped p

-- one byte that must stand there, and what follows it
unfoldable pub must : ℕ → (List ℕ → Parsed) → List ℕ → Parsed
must c f [] = stopped 0
must c f (b ∷ s) = given (eqb b c) (λ _. past 1 (f s)) (stopped 0)

-- nothing more
unfoldable pub finished : List ℕ → Parsed
finished [] = took []
finished (b ∷ s) = stopped 0

-- a field's value, where it is whole, and what follows it
unfoldable pub field_then : Option Value → ℕ → List ℕ → (List ℕ → Parsed) → Parsed
field_then none n s f = stopped n
field_then (some v) n s f = past n (with_value v (f s))

unfoldable pub parse_field : (A : Acceptor) → Scanned A → (List ℕ → Parsed) → Parsed
parse_field A r f = field_then (A.value r.state) r.used r.left f

unfoldable pub parse_later : List Style → List ℕ → Parsed
parse_later [] s = must 13 (must 10 finished) s
parse_later (f ∷ fs) s = must comma (λ t. parse_field (acceptor f) (scan (acceptor f) (acceptor f).start t) (parse_later fs)) s

unfoldable pub parse : List Style → List ℕ → Parsed
parse [] s = parse_later [] s
parse (f ∷ fs) s = parse_field (acceptor f) (scan (acceptor f) (acceptor f).start s) (parse_later fs)

-- ---- import, given

unfoldable pub import_parsed : List Column → ℕ → Parsed → Output
import_parsed cs room (took vs) = within room (message_of cs vs)
import_parsed cs room (stopped p) = refusal (NoRow p)

unfoldable pub import_of : Option (List Column) → List ℕ → ℕ → Output
import_of none s room = refusal Unfit
import_of (some cs) s room = import_parsed cs room (parse (styles_of cs) s)

unfoldable pub import_by : Checked → List ℕ → List ℕ → ℕ → Output
import_by (Good l) table s room = import_of (columns_of (shape_of table l)) s room
import_by (Err r) table s room = refusal (Refused r.why r.place)

unfoldable pub csv_import : (table input : List ℕ) (room : ℕ) → Output
csv_import table s room = import_by (check table) table s room
