-- A field's spelling by its kind, and which fields are spelled.
-- Assumes nothing.
use Rattle.std.specs.Prelude.{◌≡◌, true, List, [], ℕ, ◌+◌, ◌≤◌, length}
use Rattle.std.proofs.Math.Option.{Option, none, some}
use Rattle.wire.specs.Shape.{Order, Kind, plain}
use Rattle.wire.specs.Text.{is_char}
use Rattle.wire.specs.Values.{Value, value_of}
use Rattle.laws.specs.KindRanges.{sixth}
use Rattle.desk.specs.Csv.{Style, numeral, spelled, style_of}

unfoldable pub spelled_if : Option Style → Value → List ℕ
spelled_if none v = []
spelled_if (some f) v = spelled f v

-- the spelling of an item of a kind with the words a and b, whose pool is the message
unfoldable pub field_of : Kind → (message : List ℕ) → (a b : ℕ) → List ℕ
field_of k message a b = spelled_if (style_of k) (value_of message (record { kind = k; entry = record { first = a; second = b; place = 0 } }))

-- the values of a kind are numbers up to this one
pub record Largest (k : Kind) (above : ℕ) : Type 0 where
  pub below : ℕ
  pub is : style_of k ≡ some (numeral below above)

-- the same of the i-th of the six fixed-size integers, in either order
pub record LargestFixed (i above : ℕ) : Type 0 where
  pub in_order_is : (o : Order) → Largest (plain (sixth o i)) above

-- the number of a kind of numbers: 0 to 10 or 20 to 31
pub data IsNumber (number : ℕ) : Type 0 where
  low : number ≤ 10 → IsNumber number
  high : 20 ≤ number → number ≤ 31 → IsNumber number

-- an item that is spelled: a number, a char's word that is a char, or words that name a part of the message
pub data Spellable (number : ℕ) (message : List ℕ) (a b : ℕ) : Type 0 where
  a-number : IsNumber number → Spellable number message a b
  a-char : number ≡ 11 → is_char a ≡ true → Spellable number message a b
  a-part : 12 ≤ number → number ≤ 13 → a + b ≤ length message → Spellable number message a b
