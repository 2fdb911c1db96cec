-- A field of a row taken from a place on, and its value's bytes laid in a lent output.
-- Assumes nothing.
use Rattle.std.specs.Prelude.{◌≡◌, Bool, true, false, List, ℕ, length}
use Rattle.std.proofs.Math.Option.{none, some}
use Rattle.wire.specs.Shape.{Kind}
use Rattle.wire.specs.Table.{kind_of}
use Rattle.wire.specs.Values.{Value}
use Rattle.desk.specs.Csv.{Style, style_of, value_bytes}
use Rattle.spellings.specs.Accept.{acceptor}
use Rattle.put_number.specs.Lays.{Lays}
use Rattle.take_number.specs.Scans.{Ends}
use Rattle.take_field.specs.Field.{Field}
use Rattle.take_field.specs.Field.{Took, Stops}

-- a field in a style, of a kind: its value's bytes are laid behind the first u, or it is not whole
pub data Takes (f : Style) (k : Kind) (s : List ℕ) (i u : ℕ) (out : List ℕ) : Field → List ℕ → Type 0 where
  took : {y : (acceptor f).State} {v : Value} {j n : ℕ} {after : List ℕ} → Ends (acceptor f) (acceptor f).start s i y j → (acceptor f).value y ≡ some v
      → Lays (value_bytes k v) u out n after → Takes f k s i u out (Took j n) after
  stops : {y : (acceptor f).State} {j : ℕ} {after : List ℕ} → Ends (acceptor f) (acceptor f).start s i y j → (acceptor f).value y ≡ none
      → length after ≡ length out → Takes f k s i u out (Stops j) after

-- in the style of its kind
pub record TakesKind (k : Kind) (s : List ℕ) (i u : ℕ) (out : List ℕ) (r : Field) (after : List ℕ) : Type 0 where
  pub of : (f : Style) → style_of k ≡ some f → Takes f k s i u out r after

-- the kind of a char, or of a text
abbrev pub quoted_kind : (one : Bool) → Kind
quoted_kind true = kind_of 11
quoted_kind false = kind_of 12
