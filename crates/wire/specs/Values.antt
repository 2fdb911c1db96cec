-- The value list: its entries, which of them are a shape's, and which values they stand for.
-- Assumes nothing.
use Rattle.std.specs.Prelude.{◌≡◌, Bool, true, false, List, [], ◌∷◌, ◌++◌, ℕ, take, drop}
use mathlib.Core.List as lists
use Rattle.wire.specs.Tests.{pick, given}
use Rattle.wire.specs.Shape.{Kind, plain, pooled, option, sequence, map, struct, enum, Shape}
use Rattle.wire.specs.Walk.{following, is_known, Walk, walk}

-- an item's two words, and the place of its first byte
pub record Entry : Type 0 where
  pub first : ℕ
  pub second : ℕ
  pub place : ℕ

-- the part of a pool that the words of a text or of bytes name
unfoldable pub part : List ℕ → ℕ → ℕ → List ℕ
part pool a b = take b (drop a pool)

-- ---- a shape's entries

-- an entry and the kind of its item
pub record Tag : Type 0 where
  pub kind : Kind
  pub entry : Entry

-- entries from the front that are a shape's value, and those behind them;
-- or those in front of the first whose variant the shape lacks, that one, and those behind it; or all, where there are too few
pub data Told : Type 0 where
  kept : (front : List Tag) (rest : List Entry) → Told
  lacks : (front : List Tag) (first : Entry) (rest : List Entry) → Told
  short : (front : List Tag) → Told

unfoldable pub told_after : List Tag → Told → Told
told_after tags (kept front rest) = kept (tags ++ front) rest
told_after tags (lacks front e rest) = lacks (tags ++ front) e rest
told_after tags (short front) = short (tags ++ front)

unfoldable pub tell_nothing : List Entry → Told
tell_nothing es = kept [] es

unfoldable pub tell_on : Told → (List Entry → Told) → Told
tell_on (kept front rest) g = told_after front (g rest)
tell_on (lacks front e rest) g = lacks front e rest
tell_on (short front) g = short front

unfoldable pub tell_then : (List Entry → Told) → (List Entry → Told) → List Entry → Told
tell_then f g es = tell_on (f es) g

unfoldable pub tell_item : Kind → ℕ → (ℕ → List Entry → Told) → List Entry → Told
tell_item k n next [] = short []
tell_item k n next (e ∷ es) =
    given (is_known (following k e.first) n) (λ _. told_after (record { kind = k; entry = e } ∷ []) (next e.first es)) (lacks [] e es)

abbrev pub telling : Walk
telling = record { From = List Entry; To = Told; nothing = tell_nothing; then = tell_then; item = tell_item }

unfoldable pub tell : Shape → List Entry → Told
tell t es = walk telling t es

-- ---- their values

-- what an entry stands for: its words, or the content of a text or of bytes
pub data Value : Type 0 where
  number : ℕ → ℕ → Value
  content : List ℕ → Value

unfoldable pub is_pooled : Kind → Bool
is_pooled (plain _) = false
is_pooled (pooled _) = true
is_pooled option = false
is_pooled sequence = false
is_pooled map = false
is_pooled struct = false
is_pooled enum = false

unfoldable pub value_of : List ℕ → Tag → Value
value_of pool tag =
    pick (is_pooled tag.kind) (content (part pool tag.entry.first tag.entry.second)) (number tag.entry.first tag.entry.second)

-- the values of a whole list; or those in front of where it ends too early, goes on too long or has a variant that the shape lacks
pub data Valued : Type 0 where
  whole too_short too_long unknown : List Value → Valued

unfoldable pub valued : List ℕ → Told → Valued
valued pool (kept front []) = whole (lists.map (value_of pool) front)
valued pool (kept front (e ∷ es)) = too_long (lists.map (value_of pool) front)
valued pool (lacks front e rest) = unknown (lists.map (value_of pool) front)
valued pool (short front) = too_short (lists.map (value_of pool) front)

-- the values of a list with its pool
unfoldable pub values : Shape → List ℕ → List Entry → Valued
values t pool es = valued pool (tell t es)

-- two lists, each with its pool, have the same values
pub record SameValues (t : Shape) (pool : List ℕ) (es : List Entry) (pool' : List ℕ) (es' : List Entry) : Type 0 where
  pub them : List Value
  pub those : values t pool es ≡ whole them
  pub these : values t pool' es' ≡ whole them
