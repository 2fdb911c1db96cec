-- The items of a list of entries with their paths, and pairs of places of items of one path.
-- Letters: k a kind, n how many children it has, e an entry, x where a walk stands, f and g steps, i and j items.
-- Assumes nothing.
use Rattle.std.specs.Prelude.{◌≡◌, List, [], ◌∷◌, ◌++◌, ℕ, ◌+◌}
use mathlib.Core.List as lists
use Rattle.wire.specs.Shape.{Kind, Shape}
use Rattle.wire.specs.Walk.{Walk, walk}
use Rattle.wire.specs.Values.{Entry, Value, whole, values}
use Rattle.desk.specs.Differ.{Pair, differences}

-- an item's entry and its path: its own position among the items that follow the item around it, then that one's, up to the root's
pub record Placed : Type 0 where
  pub path : List ℕ
  pub entry : Entry

-- where a walk stands: the path of the item that it is inside of, how many items it has passed there, and the entries from there on
pub record Inside : Type 0 where
  pub path : List ℕ
  pub passed : ℕ
  pub entries : List Entry

-- the items that were passed, and where the walk then stands
pub record Passed : Type 0 where
  pub items : List Placed
  pub rest : Inside

unfoldable pub place_nothing : Inside → Passed
place_nothing x = record { items = []; rest = x }

unfoldable pub place_then : (Inside → Passed) → (Inside → Passed) → Inside → Passed
place_then f g x = record { items = (f x).items ++ (g (f x).rest).items; rest = (g (f x).rest).rest }

-- an item, and what is inside of it
unfoldable pub place_one : (path : List ℕ) (at : ℕ) → Entry → Passed → Passed
place_one path at e inner =
    record { items = record { path = at ∷ path; entry = e } ∷ inner.items; rest = record { path = path; passed = at + 1; entries = inner.rest.entries } }

unfoldable pub place_first : (path : List ℕ) (at : ℕ) → (ℕ → Inside → Passed) → List Entry → Passed
place_first path at next [] = record { items = []; rest = record { path = path; passed = at + 1; entries = [] } }
place_first path at next (e ∷ es) = place_one path at e (next e.first (record { path = at ∷ path; passed = 0; entries = es }))

unfoldable pub place_item : Kind → ℕ → (ℕ → Inside → Passed) → Inside → Passed
place_item k n next x = place_first x.path x.passed next x.entries

abbrev pub placing : Walk
placing = record { From = Inside; To = Passed; nothing = place_nothing; then = place_then; item = place_item }

-- the items of a list's entries
unfoldable pub placed : Shape → List Entry → List Placed
placed t es = (walk placing t (record { path = []; passed = 0; entries = es })).items

-- some of the first items, each with one of the second that has the same path, in the order of both: their places are the pairs
pub data Paired : List Placed → List Placed → List Pair → Type 0 where
  none : {is js : List Placed} → Paired is js []
  left : {i : Placed} {is js : List Placed} {ps : List Pair} → Paired is js ps → Paired (i ∷ is) js ps
  right : {j : Placed} {is js : List Placed} {ps : List Pair} → Paired is js ps → Paired is (j ∷ js) ps
  pair : {i j : Placed} {is js : List Placed} {ps : List Pair} → i.path ≡ j.path → Paired is js ps
      → Paired (i ∷ is) (j ∷ js) (record { one = i.entry.place; other = j.entry.place } ∷ ps)

-- A whole list's items have its entries, in their order.
abbrev pub PlacedAll : Type 0
PlacedAll = (t : Shape) (pool : List ℕ) (es : List Entry) (vs : List Value) → values t pool es ≡ whole vs → lists.map (λ (i : Placed). i.entry) (placed t es) ≡ es

-- The differences of two whole lists are of items of one path, in reading order.
abbrev pub SamePaths : Type 0
SamePaths = (t : Shape) (pool : List ℕ) (es : List Entry) (pool' : List ℕ) (fs : List Entry) (vs ws : List Value)
    → values t pool es ≡ whole vs → values t pool' fs ≡ whole ws → Paired (placed t es) (placed t fs) (differences t pool es pool' fs)
