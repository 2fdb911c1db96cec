-- The parts of a table as code goes through them: where they stand, and stretches of children's numbers.
-- Assumes nothing.
use Rattle.std.specs.Prelude.{◌≡◌, Bool, true, false, List, ℕ, ◌+◌, ◌*◌, ◌≤◌, ◌<◌, length, get_or, eqb, ltb, leb}
use Rattle.wire.specs.declared.Refusal.TheVariants.{Record}
use Rattle.wire.specs.declared.Ending.{Ending}
use Rattle.wire.specs.declared.Layout.{Layout}
use Rattle.wire.specs.Checked.{Checked}
use Rattle.wire.specs.Checked.{Good, Bad}
use Rattle.wire.specs.Tests.{pick, both}
use Rattle.wire.specs.Shape.{struct}
use Rattle.wire.specs.Walk.{Follow, each, only, Walk, Step, times, walk}
use Rattle.wire.specs.Table.{u16_at, good_numbers, Node, node_at, record_of, below, shapes_at}
use Rattle.laws.specs.Steps.{row}
use Rattle.laws.specs.Tables.{node_kind, node_first, node_count, node_shape}
use Rattle.table.specs.declared.Stretch.{Stretch}
use Rattle.table.specs.declared.Way.{Way}

-- the records and the child list stand in the table
pub record Inside (s : List ℕ) (l : Layout) : Type 0 where
  pub records : l.records + 6 * l.nodes ≤ l.children
  pub children : l.children + 2 * l.places ≤ length s

-- numbers as a trailer holds them, so that no sum of them leaves a word
pub record Small (t : Ending) : Type 0 where
  pub c : t.c < 4294967296
  pub n : t.n < 65536

-- a trailer has the mark, and numbers for so many nodes and bytes of child list
unfoldable pub fitting : Ending → (mark nodes bytes end : ℕ) → Bool
fitting t mark nodes bytes end = both (eqb t.mark mark) (good_numbers nodes bytes t.c t.d t.n t.root end)

-- b places from the a-th on are in the child list, and their numbers are below i
unfoldable pub listed : List ℕ → Layout → (i a b : ℕ) → Bool
listed s l i a b = both (leb (a + b) l.places) (below s i (l.children + 2 * a) b)

-- a node's chain in a list of them
abbrev pub chain_at : List ℕ → ℕ → ℕ
chain_at chains i = get_or chains i 0

-- the check of nodes of which i is the first bad one, or none is where i is no node
unfoldable pub bad_at : Layout → ℕ → Checked
bad_at l i = pick (ltb i l.nodes) (Bad Record i) (Good l)

-- of n children's numbers from an offset on, those that follow an item
unfoldable pub followed : Follow → (from n : ℕ) → Stretch
followed (each c) from n = record { rounds = c; from = from; width = n }
followed (only v) from n = record { rounds = 1; from = from + 2 * v; width = 1 }

-- so many numbers from an offset on stand in the table, and each is below i
pub record Falls (s : List ℕ) (from n i : ℕ) : Type 0 where
  pub inside : from + 2 * n ≤ length s
  pub below : (c : ℕ) → c < n → u16_at s (from + 2 * c) < i

-- ---- a stretch that is one struct alone

-- the way by the fields of the struct i
unfoldable pub fields_of : Layout → ℕ → Node → Way
fields_of l i r = record { headed = true; from = node_first l i r; width = node_count r }

-- the way of n numbers from an offset on, below i: as they stand, or by the fields of the one struct that they are
pub data Flat (s : List ℕ) (l : Layout) (i from n : ℕ) (way : Way) : Type 0 where
  bare : Falls s from n i → way ≡ record { headed = false; from = from; width = n } → Flat s l i from n way
  alone : {c : ℕ} → n ≡ 1 → c ≡ u16_at s from → c < i → node_kind (node_at s (record_of l c)) ≡ struct → way ≡ fields_of l c (node_at s (record_of l c)) → Flat s l i from n way

-- a step as it stands, or as that of a struct's n fields
unfoldable pub under : (w : Walk) → Bool → ℕ → Step w → Step w
under w true n f = w.item struct n (λ a. f)
under w false n f = f

-- ---- a walk over the nodes of a table

-- one node
unfoldable pub node_step : (w : Walk) → List ℕ → Layout → ℕ → Step w
node_step w s l i = walk w (node_shape s l i)

-- the n nodes whose numbers stand from an offset on, one after the other
unfoldable pub row_step : (w : Walk) → List ℕ → Layout → (from n : ℕ) → Step w
row_step w s l from n = row w (shapes_at (node_shape s l) s from n)

-- such a row so many times over, as it stands or as that of a struct's n fields
unfoldable pub rounds_step : (w : Walk) → List ℕ → Layout → (rounds : ℕ) (headed : Bool) (from n : ℕ) → Step w
rounds_step w s l c h from n = times w c (under w h n (row_step w s l from n))

-- nothing behind a step is the step
abbrev pub EndsBare : Walk → Type 0
EndsBare w = (f : Step w) (x : w.From) → w.then f w.nothing x ≡ f x
