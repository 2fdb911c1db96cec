-- Writing as the code goes through it: what a pass has put, and what is left.
-- Assumes nothing.
use Rattle.std.specs.Prelude.{◌≡◌, Bool, true, false, List, [], ℕ, ◌+◌, ◌*◌, ◌<◌, drop, Err, Ok, Some, None}
use Rattle.wire.specs.declared.Layout.{Layout}
use Rattle.wire.specs.Shape.{Kind}
use Rattle.wire.specs.Table.{kind_of, shape_of}
use Rattle.wire.specs.Writing.{Left, Wrote, wrote, misfit, wrote_after, write_nothing, write_item, writing, write}
use Rattle.wire.specs.Answers.{words_per, entries_of, room_of}
use Rattle.laws.specs.KindRanges.{IsLeaf}
use Rattle.table.specs.declared.Stretch.{Stretch}
use Rattle.table.specs.Parts.{Falls, under, row_step, rounds_step}
use Rattle.output.specs.Bytes.{Puts}
use Rattle.write_list.specs.Put.{Put}
use Rattle.write_list.specs.Put.{Done, Misfit}
use Rattle.write_list.specs.Entered.{Entered}
use Rattle.write_list.specs.declared.Ahead.{Ahead}
use Rattle.write_list.specs.Begun.{Begun}
use Rattle.write_list.specs.Begun as begun

-- a value list's entries from the i-th on
unfoldable pub entries : List ℕ → ℕ → Left
entries ws i = record { at = i; entries = entries_of (drop (words_per * i) ws) }

-- a leaf, which nothing follows
unfoldable pub write_leaf : Kind → (pool : List ℕ) → Left → Wrote
write_leaf k pool = write_item pool k 0 (λ a. write_nothing)

-- a list that was judged has no misfit
pub record Sure (judged : Bool) (w : Wrote) : Type 0 where
  pub never : judged ≡ true → (i : ℕ) → w ≡ misfit i → ⊥

-- bytes were put behind the first u, there are n now, and `rest` is what is left of the writing w
pub record Going (w rest : Wrote) (u : ℕ) (before : List ℕ) (n : ℕ) (out : List ℕ) : Type 0 where
  pub bytes : List ℕ
  pub is : w ≡ wrote_after bytes rest
  pub puts : Puts bytes u before n out

-- the whole writing was put, and the entries from `at` on are left; or there is a misfit
abbrev pub GivesBy : Wrote → List ℕ → ℕ → List ℕ → Put → List ℕ → Type 0
GivesBy w ws u before (Ok r) out = Going w (wrote [] (entries ws r.at)) u before r.used out
GivesBy w ws u before (Err r) out = w ≡ misfit r.at

pub record Gives (w : Wrote) (ws : List ℕ) (u : ℕ) (before : List ℕ) (r : Put) (out : List ℕ) : Type 0 where
  pub holds : GivesBy w ws u before r out

-- where there is a misfit, nothing was put
pub record Keeps (before : List ℕ) (r : Put) (out : List ℕ) : Type 0 where
  pub same : {i : ℕ} → r ≡ Misfit i → out ≡ before

-- The entry `at`, of the node i, was entered: its own bytes were put, the nodes that follow fall, and they are what is left.
pub record Goes (w : Wrote) (s : List ℕ) (l : Layout) (pool : List ℕ) (i : ℕ) (ws : List ℕ) (at u : ℕ) (before : List ℕ) (to : Stretch) (n : ℕ) (out : List ℕ) : Type 0 where
  pub more : at < room_of ws
  pub falls : Falls s to.from to.width i
  pub going : Going w (rounds_step (writing pool) s l to.rounds false to.from to.width (entries ws (at + 1))) u before n out

abbrev pub EntersBy : Wrote → List ℕ → Layout → (pool : List ℕ) → (i : ℕ) → (ws : List ℕ) → (at u : ℕ) → (before : List ℕ) → Entered → List ℕ → Type 0
EntersBy w s l pool i ws at u before (Some r) out = Goes w s l pool i ws at u before r.to r.used out
EntersBy w s l pool i ws at u before None out = w ≡ misfit at

pub record Enters (w : Wrote) (s : List ℕ) (l : Layout) (pool : List ℕ) (i : ℕ) (ws : List ℕ) (at u : ℕ) (before : List ℕ) (r : Entered) (out : List ℕ) : Type 0 where
  pub holds : EntersBy w s l pool i ws at u before r out

-- a round begins behind the entry that heads it, or that entry is a misfit
abbrev pub BeginsBy : Bool → List ℕ → ℕ → Begun → (pool : List ℕ) → (n : ℕ) → (Left → Wrote) → Type 0
BeginsBy h ws at (begun.At b) pool n f = under (writing pool) h n f (entries ws at) ≡ f (entries ws b)
BeginsBy h ws at begun.Misfit pool n f = under (writing pool) h n f (entries ws at) ≡ misfit at

pub record Begins (h : Bool) (ws : List ℕ) (at : ℕ) (r : Begun) : Type 0 where
  pub holds : (pool : List ℕ) (n : ℕ) (f : Left → Wrote) → BeginsBy h ws at r pool n f

-- with any pool, a row was put up to the numbers that are left, which fall
pub record Leads (s : List ℕ) (l : Layout) (from n : ℕ) (ws : List ℕ) (at : ℕ) (before : List ℕ) (r : Ahead) (out : List ℕ) : Type 0 where
  pub falls : Falls s r.child r.left l.nodes
  pub going : (pool : List ℕ) → Going (row_step (writing pool) s l from n (entries ws at)) (row_step (writing pool) s l r.child r.left (entries ws r.at)) 0 before r.used out

-- the entry `at` is that of a leaf with the kind's number k, and was put; or nothing was
pub record LeafPut (k : ℕ) (ws : List ℕ) (at : ℕ) (pool : List ℕ) (u : ℕ) (before : List ℕ) (r : Put) (out : List ℕ) : Type 0 where
  pub leaf : IsLeaf k
  pub more : at < room_of ws
  pub gives : Gives (write_leaf (kind_of k) pool (entries ws at)) ws u before r out

pub record Leaf (k : ℕ) (ws : List ℕ) (at : ℕ) (pool : List ℕ) (u : ℕ) (before : List ℕ) (r : Put) (out : List ℕ) : Type 0 where
  pub put : {j n : ℕ} → r ≡ Done j n → LeafPut k ws at pool u before r out
  pub kept : Keeps before r out

-- of the writing w, bytes were put behind the first u, up to a row that is left, whose numbers fall
pub record Reaches (pool s : List ℕ) (l : Layout) (w : Wrote) (ws : List ℕ) (u : ℕ) (before : List ℕ) (r : Ahead) (out : List ℕ) : Type 0 where
  pub falls : Falls s r.child r.left l.nodes
  pub going : Going w (row_step (writing pool) s l r.child r.left (entries ws r.at)) u before r.used out

-- of any list the whole is left
pub record Nothing (s : List ℕ) (l : Layout) (r : Ahead) : Type 0 where
  pub all : (pool ws out : List ℕ) → Reaches pool s l (write (shape_of s l) pool (entries ws 0)) ws 0 out r out
