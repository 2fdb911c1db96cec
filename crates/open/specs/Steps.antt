-- What a step of the reading leaves of it: the leaves in front of a row, and a turn of the open items.
-- Letters: h a head, s a table, l its layout, bs bytes at the place p, m entries made, st the store, fs open items, o a list, g what is
-- read after a row, w the whole reading.
-- Assumes nothing.
use Rattle.std.specs.Prelude.{◌≡◌, List, ℕ, suc, ◌+◌, ◌-◌, ◌*◌, ◌<◌, ◌≤◌, length, drop}
use Rattle.wire.specs.declared.Refusal.{Refusal}
use Rattle.wire.specs.declared.Refusal.TheVariants.{Room}
use Rattle.wire.specs.declared.Layout.{Layout}
use Rattle.wire.specs.ReadAnswer.{Refused as NotRead}
use Rattle.wire.specs.Table.{u16_at, node_at, record_of}
use Rattle.wire.specs.Reading.{Head, Spot, Run, read_then, reading}
use Rattle.laws.specs.KindRanges.{IsInner}
use Rattle.table.specs.Parts.{node_step, row_step}
use Rattle.read_item.specs.Lay.{Left, lay}
use Rattle.read_item.specs.Steps.{spot}
use Rattle.reader.specs.Begun.{At, Full}
use Rattle.reader.specs.Steps.{Gives, Begins}
use Rattle.open.specs.declared.Held.{Held}
use Rattle.open.specs.Step.{Step}
use Rattle.open.specs.Step.{On, Refused}
use Rattle.open.specs.Items.{holding, helds_of, leaving, pending, Chain, load}

-- ---- the leaves in front of a row

-- the first of the last so many of n numbers from an offset on
abbrev pub last_from : (from n left : ℕ) → ℕ
last_from from n left = from + 2 * (n - left)

-- a row of n numbers was read up to the last so many of them
pub record Passes (h : Head) (room : ℕ) (s : List ℕ) (l : Layout) (from n : ℕ) (bs : List ℕ) (p m : ℕ) (st : List ℕ) (left q k : ℕ) (st' : List ℕ) : Type 0 where
  pub fewer : left ≤ n
  pub up : p ≤ q
  pub inside : q - p ≤ length bs
  pub more : m ≤ k
  pub whole : (g : Spot → Run) → lay room (read_then (row_step (reading h) s l from n) g (spot bs p)) m st
      ≡ lay room (read_then (row_step (reading h) s l (last_from from n left) left) g (spot (drop (q - p) bs) q)) k st'

-- the first of the last so many numbers, if there is one, is of an item with children that has room
pub record Inward (room : ℕ) (s : List ℕ) (l : Layout) (from n left k : ℕ) : Type 0 where
  pub next : 0 < left → (k < room) × IsInner (node_at s (record_of l (u16_at s (last_from from n left)))).number

-- what the leaves in front of a row leave, whatever is read after the row
pub data Leads (h : Head) (room : ℕ) (s : List ℕ) (l : Layout) (from n : ℕ) (bs : List ℕ) (p m : ℕ) (st : List ℕ) : Step → List ℕ → Type 0 where
  passes : {left q k : ℕ} {st' : List ℕ} → Passes h room s l from n bs p m st left q k st' → Inward room s l from n left k → Leads h room s l from n bs p m st (On left q k) st'
  stops : {why : Refusal} {q k : ℕ} {st' : List ℕ} → ((g : Spot → Run) → Gives (lay room (read_then (row_step (reading h) s l from n) g (spot bs p)) m st) (NotRead why q k) st')
      → Leads h room s l from n bs p m st (Refused why q k) st'

-- ---- a round

-- the next round of the open item f in the list o at i, at the place p: it begins behind k entries, or has no room for its own
pub data Rounds (room : ℕ) (f : Held) (i p m : ℕ) (st o : List ℕ) : Step → List ℕ → List ℕ → Type 0 where
  begins : {k : ℕ} {st' : List ℕ} → Begins room p f.headed st m (At k) st' → Rounds room f i p m st o (On (i + 1) p k) st' (holding o i (leaving f f.width (f.rounds - 1)))
  full : {st' o' : List ℕ} → Begins room p f.headed st m Full st' → Rounds room f i p m st o (Refused Room p m) st' o'

-- ---- a turn of the open items

-- the whole is what the first e items of the list o leave at the place q, behind k entries, and that is less than `most`
pub record Goes (h : Head) (room : ℕ) (s : List ℕ) (l : Layout) (w : Left) (most : ℕ) (bs : List ℕ) (p e q k : ℕ) (st o : List ℕ) : Type 0 where
  pub up : p ≤ q
  pub inside : q - p ≤ length bs
  pub whole : w ≡ lay room (pending h s l (helds_of o e) (spot (drop (q - p) bs) q)) k st
  pub chain : Chain s l 1 (helds_of o e)
  pub less : load room k (helds_of o e) < most

-- what a turn leaves of a reading from the place p on
pub data Turns (h : Head) (room : ℕ) (s : List ℕ) (l : Layout) (w : Left) (most : ℕ) (bs : List ℕ) (p : ℕ) : Step → List ℕ → List ℕ → Type 0 where
  goes : {e q k : ℕ} {st o : List ℕ} → Goes h room s l w most bs p e q k st o → Turns h room s l w most bs p (On e q k) st o
  refuses : {why : Refusal} {q k : ℕ} {st o : List ℕ} → Gives w (NotRead why q k) st → Turns h room s l w most bs p (Refused why q k) st o

-- a turn of open items, which leaves less of them
abbrev pub Works : (h : Head) (room : ℕ) (s : List ℕ) (l : Layout) (fs : List Held) (bs : List ℕ) (p m : ℕ) (st : List ℕ) → Step → List ℕ → List ℕ → Type 0
Works h room s l fs bs p m st = Turns h room s l (lay room (pending h s l fs (spot bs p)) m st) (load room m fs) bs p

-- an item of the node i in front of open items, which leaves no more than they did without it
abbrev pub Opens : (h : Head) (room : ℕ) (s : List ℕ) (l : Layout) (i : ℕ) (fs : List Held) (bs : List ℕ) (p m : ℕ) (st : List ℕ) → Step → List ℕ → List ℕ → Type 0
Opens h room s l i fs bs p m st = Turns h room s l (lay room (read_then (node_step (reading h) s l i) (pending h s l fs) (spot bs p)) m st) (suc (load room m fs)) bs p
