-- One item by its path (T-02): to which items a path leads, and the answer, said by what the full read made.
-- Letters: t a shape, k its kind, i a child's position, e an entry, p a place, a and b an entry's words, x a spot, r a run, l a layout.
-- Assumes nothing.
use Rattle.std.specs.Prelude.{Bool, true, false, List, [], ◌∷◌, ℕ, zero, suc, ltb, Err, Ok}
use Rattle.std.proofs.Math.Option.{Option, none, some}
use Rattle.wire.specs.Checked.{Checked}
use Rattle.wire.specs.Checked.{Good, Bad}
use Rattle.desk.specs.FindAnswer.{FindAnswer}
use Rattle.desk.specs.FindAnswer.{Found, NoItem, Absent, Refused}
use Rattle.wire.specs.Tests.{pick, given}
use Rattle.wire.specs.Shape.{unit, Kind, plain, pooled, option, sequence, map, struct, enum, same_kind, Shape, node, Shapes}
use Rattle.wire.specs.Shape as shapes
use Rattle.wire.specs.Table.{check, shape_of}
use Rattle.wire.specs.Values.{Entry, Told, kept, lacks, short, tell}
use Rattle.wire.specs.Reading.{front, Outcome, reached, refused, Run, read, fit}
use Rattle.wire.specs.Answers.{Numbered, numbered, done}

-- ---- where a path leads, by the table alone

-- a kind of 0 to 13 or 20 to 31
unfoldable pub is_field : Kind → Bool
is_field (plain leaf) = pick (same_kind (plain leaf) (plain unit)) false true
is_field (pooled content) = true
is_field option = false
is_field sequence = false
is_field map = false
is_field struct = false
is_field enum = false

-- a path goes through structs and options, whose one child is at 0
unfoldable pub is_passed : Kind → Bool
is_passed k = pick (same_kind k struct) true (same_kind k option)

-- the kind of the item at the path's end
unfoldable mutual
  pub leads : Shape → (path : List ℕ) → Option Kind
  leads (node k ts) [] = pick (is_field k) (some k) none
  leads (node k ts) (i ∷ path) = given (is_passed k) (λ _. leads_at ts i path) none

  pub leads_at : Shapes → ℕ → (path : List ℕ) → Option Kind
  leads_at shapes.none i path = none
  leads_at (shapes.more t ts) zero path = leads t path
  leads_at (shapes.more t ts) (suc i) path = leads_at ts i path

-- ---- the answer, through what the full read made

-- every message is read as with a store of so many entries
abbrev pub most_entries : ℕ
most_entries = 16384

-- an item on the path whose first word is a has an inside, unless it is an option read as absent
unfoldable pub is_there : Kind → (a : ℕ) → Bool
is_there k a = pick (same_kind k option) (ltb 0 a) true

-- the path's item among the entries of a reading: its entry, or the place of the first option on the path that is absent;
-- or the entries end in front of it
pub data Located : Type 0 where
  at : Entry → Located
  absent : (place : ℕ) → Located
  unmade : Located

-- behind an item's entries
unfoldable pub locate_on : Told → (List Entry → Located) → Located
locate_on (kept ts rest) g = g rest
locate_on (lacks ts e rest) g = unmade
locate_on (short ts) g = unmade

-- an item's own entry, and what of its children the path wants
unfoldable pub locate_item : Kind → (path : List ℕ) → List Entry → (ℕ → List ℕ → List Entry → Located) → Located
locate_item k path [] next = unmade
locate_item k [] (e ∷ es) next = at e
locate_item k (i ∷ path) (e ∷ es) next = given (is_there k e.first) (λ _. next i path es) (absent e.place)

unfoldable mutual
  pub locate : Shape → (path : List ℕ) → List Entry → Located
  locate (node k ts) path es = locate_item k path es (λ i rest fs. locate_at ts i rest fs)

  -- the fields in front are told off
  pub locate_at : Shapes → ℕ → (path : List ℕ) → List Entry → Located
  locate_at shapes.none i path es = unmade
  locate_at (shapes.more t ts) zero path es = locate t path es
  locate_at (shapes.more t ts) (suc i) path es = locate_on (tell t es) (λ rest. locate_at ts i path rest)

-- what was located is the answer, also where the reading was refused later; where it was refused before the item or at it, that refusal
unfoldable pub find_answer : Located → Outcome → FindAnswer
find_answer (at e) end = Found e.first e.second e.place
find_answer (absent p) end = Absent p
find_answer unmade (refused why p) = Refused why p
find_answer unmade (reached x) = NoItem

unfoldable pub find_in : Shape → (path : List ℕ) → Run → FindAnswer
find_in t path r = find_answer (locate t path r.made) r.ends

-- 13 if the path leads to no such item, before the message is looked at
unfoldable pub find_of : Option Kind → Shape → (path message : List ℕ) → FindAnswer
find_of none t path message = NoItem
find_of (some k) t path message = find_in t path (fit most_entries (read t (front message)))

-- 1 and 2 come first
unfoldable pub find_by : Checked → (table path message : List ℕ) → FindAnswer
find_by (Good l) table path message = find_of (leads (shape_of table l) path) (shape_of table l) path message
find_by (Err r) table path message = Refused r.why r.place

unfoldable pub finds : (table path message : List ℕ) → FindAnswer
finds table path message = find_by (check table) table path message

-- ---- the answer in numbers

-- the number and the place: that of the item, or the refusal's
unfoldable pub find_says : FindAnswer → Numbered
find_says (Ok r) = done r.place
find_says NoItem = record { number = 13; place = 0 }
find_says (Absent p) = record { number = 14; place = p }
find_says (Refused why p) = numbered why p

-- the entry's words, 0 on a refusal
unfoldable pub first_of : FindAnswer → ℕ
first_of (Ok r) = r.first
first_of NoItem = 0
first_of (Absent p) = 0
first_of (Refused why p) = 0

unfoldable pub second_of : FindAnswer → ℕ
second_of (Ok r) = r.second
second_of NoItem = 0
second_of (Absent p) = 0
second_of (Refused why p) = 0
