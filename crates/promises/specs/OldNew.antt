-- Demand 3: what the append question's yes is, how its work area is handed back, and what a yes promises of the messages that a new table reads.
-- Assumes nothing.
use Rattle.std.specs.Prelude.{◌≡◌, true, List, ◌∷◌, ◌++◌, ◌↔◌, ℕ, ◌<◌, ◌≤◌, length, get_or, drop}
use Rattle.wire.specs.declared.Refusal.TheVariants.{Variant}
use Rattle.wire.specs.declared.Layout.{Layout}
use Rattle.wire.specs.Checked.{Good}
use Rattle.wire.specs.AskAnswer.{Says, ShortArea}
use Rattle.wire.specs.Shape.{Shape}
use Rattle.wire.specs.Table.{check, shape_of}
use Rattle.wire.specs.Values.{Entry, Tag, kept, lacks, tell, Value, whole, too_short, values}
use Rattle.wire.specs.Reading.{Spot, reached, refused, Run}
use Rattle.wire.specs.Append.{Appends}
use Rattle.wire.specs.Answers.{reads, area_bytes, asks, area_after}
use Rattle.laws.specs.Bounds.{start}
use Rattle.laws.specs.Told.{entries}

-- Both tables are good, and the new one appends to the old one.
pub record AppendsTo (old new : List ℕ) : Type 0 where
  pub old_layout : Layout
  pub new_layout : Layout
  pub good_old : check old ≡ Good old_layout
  pub good_new : check new ≡ Good new_layout
  pub appends : Appends (shape_of old old_layout) (shape_of new new_layout)

-- The answer is yes exactly if so, for every work area that is long enough, whatever it held.
abbrev pub YesExactly : Type 0
YesExactly = (old new area : List ℕ) → area_bytes ≤ length area → (asks old new area ≡ Says true) ↔ AppendsTo old new

-- A shorter area is refused, whatever the tables are, and is unchanged.
abbrev pub ShortAreas : Type 0
ShortAreas = (old new area : List ℕ) → length area < area_bytes → (asks old new area ≡ ShortArea) × (area_after area ≡ area)

-- A work area of so many bytes that are all zero, with every later byte as before.
pub record Handed (area left : List ℕ) : Type 0 where
  pub zeros : (i : ℕ) → i < area_bytes → get_or left i 0 ≡ 0
  pub behind : drop area_bytes left ≡ drop area_bytes area
  pub as_long : length left ≡ length area

-- Any other area is handed back so.
abbrev pub HandedBack : Type 0
HandedBack = (area : List ℕ) → area_bytes ≤ length area → Handed area (area_after area)

-- What an old table with the shape t makes of a message of which the new table made the entries es, with the values vs, up to the place end.
pub data OldMakes (t : Shape) (message : List ℕ) (end : ℕ) (es : List Entry) (vs : List Value) : Run → Type 0 where
  -- If every kept enum item has a variant that t knows: the same entries and values without the appended ones, and all bytes behind those values.
  same : (ts : List Tag) (appended : List Entry) (us more : List Value) → tell t es ≡ kept ts appended
      → es ≡ entries ts ++ appended → values t message (entries ts) ≡ whole us → vs ≡ us ++ more
      → OldMakes t message end es vs
      (record { made = entries ts; ends = reached (record { bytes = drop (start appended end) message; place = start appended end }) })
  -- If not: the same up to the first item that has another, which is refused as unknown variant, at its place.
  unknown : (ts : List Tag) (e : Entry) (behind : List Entry) (us more : List Value) → tell t es ≡ lacks ts e behind
      → es ≡ entries ts ++ e ∷ behind → values t message (entries ts) ≡ too_short us → vs ≡ us ++ more
      → OldMakes t message end es vs (record { made = entries ts; ends = refused Variant e.place })

-- For such a pair, any message read fully under the new table gives under the old one the same values without the appended fields,
-- the rest being all bytes behind those values; or, exactly if a kept enum item has a variant that the old table lacks,
-- it is refused as unknown variant at the first such item. Never a different value.
abbrev pub OldReads : (reads : (table message store : List ℕ) → Run) → Type 0
OldReads reads = (old new area : List ℕ) → asks old new area ≡ Says true → (message store : List ℕ) (es : List Entry) (end : Spot)
    → reads new message store ≡ record { made = es; ends = reached end }
    → (l m : Layout) × (check old ≡ Good l) × (check new ≡ Good m) × (vs : List Value) × (values (shape_of new m) message es ≡ whole vs)
    × OldMakes (shape_of old l) message end.place es vs (reads old message store)

-- So it is with the reader's call.
abbrev pub OldTableReads : Type 0
OldTableReads = OldReads reads
