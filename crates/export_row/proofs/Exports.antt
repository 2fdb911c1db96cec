-- The row that is told of a message field by field is the one that is exported.
-- Assumes nothing.
use mathlib.Core.Path.{◌≡◌, refl, sym, ap, ◌∙◌}
use mathlib.Core.Path as paths
use mathlib.Core.Bool.{Bool, true, false}
use mathlib.Core.List.{List, [], ◌∷◌, ◌++◌, append-nil}
use mathlib.Core.List as lists
use mathlib.Core.Option.{none, some, some-injective, none-ne-some}
use Prim.Native.Nat.{ℕ, ◌+◌, ◌≤◌}
use native.Mathlib.Omega.{arith}
use lib.ListN.{length, drop}
use lib.Seq.{drop-drop}
use Rattle.wire.specs.declared.Refusal.{Refusal}
use Rattle.wire.specs.declared.Own.{Own}
use Rattle.wire.specs.Item.{Item}
use Rattle.wire.specs.Item.{Took, Refused as NotTaken}
use Rattle.wire.specs.declared.Layout.{Layout}
use Rattle.wire.specs.Tests.{pick}
use Rattle.wire.specs.Shape.{Kind, plain, pooled, option, sequence, map, struct, enum, node, Shapes, count}
use Rattle.wire.specs.Shape as shapes
use Rattle.wire.specs.Table.{shape_of}
use Rattle.wire.specs.Walk.{following, all, times, along, walk, walks}
use Rattle.wire.specs.Values.{Entry, Tag, kept, told_after, tell_nothing, tell_on, tell_then, telling, Value, number, value_of, is_pooled, whole, valued, values}
use Rattle.wire.specs.Reading.{Spot, Run, reached, refused, head, run_after, read_nothing, read_on, read_then, past, enter, read_item, reading, fit}
use Rattle.laws.specs.Tables.{node_shape}
use Rattle.laws.proofs.Runs.{within-reached, within-refused}
use Rattle.laws.proofs.Children.{count-children}
use Rattle.desk.specs.Csv.{comma, Style, style_of, spelled, later, row, Column, kind_of_root, columns, columns_of, most_fields, styles_of, field_values, export_run, export_read, export_of}
use Rattle.desk.specs.Path.{most_entries}
use Rattle.spellings.proofs.Tables.{column-more}
use Rattle.spellings.proofs.Written.{alone}
use Rattle.spellings.proofs.Messages.{tell-field, struct-reads, struct_tells}
use Rattle.columns.specs.Columns.{field_shapes, Rowed}
use Rattle.columns.proofs.Rows.{columned, struct-columns}
use Rattle.put_field.specs.Fields.{spelled_if, field_of}
use Rattle.put_row.specs.Rows.{Told, spells, stops, after, separator, field_then, fields_from}
use Rattle.export_row.specs.Outputs.{told_output}

-- the spot at a place of a message
abbrev spot : List ℕ → ℕ → Spot
spot message p = record { bytes = drop p message; place = p }

-- the fields that are left, with a comma in front of the first of them or not
unfoldable row_from : (first : Bool) → List Style → List Value → List ℕ
row_from true fs vs = row fs vs
row_from false fs vs = later fs vs

-- ---- one field

head-alone : (k : Kind) (f : Style) → style_of k ≡ some f → (n p : ℕ) (s : List ℕ) → head k n p s ≡ head k 0 p s
unfolding style_of head
head-alone (plain l) f e n p s = refl
head-alone (pooled c) f e n p s = refl
head-alone option f e n p s = absurd (none-ne-some f e)
head-alone sequence f e n p s = absurd (none-ne-some f e)
head-alone map f e n p s = absurd (none-ne-some f e)
head-alone struct f e n p s = absurd (none-ne-some f e)
head-alone enum f e n p s = absurd (none-ne-some f e)

abbrev run_of : List ℕ → ℕ → Item → Run
run_of message p (Took own) = record { made = record { first = own.first; second = own.second; place = p } ∷ []; ends = reached (spot message (p + own.used)) }
run_of message p (NotTaken e) = record { made = []; ends = refused e p }

one-run : (message : List ℕ) (k : Kind) (f : Style) (us : Shapes) (p : ℕ) → style_of k ≡ some f → (i : Item) → head k 0 p (drop p message) ≡ i
    → walk (reading head) (node k us) (spot message p) ≡ run_of message p i
unfolding walk read_item
one-run message k f us p e i h = rw (head-alone k f e (count us) p (drop p message), h) (go i)
  where
    go : (i : Item) → enter i (λ a. along (reading head) (following k a) (walks (reading head) us)) (spot message p) ≡ run_of message p i
    go (Took own) = unfold enter along times run_after read_nothing past in rw (alone k f e own.first, drop-drop own.used p message)
    go (NotTaken r) = unfold enter in refl

field-spelled : (message : List ℕ) (k : Kind) (f : Style) → style_of k ≡ some f → (a b p : ℕ) → field_of k message a b ≡ spelled f (value_of message (record { kind = k; entry = record { first = a; second = b; place = p } }))
unfolding field_of spelled_if value_of
field-spelled message k f e a b p = rw e

-- ---- all fields

-- a run and what is told agree: the values' row, or the same refusal
data Agrees (message : List ℕ) (ts : Shapes) (cs : List Column) (first : Bool) : Run → Told → Type 0 where
  whole_row : (made : List Entry) (q : ℕ) (tags : List Tag) → ((es : List Entry) → all telling (walks telling ts) (made ++ es) ≡ kept tags es) → length made ≡ count ts
      → Agrees message ts cs first (record { made = made; ends = reached (spot message q) }) (spells (row_from first (styles_of cs) (lists.map (value_of message) tags)) q)
  no-row : {made : List Entry} {e : Refusal} {q : ℕ} → length made ≤ count ts → Agrees message ts cs first (record { made = made; ends = refused e q }) (stops e q)

module _ (message : List ℕ) where
  abbrev All : Shapes → List Column → Type 0
  All ts cs = (first : Bool) (p : ℕ) → Agrees message ts cs first (all (reading head) (walks (reading head) ts) (spot message p)) (fields_from message first ts p)

  none-agrees : All shapes.none []
  unfolding all walks read_nothing tell_nothing styles_of row_from row later fields_from count
  none-agrees true p = whole_row [] p [] (λ es. refl) refl
  none-agrees false p = whole_row [] p [] (λ es. refl) refl

  -- a field, and the others behind it
  behind-one : (first : Bool) (k : Kind) (f : Style) (us ts : Shapes) (cs : List Column) (p : ℕ) (own : Own) → style_of k ≡ some f → (r : Run) (t : Told) → Agrees message ts cs false r t
      → Agrees message (shapes.more (node k us) ts) (record { kind = k; style = f } ∷ cs) first
      (run_after (record { first = own.first; second = own.second; place = p } ∷ []) r) (after (separator first ++ field_of k message own.first own.second) t)
  unfolding run_after after all walks tell_then tell_on told_after styles_of row_from row later separator count
  behind-one first k f us ts cs p own e r t (no-row {made = made} few) = no-row {made = record { first = own.first; second = own.second; place = p } ∷ made} (omega (arith, few))
  behind-one first k f us ts cs p own e r t (whole_row made q tags tells many) =
      let d : Entry = record { first = own.first; second = own.second; place = p } in
      let tag : Tag = record { kind = k; entry = d } in
      paths.subst
      (λ s. Agrees message (shapes.more (node k us) ts) (record { kind = k; style = f } ∷ cs) first (record { made = d ∷ made; ends = reached (spot message q) }) (spells s q))
      (spelling first)
      (whole_row (d ∷ made) q (tag ∷ tags) (λ es. rw (tell-field k f e us d (made ++ es), tells es)) (omega (arith, many)))
    where
      value : Value
      value = value_of message (record { kind = k; entry = record { first = own.first; second = own.second; place = p } })

      spelling : (first : Bool) → row_from first (f ∷ styles_of cs) (value ∷ lists.map (value_of message) tags)
          ≡ separator first ++ field_of k message own.first own.second ++ later (styles_of cs) (lists.map (value_of message) tags)
      spelling true = ap (λ s. s ++ later (styles_of cs) (lists.map (value_of message) tags)) (sym (field-spelled message k f e own.first own.second p))
      spelling false = ap (λ s. comma ∷ s ++ later (styles_of cs) (lists.map (value_of message) tags)) (sym (field-spelled message k f e own.first own.second p))

  more-agrees : (k : Kind) (f : Style) (us ts : Shapes) (cs : List Column) → style_of k ≡ some f → All ts cs → All (shapes.more (node k us) ts) (record { kind = k; style = f } ∷ cs)
  unfolding all walks read_then fields_from kind_of_root
  more-agrees k f us ts cs e others first p = go (head k 0 p (drop p message)) refl
    where
      go : (i : Item) → head k 0 p (drop p message) ≡ i
          → Agrees message (shapes.more (node k us) ts) (record { kind = k; style = f } ∷ cs) first
          (read_on (walk (reading head) (node k us) (spot message p)).made (walk (reading head) (node k us) (spot message p)).ends (λ y. all (reading head) (walks (reading head) ts) y))
          (field_then first message k p i (λ q. fields_from message false ts q))
      go (Took own) h = unfold read_on field_then in rw (one-run message k f us p e (Took own) h) (behind-one first k f us ts cs p own e _ _ (others false (p + own.used)))
      go (NotTaken r) h = unfold read_on field_then count in rw (one-run message k f us p e (NotTaken r) h) (no-row {made = []} (omega arith))

  all-agree : (ts : Shapes) (cs : List Column) → columns ts ≡ some cs → All ts cs
  unfolding columns kind_of_root
  all-agree shapes.none cs e = paths.subst (λ cs. All shapes.none cs) (some-injective _ cs e) none-agrees
  all-agree (shapes.more (node k us) ts) cs e =
      let m = column-more k (style_of k) (columns ts) cs e in
      paths.subst (λ cs. All (shapes.more (node k us) ts) cs) (sym m.all) (more-agrees k m.style us ts m.rest m.is (all-agree ts m.rest m.others))

  -- ---- a message

  struct-values : (ts : Shapes) (p : ℕ) (made : List Entry) (tags : List Tag) → ((es : List Entry) → all telling (walks telling ts) (made ++ es) ≡ kept tags es)
      → values (node struct ts) message (record { first = 0; second = 0; place = p } ∷ made) ≡ whole (number 0 0 ∷ lists.map (value_of message) tags)
  unfolding values valued told_after value_of is_pooled pick
  struct-values ts p made tags tells =
      let told : all telling (walks telling ts) made ≡ kept tags [] = rw append-nil at (tells []) in
      rw (struct_tells, told)

  agreed : (ts : Shapes) (cs : List Column) (room : ℕ) → count ts ≤ most_fields → (r : Run) (t : Told) → Agrees message ts cs true r t
      → export_read cs (node struct ts) message room (fit most_entries (run_after (record { first = 0; second = 0; place = 0 } ∷ []) r)) ≡ told_output room t
  unfolding export_read export_run field_values fit run_after told_output row_from
  agreed ts cs room few r t (whole_row made q tags tells many) =
      rw (within-reached most_entries (record { first = 0; second = 0; place = 0 } ∷ made) _ (omega (arith, many)), struct-values ts 0 made tags tells)
  agreed ts cs room few r t (no-row {made = made} {e = e} {q = q} n) = rw (within-refused most_entries (record { first = 0; second = 0; place = 0 } ∷ made) e q (omega (arith, n)))

  struct-exports : (ts : Shapes) (cs : List Column) (room : ℕ) → columns ts ≡ some cs → count ts ≤ most_fields
      → export_of (some cs) (node struct ts) message room ≡ told_output room (fields_from message true ts 0)
  unfolding export_of
  struct-exports ts cs room e few = rw struct-reads (agreed ts cs room few _ _ (all-agree ts cs e true 0))

  -- of a table that has rows
  pub rows-export : {s : List ℕ} {l : Layout} {from width : ℕ} (room : ℕ) → Rowed s l from width → width ≤ most_fields → shape_of s l ≡ node struct (field_shapes s l from width)
      → export_of (columns_of (shape_of s l)) (shape_of s l) message room ≡ told_output room (fields_from message true (field_shapes s l from width) 0)
  rows-export {s} {l} {from} {width} room r few e =
      let ts : Shapes = field_shapes s l from width in
      let n : count ts ≤ most_fields = rw (count-children (node_shape s l) s from width) few in
      let c = columned ts r.styled in
      ap (λ t. export_of (columns_of t) t message room) e
      ∙ ap (λ o. export_of o (node struct ts) message room) (struct-columns ts n ∙ c.are)
      ∙ struct-exports ts c.cs room c.are n
