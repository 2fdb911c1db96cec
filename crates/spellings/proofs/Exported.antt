-- A message that is read to its end has values that its columns may have.
-- Assumes nothing.
use mathlib.Core.Path.{◌≡◌, refl, sym}
use mathlib.Core.Path as paths
use mathlib.Core.Bool.{true}
use mathlib.Core.List.{List, [], ◌∷◌, ◌++◌, append-nil}
use mathlib.Core.List as lists
use mathlib.Core.Option.{some, some-injective}
use Prim.Native.Nat.{ℕ, ◌+◌}
use lib.ListN.{drop}
use lib.Seq.{drop-drop}
use Rattle.wire.specs.declared.Refusal.{Refusal}
use Rattle.wire.specs.Item.{Item}
use Rattle.wire.specs.Item.{Took, Refused}
use Rattle.wire.specs.Tests.{pick}
use Rattle.wire.specs.Shape.{Kind, struct, Shape, node, Shapes, none as no_shape, more, count}
use Rattle.wire.specs.Walk.{following, all, times, along, walk, walks}
use Rattle.wire.specs.Values.{Entry, Tag, kept, told_after, tell_nothing, tell_on, tell_then, telling, Value, number, value_of, is_pooled, whole, valued, values}
use Rattle.wire.specs.Reading.{Spot, front, Run, reached, refused, head, run_after, read_nothing, read_on, read_then, past, enter, read_item, reading, read}
use Rattle.laws.specs.Range.{AreBytes}
use Rattle.laws.proofs.Splits.{both_yes}
use Rattle.desk.specs.Csv.{Style, style_of, may, may_all, Column, kind_of_root, columns, columns_of, styles_of}
use Rattle.spellings.proofs.Tables.{column-more, Rooted, rooted}
use Rattle.spellings.proofs.Written.{Short, alone}
use Rattle.spellings.proofs.Taken.{OfTook, Says, kind-taken}
use Rattle.spellings.proofs.Messages.{AllShort, tell-field, struct-reads, struct_tells}

-- the spot at a place of a message
abbrev spot : List ℕ → ℕ → Spot
spot message p = record { bytes = drop p message; place = p }

-- ---- one field

data Field (message : List ℕ) (k : Kind) (f : Style) (us : Shapes) : Run → Type 0 where
  field : (e : Entry) (q : ℕ) → may f (value_of message (record { kind = k; entry = e })) ≡ true → Short (value_of message (record { kind = k; entry = e }))
      → ((es : List Entry) → walk telling (node k us) (e ∷ es) ≡ kept (record { kind = k; entry = e } ∷ []) es)
      → Field message k f us (record { made = e ∷ []; ends = reached (spot message q) })
  no_field : {r : Refusal} {q : ℕ} → Field message k f us (record { made = []; ends = refused r q })

one_field_lem : (message : List ℕ) (k : Kind) (f : Style) (us : Shapes) (p : ℕ) → style_of k ≡ some f → AreBytes message → Field message k f us (walk (reading head) (node k us) (spot message p))
unfolding walk read_item enter along times run_after read_nothing past
one_field_lem message k f us p e ok = go (head k (count us) p (drop p message)) (kind-taken message k f p (count us) e ok)
  where
    go : (i : Item) → OfTook (Says message k f p) i → Field message k f us (enter i (λ a. along (reading head) (following k a) (walks (reading head) us)) (spot message p))
    go (Refused r) h = no_field
    go (Took own) h = rw (alone k f e own.first, drop-drop own.used p message) (field _ (p + own.used) h.0 h.1 (tell-field k f e us _))

-- ---- all fields

data Fields (message : List ℕ) (ts : Shapes) (cs : List Column) : Run → Type 0 where
  fields : (made : List Entry) (q : ℕ) (tags : List Tag) → ((es : List Entry) → all telling (walks telling ts) (made ++ es) ≡ kept tags es)
      → may_all (styles_of cs) (lists.map (value_of message) tags) ≡ true → AllShort (lists.map (value_of message) tags)
      → Fields message ts cs (record { made = made; ends = reached (spot message q) })
  no_fields : {made : List Entry} {r : Refusal} {q : ℕ} → Fields message ts cs (record { made = made; ends = refused r q })

module _ (message : List ℕ) (ok : AreBytes message) where
  abbrev All : Shapes → List Column → Type 0
  All ts cs = (p : ℕ) → Fields message ts cs (all (reading head) (walks (reading head) ts) (spot message p))

  none_read : All no_shape []
  unfolding all walks read_nothing tell_nothing styles_of may_all
  none_read p = fields [] p [] (λ es. refl) refl tt

  more-read : (k : Kind) (f : Style) (us ts : Shapes) (cs : List Column) → style_of k ≡ some f → All ts cs → All (more (node k us) ts) (record { kind = k; style = f } ∷ cs)
  unfolding all walks read_then read_on run_after tell_then tell_on told_after styles_of may_all
  more-read k f us ts cs e others p = go (walk (reading head) (node k us) (spot message p)) (one_field_lem message k f us p e ok)
    where
      behind-one : (d : Entry) (r : Run) → may f (value_of message (record { kind = k; entry = d })) ≡ true → Short (value_of message (record { kind = k; entry = d }))
          → ((es : List Entry) → walk telling (node k us) (d ∷ es) ≡ kept (record { kind = k; entry = d } ∷ []) es) → Fields message ts cs r
          → Fields message (more (node k us) ts) (record { kind = k; style = f } ∷ cs) (run_after (d ∷ []) r)
      behind-one d r m s t (fields made q tags tells mays shorts) =
          fields (d ∷ made) q (record { kind = k; entry = d } ∷ tags) (λ es. rw (t (made ++ es), tells es)) (both_yes _ _ m mays) (s, shorts)
      behind-one d r m s t no_fields = no_fields

      go : (r : Run) → Field message k f us r
          → Fields message (more (node k us) ts) (record { kind = k; style = f } ∷ cs) (read_on r.made r.ends (λ y. all (reading head) (walks (reading head) ts) y))
      go r (field d q m s t) = behind-one d (all (reading head) (walks (reading head) ts) (spot message q)) m s t (others q)
      go r no_field = no_fields

  all_read : (ts : Shapes) (cs : List Column) → columns ts ≡ some cs → All ts cs
  unfolding columns kind_of_root
  all_read no_shape cs e = paths.subst (λ cs. All no_shape cs) (some-injective _ cs e) none_read
  all_read (more (node k us) ts) cs e =
      let m = column-more k (style_of k) (columns ts) cs e in
      paths.subst (λ cs. All (more (node k us) ts) cs) (sym m.all) (more-read k m.style us ts m.rest m.is (all_read ts m.rest m.others))

  -- ---- a message

  -- the values of a run that reaches its end
  pub data Valid (t : Shape) (cs : List Column) : Run → Type 0 where
    valid : {r : Run} (vs : List Value) → values t message r.made ≡ whole (number 0 0 ∷ vs) → may_all (styles_of cs) vs ≡ true → AllShort vs → Valid t cs r
    stopped : {made : List Entry} {e : Refusal} {q : ℕ} → Valid t cs (record { made = made; ends = refused e q })

  struct-values : (ts : Shapes) (p : ℕ) (made : List Entry) (tags : List Tag) → ((es : List Entry) → all telling (walks telling ts) (made ++ es) ≡ kept tags es)
      → values (node struct ts) message (record { first = 0; second = 0; place = p } ∷ made) ≡ whole (number 0 0 ∷ lists.map (value_of message) tags)
  unfolding values valued told_after value_of is_pooled pick
  struct-values ts p made tags tells =
      let told : all telling (walks telling ts) made ≡ kept tags [] = rw append-nil at (tells []) in
      rw (struct_tells, told)

  pub message-valid : (t : Shape) (cs : List Column) → columns_of t ≡ some cs → Valid t cs (read t (front message))
  unfolding run_after
  message-valid t cs e = rw (r.is, struct-reads) (go _ (all_read r.fields cs r.columned 0))
    where
      r : Rooted t cs
      r = rooted t cs e

      go : (x : Run) → Fields message r.fields cs x → Valid (node struct r.fields) cs (run_after (record { first = 0; second = 0; place = 0 } ∷ []) x)
      go x (fields made q tags tells mays shorts) = valid (lists.map (value_of message) tags) (struct-values r.fields 0 made tags tells) mays shorts
      go x no_fields = stopped
