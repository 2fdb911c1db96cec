-- The writer's bytes of a value list are the import's message of its values.
-- Assumes nothing.
use mathlib.Core.Path.{◌≡◌, refl, sym, ap, ◌∙◌}
use mathlib.Core.Path as paths
use mathlib.Core.Bool.{Bool, true, false}
use mathlib.Core.List.{List, [], ◌∷◌, append-nil}
use mathlib.Core.List as lists
use mathlib.Core.Option.{Option, none, some, some-injective, none-ne-some}
use Prim.Native.Nat.{ℕ, ◌+◌}
use native.Mathlib.Omega.{arith}
use lib.Dec.{leb, eqb}
use lib.ListN.{length}
use lib.Seq.{take-length}
use borrow.Author.Tests.{le-leb, eqb-true}
use Rattle.wire.specs.Tests.{pick, both}
use Rattle.wire.specs.Shape.{Kind, plain, pooled, option, sequence, map, struct, enum, Content, node, Shapes, none as no_shape, more, count}
use Rattle.wire.specs.Walk.{following, all, times, along, walk, walks}
use Rattle.wire.specs.Values.{Entry, Tag, kept, told_after, tell_nothing, tell_on, tell_then, telling, Value, number, content, part, value_of, is_pooled, whole, valued, values}
use Rattle.wire.specs.Reading.{is_content}
use Rattle.wire.specs.Writing.{single, with_count, head_bytes, Wrote, wrote, misfit, wrote_after, write_nothing, write_on, write_then, spell, write_entry, write_item, writing, write}
use Rattle.laws.proofs.Splits.{not-both, both_yes, both_right}
use Rattle.laws.proofs.Own.{when-yes, when-some, single-some}
use Rattle.laws.proofs.Heads.{tag}
use Rattle.desk.specs.Csv.{Style, style_of, Column, kind_of_root, columns, or_nothing, value_bytes, message_of}
use Rattle.spellings.specs.Promises.{WritesTheSame}
use Rattle.spellings.proofs.Tables.{column-more, rooted}
use Rattle.spellings.proofs.Written.{alone, any-count}
use Rattle.spellings.proofs.Messages.{tell-field, struct_tells}

-- ---- one value

pub content-bytes : (c : Content) (t : List ℕ) → is_content c t ≡ true → value_bytes (pooled c) (content t) ≡ with_count t
unfolding value_bytes or_nothing head_bytes part
content-bytes c t h =
    rw (take-length t, when-yes (both (leb (0 + length t) (length t)) (is_content c t)) (with_count t) (both_yes _ _ (le-leb (0 + length t) (length t) (omega arith)) h))

value-bytes : (k : Kind) (f : Style) (pool s : List ℕ) (a b p : ℕ) → style_of k ≡ some f → head_bytes k 0 pool a b ≡ some s → value_bytes k (value_of pool (tag k a b p)) ≡ s
unfolding style_of head_bytes value_bytes value_of is_pooled pick or_nothing
value-bytes (plain l) f pool s a b p e h = rw h
value-bytes (pooled c) f pool s a b p e h =
    let r = when-some (both (leb (a + b) (length pool)) (is_content c (part pool a b))) (with_count (part pool a b)) h in
    content-bytes c (part pool a b) (both_right (leb (a + b) (length pool)) _ r.0) ∙ r.1
value-bytes option f pool s a b p e h = absurd (none-ne-some f e)
value-bytes sequence f pool s a b p e h = absurd (none-ne-some f e)
value-bytes map f pool s a b p e h = absurd (none-ne-some f e)
value-bytes struct f pool s a b p e h = absurd (none-ne-some f e)
value-bytes enum f pool s a b p e h = absurd (none-ne-some f e)

-- ---- one field

data Field (pool : List ℕ) (k : Kind) (us : Shapes) (es : List Entry) : Wrote → Type 0 where
  field : (e : Entry) (i : ℕ) (left : List Entry) → walk telling (node k us) es ≡ kept (record { kind = k; entry = e } ∷ []) left
      → Field pool k us es (wrote (value_bytes k (value_of pool (record { kind = k; entry = e }))) (record { at = i; entries = left }))
  no_field : {i : ℕ} → Field pool k us es (misfit i)

spell_one : (pool : List ℕ) (k : Kind) (f : Style) (us : Shapes) (s : List ℕ) (a i : ℕ) (es : List Entry) → style_of k ≡ some f
    → spell (some s) a (λ a. along (writing pool) (following k a) (walks (writing pool) us)) i es ≡ wrote s (record { at = i + 1; entries = es })
unfolding spell along times wrote_after write_nothing
spell_one pool k f us s a i es e = rw (alone k f e a, append-nil s)

one_field_lem : (pool : List ℕ) (k : Kind) (f : Style) (us : Shapes) (i : ℕ) (es : List Entry) → style_of k ≡ some f
    → Field pool k us es (walk (writing pool) (node k us) (record { at = i; entries = es }))
unfolding walk write_item write_entry spell
one_field_lem pool k f us i [] e = no_field
one_field_lem pool k f us i (d ∷ es) e = go (head_bytes k (count us) pool d.first d.second) refl
  where
    go : (o : Option (List ℕ)) → head_bytes k (count us) pool d.first d.second ≡ o
        → Field pool k us (d ∷ es) (spell o d.first (λ a. along (writing pool) (following k a) (walks (writing pool) us)) i es)
    go none h = no_field
    go (some s) h =
        let v : value_bytes k (value_of pool (record { kind = k; entry = d })) ≡ s = value-bytes k f pool s d.first d.second d.place e (sym (any-count k f e (count us) _ _ _) ∙ h) in
        let w : wrote (value_bytes k (value_of pool (record { kind = k; entry = d }))) (record { at = i + 1; entries = es })
        ≡ spell (some s) d.first (λ a. along (writing pool) (following k a) (walks (writing pool) us)) i es
        = ap (λ s. wrote s (record { at = i + 1; entries = es })) v ∙ sym (spell_one pool k f us s d.first i es e) in
        paths.subst (λ w. Field pool k us (d ∷ es) w) w (field d (i + 1) es (tell-field k f e us d es))

-- ---- all fields

data Fields (pool : List ℕ) (ts : Shapes) (cs : List Column) (es : List Entry) : Wrote → Type 0 where
  fields : (tags : List Tag) (i : ℕ) (left : List Entry) → all telling (walks telling ts) es ≡ kept tags left
      → Fields pool ts cs es (wrote (message_of cs (lists.map (value_of pool) tags)) (record { at = i; entries = left }))
  no_fields : {i : ℕ} → Fields pool ts cs es (misfit i)

module _ (pool : List ℕ) where
  abbrev All : Shapes → List Column → Type 0
  All ts cs = (i : ℕ) (es : List Entry) → Fields pool ts cs es (all (writing pool) (walks (writing pool) ts) (record { at = i; entries = es }))

  none_written : All no_shape []
  unfolding all walks write_nothing tell_nothing message_of
  none_written i es = fields [] i es refl

  more-written : (k : Kind) (f : Style) (us ts : Shapes) (cs : List Column) → style_of k ≡ some f → All ts cs → All (more (node k us) ts) (record { kind = k; style = f } ∷ cs)
  unfolding all walks write_then write_on wrote_after tell_then tell_on told_after message_of
  more-written k f us ts cs e others i es = go (walk (writing pool) (node k us) (record { at = i; entries = es })) (one_field_lem pool k f us i es e)
    where
      behind-one : (d : Entry) (left : List Entry) (w : Wrote) → walk telling (node k us) es ≡ kept (record { kind = k; entry = d } ∷ []) left → Fields pool ts cs left w
          → Fields pool (more (node k us) ts) (record { kind = k; style = f } ∷ cs) es (wrote_after (value_bytes k (value_of pool (record { kind = k; entry = d }))) w)
      behind-one d left w t (fields tags j rest tells) = fields (record { kind = k; entry = d } ∷ tags) j rest (rw (t, tells))
      behind-one d left w t no_fields = no_fields

      go : (w : Wrote) → Field pool k us es w → Fields pool (more (node k us) ts) (record { kind = k; style = f } ∷ cs) es (write_on w (λ y. all (writing pool) (walks (writing pool) ts) y))
      go w (field d j left t) = behind-one d left (all (writing pool) (walks (writing pool) ts) (record { at = j; entries = left })) t (others j left)
      go w no_field = no_fields

  all-written : (ts : Shapes) (cs : List Column) → columns ts ≡ some cs → All ts cs
  unfolding columns kind_of_root
  all-written no_shape cs e = paths.subst (λ cs. All no_shape cs) (some-injective _ cs e) none_written
  all-written (more (node k us) ts) cs e =
      let m = column-more k (style_of k) (columns ts) cs e in
      paths.subst (λ cs. All (more (node k us) ts) cs) (sym m.all) (more-written k m.style us ts m.rest m.is (all-written ts m.rest m.others))

-- ---- a value list

written-nothing : (w : Wrote) → write_on w write_nothing ≡ w
unfolding write_on write_nothing wrote_after
written-nothing (wrote s x) = rw (append-nil s)
written-nothing (misfit i) = refl

after_nothing : (w : Wrote) → wrote_after [] w ≡ w
unfolding wrote_after
after_nothing (wrote s x) = refl
after_nothing (misfit i) = refl

abbrev bytes_of : Wrote → List ℕ
bytes_of (wrote s x) = s
bytes_of (misfit i) = []

abbrev left_of : Wrote → List Entry
left_of (wrote s x) = x.entries
left_of (misfit i) = []

abbrev is_wrote : Wrote → Bool
is_wrote (wrote s x) = true
is_wrote (misfit i) = false

-- the struct's own entry, and its fields'
root-written : (pool : List ℕ) (ts : Shapes) (cs : List Column) (d : Entry) (es : List Entry) (s : List ℕ) (i : ℕ) → columns ts ≡ some cs → d.first ≡ 0 → d.second ≡ 0
    → (w : Wrote) → Fields pool ts cs es w → w ≡ wrote s (record { at = i; entries = [] })
    → (vs : List Value) × (values (node struct ts) pool (d ∷ es) ≡ whole (number 0 0 ∷ vs)) × (message_of cs vs ≡ s)
unfolding values valued told_after value_of is_pooled pick
root-written pool ts cs d es s i c a b w (fields tags j left tells) e =
    let empty : left ≡ [] = ap left_of e in
    let told : all telling (walks telling ts) es ≡ kept tags [] = rw empty at tells in
    (lists.map (value_of pool) tags, rw (struct_tells, told, a, b), ap bytes_of e)
root-written pool ts cs d es s i c a b w no_fields e = not-both (sym (ap is_wrote (sym e))) refl

spell-root : (pool : List ℕ) (ts : Shapes) (a : ℕ) (es : List Entry)
    → spell (some []) a (λ a. along (writing pool) (following struct a) (walks (writing pool) ts)) 0 es ≡ all (writing pool) (walks (writing pool) ts) (record { at = 1; entries = es })
unfolding spell following along times write_then
spell-root pool ts a es = after_nothing _ ∙ written-nothing (all (writing pool) (walks (writing pool) ts) (record { at = 1; entries = es }))

struct_written : (pool : List ℕ) (ts : Shapes) (cs : List Column) (es : List Entry) (s : List ℕ) (i : ℕ) → columns ts ≡ some cs
    → write (node struct ts) pool (record { at = 0; entries = es }) ≡ wrote s (record { at = i; entries = [] })
    → (vs : List Value) × (values (node struct ts) pool es ≡ whole (number 0 0 ∷ vs)) × (message_of cs vs ≡ s)
unfolding write walk write_item write_entry head_bytes
struct_written pool ts cs [] s i c e = not-both (ap is_wrote e) refl
struct_written pool ts cs (d ∷ es) s i c e = go (single (eqb d.first 0) d.second []) refl e
  where
    go : (o : Option (List ℕ)) → single (eqb d.first 0) d.second [] ≡ o
        → spell o d.first (λ a. along (writing pool) (following struct a) (walks (writing pool) ts)) 0 es ≡ wrote s (record { at = i; entries = [] })
        → (vs : List Value) × (values (node struct ts) pool (d ∷ es) ≡ whole (number 0 0 ∷ vs)) × (message_of cs vs ≡ s)
    go none h e = unfold spell in not-both (ap is_wrote e) refl
    go (some t) h e =
        let r = single-some (eqb d.first 0) d.second [] h in
        root-written pool ts cs d es s i c (eqb-true d.first 0 r.0) r.1 (all (writing pool) (walks (writing pool) ts) (record { at = 1; entries = es }))
        (all-written pool ts cs c 1 es)
        (sym (spell-root pool ts d.first es) ∙ (rw (← r.2) at e))

pub writes-the-same : WritesTheSame
writes-the-same t cs pool s es i c e =
    let r = rooted t cs c in
    rw r.is (struct_written pool r.fields cs es s i r.columned (rw r.is at e))
