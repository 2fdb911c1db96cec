-- The message that an import writes is read as the values of its row.
-- Assumes nothing.
use mathlib.Core.Path.{◌≡◌, refl, sym, ap, ◌∙◌}
use mathlib.Core.Path as paths
use mathlib.Core.Bool.{true}
use mathlib.Core.List.{List, [], ◌∷◌, ◌++◌, append-nil, append_assoc}
use mathlib.Core.List as lists
use mathlib.Core.Option.{some, some-injective}
use Prim.Native.Nat.{ℕ, ◌+◌, ◌-◌, ◌≤◌}
use native.Mathlib.Omega.{arith}
use native.Mathlib.Nat.{zero-add}
use lib.ListN.{length, drop, length-append}
use lib.Seq.{drop-append_seam}
use borrow.Author.Tests.{leb-true}
use Rattle.wire.specs.Tests.{pick, given}
use Rattle.wire.specs.Shape.{Kind, struct, Shape, node, Shapes, none as no_shape, more, count}
use Rattle.wire.specs.Walk.{following, is_known, all, times, along, walk, walks}
use Rattle.wire.specs.Numbers.{took}
use Rattle.wire.specs.Values.{Entry, Tag, Told, kept, lacks, short as too_few, told_after, tell_nothing, tell_on, tell_then, tell_item, telling, tell, Value, number, value_of, is_pooled, whole, valued, values}
use Rattle.wire.specs.Reading.{Spot, reached, head, run_after, read_nothing, read_on, read_then, past, enter, read_item, reading, read}
use Rattle.laws.proofs.Splits.{not-both, both_left, both_right}
use Rattle.laws.proofs.Parts as parts
use Rattle.laws.proofs.Runs.{then-nothing}
use Rattle.laws.proofs.Heads.{head-back}
use Rattle.desk.specs.Csv.{Style, style_of, may, may_all, Column, kind_of_root, columns, columns_of, styles_of, most_fields, value_bytes, message_of}
use Rattle.spellings.proofs.Tables.{column-more, Rooted, rooted}
use Rattle.spellings.proofs.Written.{Short, kind-written, alone, any-count}

-- ---- one field

-- a field's bytes at the place p of a message, with other bytes run_after them
record Field (k : Kind) (us : Shapes) (v : Value) (s : List ℕ) (p : ℕ) (rest message : List ℕ) : Type 0 where
  entry : Entry
  reads : walk (reading head) (node k us) (record { bytes = s ++ rest; place = p })
      ≡ record { made = entry ∷ []; ends = reached (record { bytes = rest; place = p + length s }) }
  tells : (es : List Entry) → walk telling (node k us) (entry ∷ es) ≡ kept (record { kind = k; entry = entry } ∷ []) es
  same : value_of message (record { kind = k; entry = entry }) ≡ v

read-field : (k : Kind) (f : Style) → style_of k ≡ some f → (us : Shapes) (s rest : List ℕ) (p a b : ℕ) → head k (count us) p (s ++ rest) ≡ took a b (length s)
    → walk (reading head) (node k us) (record { bytes = s ++ rest; place = p })
    ≡ record { made = record { first = a; second = b; place = p } ∷ []; ends = reached (record { bytes = rest; place = p + length s }) }
unfolding walk read_item enter along times run_after read_nothing past
read-field k f e us s rest p a b h = rw (h, alone k f e a, drop-append_seam s rest)

pub tell-field : (k : Kind) (f : Style) → style_of k ≡ some f → (us : Shapes) (d : Entry) (es : List Entry)
    → walk telling (node k us) (d ∷ es) ≡ kept (record { kind = k; entry = d } ∷ []) es
unfolding walk tell_item is_known given along times told_after tell_nothing
tell-field k f e us d es = rw (alone k f e d.first)

field_back : (k : Kind) (f : Style) (us : Shapes) (v : Value) (p : ℕ) (rest message : List ℕ) → style_of k ≡ some f → may f v ≡ true → Short v
    → drop p message ≡ value_bytes k v ++ rest → Field k us v (value_bytes k v) p rest message
field_back k f us v p rest message e h short at =
    let w = kind-written k f v e h short in
    let i = head-back (count us) w.pool w.first w.second w.low w.short p rest message at k (any-count k f e (count us) _ _ _ ∙ w.writes) in
    record {
      entry = record { first = i.first; second = i.second; place = p };
      reads = read-field k f e us (value_bytes k v) rest p i.first i.second i.reads;
      tells = tell-field k f e us _;
      same = sym (i.same 0 p) ∙ w.same 0;
    }

-- ---- all fields

abbrev pub AllShort : List Value → Type 0
AllShort [] = Unit {0}
AllShort (v ∷ vs) = Short v × AllShort vs

pub record Fields (ts : Shapes) (vs : List Value) (s : List ℕ) (p : ℕ) (rest message : List ℕ) : Type 0 where
  pub made : List Entry
  pub tags : List Tag
  pub reads : all (reading head) (walks (reading head) ts) (record { bytes = s ++ rest; place = p }) ≡ record { made = made; ends = reached (record { bytes = rest; place = p + length s }) }
  pub tells : (es : List Entry) → all telling (walks telling ts) (made ++ es) ≡ kept tags es
  pub same : lists.map (value_of message) tags ≡ vs
  pub many : length made ≡ count ts

no_field : (p : ℕ) (rest message : List ℕ) → Fields no_shape [] [] p rest message
unfolding all walks read_nothing tell_nothing count
no_field p rest message =
    let z : p + 0 ≡ p = omega arith in
    record { made = []; tags = []; reads = rw z; tells = λ es. refl; same = refl; many = refl }

-- one field, and then the others
and-field : (k : Kind) (us ts : Shapes) (v : Value) (vs : List Value) (s t : List ℕ) (p : ℕ) (rest message : List ℕ) → Field k us v s p (t ++ rest) message
    → Fields ts vs t (p + length s) rest message → Fields (more (node k us) ts) (v ∷ vs) (s ++ t) p rest message
unfolding all walks read_then read_on run_after tell_then tell_on told_after count
and-field k us ts v vs s t p rest message one others =
    let n : p + length (s ++ t) ≡ p + length s + length t = omega (arith, length-append s t) in
    record {
      made = one.entry ∷ others.made;
      tags = record { kind = k; entry = one.entry } ∷ others.tags;
      reads = rw (append_assoc s t rest, one.reads, others.reads, n);
      tells = λ es. rw (one.tells (others.made ++ es), others.tells es);
      same = rw (one.same, others.same);
      many = omega (arith, others.many);
    }

abbrev Back : Shapes → List Column → Type 0
Back ts cs = (vs : List Value) (p : ℕ) (rest message : List ℕ) → may_all (styles_of cs) vs ≡ true → AllShort vs → drop p message ≡ message_of cs vs ++ rest
    → Fields ts vs (message_of cs vs) p rest message

none-back : Back no_shape []
unfolding styles_of may_all message_of
none-back [] p rest message h short at = no_field p rest message
none-back (v ∷ vs) p rest message h short at = not-both h refl

more-back : (k : Kind) (f : Style) (us ts : Shapes) (cs : List Column) → style_of k ≡ some f → Back ts cs → Back (more (node k us) ts) (record { kind = k; style = f } ∷ cs)
unfolding styles_of may_all message_of
more-back k f us ts cs e back [] p rest message h short at = not-both h refl
more-back k f us ts cs e back (v ∷ vs) p rest message h short at =
    let here : drop p message ≡ value_bytes k v ++ (message_of cs vs ++ rest) = at ∙ append_assoc (value_bytes k v) (message_of cs vs) rest in
    and-field k us ts v vs (value_bytes k v) (message_of cs vs) p rest message
    (field_back k f us v p (message_of cs vs ++ rest) message e (both_left _ _ h) short.0 here)
    (back vs (p + length (value_bytes k v)) rest message (both_right (may f v) _ h) short.1 (parts.behind message (value_bytes k v) (message_of cs vs ++ rest) p here))

fields_back : (ts : Shapes) (cs : List Column) → columns ts ≡ some cs → Back ts cs
unfolding columns kind_of_root
fields_back no_shape cs e = paths.subst (λ cs. Back no_shape cs) (some-injective _ cs e) none-back
fields_back (more (node k us) ts) cs e =
    let m = column-more k (style_of k) (columns ts) cs e in
    paths.subst (λ cs. Back (more (node k us) ts) cs) (sym m.all) (more-back k m.style us ts m.rest m.is (fields_back ts m.rest m.others))

-- ---- a message

-- it is read to its end, and its values are the row's, run_after the struct's own
pub record Read (t : Shape) (vs : List Value) (s rest : List ℕ) : Type 0 where
  pub made : List Entry
  pub reads : read t (record { bytes = s ++ rest; place = 0 }) ≡ record { made = made; ends = reached (record { bytes = rest; place = length s }) }
  pub are : values t (s ++ rest) made ≡ whole (number 0 0 ∷ vs)
  pub few : length made ≤ 1025

past-none : (x : Spot) → past 0 x ≡ x
unfolding past
past-none x = let z : x.place + 0 ≡ x.place = omega arith in rw z

told-nothing : (t : Told) → tell_on t tell_nothing ≡ t
unfolding tell_on tell_nothing told_after
told-nothing (kept ts rest) = rw (append-nil ts)
told-nothing (lacks ts e rest) = refl
told-nothing (too_few ts) = refl

pub struct-reads : (ts : Shapes) (x : Spot)
    → read (node struct ts) x ≡ run_after (record { first = 0; second = 0; place = x.place } ∷ []) (all (reading head) (walks (reading head) ts) x)
unfolding read walk read_item enter head following along times
struct-reads ts x = ap (run_after (record { first = 0; second = 0; place = x.place } ∷ [])) (then-nothing _ (past 0 x) ∙ ap (all (reading head) (walks (reading head) ts)) (past-none x))

pub struct_tells : (ts : Shapes) (d : Entry) (es : List Entry)
    → tell (node struct ts) (d ∷ es) ≡ told_after (record { kind = struct; entry = d } ∷ []) (all telling (walks telling ts) es)
unfolding tell walk tell_item following along times is_known given tell_then
struct_tells ts d es = ap (told_after (record { kind = struct; entry = d } ∷ [])) (told-nothing (all telling (walks telling ts) es))

pub message-reads : (t : Shape) (cs : List Column) (vs : List Value) (rest : List ℕ) → columns_of t ≡ some cs → may_all (styles_of cs) vs ≡ true → AllShort vs
    → Read t vs (message_of cs vs) rest
unfolding run_after told_after values valued value_of is_pooled pick
message-reads t cs vs rest e h short = rw r.is record {
  made = record { first = 0; second = 0; place = 0 } ∷ f.made;
  reads = rw (struct-reads, f.reads, zero-add);
  are = rw (struct_tells, told) (ap (λ vs. whole (number 0 0 ∷ vs)) f.same);
  few = omega (arith, f.many, leb-true (count r.fields) most_fields r.few);
}
  where
    r : Rooted t cs
    r = rooted t cs e

    f : Fields r.fields vs (message_of cs vs) 0 rest (message_of cs vs ++ rest)
    f = fields_back r.fields cs r.columned vs 0 rest (message_of cs vs ++ rest) h short refl

    told : all telling (walks telling r.fields) f.made ≡ kept f.tags []
    told = rw append-nil at (f.tells [])
