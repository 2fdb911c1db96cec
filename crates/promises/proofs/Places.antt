-- A walk over entries without their places is the walk over the entries, place by place left out: so third words change neither a form nor a value. The entries that an old table makes are the first of the new one's, and so are their words.
-- Assumes nothing.
use Rattle.std.specs.Prelude.{Err}
use mathlib.Core.Path.{◌≡◌, refl, sym, ap, ◌∙◌}
use mathlib.Core.Bool.{Bool, true, false}
use mathlib.Core.List.{List, [], ◌∷◌, ◌++◌, map-append, append_assoc}
use mathlib.Core.List as lists
use mathlib.Core.Option.{Option, none, some}
use Prim.Native.Nat.{ℕ, ◌+◌, ◌%◌, ◌/◌}
use native.Mathlib.Omega.{arith}
use lib.ListN.{length, length-append, length-map}
use lib.Dec.{eqb}
use lib.Seq.{take_at}
use Rattle.wire.specs.declared.Refusal.TheVariants.{Values}
use Rattle.wire.specs.Checked.{Checked}
use Rattle.wire.specs.Checked.{Good, Bad}
use Rattle.wire.specs.Tests.{given}
use Rattle.wire.specs.Shape.{Kind, Shape}
use Rattle.wire.specs.Walk.{following, is_known}
use Rattle.wire.specs.Table.{check, shape_of}
use Rattle.wire.specs.Values.{Entry, Tag, Told, kept, lacks, short, told_after, tell_nothing, tell_on, tell_then, tell_item, telling, tell, Value, value_of, valued, values}
use Rattle.wire.specs.Reading.{Run}
use Rattle.wire.specs.Writing.{Left, Wrote, wrote, misfit, wrote_after, head_bytes, write_nothing, write_on, write_then, spell, write_entry, write_item, writing, write}
use Rattle.wire.specs.Answers.{words_per, words, words_of, entries_of, store_with, form_of, formed, no_form, write_by, writes}
use Rattle.laws.specs.Steps.{Every}
use Rattle.laws.specs.Told.{entries}
use Rattle.laws.proofs.Walks.{every}
use Rattle.laws.proofs.Places.{length-words, front-words}
use Rattle.promises.specs.OldNew.{OldMakes, same, unknown}
use Rattle.promises.specs.Places.{first_two, SameWords, WriterIgnoresPlaces, ValuesIgnorePlaces, places, SameFront, SamePlaces}
use Rattle.promises.proofs.OldNew.{old-table-reads}

-- ---- without places

abbrev of_two : ℕ × ℕ → Entry
of_two p = record { first = p.0; second = p.1; place = 0 }

abbrev bare : Entry → Entry
bare e = of_two (e.first, e.second)

bare-two : (es : List Entry) → lists.map bare es ≡ lists.map of_two (first_two es)
unfolding first_two
bare-two [] = refl
bare-two (e ∷ es) = rw (bare-two es)

bare-same : {ws ws' : List ℕ} → SameWords ws ws' → lists.map bare (entries_of ws) ≡ lists.map bare (entries_of ws')
bare-same h = bare-two _ ∙ ap (lists.map of_two) h.two ∙ sym (bare-two _)

-- ---- told apart

abbrev bare_tag : Tag → Tag
bare_tag t = record { kind = t.kind; entry = bare t.entry }

abbrev bare_told : Told → Told
bare_told (kept ts es) = kept (lists.map bare_tag ts) (lists.map bare es)
bare_told (lacks ts e es) = lacks (lists.map bare_tag ts) (bare e) (lists.map bare es)
bare_told (short ts) = short (lists.map bare_tag ts)

record Tells (u : List Entry → Told) : Type 0 where
  alike : (es : List Entry) → u (lists.map bare es) ≡ bare_told (u es)

ahead-bare : (ts : List Tag) (x : Told) → told_after (lists.map bare_tag ts) (bare_told x) ≡ bare_told (told_after ts x)
unfolding told_after
ahead-bare ts (kept us es) = rw (map-append bare_tag ts us)
ahead-bare ts (lacks us e es) = rw (map-append bare_tag ts us)
ahead-bare ts (short us) = rw (map-append bare_tag ts us)

nothing_tells : Tells tell_nothing
unfolding tell_nothing
nothing_tells = record { alike = λ es. refl }

then-tells : {u v : List Entry → Told} → Tells u → Tells v → Tells (tell_then u v)
unfolding tell_then tell_on
then-tells {u} {v} a b = record { alike = λ es. ap (λ x. tell_on x v) (a.alike es) ∙ go (u es) }
  where
    go : (x : Told) → tell_on (bare_told x) v ≡ bare_told (tell_on x v)
    go (kept ts es) = rw (b.alike es) (ahead-bare ts (v es))
    go (lacks ts e es) = refl
    go (short ts) = refl

item-tells : (k : Kind) (n : ℕ) (next : ℕ → List Entry → Told) → ((a : ℕ) → Tells (next a)) → Tells (tell_item k n next)
unfolding tell_item given
item-tells k n next h = record { alike = go }
  where
    told : (e : Entry) (es : List Entry) (t : Bool) → Told
    told e es t = given t (λ _. told_after (record { kind = k; entry = e } ∷ []) (next e.first es)) (lacks [] e es)

    told-bare : (e : Entry) (es : List Entry) (t : Bool) → told (bare e) (lists.map bare es) t ≡ bare_told (told e es t)
    told-bare e es true = rw ((h e.first).alike es) (ahead-bare (record { kind = k; entry = e } ∷ []) (next e.first es))
    told-bare e es false = refl

    go : (es : List Entry) → tell_item k n next (lists.map bare es) ≡ bare_told (tell_item k n next es)
    go [] = refl
    go (e ∷ es) = told-bare e es (is_known (following k e.first) n)

all_tell : Every (λ (i : Unit {0}). telling) (λ f. Tells (f tt))
all_tell = record { none = nothing_tells; both = then-tells; made = λ f k n. item-tells k n (λ a. f (following k a) tt) }

tags-bare : (pool : List ℕ) (ts : List Tag) → lists.map (value_of pool) (lists.map bare_tag ts) ≡ lists.map (value_of pool) ts
unfolding value_of
tags-bare pool [] = refl
tags-bare pool (t ∷ ts) = rw (tags-bare pool ts)

valued-bare : (pool : List ℕ) (x : Told) → valued pool (bare_told x) ≡ valued pool x
unfolding valued
valued-bare pool (kept ts []) = rw (tags-bare pool ts)
valued-bare pool (kept ts (e ∷ es)) = rw (tags-bare pool ts)
valued-bare pool (lacks ts e es) = rw (tags-bare pool ts)
valued-bare pool (short ts) = rw (tags-bare pool ts)

values-bare : (t : Shape) (pool : List ℕ) (es : List Entry) → values t pool (lists.map bare es) ≡ values t pool es
unfolding values tell
values-bare t pool es = rw ((every all_tell t).alike es) (valued-bare pool (tell t es))

pub values-ignore-places : ValuesIgnorePlaces
values-ignore-places t ws ws' pool h = sym (values-bare t pool (entries_of ws)) ∙ ap (values t pool) (bare-same h) ∙ values-bare t pool (entries_of ws')

-- ---- written

abbrev bare_left : Left → Left
bare_left x = record { at = x.at; entries = lists.map bare x.entries }

abbrev bare_wrote : Wrote → Wrote
bare_wrote (wrote s x) = wrote s (bare_left x)
bare_wrote (misfit i) = misfit i

record Writes (u : Left → Wrote) : Type 0 where
  alike : (x : Left) → u (bare_left x) ≡ bare_wrote (u x)

after-bare : (s : List ℕ) (w : Wrote) → wrote_after s (bare_wrote w) ≡ bare_wrote (wrote_after s w)
unfolding wrote_after
after-bare s (wrote t x) = refl
after-bare s (misfit i) = refl

nothing-writes : Writes write_nothing
unfolding write_nothing
nothing-writes = record { alike = λ x. refl }

then-writes : {u v : Left → Wrote} → Writes u → Writes v → Writes (write_then u v)
unfolding write_then write_on
then-writes {u} {v} a b = record { alike = λ x. ap (λ w. write_on w v) (a.alike x) ∙ go (u x) }
  where
    go : (w : Wrote) → write_on (bare_wrote w) v ≡ bare_wrote (write_on w v)
    go (wrote s y) = rw (b.alike y) (after-bare s (v y))
    go (misfit i) = refl

item-writes : (pool : List ℕ) (k : Kind) (n : ℕ) (next : ℕ → Left → Wrote) → ((a : ℕ) → Writes (next a)) → Writes (write_item pool k n next)
unfolding write_item write_entry spell
item-writes pool k n next h = record { alike = λ x. go x.at x.entries }
  where
    spelt : (o : Option (List ℕ)) (a i : ℕ) (es : List Entry) → spell o a next i (lists.map bare es) ≡ bare_wrote (spell o a next i es)
    spelt none a i es = refl
    spelt (some s) a i es = rw ((h a).alike (record { at = i + 1; entries = es })) (after-bare s _)

    go : (i : ℕ) (es : List Entry) → write_entry k n pool next i (lists.map bare es) ≡ bare_wrote (write_entry k n pool next i es)
    go i [] = refl
    go i (e ∷ es) = spelt (head_bytes k n pool e.first e.second) e.first i es

all-write : (pool : List ℕ) → Every (λ (i : Unit {0}). writing pool) (λ f. Writes (f tt))
all-write pool = record { none = nothing-writes; both = then-writes; made = λ f k n. item-writes pool k n (λ a. f (following k a) tt) }

formed_bare : (room : ℕ) (w : Wrote) → formed room (bare_wrote w) ≡ formed room w
unfolding formed form_of
formed_bare room (wrote s x) = go x.entries
  where
    go : (es : List Entry) → form_of room s x.at (lists.map bare es) ≡ form_of room s x.at es
    go [] = refl
    go (e ∷ es) = refl
formed_bare room (misfit i) = refl

form-bare : (t : Shape) (pool : List ℕ) (room : ℕ) (es : List Entry)
    → formed room (write t pool (record { at = 0; entries = lists.map bare es })) ≡ formed room (write t pool (record { at = 0; entries = es }))
unfolding write
form-bare t pool room es = rw ((every (all-write pool) t).alike (record { at = 0; entries = es })) (formed_bare room (write t pool (record { at = 0; entries = es })))

pub writer-ignores-places : WriterIgnoresPlaces
unfolding writes write_by
writer-ignores-places table ws ws' pool room h = go (check table)
  where
    forms : (t : Shape) → formed room (write t pool (record { at = 0; entries = entries_of ws })) ≡ formed room (write t pool (record { at = 0; entries = entries_of ws' }))
    forms t =
        sym (form-bare t pool room (entries_of ws)) ∙ ap (λ es. formed room (write t pool (record { at = 0; entries = es }))) (bare-same h)
        ∙ form-bare t pool room (entries_of ws')

    go : (c : Checked) → write_by c table ws pool room ≡ write_by c table ws' pool room
    go (Good l) =
        rw h.long (ap (λ f. given (eqb (length ws' % words_per) 0) (λ _. f) (no_form Values (length ws' / words_per))) (forms (shape_of table l)))
    go (Err r) = refl

-- ---- both tables

words_append : (es fs : List Entry) → words (es ++ fs) ≡ words es ++ words fs
unfolding words
words_append [] fs = refl
words_append (e ∷ es) fs = rw (words_append es fs) (sym (append_assoc (words_of e) (words es) (words fs)))

-- the first of more entries stand in front, words and all
same-front : (es more : List Entry) (store : List ℕ) → SameFront es (es ++ more) store
unfolding places store_with
same-front es more store =
    record {
      fewer = simp length-append (omega arith);
      stood = rw (map-append (λ e. e.place) es more) (sym (take_at (places es) (places more) (length es) (length-map es (λ e. e.place))));
      stored = front-words es _ store refl ∙ sym (rw (words_append es more, append_assoc) (take_at (words es) _ _ (length-words es)));
    }

kept-front : {t : Shape} {message : List ℕ} {end : ℕ} {es : List Entry} {vs : List Value} {r : Run} (store : List ℕ) → OldMakes t message end es vs r → SameFront r.made es store
kept-front store (same ts appended us more told split are front) = rw split (same-front (entries ts) appended store)
kept-front store (unknown ts e behind us more told split are front) = rw split (same-front (entries ts) (e ∷ behind) store)

pub same-places : SamePlaces
same-places old new area y message store es end h =
    let (l, m, good_old, good_new, vs, are, makes) = old-table-reads old new area y message store es end h in kept-front store makes
