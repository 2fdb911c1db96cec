-- The strict reading, the plain one and the telling of its entries go on together, each item first asked for room: what the strict one makes is what the plain one makes up to the first item that isn't in its shortest form.
-- Assumes nothing.
use Rattle.std.specs.Prelude.{Err}
use mathlib.Core.Path.{◌≡◌, refl, sym, ap, ap₂, ◌∙◌}
use mathlib.Core.Bool.{Bool, true, false}
use mathlib.Core.Logic.{◌↔◌, ◌⊎◌, inl, inr}
use mathlib.Core.List.{List, [], ◌∷◌, ◌++◌, append-nil}
use Prim.Native.Nat.{ℕ, zero, suc, ◌-◌}
use native.Mathlib.Omega.{arith}
use lib.ListN.{length, drop}
use lib.Seq.{drop-drop}
use Rattle.wire.specs.declared.Refusal.{Refusal}
use Rattle.wire.specs.declared.Refusal.TheVariants.{NotShortest}
use Rattle.wire.specs.Checked.{Checked}
use Rattle.wire.specs.Checked.{Good, Bad}
use Rattle.wire.specs.declared.Own.{Own}
use Rattle.wire.specs.Item.{Item}
use Rattle.wire.specs.Item.{Took, Refused}
use Rattle.wire.specs.Tests.{pick, given, both}
use Rattle.wire.specs.Shape.{Kind}
use Rattle.wire.specs.Walk.{Follow, following, is_known, Walk}
use Rattle.wire.specs.Values.{Entry, Tag, Told, short, told_after, tell_nothing, tell_on, tell_then, tell_item, telling, tell}
use Rattle.wire.specs.Table.{check, shape_of}
use Rattle.wire.specs.Reading.{head, strictly, judged, head_by, Spot, front, Outcome, reached, refused, Run, run_after, read_nothing, read_on, read_then, past, entry_of, enter, read_item, reading, read, read_strict, within, fit}
use Rattle.wire.specs.Answers.{room_of, read_by, reads, reads_strict}
use Rattle.laws.specs.Steps.{Every}
use Rattle.laws.specs.Told.{entries, Tells}
use Rattle.laws.proofs.Splits.{not-both}
use Rattle.laws.proofs.Walks.{every}
use Rattle.laws.proofs.Known.{head-known}
use Rattle.laws.proofs.Runs.{on-behind, fit_then, fit-item, fit_none}
use Rattle.laws.proofs.ReadBy.{reads_plain}
use Rattle.laws.proofs.Told.{entries-append, nothing_tells, then-tells, item-tells}
use Rattle.promises.specs.Strict.{tags_of, items_by, items, is_shortest_in, all_shortest, unless_longer, up_to_longer, StrictBeside, StrictDone, StrictOther, StrictExactly, StrictOldTableReads}
use Rattle.promises.proofs.OldNew.{old-reads-by}
use Rattle.promises.proofs.Flags.{flag-says}

module _ (message : List ℕ) where
  -- ---- runs of items

  -- a run that was refused goes on nowhere
  on-refused : (ts : List Tag) (why : Refusal) (p : ℕ) (g : Spot → Run)
      → read_on (up_to_longer message ts (refused why p)).made (up_to_longer message ts (refused why p)).ends g ≡ up_to_longer message ts (refused why p)
  unfolding up_to_longer
  on-refused [] why p g = unfold read_on in refl
  on-refused (t ∷ ts) why p g = go (on-refused ts why p g) (is_shortest_in message t)
    where
      r : Run
      r = up_to_longer message ts (refused why p)

      go : read_on r.made r.ends g ≡ r → (b : Bool) → read_on (unless_longer b t.entry r).made (unless_longer b t.entry r).ends g ≡ unless_longer b t.entry r
      go e true = unfold unless_longer run_after in on-behind (t.entry ∷ []) r g ∙ ap (run_after (t.entry ∷ [])) e
      go e false = unfold unless_longer read_on in refl

  -- a run of items and then others; these are told how many entries were made
  on-reached : (ts us : List Tag) (y : Spot) (o : Outcome) (g : ℕ → Spot → Run) → g (length (entries ts)) y ≡ up_to_longer message us o
      → read_on (up_to_longer message ts (reached y)).made (up_to_longer message ts (reached y)).ends (g (length (up_to_longer message ts (reached y)).made))
      ≡ up_to_longer message (ts ++ us) o
  unfolding up_to_longer entries
  on-reached [] us y o g e = unfold read_on run_after in e
  on-reached (t ∷ ts) us y o g e = go (on-reached ts us y o (λ n. g (suc n)) e) (is_shortest_in message t)
    where
      r : Run
      r = up_to_longer message ts (reached y)

      go : read_on r.made r.ends (g (suc (length r.made))) ≡ up_to_longer message (ts ++ us) o
          → (b : Bool) → read_on (unless_longer b t.entry r).made (unless_longer b t.entry r).ends (g (length (unless_longer b t.entry r).made))
          ≡ unless_longer b t.entry (up_to_longer message (ts ++ us) o)
      go e true = unfold unless_longer run_after in on-behind (t.entry ∷ []) r (g (suc (length r.made))) ∙ ap (run_after (t.entry ∷ [])) e
      go e false = unfold unless_longer read_on in refl

  -- ---- the relation

  -- items that were all read are told apart as such, whatever follows; before a refusal they are too few
  abbrev Ended : (List Entry → Told) → List Entry → List Tag → Outcome → Type 0
  Ended u es ts (reached y) = Tells u es ts × (drop y.place message ≡ y.bytes)
  Ended u es ts (refused why p) = u es ≡ short ts

  -- a strict run beside the plain one, which made the entries es and ended so
  record Beside (u : List Entry → Told) (strict : Run) (es : List Entry) (o : Outcome) : Type 0 where
    tags : List Tag
    are : entries tags ≡ es
    told : Ended u es tags o
    is : strict ≡ up_to_longer message tags o

  record Strictly (h f : Spot → Run) (u : List Entry → Told) : Type 0 where
    beside : (room : ℕ) (x : Spot) → drop x.place message ≡ x.bytes → Beside u (fit room (h x)) (fit room (f x)).made (fit room (f x)).ends

  nothing-strictly : Strictly read_nothing read_nothing tell_nothing
  unfolding read_nothing fit within entries up_to_longer
  nothing-strictly = record { beside = λ room x at. record { tags = []; are = refl; told = (nothing_tells, at); is = refl } }

  -- ---- one after the other

  then-told : (u u' : List Entry → Told) (es fs : List Entry) (ts us : List Tag) (o : Outcome) → Tells u es ts → Ended u' fs us o → Ended (tell_then u u') (es ++ fs) (ts ++ us) o
  unfolding tell_then tell_on told_after
  then-told u u' es fs ts us (reached z) a b = (then-tells a b.0, b.1)
  then-told u u' es fs ts us (refused why p) a b = rw (a.told fs, b)

  module _ (u u' : List Entry → Told) (g : ℕ → Spot → Run) (r : Run) (es : List Entry) where
    stopped : (why : Refusal) (p : ℕ) → Beside u r es (refused why p) → Beside (tell_then u u') (read_on r.made r.ends (g (length r.made))) es (refused why p)
    unfolding tell_then tell_on
    stopped why p q =
        record { tags = q.tags; are = q.are; told = rw q.told; is = rw q.is (on-refused q.tags why p (g (length (up_to_longer message q.tags (refused why p)).made))) }

    joined : (y : Spot) (fs : List Entry) (o : Outcome) → Beside u r es (reached y) → Beside u' (g (length es) y) fs o
        → Beside (tell_then u u') (read_on r.made r.ends (g (length r.made))) (es ++ fs) o
    joined y fs o q n =
        record {
          tags = q.tags ++ n.tags;
          are = entries-append q.tags n.tags ∙ ap₂ ◌++◌ q.are n.are;
          told = then-told u u' es fs q.tags n.tags o q.told.0 n.told;
          is = rw q.is (on-reached q.tags n.tags y o g (rw q.are n.is));
        }

  then-strictly : (h h' f f' : Spot → Run) (u u' : List Entry → Told) → Strictly h f u → Strictly h' f' u'
      → Strictly (read_then h h') (read_then f f') (tell_then u u')
  unfolding read_on run_after
  then-strictly h h' f f' u u' a b =
      record { beside = λ room x at. rw (fit_then room h h' x, fit_then room f f' x) (go room (fit room (h x)) (fit room (f x)).made (fit room (f x)).ends (a.beside room x at)) }
    where
      go : (room : ℕ) (r : Run) (es : List Entry) (o : Outcome) → Beside u r es o
          → Beside (tell_then u u') (read_on r.made r.ends (λ y. fit (room - length r.made) (h' y))) (read_on es o (λ y. fit (room - length es) (f' y))).made
          (read_on es o (λ y. fit (room - length es) (f' y))).ends
      go room r es (refused why p) q = stopped u u' (λ n y. fit (room - n) (h' y)) r es why p q
      go room r es (reached y) q = joined u u' (λ n y. fit (room - n) (h' y)) r es y _ _ q (b.beside (room - length es) y q.told.1)

  -- ---- an item

  module _ (k : Kind) (n : ℕ) (h f : Follow → Spot → Run) (u : Follow → List Entry → Told) where
    abbrev tells : List Entry → Told
    tells = tell_item k n (λ a. u (following k a))

    item-told : (e : Entry) (es : List Entry) (ts : List Tag) (o : Outcome) → is_known (following k e.first) n ≡ true → Ended (u (following k e.first)) es ts o
        → Ended tells (e ∷ es) (record { kind = k; entry = e } ∷ ts) o
    unfolding tell_item told_after given
    item-told e es ts (reached y) kn b = (item-tells k n _ e kn b.0, b.1)
    item-told e es ts (refused why p) kn b = rw (kn, b)

    -- the item was taken, in its shortest form or not
    judge : (own : Own) (x : Spot) (next : ℕ → Spot → Run) (b : Bool)
        → enter (pick b (Took own) (Refused NotShortest)) next x
        ≡ unless_longer b (entry_of own x) (next own.first (past own.used x))
    unfolding enter pick unless_longer
    judge own x next true = refl
    judge own x next false = refl

    taken : (own : Own) (x : Spot) → drop x.place message ≡ x.bytes → head k n x.place x.bytes ≡ Took own → (next : ℕ → Spot → Run) (es : List Entry) (o : Outcome)
        → Beside (u (following k own.first)) (next own.first (past own.used x)) es o → Beside tells (enter (strictly (Took own)) next x) (entry_of own x ∷ es) o
    unfolding strictly entries up_to_longer
    taken own x at q next es o b =
        record {
          tags = record { kind = k; entry = entry_of own x } ∷ b.tags;
          are = ap (λ es. entry_of own x ∷ es) b.are;
          told = item-told (entry_of own x) es b.tags o (head-known k n x.place x.bytes q) b.told;
          is = rw (at, ← (flag-says k n x.place x.bytes own q), ← b.is) (judge own x next own.shortest);
        }

    item-strictly : ((a : ℕ) → Strictly (h (following k a)) (f (following k a)) (u (following k a)))
        → Strictly (read_item (head_by true) k n (λ a. h (following k a))) (read_item head k n (λ a. f (following k a))) tells
    item-strictly kids = record { beside = start }
      where
        go : (room : ℕ) (x : Spot) → drop x.place message ≡ x.bytes → (i : Item) → head k n x.place x.bytes ≡ i
            → Beside tells (enter (strictly i) (λ a y. fit room (h (following k a) y)) x) (enter i (λ a y. fit room (f (following k a) y)) x).made
            (enter i (λ a y. fit room (f (following k a) y)) x).ends
        go room x at (Refused why) q = unfold enter strictly entries up_to_longer tell_item in record { tags = []; are = refl; told = refl; is = refl }
        go room x at (Took own) q =
            unfold enter run_after in
            taken own x at q (λ a y. fit room (h (following k a) y)) (fit room (f (following k own.first) (past own.used x))).made (fit room (f (following k own.first) (past own.used x))).ends
            ((kids own.first).beside room (past own.used x) (unfold past in sym (drop-drop own.used x.place message) ∙ ap (drop own.used) at))

        start : (room : ℕ) (x : Spot) → drop x.place message ≡ x.bytes
            → Beside tells (fit room (read_item (head_by true) k n (λ a. h (following k a)) x)) (fit room (read_item head k n (λ a. f (following k a)) x)).made
            (fit room (read_item head k n (λ a. f (following k a)) x)).ends
        start zero x at =
            rw (fit_none (head_by true) k n (λ a. h (following k a)) x, fit_none head k n (λ a. f (following k a)) x)
            (unfold entries up_to_longer tell_item in record { tags = []; are = refl; told = refl; is = refl })
        start (suc room) x at =
            rw (fit-item (head_by true) k n (λ a. h (following k a)) x room, fit-item head k n (λ a. f (following k a)) x room)
            (unfold read_item head_by judged in go room x at (head k n x.place x.bytes) refl)

  -- ---- a shape

  data Which : Type 0 where
    strict-by plain_by told-by : Which

  abbrev three : Which → Walk
  three strict-by = reading (head_by true)
  three plain_by = reading head
  three told-by = telling

  all-strictly : Every three (λ s. Strictly (s strict-by) (s plain_by) (s told-by))
  all-strictly =
      record {
        none = nothing-strictly;
        both = λ {f} {g}. then-strictly (f strict-by) (g strict-by) (f plain_by) (g plain_by) (f told-by) (g told-by);
        made = λ s k n. item-strictly k n (λ way. s way strict-by) (λ way. s way plain_by) (λ way. s way told-by);
      }

  -- ---- the end of a run of items

  -- all were in their shortest form, and the run is all of them; or it was refused
  all-or-not : (ts : List Tag) (o : Outcome)
      → ((all_shortest message ts ≡ true) × (up_to_longer message ts o ≡ record { made = entries ts; ends = o }))
      ⊎ ((all_shortest message ts ≡ false) × (p : ℕ) × ((up_to_longer message ts o).ends ≡ refused NotShortest p))
  unfolding all_shortest up_to_longer entries
  all-or-not [] o = inl (refl, refl)
  all-or-not (t ∷ ts) o = go (is_shortest_in message t) (all-or-not ts o)
    where
      r : Run
      r = up_to_longer message ts o

      go : (b : Bool) → ((all_shortest message ts ≡ true) × (r ≡ record { made = entries ts; ends = o })) ⊎ ((all_shortest message ts ≡ false) × (p : ℕ) × (r.ends ≡ refused NotShortest p))
          → ((both b (all_shortest message ts) ≡ true) × (unless_longer b t.entry r ≡ record { made = t.entry ∷ entries ts; ends = o }))
          ⊎ ((both b (all_shortest message ts) ≡ false) × (p : ℕ) × ((unless_longer b t.entry r).ends ≡ refused NotShortest p))
      go true (inl h) = unfold both unless_longer run_after in inl (h.0, ap (run_after (t.entry ∷ [])) h.1)
      go true (inr h) = unfold both unless_longer run_after in inr h
      go false h = unfold both unless_longer in inr (refl, t.entry.place, refl)

-- ---- of the calls

-- a run's items are told of its entries
tagged : (message : List ℕ) (u : List Entry → Told) (strict plain : Run) → Beside message u strict plain.made plain.ends
    → (entries (tags_of (u plain.made)) ≡ plain.made) × (strict ≡ up_to_longer message (tags_of (u plain.made)) plain.ends)
unfolding tags_of
tagged message u strict plain b = let tags = go plain.made b.tags plain.ends b.told in (ap entries tags ∙ b.are, rw tags b.is)
  where
    go : (es : List Entry) (ts : List Tag) (o : Outcome) → Ended message u es ts o → tags_of (u es) ≡ ts
    go es ts (reached y) h = ap tags_of (rw append-nil at (h.0.told []))
    go es ts (refused why p) h = ap tags_of h

-- the plain run's items are its entries, and the strict run is as far as they are in their shortest form
record Readings (c : Checked) (table message : List ℕ) (room : ℕ) : Type 0 where
  plain : Run
  is_plain : read_by false c table room message ≡ plain
  are : entries (items_by c table plain.made) ≡ plain.made
  is : read_by true c table room message ≡ up_to_longer message (items_by c table plain.made) plain.ends

readings : (c : Checked) (table message : List ℕ) (room : ℕ) → Readings c table message room
unfolding read_by items_by tell read read_strict
readings (Err r) table message room = record { plain = record { made = []; ends = refused r.why r.place }; is_plain = refl; are = unfold entries in refl; is = unfold up_to_longer in refl }
readings (Good l) table message room =
    let t = shape_of table l in
    let plain : Run = fit room (read t (front message)) in
    let r = tagged message (tell t) (fit room (read_strict t (front message))) plain ((every (all-strictly message) t).beside room (front message) refl) in
    record { plain = plain; is_plain = reads_plain l table room message; are = r.0; is = r.1 }

-- ---- the promises

pub strict-beside : StrictBeside
unfolding reads reads_strict items
strict-beside table message store = let r = readings (check table) table message (room_of store) in rw r.is_plain r.is

-- the items were all in their shortest form, and the strict run is the plain one; or it was refused with 16
abbrev Decided : (table message store : List ℕ) → Type 0
Decided table message store =
    ((all_shortest message (items table (reads table message store).made) ≡ true) × (reads_strict table message store ≡ reads table message store))
    ⊎ ((all_shortest message (items table (reads table message store).made) ≡ false) × (p : ℕ) × ((reads_strict table message store).ends ≡ refused NotShortest p))

decided : (table message store : List ℕ) → Decided table message store
unfolding reads items
decided table message store = go (all-or-not message (items table plain.made) plain.ends)
  where
    plain : Run
    plain = reads table message store

    are : entries (items table plain.made) ≡ plain.made
    are = let r = readings (check table) table message (room_of store) in rw r.is_plain r.are

    go : ((all_shortest message (items table plain.made) ≡ true)
        × (up_to_longer message (items table plain.made) plain.ends ≡ record { made = entries (items table plain.made); ends = plain.ends }))
        ⊎ ((all_shortest message (items table plain.made) ≡ false) × (p : ℕ)
        × ((up_to_longer message (items table plain.made) plain.ends).ends ≡ refused NotShortest p))
        → Decided table message store
    go (inl h) = inl (h.0, strict-beside table message store ∙ h.1 ∙ ap (λ es. record { made = es; ends = plain.ends }) are)
    go (inr h) = inr (h.0, h.1, ap (λ r. r.ends) (strict-beside table message store) ∙ h.2)

never : {X : Type 0} {r : Run} {es : List Entry} {p : ℕ} {x : Spot} → r.ends ≡ refused NotShortest p → r ≡ record { made = es; ends = reached x } → X
never {p} {x} e q =
    let mixed : refused NotShortest p ≡ reached x = sym e ∙ ap (λ r. r.ends) q in
    let z : ◌≡◌ {A = ℕ} 0 1 = cc in
    absurd (omega arith)

pub strict-done : StrictDone
strict-done table message store es x e = go (decided table message store)
  where
    go : Decided table message store → reads table message store ≡ record { made = es; ends = reached x }
    go (inl h) = sym h.1 ∙ e
    go (inr h) = never h.2 e

pub strict-other : StrictOther
strict-other table message store es why p other e = go (decided table message store)
  where
    go : Decided table message store → reads table message store ≡ record { made = es; ends = refused why p }
    go (inl h) = sym h.1 ∙ e
    go (inr h) = let mixed : refused why p ≡ refused NotShortest h.1 = ap (λ r. r.ends) (sym e) ∙ h.2 in absurd (other (cc))

pub strict-exactly : StrictExactly
strict-exactly table message store es x = go (decided table message store)
  where
    same : reads table message store ≡ record { made = es; ends = reached x } → all_shortest message (items table (reads table message store).made) ≡ all_shortest message (items table es)
    same e = ap (λ r. all_shortest message (items table r.made)) e

    go : Decided table message store
        → (reads_strict table message store ≡ record { made = es; ends = reached x })
        ↔ ((reads table message store ≡ record { made = es; ends = reached x }) × (all_shortest message (items table es) ≡ true))
    go (inl h) = (λ e. let plain = sym h.1 ∙ e in (plain, sym (same plain) ∙ h.0), λ e. h.1 ∙ e.0)
    go (inr h) = (λ e. never h.2 e, λ e. not-both (same e.0 ∙ e.1) h.0)

pub strict-old-table-reads : StrictOldTableReads
unfolding reads_strict
strict-old-table-reads = old-reads-by true
