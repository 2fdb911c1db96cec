-- Telling entries apart leaves none out; a reading and the telling of its entries go on together, item by item; and what a step told, it told part by part.
-- Assumes nothing.
use mathlib.Core.Path.{◌≡◌, refl, sym, ap, ◌∙◌}
use mathlib.Core.Bool.{Bool, true, false}
use mathlib.Core.List.{List, [], ◌∷◌, ◌++◌, map-append, append_assoc}
use Prim.Native.Nat.{ℕ, zero, suc, ◌-◌}
use native.Mathlib.Omega.{arith}
use lib.ListN.{length}
use Rattle.wire.specs.Item.{Item}
use Rattle.wire.specs.Item.{Took, Refused}
use Rattle.wire.specs.Tests.{given}
use Rattle.wire.specs.Shape.{Kind}
use Rattle.wire.specs.Walk.{following, is_known, Walk}
use Rattle.wire.specs.Values.{Entry, Tag, Told, kept, lacks, short, told_after, tell_nothing, tell_on, tell_then, tell_item, telling, tell}
use Rattle.wire.specs.Reading.{head, Spot, Run, Outcome, run_after, read_nothing, read_on, read_then, past, entry_of, enter, read_item, reading, read, within, fit}
use Rattle.laws.specs.Steps.{Every}
use Rattle.laws.specs.Told.{entries, over, TellsAll, Tells, Kept, keeps, cuts, ReadTold}
use Rattle.laws.proofs.Walks.{every}
use Rattle.laws.proofs.Known.{head-known}
use Rattle.laws.proofs.Runs.{fit_then, fit-item, fit_none}

-- ---- what is told is all there is

pub entries-append : (ts us : List Tag) → entries (ts ++ us) ≡ entries ts ++ entries us
unfolding entries
entries-append ts us = map-append _ ts us

record Splits (f : List Entry → Told) : Type 0 where
  whole : (es : List Entry) → over (f es) ≡ es

over-ahead : (ts : List Tag) (t : Told) → over (told_after ts t) ≡ entries ts ++ over t
unfolding over told_after
over-ahead ts (kept us rest) = rw (entries-append ts us) (append_assoc (entries ts) (entries us) rest)
over-ahead ts (lacks us e rest) = rw (entries-append ts us) (append_assoc (entries ts) (entries us) (e ∷ rest))
over-ahead ts (short us) = entries-append ts us

splits-nothing : Splits tell_nothing
unfolding tell_nothing over entries
splits-nothing = record { whole = λ es. refl }

splits-then : {f g : List Entry → Told} → Splits f → Splits g → Splits (tell_then f g)
unfolding tell_then tell_on over
splits-then {f} {g} h k = record { whole = λ es. go (f es) ∙ h.whole es }
  where
    go : (t : Told) → over (tell_on t g) ≡ over t
    go (kept ts rest) = over-ahead ts (g rest) ∙ ap (λ l. entries ts ++ l) (k.whole rest)
    go (lacks ts e rest) = refl
    go (short ts) = refl

splits-item : {f : ℕ → List Entry → Told} (k : Kind) (n : ℕ) → ((a : ℕ) → Splits (f a)) → Splits (tell_item k n f)
unfolding tell_item over given entries
splits-item {f} k n h = record { whole = go }
  where
    entry : (e : Entry) (es : List Entry) (x : Bool)
        → over (given x (λ _. told_after (record { kind = k; entry = e } ∷ []) (f e.first es)) (lacks [] e es)) ≡ e ∷ es
    entry e es true = over-ahead (record { kind = k; entry = e } ∷ []) (f e.first es) ∙ ap {B = List Entry} (λ l. e ∷ l) ((h e.first).whole es)
    entry e es false = refl

    go : (es : List Entry) → over (tell_item k n f es) ≡ es
    go [] = refl
    go (e ∷ es) = entry e es (is_known (following k e.first) n)

splits : Every (λ (i : Unit {0}). telling) (λ f. Splits (f tt))
splits = record { none = splits-nothing; both = splits-then; made = λ f k n. splits-item k n }

pub tells_all : TellsAll
unfolding tell
tells_all t = (every splits t).whole

-- ---- what a step tells

pub nothing_tells : Tells tell_nothing [] []
unfolding tell_nothing
nothing_tells = record { told = λ rest. refl }

pub then-tells : {u v : List Entry → Told} {es fs : List Entry} {ts us : List Tag} → Tells u es ts → Tells v fs us → Tells (tell_then u v) (es ++ fs) (ts ++ us)
unfolding tell_then tell_on told_after
then-tells {es} {fs} {ts} {us} a b = record { told = λ rest. rw (append_assoc es fs rest, a.told (fs ++ rest), b.told rest) }

pub item-tells : (k : Kind) (n : ℕ) (next : ℕ → List Entry → Told) (e : Entry) {es : List Entry} {ts : List Tag} → is_known (following k e.first) n ≡ true
    → Tells (next e.first) es ts → Tells (tell_item k n next) (e ∷ es) (record { kind = k; entry = e } ∷ ts)
unfolding tell_item told_after given
item-tells k n next e h a = record { told = λ rest. rw (h, a.told rest) }

-- ---- beside a reading

record Telling (f : Spot → Run) (u : List Entry → Told) : Type 0 where
  tells : (room : ℕ) (x : Spot) → Kept u (fit room (f x)).made (fit room (f x)).ends

nothing-kept : Telling read_nothing tell_nothing
unfolding read_nothing fit within
nothing-kept = record { tells = λ room x. keeps [] nothing_tells }

both-kept : {f g : Spot → Run} {u v : List Entry → Told} → Telling f u → Telling g v → Telling (read_then f g) (tell_then u v)
both-kept {f} {g} {u} {v} h k = record { tells = λ room x. rw (fit_then room f g x) (first room (fit room (f x)).made (h.tells room x)) }
  where
    second : (es : List Entry) {fs : List Entry} {o : Outcome} {ts : List Tag} → Tells u es ts → Kept v fs o → Kept (tell_then u v) (es ++ fs) o
    second es {ts} a (keeps us b) = keeps (ts ++ us) (then-tells a b)
    second es {fs} {ts} a (cuts us b) = cuts (ts ++ us) (unfold tell_then in rw (a.told fs) (unfold tell_on in rw b (unfold told_after in refl)))

    first : (room : ℕ) (es : List Entry) {o : Outcome} → Kept u es o
        → Kept (tell_then u v) (read_on es o (λ y. fit (room - length es) (g y))).made (read_on es o (λ y. fit (room - length es) (g y))).ends
    first room es (keeps {y} ts a) = unfold read_on run_after in second es a (k.tells (room - length es) y)
    first room es (cuts ts a) = unfold read_on in cuts ts (unfold tell_then in rw a (unfold tell_on in refl))

made_kept : (k : Kind) (n : ℕ) (next : ℕ → Spot → Run) (next' : ℕ → List Entry → Told) → ((a : ℕ) → Telling (next a) (next' a))
    → Telling (read_item head k n next) (tell_item k n next')
made_kept k n next next' h = record { tells = go }
  where
    inside : (e : Entry) {fs : List Entry} {o : Outcome} → is_known (following k e.first) n ≡ true → Kept (next' e.first) fs o → Kept (tell_item k n next') (e ∷ fs) o
    inside e q (keeps ts a) = keeps (record { kind = k; entry = e } ∷ ts) (item-tells k n next' e q a)
    inside e q (cuts ts a) = cuts (record { kind = k; entry = e } ∷ ts) (unfold tell_item in rw q (unfold given in rw a (unfold told_after in refl)))

    item : (room : ℕ) (x : Spot) (i : Item) → head k n x.place x.bytes ≡ i
        → Kept (tell_item k n next') (enter i (λ a y. fit room (next a y)) x).made (enter i (λ a y. fit room (next a y)) x).ends
    item room x (Refused e) q = unfold enter in cuts [] (unfold tell_item in refl)
    item room x (Took own) q =
        unfold enter run_after in inside (entry_of own x) (head-known k n x.place x.bytes q) ((h own.first).tells room (past own.used x))

    go : (room : ℕ) (x : Spot) → Kept (tell_item k n next') (fit room (read_item head k n next x)).made (fit room (read_item head k n next x)).ends
    go zero x = rw (fit_none head k n next x) (cuts [] (unfold tell_item in refl))
    go (suc room) x = rw (fit-item head k n next x room) (unfold read_item in item room x (head k n x.place x.bytes) refl)

abbrev two : Bool → Walk
two true = reading head
two false = telling

pub read_told : ReadTold
unfolding read tell
read_told t = (every law t).tells
  where
    law : Every two (λ f. Telling (f true) (f false))
    law =
        record {
          none = nothing-kept;
          both = both-kept;
          made = λ f k n h. made_kept k n (λ a. f (following k a) true) (λ a. f (following k a) false) h;
        }

-- ---- what a step told

pub record ThenKept (u v : List Entry → Told) (es : List Entry) (ts : List Tag) (rest : List Entry) : Type 0 where
  pub between : List Entry
  pub these : List Tag
  pub those : List Tag
  pub first : u es ≡ kept these between
  pub second : v between ≡ kept those rest
  pub all : ts ≡ these ++ those

pub then-kept : (u v : List Entry → Told) (es : List Entry) (ts : List Tag) (rest : List Entry) → tell_then u v es ≡ kept ts rest → ThenKept u v es ts rest
unfolding tell_then tell_on
then-kept u v es ts rest = go (u es) refl
  where
    on : (us : List Tag) (fs : List Entry) → u es ≡ kept us fs → (x : Told) → v fs ≡ x → told_after us x ≡ kept ts rest → ThenKept u v es ts rest
    on us fs a (kept ws gs) b e = unfold told_after in
        let c : gs ≡ rest = cc in
        record { between = fs; these = us; those = ws; first = a; second = rw (← c) b; all = let d : us ++ ws ≡ ts = cc in sym d }
    on us fs a (lacks ws f gs) b e = unfold told_after in (let z : ◌≡◌ {A = ℕ} 0 1 = cc in absurd (omega arith))
    on us fs a (short ws) b e = unfold told_after in (let z : ◌≡◌ {A = ℕ} 0 1 = cc in absurd (omega arith))

    go : (x : Told) → u es ≡ x → tell_on x v ≡ kept ts rest → ThenKept u v es ts rest
    go (kept us fs) a e = on us fs a (v fs) refl e
    go (lacks us f fs) a e = let z : ◌≡◌ {A = ℕ} 0 1 = cc in absurd (omega arith)
    go (short us) a e = let z : ◌≡◌ {A = ℕ} 0 1 = cc in absurd (omega arith)

pub record ItemKept (k : Kind) (next : ℕ → List Entry → Told) (es : List Entry) (ts : List Tag) (rest : List Entry) : Type 0 where
  pub entry : Entry
  pub inside : List Entry
  pub those : List Tag
  pub list : es ≡ entry ∷ inside
  pub told : next entry.first inside ≡ kept those rest
  pub all : ts ≡ record { kind = k; entry = entry } ∷ those

pub item-kept : (k : Kind) (n : ℕ) (next : ℕ → List Entry → Told) (es : List Entry) (ts : List Tag) (rest : List Entry)
    → tell_item k n next es ≡ kept ts rest → ItemKept k next es ts rest
unfolding tell_item
item-kept k n next [] ts rest q = let z : ◌≡◌ {A = ℕ} 0 1 = cc in absurd (omega arith)
item-kept k n next (e ∷ es) ts rest q = go (is_known (following k e.first) n) q
  where
    on : (x : Told) → next e.first es ≡ x → told_after (record { kind = k; entry = e } ∷ []) x ≡ kept ts rest → ItemKept k next (e ∷ es) ts rest
    on (kept ws gs) b q = unfold told_after in
        let c : gs ≡ rest = cc in
        record { entry = e; inside = es; those = ws; list = refl; told = rw (← c) b; all = let d : record { kind = k; entry = e } ∷ ws ≡ ts = cc in sym d }
    on (lacks ws f gs) b q = unfold told_after in (let z : ◌≡◌ {A = ℕ} 0 1 = cc in absurd (omega arith))
    on (short ws) b q = unfold told_after in (let z : ◌≡◌ {A = ℕ} 0 1 = cc in absurd (omega arith))

    go : (b : Bool) → given b (λ _. told_after (record { kind = k; entry = e } ∷ []) (next e.first es)) (lacks [] e es) ≡ kept ts rest → ItemKept k next (e ∷ es) ts rest
    go true q = unfold given in on (next e.first es) refl q
    go false q = unfold given in (let z : ◌≡◌ {A = ℕ} 0 1 = cc in absurd (omega arith))
