-- A message that the new shape reads, read by the old one: both readings and the telling of the entries go on together.
-- Assumes nothing.
use mathlib.Core.Path.{◌≡◌, refl, sym, ap, ◌∙◌}
use mathlib.Core.Bool.{Bool, true, false}
use mathlib.Core.List.{List, [], ◌∷◌, ◌++◌, append-nil, append_assoc}
use mathlib.Core.Option.{some}
use Prim.Native.Nat.{ℕ, ◌≤◌}
use native.Mathlib.Nat.{zero-add}
use native.Mathlib.Omega.{arith}
use lib.Dec.{ltb}
use Rattle.wire.specs.declared.Refusal.{Refusal}
use Rattle.wire.specs.declared.Refusal.TheVariants.{Variant, NotShortest}
use Rattle.wire.specs.declared.Own.{Own}
use Rattle.wire.specs.Item.{Item}
use Rattle.wire.specs.Item.{Took, Refused}
use Rattle.wire.specs.Tests.{pick, given}
use Rattle.wire.specs.Shape.{w32, Kind, plain, pooled, option, sequence, map, struct, enum, Shapes}
use Rattle.wire.specs.Walk.{following, is_known, Walk}
use Rattle.wire.specs.Values.{Entry, Tag, Told, kept, lacks, told_after, tell_nothing, tell_on, tell_then, tell_item, telling, tell}
use Rattle.wire.specs.Numbers.{varint}
use Rattle.wire.specs.Reading.{known, head, strictly, judged, head_by, Spot, front, Outcome, reached, refused, Run, run_after, read_nothing, read_on, read_then, past, entry_of, enter, read_item, reading}
use Rattle.laws.specs.Steps.{row, Law, Appending}
use Rattle.laws.specs.Bounds.{start, Stays, reaches}
use Rattle.laws.specs.Told.{entries}
use Rattle.laws.proofs.Walks.{walk-law, appends-law, matches-refl}
use Rattle.laws.proofs.Bounds.{head-by-sound, read_stays, row_stays}
use Rattle.laws.proofs.Runs.{then-nothing}
use Rattle.laws.proofs.Told.{entries-append}
use Rattle.promises.specs.Shapes.{read_with, seen, ShapeOldReads, MatchingWhole}
use Rattle.promises.specs.Telling.{OwnTold}
use Rattle.promises.proofs.Told.{told-nothing}

-- ---- the relation

-- the new run made the entries es, others follow, and it ended at y: what the old one made and how it ended, beside what is told
data Same (es rest : List Entry) (y : Spot) (made : List Entry) : Told → Outcome → Type 0 where
  whole : (ts : List Tag) → entries ts ≡ es → made ≡ es → Same es rest y made (kept ts rest) (reached y)
  lacking : (ts : List Tag) {e : Entry} {back : List Entry} → made ≡ entries ts → Same es rest y made (lacks ts e back) (refused Variant e.place)

-- what is told tells the old run, if the new one reached its end
data Tells (w : List Entry → Told) (old : Run) (es : List Entry) : Outcome → Type 0 where
  told : {y : Spot} → ((rest : List Entry) → Same es rest y old.made (w (es ++ rest)) old.ends) → Tells w old es (reached y)
  silent : {e : Refusal} {p : ℕ} → Tells w old es (refused e p)

record Keeps (w : List Entry → Told) (f g : Spot → Run) : Type 0 where
  tells : (x : Spot) → Tells w (f x) (g x).made (g x).ends

keeps-nothing : Keeps tell_nothing read_nothing read_nothing
unfolding tell_nothing read_nothing entries
keeps-nothing = record { tells = λ x. told (λ rest. whole [] refl refl) }

-- ---- one after the other

same_ahead : {es fs rest made gs : List Entry} {z : Spot} {w : Told} {o : Outcome} (ts : List Tag)
    → entries ts ≡ es → made ≡ es → Same fs rest z gs w o → Same (es ++ fs) rest z (made ++ gs) (told_after ts w) o
unfolding told_after
same_ahead ts a b (whole us c d) = whole (ts ++ us) (rw (entries-append ts us, a, c)) (rw (b, d))
same_ahead ts a b (lacking us c) = lacking (ts ++ us) (rw (entries-append ts us, a, b, c))

keeps_then : {w v : List Entry → Told} {f f' g g' : Spot → Run} → Keeps w f g → Keeps v f' g' → Keeps (tell_then w v) (read_then f f') (read_then g g')
unfolding tell_then tell_on read_then read_on run_after
keeps_then {w} {v} {f} {f'} {g} {g'} h k = record { tells = λ x. start' (f x) (h.tells x) }
  where
    next : {es fs rest made : List Entry} {y z : Spot} {t : Told} {o : Outcome} → Same es (fs ++ rest) y made t o
        → Same fs rest z (f' y).made (v (fs ++ rest)) (f' y).ends
        → Same (es ++ fs) rest z (read_on made o f').made (tell_on t v) (read_on made o f').ends
    next (whole ts a b) s = same_ahead ts a b s
    next (lacking ts a) s = lacking ts a

    start' : (old : Run) {es : List Entry} {o : Outcome} → Tells w old es o
        → Tells (tell_then w v) (read_on old.made old.ends f') (read_on es o g').made (read_on es o g').ends
    start' old silent = silent
    start' old {es} (told {y} s) = go (k.tells y)
      where
        go : {fs : List Entry} {o : Outcome} → Tells v (f' y) fs o → Tells (tell_then w v) (read_on old.made old.ends f') (es ++ fs) o
        go silent = silent
        go {fs} (told {y = z} t) = told {y = z} (λ rest. rw (append_assoc es fs rest) (next (s (fs ++ rest)) (t rest)))

-- ---- an item

-- an item's own bytes under the old count of children and under the new one: taken alike, or taken by the new one alone, with a variant that the old one lacks
data Heads (k : Kind) (n : ℕ) (old : Item) : Item → Type 0 where
  alike : {own : Own} → old ≡ Took own → Heads k n old (Took own)
  lacked : {own : Own} → old ≡ Refused Variant → is_known (following k own.first) n ≡ false → Heads k n old (Took own)
  neither : {e : Refusal} → Heads k n old (Refused e)

heads : (k : Kind) (n m p : ℕ) (s : List ℕ) → Heads k n (head k n p s) (head k m p s)
unfolding head known pick following is_known
heads k n m p s = go k
  where
    self : {k : Kind} (i : Item) → Heads k n i i
    self (Took own) = alike refl
    self (Refused e) = neither

    variant : (i : Item) → Heads enum n (known n i) (known m i)
    variant (Refused e) = neither
    variant (Took own) = test (ltb own.first n) (ltb own.first m) refl
      where
        test : (x y : Bool) → ltb own.first n ≡ x → Heads enum n (pick x (Took own) (Refused Variant)) (pick y (Took own) (Refused Variant))
        test x false e = neither
        test true true e = alike refl
        test false true e = lacked refl e

    go : (k : Kind) → Heads k n (head k n p s) (head k m p s)
    go (plain l) = self _
    go (pooled c) = self _
    go option = self _
    go sequence = self _
    go map = self _
    go struct = self _
    go enum = variant (varint w32 s)

-- what a strict reading takes besides is alike under both counts
judged-heads : (strict : Bool) {k : Kind} {n : ℕ} {i j : Item} → Heads k n i j → Heads k n (judged strict i) (judged strict j)
unfolding judged strictly pick
judged-heads false h = h
judged-heads true neither = neither
judged-heads true {k} {n} {i} (alike {own} e) = rw e (go own.shortest)
  where
    go : (t : Bool) → Heads k n (pick t (Took own) (Refused NotShortest)) (pick t (Took own) (Refused NotShortest))
    go true = alike refl
    go false = neither
judged-heads true {k} {n} {i} (lacked {own} e t) = rw e (go own.shortest)
  where
    go : (x : Bool) → Heads k n (Refused Variant) (pick x (Took own) (Refused NotShortest))
    go true = lacked refl t
    go false = neither

keeps-item : (strict : Bool) {w : ℕ → List Entry → Told} {f g : ℕ → Spot → Run} (k : Kind) (n m : ℕ) → n ≤ m
    → ((a : ℕ) → is_known (following k a) n ≡ true → Keeps (w a) (f a) (g a))
    → Keeps (tell_item k n w) (read_item (head_by strict) k n f) (read_item (head_by strict) k m g)
unfolding tell_item read_item head_by enter run_after given entries
keeps-item strict {w} {f} {g} k n m l h =
    record { tells = λ x. go x (λ own. (head-by-sound strict).knows k n x.place x.bytes {own = own}) (judged-heads strict (heads k n m x.place x.bytes)) }
  where
    entry : {es : List Entry} {o : Outcome} {old : Run} (e : Entry) → is_known (following k e.first) n ≡ true → Tells (w e.first) old es o
        → Tells (tell_item k n w) (run_after (e ∷ []) old) (e ∷ es) o
    entry e t silent = silent
    entry e t (told {y} s) = told {y = y} (λ rest. rw t (same_ahead (record { kind = k; entry = e } ∷ []) refl refl (s rest)))

    unknown : {es : List Entry} (e : Entry) → is_known (following k e.first) n ≡ false → (o : Outcome)
        → Tells (tell_item k n w) (record { made = []; ends = refused Variant e.place }) (e ∷ es) o
    unknown e t (refused r p) = silent
    unknown e t (reached y) = told {y = y} (λ rest. rw t (lacking [] refl))

    go : (x : Spot) {i j : Item} → ((own : Own) → i ≡ Took own → is_known (following k own.first) n ≡ true) → Heads k n i j → Tells (tell_item k n w) (enter i f x) (enter j g x).made (enter j g x).ends
    go x kn neither = silent
    go x kn (alike {own} e) = rw e (entry (entry_of own x) (kn own e) ((h own.first (kn own e)).tells (past own.used x)))
    go x kn (lacked {own} e t) = rw e (unknown (entry_of own x) t (g own.first (past own.used x)).ends)

-- ---- shapes that match

-- the old shape's two walks
data Old : Type 0 where
  told-by read_by_lem : Old

abbrev olds : (strict : Bool) → Old → Walk
olds strict told-by = telling
olds strict read_by_lem = reading (head_by strict)

abbrev news : (strict : Bool) → Unit {0} → Walk
news strict _ = reading (head_by strict)

keeps : (strict : Bool) → Law (olds strict) (news strict) (λ f g. Keeps (f told-by) (f read_by_lem) (g tt))
keeps strict = record { none = keeps-nothing; both = keeps_then; made = λ f g k n m l. keeps-item strict k n m l }

pub own-told : OwnTold
unfolding tell
own-told strict t x y es rest e = go (rw e at ((walk-law (keeps strict) (matches-refl t)).tells x))
  where
    end : {u : Told} {z : Spot} → Same es rest y es u (reached z) → (ts : List Tag) × (entries ts ≡ es) × (u ≡ kept ts rest)
    end (whole ts a b) = (ts, a, refl)

    go : Tells (tell t) (record { made = es; ends = reached y }) es (reached y) → (ts : List Tag) × (entries ts ≡ es) × (tell t (es ++ rest) ≡ kept ts rest)
    go (told s) = end (s rest)

pub matching-whole : MatchingWhole
unfolding tell
matching-whole old new m x y es rest front e w = go (rw e at ((walk-law (keeps false) m).tells x))
  where
    end : {u : Told} {o : Outcome} {made : List Entry} → u ≡ kept front rest → Same es [] y made u o → (entries front ≡ es) × (rest ≡ [])
    end q (whole ts a b) = (ap entries (sym (cc)) ∙ a, cc)
    end q (lacking ts a) = let z : ◌≡◌ {A = ℕ} 0 1 = cc in absurd (omega arith)

    go : {old' : Run} → Tells (tell old) old' es (reached y) → (entries front ≡ es) × (rest ≡ [])
    go (told s) = end (rw (append-nil es) w) (s [])

-- ---- appended fields

-- the new run ended at a place: what the old one made and how it ended, beside what is told of the new one's entries
data Part (end : ℕ) (made : List Entry) : Told → Outcome → Type 0 where
  part : (ts : List Tag) {rest : List Entry} {z : Spot} → made ≡ entries ts → z.place ≡ start rest end → Part end made (kept ts rest) (reached z)
  lacking : (ts : List Tag) {e : Entry} {back : List Entry} → made ≡ entries ts → Part end made (lacks ts e back) (refused Variant e.place)

data Begun (w : List Entry → Told) (old : Run) (es : List Entry) : Outcome → Type 0 where
  begun : {y : Spot} → Part y.place old.made (w es) old.ends → Begun w old es (reached y)
  silent : {e : Refusal} {p : ℕ} → Begun w old es (refused e p)

record Begins (w : List Entry → Told) (f g : Spot → Run) : Type 0 where
  begins : (x : Spot) → Begun w (f x) (g x).made (g x).ends

part-ahead : {end : ℕ} {made gs : List Entry} {w : Told} {o : Outcome} (ts : List Tag) → made ≡ entries ts → Part end gs w o → Part end (made ++ gs) (told_after ts w) o
unfolding told_after
part-ahead ts a (part us c d) = part (ts ++ us) (rw (entries-append ts us, a, c)) d
part-ahead ts a (Part.lacking us c) = Part.lacking (ts ++ us) (rw (entries-append ts us, a, c))

-- all of the new one's fields are behind the old ones
begins-end : (strict : Bool) (ts : Shapes) → Begins tell_nothing read_nothing (row (reading (head_by strict)) ts)
unfolding tell_nothing read_nothing entries
begins-end strict ts = record { begins = λ x. go x (row_stays (head-by-sound strict) ts x) }
  where
    go : (x : Spot) {es : List Entry} {o : Outcome} → Stays x es o → Begun tell_nothing (read_nothing x) es o
    go x (reaches n l e s) = begun (part [] refl (sym s))
    go x (Stays.refuses l e s) = Begun.silent

begins-then : {w v : List Entry → Told} {f f' g g' : Spot → Run} → Keeps w f g → Begins v f' g' → Begins (tell_then w v) (read_then f f') (read_then g g')
unfolding tell_then tell_on read_then read_on run_after
begins-then {w} {v} {f} {f'} {g} {g'} h k = record { begins = λ x. first (f x) (h.tells x) }
  where
    next : {es fs made : List Entry} {y : Spot} {end : ℕ} {t : Told} {o : Outcome} → Same es fs y made t o
        → Part end (f' y).made (v fs) (f' y).ends → Part end (read_on made o f').made (tell_on t v) (read_on made o f').ends
    next (whole ts a b) s = part-ahead ts (b ∙ sym a) s
    next (Same.lacking ts a) s = Part.lacking ts a

    first : (old : Run) {es : List Entry} {o : Outcome} → Tells w old es o
        → Begun (tell_then w v) (read_on old.made old.ends f') (read_on es o g').made (read_on es o g').ends
    first old Tells.silent = Begun.silent
    first old {es} (told {y} s) = go (k.begins y)
      where
        go : {fs : List Entry} {o : Outcome} → Begun v (f' y) fs o → Begun (tell_then w v) (read_on old.made old.ends f') (es ++ fs) o
        go Begun.silent = Begun.silent
        go {fs} (begun {y = z} t) = begun {y = z} (next (s fs) t)

begins-whole : {w : List Entry → Told} {f g : Spot → Run} → Keeps w f g → Begins w f g
unfolding start
begins-whole {w} h = record { begins = λ x. go (h.tells x) }
  where
    end : {es made : List Entry} {y : Spot} {t : Told} {o : Outcome} → Same es [] y made t o → Part y.place made t o
    end (whole ts a b) = part ts (b ∙ sym a) refl
    end (Same.lacking ts a) = Part.lacking ts a

    go : {old : Run} {es : List Entry} {o : Outcome} → Tells w old es o → Begun w old es o
    go Tells.silent = Begun.silent
    go {es} (told {y} s) = begun {y = y} (end (rw (append-nil es) at (s [])))

begins-once : {w : List Entry → Told} {f g : Spot → Run} → Begins w f g
    → Begins (tell_then w tell_nothing) (read_then f read_nothing) (read_then g read_nothing)
unfolding tell_then
begins-once {w} {f} {g} h = record { begins = λ x. rw (then-nothing f x, then-nothing g x) (go (h.begins x)) }
  where
    go : {old : Run} {es : List Entry} {o : Outcome} → Begun w old es o → Begun (tell_then w tell_nothing) old es o
    go {es} (begun {y} t) = begun {y = y} (rw (told-nothing (w es)) t)
    go Begun.silent = Begun.silent

-- a struct's entry in front
begins-root : (strict : Bool) {w : List Entry → Told} {f g : Spot → Run} (n m : ℕ) → Begins w f g
    → Begins (tell_item struct n (λ a. tell_then w tell_nothing)) (read_item (head_by strict) struct n (λ a. read_then f read_nothing)) (read_item (head_by strict) struct m (λ a. read_then g read_nothing))
unfolding tell_item read_item enter run_after given following is_known entries
begins-root strict {w} n m h =
    let bare = (head-by-sound strict).bare in
    record { begins = λ x. rw (bare n x.place x.bytes, bare m x.place x.bytes) (go (record { first = 0; second = 0; place = x.place }) ((begins-once h).begins (past 0 x))) }
  where
    go : {old : Run} {es : List Entry} {o : Outcome} (e : Entry) → Begun (tell_then w tell_nothing) old es o
        → Begun (tell_item struct n (λ a. tell_then w tell_nothing)) (run_after (e ∷ []) old) (e ∷ es) o
    go e (begun {y} t) = begun {y = y} (part-ahead (record { kind = struct; entry = e } ∷ []) refl t)
    go e Begun.silent = Begun.silent

appending : (strict : Bool) → Appending (olds strict) (news strict) (λ f g. Keeps (f told-by) (f read_by_lem) (g tt)) (λ f g. Begins (f told-by) (f read_by_lem) (g tt))
appending strict = record { whole = begins-whole; end = begins-end strict; next = begins-then; root = begins-root strict }

-- ---- the law

pub shape-old-reads : ShapeOldReads
unfolding seen past tell
shape-old-reads strict old new a message es end e = go (rw e at ((appends-law (keeps strict) (appending strict) a).begins (front message)))
  where
    ended : {made fs : List Entry} {t : Told} {o : Outcome} → Part end.place made t o → Stays (front message) fs o → seen message end.place t ≡ some (record { made = made; ends = o })
    ended (part ts {rest} {z} a b) (reaches n l c s) =
        let q : n ≡ start rest end.place = sym (zero-add n) ∙ sym (ap (λ y. y.place) c) ∙ b in
        rw (a, c, zero-add n, q)
    ended (Part.lacking ts a) s = rw a

    go : Begun (tell old) (read_with strict old (front message)) es (reached end) → seen message end.place (tell old es) ≡ some (read_with strict old (front message))
    go (begun p) = ended p (read_stays (head-by-sound strict) old (front message))
