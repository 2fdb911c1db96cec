-- What an old shape and one that appends to it tell of the same entries: the new one's tags begin with the old one's.
-- Assumes nothing.
use mathlib.Core.Path.{◌≡◌, refl, sym, ap, ◌∙◌}
use mathlib.Core.Bool.{Bool, true, false}
use mathlib.Core.List.{List, [], ◌∷◌, ◌++◌, append-nil, append_assoc}
use Prim.Native.Nat.{ℕ, ◌≤◌}
use native.Mathlib.Omega.{arith}
use borrow.Author.Tests.{ltb-true, lt-ltb}
use Rattle.wire.specs.Tests.{given}
use Rattle.wire.specs.Shape.{Kind, struct, Shape, Shapes}
use Rattle.wire.specs.Walk.{Follow, each, only, following, is_known, Walk}
use Rattle.wire.specs.Values.{Entry, Tag, Told, kept, lacks, short, told_after, tell_nothing, tell_on, tell_then, tell_item, telling, tell}
use Rattle.wire.specs.Append.{Appends}
use Rattle.laws.specs.Steps.{row, Law, Appending}
use Rattle.laws.proofs.Walks.{appends-law}
use Rattle.promises.proofs.Told.{told-nothing}

-- ---- the tags

-- those that were told, whatever stopped it
unfoldable pub tags : Told → List Tag
tags (kept ts rest) = ts
tags (lacks ts e rest) = ts
tags (short ts) = ts

tags-ahead : (ts : List Tag) (t : Told) → tags (told_after ts t) ≡ ts ++ tags t
unfolding tags told_after
tags-ahead ts (kept us rest) = refl
tags-ahead ts (lacks us e rest) = refl
tags-ahead ts (short us) = refl

-- a step behind another adds to what was told
tags-on : (t : Told) (g : List Entry → Told) → (more : List Tag) × (tags (tell_on t g) ≡ tags t ++ more)
unfolding tags tell_on
tags-on (kept ts rest) g = (tags (g rest), tags-ahead ts (g rest))
tags-on (lacks ts e rest) g = ([], sym (append-nil ts))
tags-on (short ts) g = ([], sym (append-nil ts))

-- the same is told; or the old one has lost it where its variants end, and the new one's begins with what the old one told
data Front : Told → Told → Type 0 where
  same : {t : Told} → Front t t
  lost : {ts : List Tag} {e : Entry} {rest : List Entry} {t : Told} (us : List Tag) → tags t ≡ ts ++ us → Front (lacks ts e rest) t

record Leads (f g : List Entry → Told) : Type 0 where
  leads : (es : List Entry) → Front (f es) (g es)

front-ahead : {t u : Told} (ts : List Tag) → Front t u → Front (told_after ts t) (told_after ts u)
unfolding told_after
front-ahead ts same = same
front-ahead ts (lost {ts = rs} {t} us h) = lost us (tags-ahead ts t ∙ ap (λ l. ts ++ l) h ∙ sym (append_assoc ts rs us))

leads-nothing : Leads tell_nothing tell_nothing
leads-nothing = record { leads = λ es. same }

leads-then : {f f' g g' : List Entry → Told} → Leads f g → Leads f' g' → Leads (tell_then f f') (tell_then g g')
unfolding tell_then tell_on
leads-then {f} {f'} {g} {g'} h k = record { leads = λ es. go (h.leads es) }
  where
    go : {t u : Told} → Front t u → Front (tell_on t f') (tell_on u g')
    go (same {t = kept ts rest}) = front-ahead ts (k.leads rest)
    go (same {t = lacks ts e rest}) = same
    go (same {t = short ts}) = same
    go (lost {ts} {t} us h) = let m = tags-on t g' in lost (us ++ m.0) (m.1 ∙ ap (λ l. l ++ m.0) h ∙ append_assoc ts us m.0)

known_more : (way : Follow) (n m : ℕ) → n ≤ m → is_known way n ≡ true → is_known way m ≡ true
unfolding is_known
known_more (each c) n m h e = refl
known_more (only v) n m h e = let l = ltb-true v n e in lt-ltb v m (omega arith)

leads-item : {f g : ℕ → List Entry → Told} (k : Kind) (n m : ℕ) → n ≤ m → ((a : ℕ) → is_known (following k a) n ≡ true → Leads (f a) (g a)) → Leads (tell_item k n f) (tell_item k m g)
unfolding tell_item given
leads-item {f} {g} k n m l h = record { leads = go }
  where
    entry : (e : Entry) (es : List Entry) (x : Bool) → is_known (following k e.first) n ≡ x
        → Front (given x (λ _. told_after (record { kind = k; entry = e } ∷ []) (f e.first es)) (lacks [] e es)) (tell_item k m g (e ∷ es))
    entry e es true t = rw (known_more (following k e.first) n m l t) (front-ahead _ ((h e.first t).leads es))
    entry e es false t = lost (tags (tell_item k m g (e ∷ es))) refl

    go : (es : List Entry) → Front (tell_item k n f es) (tell_item k m g es)
    go [] = same
    go (e ∷ es) = entry e es (is_known (following k e.first) n) refl

abbrev tellings : Unit {0} → Walk
tellings _ = telling

leading : Law tellings tellings (λ f g. Leads (f tt) (g tt))
leading = record { none = leads-nothing; both = leads-then; made = λ f g k n m l. leads-item k n m l }

-- ---- appended fields

record Begins (f g : List Entry → Told) : Type 0 where
  begins : (es : List Entry) → (more : List Tag) × (tags (g es) ≡ tags (f es) ++ more)

begins-whole : {f g : List Entry → Told} → Leads f g → Begins f g
unfolding tags
begins-whole h = record { begins = λ es. go (h.leads es) }
  where
    go : {t u : Told} → Front t u → (more : List Tag) × (tags u ≡ tags t ++ more)
    go (same {t}) = ([], sym (append-nil (tags t)))
    go (lost us h) = (us, h)

begins-then : {f f' g g' : List Entry → Told} → Leads f g → Begins f' g' → Begins (tell_then f f') (tell_then g g')
unfolding tell_then tell_on tags
begins-then {f} {f'} {g} {g'} h k = record { begins = λ es. go (h.leads es) }
  where
    go : {t u : Told} → Front t u → (more : List Tag) × (tags (tell_on u g') ≡ tags (tell_on t f') ++ more)
    go (same {t = kept ts rest}) =
        let m = k.begins rest in (m.0, rw (tags-ahead ts (g' rest), tags-ahead ts (f' rest), m.1) (sym (append_assoc ts (tags (f' rest)) m.0)))
    go (same {t = lacks ts e rest}) = ([], sym (append-nil ts))
    go (same {t = short ts}) = ([], sym (append-nil ts))
    go (lost {ts} {t} us h) = let m = tags-on t g' in (us ++ m.0, m.1 ∙ ap (λ l. l ++ m.0) h ∙ append_assoc ts us m.0)

begins-end : (ts : Shapes) → Begins tell_nothing (row telling ts)
unfolding tell_nothing tags
begins-end ts = record { begins = λ es. (tags (row telling ts es), refl) }

begins-root : {f g : List Entry → Told} (n m : ℕ) → Begins f g → Begins (tell_item struct n (λ a. tell_then f tell_nothing)) (tell_item struct m (λ a. tell_then g tell_nothing))
unfolding tell_item following is_known given tell_then tags
begins-root {f} {g} n m h = record { begins = go }
  where
    go : (es : List Entry) → (more : List Tag) × (tags (tell_item struct m (λ a. tell_then g tell_nothing) es) ≡ tags (tell_item struct n (λ a. tell_then f tell_nothing) es) ++ more)
    go [] = ([], refl)
    go (e ∷ es) = let b = h.begins es in (b.0, rw (told-nothing (f es), told-nothing (g es), tags-ahead _ (f es), tags-ahead _ (g es), b.1))

appending : Appending tellings tellings (λ f g. Leads (f tt) (g tt)) (λ f g. Begins (f tt) (g tt))
appending = record { whole = begins-whole; end = begins-end; next = begins-then; root = begins-root }

pub tags-begin : {old new : Shape} → Appends old new → (es : List Entry) → (more : List Tag) × (tags (tell new es) ≡ tags (tell old es) ++ more)
unfolding tell
tags-begin a es = (appends-law leading appending a).begins es
