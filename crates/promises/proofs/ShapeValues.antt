-- An old reading with a store is seen in the new one, and has the values that the new one's begin with.
-- Assumes nothing.
use mathlib.Core.Path.{◌≡◌, refl, ap, subst, ◌∙◌}
use mathlib.Core.Bool.{Bool}
use mathlib.Core.List.{List, [], ◌++◌, map-append, append-nil}
use mathlib.Core.List as lists
use mathlib.Core.Option.{some}
use Prim.Native.Nat.{ℕ, ◌≤◌}
use native.Mathlib.Omega.{arith}
use lib.ListN.{length, length-append}
use Rattle.wire.specs.Shape.{Shape}
use Rattle.wire.specs.Values.{Entry, Tag, Told, kept, lacks, short, tell, Value, value_of, valued, values}
use Rattle.wire.specs.Reading.{Spot, front, reached, Run, fit}
use Rattle.laws.specs.Told.{entries, over}
use Rattle.laws.proofs.Runs.{within-reached, within-refused, fit-reached}
use Rattle.laws.proofs.Told.{tells_all}
use Rattle.promises.specs.Shapes.{read_with, seen, ShapeOldReadsWithin, OldValues, all-kept, cut, ShapeNeverAnother}
use Rattle.promises.proofs.Told.{kept_again, lacks-again}
use Rattle.promises.proofs.ShapeReads.{own-told, shape-old-reads}
use Rattle.promises.proofs.Begin.{tags, tags-begin}

-- ---- with a store

fit_same : (room : ℕ) {o r : Run} → fit room o ≡ o → some o ≡ some r → some o ≡ some (fit room r)
fit_same room f e = cc

-- what is seen of a reading that has enough room has enough
seen-within : (room : ℕ) (message : List ℕ) (end : ℕ) {es : List Entry} (t : Told) (r : Run) → over t ≡ es → length es ≤ room
    → seen message end t ≡ some r → seen message end t ≡ some (fit room r)
unfolding seen over fit
seen-within room message end (kept ts rest) r h l e = fit_same room (within-reached room (entries ts) _ (omega (arith, simp length-append at (ap length h)))) e
seen-within room message end (lacks ts x rest) r h l e = fit_same room (within-refused room (entries ts) _ _ (omega (arith, simp length-append at (ap length h)))) e
seen-within room message end (short ts) r h l e = cc

pub shape-old-reads-within : ShapeOldReadsWithin
shape-old-reads-within strict old new a room message es end e =
    let enough = fit-reached room (read_with strict new (front message)) es end e in
    seen-within room message end.place (tell old es) _ (tells_all old es) enough.0 (shape-old-reads strict old new a message es end enough.1)

-- ---- the values

-- the new reading's values are all of its entries'
new-whole : (strict : Bool) (new : Shape) (message : List ℕ) (es : List Entry) (end : Spot)
    → read_with strict new (front message) ≡ record { made = es; ends = reached end } → (ts : List Tag) × (tell new es ≡ kept ts [])
new-whole strict new message es end e = let own = own-told strict new (front message) end es [] e in (own.0, rw (append-nil es) at own.2)

pub shape-never-another : ShapeNeverAnother
unfolding seen values valued tags
shape-never-another strict old new a room message es end e = (
  vs,
  rw own.1,
  go (tell old es) refl (shape-old-reads-within strict old new a room message es end e),
)
  where
    own : (ts : List Tag) × (tell new es ≡ kept ts [])
    own = new-whole strict new message es end (fit-reached room (read_with strict new (front message)) es end e).1

    begin : (more : List Tag) × (own.0 ≡ tags (tell old es) ++ more)
    begin = rw own.1 at (tags-begin a es)

    vs : List Value
    vs = lists.map (value_of message) own.0

    first : (ts : List Tag) → tags (tell old es) ≡ ts → vs ≡ lists.map (value_of message) ts ++ lists.map (value_of message) begin.0
    first ts h = ap (lists.map (value_of message)) begin.1 ∙ rw h (map-append (value_of message) ts begin.0)

    of-run : {r o : Run} → some r ≡ some o → OldValues vs r.ends (values old message r.made) → OldValues vs o.ends (values old message o.made)
    of-run {r} {o} e h = subst (λ (o : Run). OldValues vs o.ends (values old message o.made)) (cc) h

    go : (t : Told) {o : Run} → tell old es ≡ t → seen message end.place t ≡ some o → OldValues vs o.ends (values old message o.made)
    go (kept ts rest) h e = of-run e (rw (kept_again old es rest ts h) (all-kept _ (first ts (ap tags h))))
    go (lacks ts x rest) h e = of-run e (rw (lacks-again old es rest ts x h) (cut _ (first ts (ap tags h))))
    go (short ts) h e = let z : ◌≡◌ {A = ℕ} 0 1 = cc in absurd (omega arith)
