-- One turn of the open items: what it leaves is the whole, whichever way it ends.
-- Assumes nothing.
use mathlib.Core.Path.{◌≡◌, refl, ap, ◌∙◌}
use mathlib.Core.Bool.{Bool}
use mathlib.Core.List.{List, ◌∷◌}
use Prim.Native.Nat.{ℕ, ◌+◌, ◌-◌, ◌*◌, ◌<◌, ◌≤◌}
use native.Mathlib.Nat.{le_refl}
use native.Mathlib.Omega.{arith}
use lib.ListN.{length, drop, length-drop}
use lib.Seq.{drop-drop}
use Rattle.wire.specs.declared.Refusal.{Refusal}
use Rattle.wire.specs.declared.Refusal.TheVariants.{Room}
use Rattle.wire.specs.declared.Layout.{Layout}
use Rattle.wire.specs.Table.{u16_at, node_at, record_of}
use Rattle.wire.specs.Reading.{Head, read_then, reading}
use Rattle.laws.specs.Heads.{Sound}
use Rattle.laws.specs.KindRanges.{IsInner}
use Rattle.table.specs.Parts.{row_step, rounds_step}
use Rattle.read_item.specs.Lay.{Left, lay}
use Rattle.read_item.specs.Steps.{spot}
use Rattle.reader.specs.Begun.{Begun}
use Rattle.reader.specs.Begun.{At, Full}
use Rattle.reader.specs.Steps.{Begins, bare, put, full as crowded}
use Rattle.reader.proofs.Rounds.{begun-full, begun-at}
use Rattle.open.specs.declared.Held.{Held}
use Rattle.open.specs.Step.{Step}
use Rattle.open.specs.Step.{On, Refused}
use Rattle.open.specs.Items.{held_at, holding, helds_of, leaving, unread, pending, Chain}
use Rattle.open.specs.Steps.{last_from, Passes, Inward, Leads, passes, stops, Rounds, begins, full, Turns, goes, refuses, Works, Opens}
use Rattle.open.proofs.Steps.{same-on}
use Rattle.open.proofs.Words.{helds-held}
use Rattle.open.proofs.Holding.{helds-last, held-room}
use Rattle.open.proofs.Weights.{load_row, load-closed, load-round, load-child}
use Rattle.open.proofs.Chains.{chain_left, chain-closed, chain-leaving}
use Rattle.open.proofs.Pending.{pending-close, pending-round, begun-pending, pending-child}

-- entries are only added
begins-more : {room p : ℕ} {b : Bool} {st : List ℕ} {m : ℕ} {st' : List ℕ} {k : ℕ} {r : Begun} → Begins room p b st m r st' → r ≡ At k → m ≤ k
begins-more {k = k} (bare {m = m}) e = let c : m ≡ k = cc in omega arith
begins-more {k = k} (put {m = m} x) e = let c : m + 1 ≡ k = cc in omega arith
begins-more (crowded x) e = let z : ◌≡◌ {A = ℕ} 0 1 = cc in absurd (omega arith)

-- the leaves of a row were read
pub leads-on : {h : Head} {room : ℕ} {s : List ℕ} {l : Layout} {from n : ℕ} {bs : List ℕ} {p m : ℕ} {st : List ℕ} {r : Step} {st' : List ℕ} → Leads h room s l from n bs p m st r st' → {left q k : ℕ} → r ≡ On left q k
    → Passes h room s l from n bs p m st left q k st' × Inward room s l from n left k
leads-on (passes {left = x} {q = y} {k = z} a b) {left} {q} {k} e = let same = same-on e in (rw (same.0, same.1, same.2) at a, rw (same.0, same.2) at b)
leads-on (stops g) e = let z : ◌≡◌ {A = ℕ} 0 1 = cc in absurd (omega arith)

-- the first number that is left is of the item's next child
pub inward-child : (f : Held) {room : ℕ} {s : List ℕ} {l : Layout} {left k : ℕ} → f.left ≤ f.width → left ≤ f.left → Inward room s l (unread f) f.left left k → 0 < left
    → (k < room) × IsInner (node_at s (record_of l (u16_at s (unread (leaving f left f.rounds))))).number
inward-child f {left = left} within fewer inward some =
    let there : last_from (unread f) f.left left ≡ unread (leaving f left f.rounds) = omega arith in
    let next = inward.next some in
    (next.0, rw there at next.1)

module _ {h : Head} {room : ℕ} {s : List ℕ} {l : Layout} where
  -- ---- the last of the open items

  pub last-works : (o : List ℕ) (d : ℕ) → 0 < d → {f : Held} → f ≡ held_at o (d - 1) → (bs : List ℕ) (p m : ℕ) (st : List ℕ) {r : Step} {st' o' : List ℕ}
      → Works h room s l (f ∷ helds_of o (d - 1)) bs p m st r st' o' → Works h room s l (helds_of o d) bs p m st r st' o'
  last-works o d some e bs p m st t = rw (helds-last o d some e) t

  -- ---- a turn that begins further on

  module _ {w v : Left} (same : w ≡ v) {most less : ℕ} (fewer : less ≤ most) where
    pub turns-after : {r : Step} {st o : List ℕ} {bs : List ℕ} {p q : ℕ} → p ≤ q → q - p ≤ length bs → {rest : List ℕ} → rest ≡ drop (q - p) bs → Turns h room s l v less rest q r st o → Turns h room s l w most bs p r st o
    turns-after {bs = bs} {p = p} {q = q} up inside e (goes {e = n} {q = q'} {k} {st} {o} g) =
        let far : q - p + (q' - q) ≡ q' - p = omega (arith, g.up) in
        goes {e = n} {q = q'} {k = k} {st = st} {o = o} (record {
          up = omega (arith, g.up);
          inside = omega (arith, g.up, g.inside, ap length e, length-drop (q - p) bs);
          whole = same ∙ g.whole ∙ rw (e, drop-drop (q' - q) (q - p) bs, far);
          chain = g.chain;
          less = omega (arith, g.less);
        })
    turns-after up inside e (refuses g) = refuses (rw (← same) at g)

    turns-here : {r : Step} {st o : List ℕ} {bs : List ℕ} {p : ℕ} → Turns h room s l v less bs p r st o → Turns h room s l w most bs p r st o
    turns-here {bs = bs} {p = p} t = let z : p - p ≡ 0 = omega arith in turns-after (le_refl p) (omega arith) (rw z) t

  -- ---- the leaves in front of what an open item leaves of its round

  module _ (f : Held) (fs : List Held) (bs : List ℕ) (p m : ℕ) (st : List ℕ) where
    pub leads-refused : {r : Step} {st' o : List ℕ} → Leads h room s l (unread f) f.left bs p m st r st' → {why : Refusal} {q k : ℕ} → r ≡ Refused why q k → Works h room s l (f ∷ fs) bs p m st r st' o
    unfolding pending
    leads-refused (passes a b) e = let z : ◌≡◌ {A = ℕ} 0 1 = cc in absurd (omega arith)
    leads-refused (stops g) e = refuses (g (read_then (rounds_step (reading h) s l f.rounds f.headed f.from f.width) (pending h s l fs)))

    -- they are read, and the turn goes on
    pub passed-works : {left q k : ℕ} {st' : List ℕ} → Passes h room s l (unread f) f.left bs p m st left q k st' → f.left ≤ f.width → {rest : List ℕ} → rest ≡ drop (q - p) bs → {r : Step} {st'' o : List ℕ}
        → Works h room s l (leaving f left f.rounds ∷ fs) rest q k st' r st'' o → Works h room s l (f ∷ fs) bs p m st r st'' o
    unfolding pending
    passed-works {left} {q} {k} {st'} along within e =
        let there : last_from (unread f) f.left left ≡ unread (leaving f left f.rounds) = omega (arith, along.fewer) in
        let after = read_then (rounds_step (reading h) s l f.rounds f.headed f.from f.width) (pending h s l fs) in
        turns-after (along.whole after ∙ rw (there, e)) (load_row room along.more f fs left along.fewer) along.up along.inside e

  -- ---- its next child

  pub child-works : {f : Held} (o : List ℕ) (i : ℕ) → Chain s l 1 (f ∷ helds_of o i) → (bs : List ℕ) (p m : ℕ) (st : List ℕ) → 0 < f.left → (c : ℕ) → c ≡ u16_at s (unread f) → length o ≡ 1024
      → {o' : List ℕ} → o' ≡ holding o i (leaving f (f.left - 1) f.rounds) → {r : Step} {st' o'' : List ℕ} → Opens h room s l c (helds_of o' (i + 1)) bs p m st r st' o''
      → Works h room s l (f ∷ helds_of o i) bs p m st r st' o''
  child-works {f} o i chain bs p m st some c is long e t =
      let held = ap (λ k. helds_of k (i + 1)) e ∙ helds-held o i (leaving f (f.left - 1) f.rounds) (held-room o i chain long) in
      turns-here (ap (λ r. lay room r m st) (pending-child h s l f (helds_of o i) (spot bs p) some (chain_left chain) c is)) (load-child room m f (helds_of o i) some) (rw held at t)

  -- ---- its next round, or no more

  module _ (f : Held) (o : List ℕ) (i : ℕ) (bs : List ℕ) (p m : ℕ) (st : List ℕ) (over : f.left ≤ 0) (chain : Chain s l 1 (f ∷ helds_of o i)) where
    pub round-works : Sound h → 0 < f.rounds → 4 * i + 4 ≤ length o → {r : Step} {st' o' : List ℕ} → Rounds room f i p m st o r st' o' → Works h room s l (f ∷ helds_of o i) bs p m st r st' o'
    round-works sound some fits (begins {k} {st'} b) =
        let row = row_step (reading h) s l f.from f.width in
        let after = read_then (rounds_step (reading h) s l (f.rounds - 1) f.headed f.from f.width) (pending h s l (helds_of o i)) in
        let next = leaving f f.width (f.rounds - 1) in
        let z : p - p ≡ 0 = omega arith in
        let above = helds-held o i next fits in
        goes {e = i + 1} {q = p} {k = k} {st = st'} {o = holding o i next} (record {
          up = le_refl p;
          inside = omega arith;
          whole = rw (z, above)
              (begun-at sound f.width row after room _ bs p b (ap (λ r. lay room r m st) (pending-round h s l f (helds_of o i) (spot bs p) over some)) refl
              ∙ ap (λ r. lay room r k st') (begun-pending h s l f (helds_of o i) (spot bs p) (f.rounds - 1)));
          chain = rw above (chain-leaving chain f.width (f.rounds - 1) (le_refl f.width));
          less = rw above (load-round room (begins-more b refl) f (helds_of o i) some);
        })
    round-works sound some fits (full b) =
        let row = row_step (reading h) s l f.from f.width in
        let after = read_then (rounds_step (reading h) s l (f.rounds - 1) f.headed f.from f.width) (pending h s l (helds_of o i)) in
        refuses (begun-full sound f.width row after room _ bs p b (ap (λ r. lay room r m st) (pending-round h s l f (helds_of o i) (spot bs p) over some)) refl)

    pub close-works : f.rounds ≤ 0 → Works h room s l (f ∷ helds_of o i) bs p m st (On i p m) st o
    close-works none =
        let z : p - p ≡ 0 = omega arith in
        goes {e = i} {q = p} {k = m} {st = st} {o = o} (record {
          up = le_refl p;
          inside = omega arith;
          whole = rw z (ap (λ r. lay room r m st) (pending-close h s l f (helds_of o i) (spot bs p) over none));
          chain = chain-closed chain;
          less = load-closed room (le_refl m) f (helds_of o i);
        })

-- ---- a round, as the code begins it

-- how many numbers are left in the round before does not matter
pub rounds-leaving : {room : ℕ} {f : Held} {i p m : ℕ} {st o : List ℕ} {r : Step} {st' o' : List ℕ} (left : ℕ) → Rounds room f i p m st o r st' o' → Rounds room (leaving f left f.rounds) i p m st o r st' o'
rounds-leaving left (begins b) = begins b
rounds-leaving left (full b) = full b

module _ {room : ℕ} {f : Held} {i p m : ℕ} {st o : List ℕ} {r : Begun} {st' : List ℕ} (b : Begins room p f.headed st m r st') where
  pub rounds-full : {o' : List ℕ} → r ≡ Full → Rounds room f i p m st o (Refused Room p m) st' o'
  rounds-full e = full (rw e at b)

  pub rounds-begun : {k : ℕ} {o' : List ℕ} → r ≡ At k → o' ≡ holding o i (leaving f f.width (f.rounds - 1)) → Rounds room f i p m st o (On (i + 1) p k) st' o'
  rounds-begun e q = rw q (begins (rw e at b))
