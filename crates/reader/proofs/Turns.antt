-- What the cycle of calls cites: a call that is followed by more hands its refusal up, or goes on where it arrived; a loop's end; and an item.
-- Assumes nothing.
use mathlib.Core.Path.{◌≡◌, refl, sym, ap, ap₂, ◌∙◌}
use mathlib.Core.Bool.{Bool, false}
use mathlib.Core.List.{List}
use Prim.Native.Nat.{ℕ, ◌+◌, ◌-◌, ◌<◌, ◌≤◌, ◌^◌}
use native.Mathlib.Omega.{arith}
use lib.ListN.{length, take, drop}
use Rattle.wire.specs.declared.Refusal.{Refusal}
use Rattle.wire.specs.Item.{Item}
use Rattle.wire.specs.declared.Layout.{Layout}
use Rattle.wire.specs.ReadAnswer.{ReadAnswer}
use Rattle.wire.specs.ReadAnswer.{Done, Refused}
use Rattle.wire.specs.Table.{u16_at, kind_of, node_at, record_of, shapes_at}
use Rattle.wire.specs.Reading.{Head, Spot, Outcome, reached, refused, Run, head, judged, head_by, past, read_then, reading, fit}
use Rattle.wire.specs.Answers.{read_answer}
use Rattle.laws.specs.Bounds.{Stays, reaches}
use Rattle.laws.specs.Heads.{Sound}
use Rattle.laws.specs.KindRanges.{IsInt, IsInner}
use Rattle.laws.specs.Tables.{node_count, node_shape, GoodTable}
use Rattle.laws.proofs.Bounds.{read_stays, row_stays}
use Rattle.laws.proofs.Parts.{tail, length-tail}
use Rattle.laws.proofs.Runs.{then-nothing, fit-reached}
use Rattle.leaf.specs.Leaves.{leaf_take_at}
use Rattle.table.specs.declared.Stretch.{Stretch}
use Rattle.table.specs.declared.Way.{Way}
use Rattle.table.specs.Parts.{Flat, under, node_step, row_step, rounds_step}
use Rattle.table.proofs.Stretches.{row-end, row_first, rounds-end, rounds-first, flat-rounds}
use Rattle.laws.proofs.Answers.{same-done, same-refused}
use Rattle.read_item.specs.declared.Inside.{Inside}
use Rattle.read_item.specs.Entered.{Entered}
use Rattle.read_item.specs.Entered.{On}
use Rattle.read_item.specs.Entered as entered
use Rattle.read_item.specs.Lay.{Left, laid, lay}
use Rattle.read_item.specs.Steps.{spot, own_of, after_of, Puts, entry, same, Enters, goes, stops}
use Rattle.read_item.proofs.Laying.{lay-nothing, on_by, lay-then}
use Rattle.read_item.proofs.Entering.{number_small, Goes, item_refused, item-goes, item-alone}
use Rattle.read_item.proofs.Heads.{head-leaf}
use Rattle.reader.specs.Steps.{Gives, answer_behind}
use Rattle.reader.proofs.Laying.{gives-refused, gives-done}

-- ---- a call, and then more

-- the rest of a part that starts at the place `at`, from the place q on
abbrev pub from : List ℕ → (at q : ℕ) → List ℕ
from bs at q = take (length bs - (q - at)) (drop (q - at) bs)

-- a call that began there arrived at the place q, inside the part
pub record Went (bs : List ℕ) (at q : ℕ) : Type 0 where
  pub up : at ≤ q
  pub inside : q - at ≤ length bs
  pub kept : q + length (from bs at q) ≡ at + length bs

-- f is called, which stays inside its bytes, with room for so many entries: where it arrived
module _ (f : Spot → Run) (steady : (x : Spot) → Stays x (f x).made (f x).ends) (bs : List ℕ) (at room : ℕ) where
  pub arrived : {q : ℕ} (y : Spot) → y.place ≡ q → (fit room (f (spot bs at))).ends ≡ reached y → Went bs at q × (y ≡ spot (from bs at q) q)
  unfolding past
  arrived {q} y p e =
      let run = fit room (f (spot bs at)) in
      let free = (fit-reached room (f (spot bs at)) run.made y (ap (λ o. record { made = run.made; ends = o }) e)).1 in
      go (rw (ap (λ r. r.ends) free) at (steady (spot bs at)))
    where
      go : Stays (spot bs at) (f (spot bs at)).made (reached y) → Went bs at q × (y ≡ spot (from bs at q) q)
      go (reaches u l e t) =
          let here : y.place ≡ at + u = ap (λ z. z.place) e in
          let back : u ≡ q - at = omega arith in (
            record { up = omega arith; inside = omega arith; kept = omega (arith, length-tail bs (q - at)) },
            ap₂ spot (ap (λ z. z.bytes) e ∙ ap (λ k. drop k bs) back ∙ sym (tail bs (q - at))) p,
          )

  -- the answer of such a call behind the first m entries: a refusal, or where it arrived and the entries made
  module _ (m : ℕ) {a : ReadAnswer} (said : a ≡ answer_behind m (fit room (f (spot bs at)))) where
    pub said-refused : {e : Refusal} {p n : ℕ} → a ≡ Refused e p n → (fit room (f (spot bs at))).ends ≡ refused e p
    unfolding answer_behind read_answer
    said-refused {e} {p} {n} h = go (fit room (f (spot bs at))).ends (sym said ∙ h)
      where
        go : (o : Outcome) → read_answer o (m + length (fit room (f (spot bs at))).made) ≡ Refused e p n → o ≡ refused e p
        go (reached y) q = let z : ◌≡◌ {A = ℕ} 0 1 = cc in absurd (omega arith)
        go (refused r i) q = let same = same-refused q in rw (same.0, same.1)

    pub said-done : {q n : ℕ} → a ≡ Done q n
        → Went bs at q × ((fit room (f (spot bs at))).ends ≡ reached (spot (from bs at q) q)) × (n ≡ m + length (fit room (f (spot bs at))).made)
    unfolding answer_behind read_answer
    said-done {q} {n} h = go (fit room (f (spot bs at))).ends refl (sym said ∙ h)
      where
        go : (o : Outcome) → (fit room (f (spot bs at))).ends ≡ o → read_answer o (m + length (fit room (f (spot bs at))).made) ≡ Done q n
            → Went bs at q × (o ≡ reached (spot (from bs at q) q)) × (n ≡ m + length (fit room (f (spot bs at))).made)
        go (refused r i) e j = let z : ◌≡◌ {A = ℕ} 0 1 = cc in absurd (omega arith)
        go (reached y) e j =
            let same = same-done j in
            let there = arrived y same.0 e in
            (there.0, ap reached there.1, sym same.1)

-- f is called, which stays inside its bytes, and g is left
module _ (room : ℕ) (f g : Spot → Run) (steady : (x : Spot) → Stays x (f x).made (f x).ends) (w : Left) (bs : List ℕ) (at sofar : ℕ) (store : List ℕ)
    (whole : w ≡ lay room (read_then f g (spot bs at)) sofar store) (a : ReadAnswer) (st : List ℕ) (called : Gives (lay room (f (spot bs at)) sofar store) a st) where
  abbrev v : Left
  v = lay room (f (spot bs at)) sofar store

  step : w ≡ on_by room v.ends v g
  step = whole ∙ lay-then room f g (spot bs at) sofar store

  pub turn-refused : {e : Refusal} {p n : ℕ} → a ≡ Refused e p n → Gives w a st
  unfolding read_answer
  turn-refused {e} {p} {n} h = go v.ends (sym called.answered ∙ h) step
    where
      go : (o : Outcome) → read_answer o v.count ≡ Refused e p n → w ≡ on_by room o v g → Gives w a st
      go (reached y) q s = let z : ◌≡◌ {A = ℕ} 0 1 = cc in absurd (omega arith)
      go (refused r i) q s = rw s called

  pub turned : {q n : ℕ} → a ≡ Done q n → Went bs at q × (w ≡ lay room (g (spot (from bs at q) q)) n st)
  unfolding read_answer lay laid
  turned {q} {n} h = go v.ends refl (sym called.answered ∙ h) step
    where
      go : (o : Outcome) → v.ends ≡ o → read_answer o v.count ≡ Done q n → w ≡ on_by room o v g → Went bs at q × (w ≡ lay room (g (spot (from bs at q) q)) n st)
      go (refused r i) e j s = let z : ◌≡◌ {A = ℕ} 0 1 = cc in absurd (omega arith)
      go (reached y) e j s =
          let same = same-done j in
          let there = arrived f steady bs at (room - sofar) y same.0 e in
          (there.0, s ∙ rw (there.1, same.1, ← called.stored))

-- ---- one node after the other, and one round after the other

module _ (h : Head) (room : ℕ) (s : List ℕ) (l : Layout) (at n : ℕ) (w : Left) (bs : List ℕ) (p sofar : ℕ) (store : List ℕ) where
  module _ (whole : w ≡ lay room (row_step (reading h) s l at n (spot bs p)) sofar store) where
    pub row_done : n ≤ 0 → Gives w (Done p sofar) store
    row_done e = gives-done (spot bs p) (whole ∙ rw (row-end (reading h) s l at n (spot bs p) e) (lay-nothing room (spot bs p) sofar store))

    pub row-turn : 0 < n → (i : ℕ) → i ≡ u16_at s at → w ≡ lay room (read_then (node_step (reading h) s l i) (row_step (reading h) s l (at + 2) (n - 1)) (spot bs p)) sofar store
    row-turn e i q = whole ∙ rw (row_first (reading h) s l at n (spot bs p) e i q)

  module _ (c : ℕ) (b : Bool) (whole : w ≡ lay room (rounds_step (reading h) s l c b at n (spot bs p)) sofar store) where
    pub rounds-done : c ≤ 0 → Gives w (Done p sofar) store
    rounds-done e = gives-done (spot bs p) (whole ∙ rw (rounds-end (reading h) s l c b at n (spot bs p) e) (lay-nothing room (spot bs p) sofar store))

    pub rounds-turn : 0 < c → w ≡ lay room (read_then (under (reading h) b n (row_step (reading h) s l at n)) (rounds_step (reading h) s l (c - 1) b at n) (spot bs p)) sofar store
    rounds-turn e = whole ∙ rw (rounds-first (reading h) s l c b at n (spot bs p) e)

-- both stay inside their bytes
module _ {h : Head} (sound : Sound h) (s : List ℕ) (l : Layout) where
  pub node-steady : (i : ℕ) (x : Spot) → Stays x (node_step (reading h) s l i x).made (node_step (reading h) s l i x).ends
  unfolding node_step
  node-steady i = read_stays sound (node_shape s l i)

  pub row-steady : (at n : ℕ) (x : Spot) → Stays x (row_step (reading h) s l at n x).made (row_step (reading h) s l at n x).ends
  unfolding row_step
  row-steady at n = row_stays sound (shapes_at (node_shape s l) s at n)

-- ---- an item

module _ (h : Head) (room : ℕ) {s : List ℕ} {l : Layout} {i : ℕ} (g : GoodTable s l) (below : i < l.nodes) (bs : List ℕ) (p m : ℕ) (store : List ℕ) (some : m < room) where
  -- one that was entered
  module _ {r : Entered} {st : List ℕ} (e : Enters l i (node_at s (record_of l i)) p m store (own_of h (node_at s (record_of l i)) (spot bs p)) r st) where
    pub entered-refused : {y : Refusal} → r ≡ entered.Refused y → Gives (lay room (node_step (reading h) s l i (spot bs p)) m store) (Refused y p m) st
    entered-refused {y} = go refl e
      where
        go : {got : Item} {q : Entered} {t : List ℕ} → own_of h (node_at s (record_of l i)) (spot bs p) ≡ got → Enters l i (node_at s (record_of l i)) p m store got q t
            → q ≡ entered.Refused y → Gives (lay room (node_step (reading h) s l i (spot bs p)) m store) (Refused y p m) t
        go o (stops {e = x}) k = let same : x ≡ y = cc in rw (← same) (gives-refused (item_refused h room g below (spot bs p) m store some o))
        go o goes k = let z : ◌≡◌ {A = ℕ} 0 1 = cc in absurd (omega arith)

    pub entered_on : Sound h → {to : Stretch} {u : ℕ} → r ≡ On to u → Goes h room (lay room (node_step (reading h) s l i (spot bs p)) m store) s l i (spot bs p) m to u st
    entered_on sound {to} {u} = go refl e
      where
        go : {got : Item} {q : Entered} {t : List ℕ} → own_of h (node_at s (record_of l i)) (spot bs p) ≡ got → Enters l i (node_at s (record_of l i)) p m store got q t
            → q ≡ On to u → Goes h room (lay room (node_step (reading h) s l i (spot bs p)) m store) s l i (spot bs p) m to u t
        go o stops k = let z : ◌≡◌ {A = ℕ} 0 1 = cc in absurd (omega arith)
        go o (goes {own}) k =
            let same : ◌≡◌ {A = Inside} (record { to = after_of l i (node_at s (record_of l i)) own.first; used = own.used }) (record { to = to; used = u }) = cc in
            let way : after_of l i (node_at s (record_of l i)) own.first ≡ to = ap (λ r. r.to) same in
            let used : own.used ≡ u = ap (λ r. r.used) same in
            rw (← way, ← used) (item-goes h room g below (spot bs p) m store some sound o)

  -- a leaf that was read
  pub leaf-gives : (k : ℕ) → k ≡ (node_at s (record_of l i)).number → (IsInner k → ⊥) → {got : Item} → own_of h (node_at s (record_of l i)) (spot bs p) ≡ got → {a : ReadAnswer} {st : List ℕ} → Puts p m store got a st
      → Gives (lay room (node_step (reading h) s l i (spot bs p)) m store) a st
  unfolding past
  leaf-gives k e outer o (entry {own}) = gives-done (past own.used (spot bs p)) (item-alone h room g below (spot bs p) m store some (rw e at outer) o)
  leaf-gives k e outer o same = gives-refused (item_refused h room g below (spot bs p) m store some o)

module _ {h : Head} {room : ℕ} {w : Left} {s : List ℕ} {l : Layout} {i : ℕ} {bs : List ℕ} {p m : ℕ} {to : Stretch} {u : ℕ} {st : List ℕ}
    (g : Goes h room w s l i (spot bs p) m to u st) where
  pub goes-done : to.rounds ≡ 0 → Gives w (Done (p + u) (m + 1)) st
  unfolding past
  goes-done e = rounds-done h room s l to.from to.width w (drop u bs) (p + u) (m + 1) st to.rounds false g.rest (omega arith)

  -- by the fields of the one struct that follows
  pub goes_on : GoodTable s l → i ≤ l.nodes → {way : Way} → Flat s l i to.from to.width way → {a : ReadAnswer} {left : List ℕ}
      → Gives (lay room (rounds_step (reading h) s l to.rounds way.headed way.from way.width (spot (take (length bs - u) (drop u bs)) (p + u))) (m + 1) st) a left → Gives w a left
  unfolding past
  goes_on good few flat r = rw (g.rest, flat-rounds good few (reading h) then-nothing flat to.rounds) (rw (tail bs u) at r)

-- ---- with wire's own head

-- a leaf's item is the node's, strictly or not
pub leaf-own : (strict : Bool) {s : List ℕ} {l : Layout} {i : ℕ} → GoodTable s l → i < l.nodes → (bs : List ℕ) (p k : ℕ) → k ≡ (node_at s (record_of l i)).number → (IsInner k → ⊥) → p + length bs < 2 ^ 64
    → own_of (head_by strict) (node_at s (record_of l i)) (spot bs p) ≡ judged strict (leaf_take_at k p bs)
unfolding own_of head_by
leaf-own strict {s} {l} {i} g below bs p k e outer fits =
    let r = node_at s (record_of l i) in
    ap (judged strict) (sym (head-leaf (node_count r) p bs k outer (number_small g below k e) fits ∙ ap (λ q. head (kind_of q) (node_count r) p bs) e))

-- an integer that was read plainly
pub int-gives : (strict : Bool) (room : ℕ) {s : List ℕ} {l : Layout} {i : ℕ} (g : GoodTable s l) (below : i < l.nodes) (bs : List ℕ) (p m : ℕ) (store : List ℕ) → m < room
    → (k : ℕ) → k ≡ (node_at s (record_of l i)).number → IsInt k → strict ≡ false → p + length bs < 2 ^ 64 → {got : Item} → got ≡ leaf_take_at k p bs → {a : ReadAnswer} {st : List ℕ} → Puts p m store got a st
    → Gives (lay room (node_step (reading (head_by strict)) s l i (spot bs p)) m store) a st
int-gives strict room g below bs p m store some k e int plain fits q =
    let outer : IsInner k → ⊥ = λ h. omega (arith, h.0, int.1) in
    let own = leaf-own strict g below bs p k e outer fits in
    leaf-gives (head_by strict) room g below bs p m store some k e outer (own ∙ rw plain (unfold judged in sym q))
