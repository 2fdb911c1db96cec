-- What the cycle of calls cites: a call that is followed by more stops with it, or goes on where both sides arrived; and a loop's end.
-- Assumes nothing.
use mathlib.Core.Path.{◌≡◌, refl, sym, ap, ap₂, ◌∙◌}
use mathlib.Core.Bool.{Bool, true, false}
use mathlib.Core.List.{List}
use Prim.Native.Nat.{ℕ, ◌+◌, ◌-◌, ◌<◌, ◌≤◌}
use native.Mathlib.Omega.{arith}
use lib.ListN.{length, drop}
use lib.Dec.{leb}
use Rattle.wire.specs.declared.Layout.{Layout}
use Rattle.wire.specs.Tests.{pick, both}
use Rattle.wire.specs.Table.{u16_at, shapes_at}
use Rattle.wire.specs.Values.{Entry}
use Rattle.wire.specs.Reading.{Spot, Outcome, Run, past, read}
use Rattle.laws.specs.Bounds.{Stays, reaches}
use Rattle.laws.specs.Tables.{node_shape}
use Rattle.laws.proofs.Bounds.{head-sound, read_stays, row_stays}
use Rattle.laws.proofs.Parts.{tail, length-tail}
use Rattle.table.specs.Parts.{under, node_step, row_step, rounds_step}
use Rattle.table.proofs.Stretches.{row-end, row_first, rounds-end, rounds-first}
use Rattle.read_item.specs.Steps.{spot}
use Rattle.reader.proofs.Turns.{from, Went}
use Rattle.desk.specs.Differ.{Pair, Sides, beside}
use Rattle.beside.specs.Meeting.{Met, met, unread, meet_then, meeting}
use Rattle.beside.specs.Laws.{Meets, ends, first, second, MeetsReads}
use Rattle.beside.proofs.Readings.{shape-meets, row-meets}
use Rattle.compare_item.specs.Pairs.{pairs_from}
use Rattle.compare_walk.specs.declared.Gone.{Gone}
use Rattle.compare_walk.specs.Walked.{Walked}
use Rattle.compare_walk.specs.Walked.{Both, Apart}
use Rattle.compare_walk.specs.Steps.{Left, went, stopped, lay, Gives, goes, stops}
use Rattle.compare_walk.proofs.Laying.{lay-nothing, on_by, lay-then, gives-stopped, gives-went}

-- ---- both sides stay inside their bytes, and pairs are no more than entries

pub data Kept (x y : Spot) : Met → Type 0 where
  kept : (u v : ℕ) {a b : ℕ} {ps : List Pair} → u ≤ length x.bytes → v ≤ length y.bytes → length ps ≤ a → Kept x y (met a b ps (beside (past u x) (past v y)))
  lost : Kept x y unread

kept-reads : {f : Spot → Run} {d : Sides Spot → Met} → MeetsReads f d → ((x : Spot) → Stays x (f x).made (f x).ends) → (x y : Spot) → Kept x y (d (beside x y))
kept-reads h stays x y = go (h.meeting x y) (stays x) (stays y)
  where
    go : {es fs : List Entry} {o o' : Outcome} {r : Met} → Meets es o fs o' r → Stays x es o → Stays y fs o' → Kept x y r
    go (ends l) (reaches u k e s) (reaches v k' e' s') = rw (e, e') (kept u v k k' l)
    go first a b = lost
    go second a b = lost

module _ (s : List ℕ) (l : Layout) where
  pub node_kept : (i : ℕ) (x y : Spot) → Kept x y (node_step meeting s l i (beside x y))
  unfolding node_step read
  node_kept i = kept-reads (shape-meets (node_shape s l i)) (read_stays head-sound (node_shape s l i))

  pub row_kept : (at n : ℕ) (x y : Spot) → Kept x y (row_step meeting s l at n (beside x y))
  unfolding row_step
  row_kept at n = kept-reads (row-meets (shapes_at (node_shape s l) s at n)) (row_stays head-sound (shapes_at (node_shape s l) s at n))

-- ---- a call, and then more

-- what an answer says of where both were left
record Arrives (w : Left) (q q' m n c : ℕ) (s : List ℕ) : Type 0 where
  x : Spot
  y : Spot
  left : w ≡ went (beside x y) m n c s
  one : x.place ≡ q
  other : y.place ≡ q'

pub same-both : {q q' m n c p p' a b d : ℕ} → Both q q' m n c ≡ Both p p' a b d → (q ≡ p) × (q' ≡ p') × (m ≡ a) × (n ≡ b) × (c ≡ d)
same-both {q} {q'} {m} {n} {c} {p} {p'} {a} {b} {d} e =
    let same : ◌≡◌ {A = Gone} (record { one = q; other = q'; ones = m; others = n; count = c }) (record { one = p; other = p'; ones = a; others = b; count = d }) = cc in
    (ap (λ r. r.one) same, ap (λ r. r.other) same, ap (λ r. r.ones) same, ap (λ r. r.others) same, ap (λ r. r.count) same)

arrives : {w : Left} {a : Walked} {s : List ℕ} {q q' m n c : ℕ} → Gives w a s → a ≡ Both q q' m n c → Arrives w q q' m n c s
arrives (goes {x} {y}) e = let (one, other, ones, others, count) = same-both e in record { x = x; y = y; left = rw (ones, others, count) refl; one = one; other = other }
arrives stops e = let z : ◌≡◌ {A = ℕ} 0 1 = cc in absurd (omega arith)

apart : {w : Left} {a : Walked} {s : List ℕ} → Gives w a s → a ≡ Apart → w ≡ stopped
apart goes e = let z : ◌≡◌ {A = ℕ} 0 1 = cc in absurd (omega arith)
apart stops e = refl

-- both sides of a call arrived inside their parts, and the pairs are no more than the entries
pub record Arrived (bs : List ℕ) (p : ℕ) (bs' : List ℕ) (p' q q' m c : ℕ) : Type 0 where
  pub one : Went bs p q
  pub other : Went bs' p' q'
  pub few : c ≤ m

-- a spot so many bytes on
there : (bs : List ℕ) (p u q : ℕ) (x : Spot) → past u (spot bs p) ≡ x → x.place ≡ q → u ≤ length bs → Went bs p q × (x ≡ spot (from bs p q) q)
unfolding past
there bs p u q x e h l =
    let here : x.place ≡ p + u = ap (λ z. z.place) (sym e) in
    let back : u ≡ q - p = omega arith in (
      record { up = omega arith; inside = omega arith; kept = omega (arith, length-tail bs (q - p)) },
      ap₂ spot (ap (λ z. z.bytes) (sym e) ∙ ap (λ k. drop k bs) back ∙ sym (tail bs (q - p))) h,
    )

module _ (room : ℕ) (f g : Sides Spot → Met) (steady : (x y : Spot) → Kept x y (f (beside x y))) (w : Left) (bs : List ℕ) (p : ℕ) (bs' : List ℕ) (p' m n c : ℕ) (s : List ℕ)
    (whole : w ≡ lay room (meet_then f g (beside (spot bs p) (spot bs' p'))) m n c s) {a : Walked} {st : List ℕ}
    (called : Gives (lay room (f (beside (spot bs p) (spot bs' p'))) m n c s) a st) where
  pub turn-apart : {last : List ℕ} → a ≡ Apart → Gives w Apart last
  turn-apart e = gives-stopped (whole ∙ lay-then room f g _ m n c s ∙ ap (on_by room g) (apart called e))

  abbrev goes_by : (q q' m' n' c' : ℕ) → Type 0
  goes_by q q' m' n' c' = Arrived bs p bs' p' q q' m' c' × (w ≡ lay room (g (beside (spot (from bs p q) q) (spot (from bs' p' q') q'))) m' n' c' st)

  pub turned : {q q' m' n' c' : ℕ} → c ≤ m → a ≡ Both q q' m' n' c' → goes_by q q' m' n' c'
  turned {q} {q'} {m'} {n'} {c'} few e = go refl (steady (spot bs p) (spot bs' p'))
    where
      at : Arrives (lay room (f (beside (spot bs p) (spot bs' p'))) m n c s) q q' m' n' c' st
      at = arrives called e

      met_at : (u v a b : ℕ) (ps : List Pair) (t : Bool) → u ≤ length bs → v ≤ length bs' → length ps ≤ a
          → pick t (went (beside (past u (spot bs p)) (past v (spot bs' p'))) (m + a) (n + b) (c + length ps) (pairs_from ps c s)) stopped ≡ went (beside at.x at.y) m' n' c' st
          → goes_by q q' m' n' c'
      met_at u v a b ps false k l h i = unfold pick in (let z : ◌≡◌ {A = ℕ} 0 1 = cc in absurd (omega arith))
      met_at u v a b ps true k l h i =
          unfold pick in
          let here : past u (spot bs p) ≡ at.x = cc in
          let beyond : past v (spot bs' p') ≡ at.y = cc in
          let one = there bs p u q at.x here at.one k in
          let other = there bs' p' v q' at.y beyond at.other l in
          let made : m + a ≡ m' = cc in
          let pairs : c + length ps ≡ c' = cc in
          (record { one = one.0; other = other.0; few = omega arith }, whole ∙ lay-then room f g _ m n c s ∙ ap (on_by room g) at.left ∙ rw (one.1, other.1))

      go : {r : Met} → f (beside (spot bs p) (spot bs' p')) ≡ r → Kept (spot bs p) (spot bs' p') r → goes_by q q' m' n' c'
      go o (kept u v {a} {b} {ps} k l h) = met_at u v a b ps (both (leb a (room - m)) (leb b (room - n))) k l h (unfold lay in ap (λ r. lay room r m n c s) (sym o) ∙ at.left)
      go o lost = let z : ◌≡◌ {A = Left} stopped (went (beside at.x at.y) m' n' c' st) = unfold lay in (ap (λ r. lay room r m n c s) (sym o) ∙ at.left) in (let z : ◌≡◌ {A = ℕ} 0 1 = cc in absurd (omega arith))

-- ---- one node after the other, and one round after the other

module _ (room : ℕ) (s : List ℕ) (l : Layout) (at n : ℕ) (w : Left) (x y : Spot) (made more c : ℕ) (list : List ℕ) where
  module _ (whole : w ≡ lay room (row_step meeting s l at n (beside x y)) made more c list) where
    pub row_done : n ≤ 0 → Gives w (Both x.place y.place made more c) list
    row_done e = gives-went x y (whole ∙ rw (row-end meeting s l at n (beside x y) e) (lay-nothing room (beside x y) made more c list))

    pub row-turn : 0 < n → (i : ℕ) → i ≡ u16_at s at → w ≡ lay room (meet_then (node_step meeting s l i) (row_step meeting s l (at + 2) (n - 1)) (beside x y)) made more c list
    row-turn e i q = whole ∙ rw (row_first meeting s l at n (beside x y) e i q)

  module _ (rounds : ℕ) (b : Bool) (whole : w ≡ lay room (rounds_step meeting s l rounds b at n (beside x y)) made more c list) where
    pub rounds-done : rounds ≤ 0 → Gives w (Both x.place y.place made more c) list
    rounds-done e = gives-went x y (whole ∙ rw (rounds-end meeting s l rounds b at n (beside x y) e) (lay-nothing room (beside x y) made more c list))

    pub rounds-turn : 0 < rounds → w ≡ lay room (meet_then (under meeting b n (row_step meeting s l at n)) (rounds_step meeting s l (rounds - 1) b at n) (beside x y)) made more c list
    rounds-turn e = whole ∙ rw (rounds-first meeting s l rounds b at n (beside x y) e)
