-- A round that is a struct's fields begins with an entry on each side, which is the same there: with room for both the round goes on
-- behind them.
-- Assumes nothing.
use mathlib.Core.Path.{◌≡◌, sym, ap, ◌∙◌}
use mathlib.Core.Bool.{Bool, true}
use mathlib.Core.List.{List, []}
use mathlib.Core.Logic.{◌⊎◌, inl, inr}
use Prim.Native.Nat.{ℕ, ◌+◌, ◌≤◌, ◌<◌}
use native.Mathlib.Nat.{add-zero}
use native.Mathlib.Omega.{arith}
use Rattle.wire.specs.Tests.{pick, given}
use Rattle.wire.specs.Values.{is_pooled}
use Rattle.wire.specs.Reading.{head, Spot, past}
use Rattle.table.specs.Parts.{under}
use Rattle.desk.specs.Differ.{Sides, beside}
use Rattle.beside.specs.Meeting.{same_own, Met, met_after, meet_then, meet_two, meet_item, meeting}
use Rattle.compare_item.specs.Pairs.{pairs_from}
use Rattle.compare_walk.specs.declared.Heads.{Heads}
use Rattle.compare_walk.specs.Begun.{Begun}
use Rattle.compare_walk.specs.Begun.{At, Full}
use Rattle.compare_walk.specs.Walked.{Apart}
use Rattle.compare_walk.specs.Steps.{Left, lay, Gives, Begins, bare, put, full}
use Rattle.compare_walk.proofs.Laying.{after-over, lay-after, on_by, lay-then, gives-stopped}

-- no room on one side or on the other
pub one-over : {m n room : ℕ} → m < room → n < room → (room ≤ m) ⊎ ((m < room) × (room ≤ n)) → ⊥
one-over a b (inl h) = omega arith
one-over a b (inr h) = omega (arith, h.1)

same-at : {m n m' n' : ℕ} → At m n ≡ At m' n' → (m ≡ m') × (n ≡ n')
same-at {m} {n} {m'} {n'} e =
    let same : ◌≡◌ {A = Heads} (record { ones = m; others = n }) (record { ones = m'; others = n' }) = cc in
    (ap (λ r. r.ones) same, ap (λ r. r.others) same)

module _ (k : ℕ) (f g : Sides Spot → Met) (x y : Spot) where
  headed : under meeting true k f (beside x y) ≡ met_after 1 1 [] (f (beside x y))
  unfolding under meet_item head meet_two same_own is_pooled pick given past
  headed = rw (add-zero x.place, add-zero y.place)

  module _ (room : ℕ) (w : Left) (m n c : ℕ) (s : List ℕ) where
    pub begun-full : {b : Bool} {r : Begun} {last : List ℕ} → Begins room m n b r → w ≡ lay room (meet_then (under meeting b k f) g (beside x y)) m n c s → r ≡ Full → Gives w Apart last
    begun-full bare q e = let z : ◌≡◌ {A = ℕ} 0 1 = cc in absurd (omega arith)
    begun-full (put h l) q e = let z : ◌≡◌ {A = ℕ} 0 1 = cc in absurd (omega arith)
    begun-full (full h) q e =
        gives-stopped (q ∙ lay-then room (under meeting true k f) g (beside x y) m n c s
        ∙ ap (on_by room g) (ap (λ r. lay room r m n c s) headed ∙ after-over room m n c s 1 1 [] (f (beside x y)) (λ a b. h (omega arith) (omega arith))))

    pub begun-at : {b : Bool} {r : Begun} {m' n' : ℕ} → Begins room m n b r → w ≡ lay room (meet_then (under meeting b k f) g (beside x y)) m n c s → r ≡ At m' n'
        → w ≡ lay room (meet_then f g (beside x y)) m' n' c s
    unfolding under
    begun-at bare q e =
        let (one, other) = same-at e in
        rw (← one, ← other) q
    begun-at (put h l) q e =
        let (one, other) = same-at e in
        let bare : lay room (met_after 1 1 [] (f (beside x y))) m n c s ≡ lay room (f (beside x y)) (m + 1) (n + 1) c s
        = lay-after room m n c s 1 1 [] (f (beside x y)) (omega arith) (omega arith) ∙ (unfold pairs_from in rw (add-zero c)) in
        rw (← one, ← other)
        (q ∙ lay-then room (under meeting true k f) g (beside x y) m n c s
        ∙ ap (on_by room g) (ap (λ r. lay room r m n c s) headed ∙ bare)
        ∙ sym (lay-then room f g (beside x y) (m + 1) (n + 1) c s))
    begun-at (full h) q e = let z : ◌≡◌ {A = ℕ} 0 1 = cc in absurd (omega arith)

-- the pairs are still no more than the entries
pub begun-few : {room m n c m' n' : ℕ} {b : Bool} {r : Begun} → Begins room m n b r → r ≡ At m' n' → c ≤ m → c ≤ m'
begun-few bare e l = let (one, _) = same-at e in omega arith
begun-few (put h k) e l = let (one, _) = same-at e in omega arith
begun-few (full h) e l = let z : ◌≡◌ {A = ℕ} 0 1 = cc in absurd (omega arith)
