-- How a round begins: a struct's entry stands in front of its fields.
-- Assumes nothing.
use mathlib.Core.Path.{◌≡◌, refl, ◌∙◌}
use mathlib.Core.Bool.{Bool, true}
use mathlib.Core.List.{List, [], ◌∷◌}
use Prim.Native.Nat.{ℕ, ◌+◌}
use native.Mathlib.Nat.{add-zero}
use native.Mathlib.Omega.{arith}
use Rattle.wire.specs.declared.Refusal.TheVariants.{Room}
use Rattle.wire.specs.ReadAnswer.{Refused}
use Rattle.wire.specs.Values.{Entry}
use Rattle.wire.specs.Reading.{Head, Spot, Outcome, reached, refused, Run, run_after, read_on, read_then, past, enter, read_item, reading}
use Rattle.laws.specs.Heads.{Sound}
use Rattle.table.specs.Parts.{under}
use Rattle.entry.specs.Words.{with_entry}
use Rattle.read_item.specs.Lay.{Left, lay}
use Rattle.read_item.specs.Steps.{spot}
use Rattle.read_item.proofs.Laying.{lay-entry, lay-full}
use Rattle.reader.specs.Begun.{Begun}
use Rattle.reader.specs.Begun.{At, Full}
use Rattle.reader.specs.Steps.{Gives, Begins, bare, put, full}
use Rattle.reader.proofs.Laying.{gives-refused}

-- the entry of a struct at a place
abbrev struct_at : ℕ → Entry
struct_at p = record { first = 0; second = 0; place = p }

module _ {h : Head} (sound : Sound h) (n : ℕ) (f g : Spot → Run) where
  headed : (x : Spot) → under (reading h) true n f x ≡ run_after (struct_at x.place ∷ []) (f x)
  unfolding under read_item enter past
  headed x = rw (sound.bare n x.place x.bytes, add-zero x.place)

  then-headed : (x : Spot) → read_then (under (reading h) true n f) g x ≡ run_after (struct_at x.place ∷ []) (read_then f g x)
  unfolding read_then run_after
  then-headed x = rw (headed x) (go (f x).made (f x).ends)
    where
      go : (es : List Entry) (o : Outcome) → read_on (struct_at x.place ∷ es) o g ≡ run_after (struct_at x.place ∷ []) (read_on es o g)
      go es (reached y) = unfold read_on run_after in refl
      go es (refused e p) = unfold read_on run_after in refl

  module _ (room : ℕ) (w : Left) (bs : List ℕ) (at : ℕ) where
    pub begun-full : {b : Bool} {s : List ℕ} {m : ℕ} {st : List ℕ} {r : Begun} → Begins room at b s m r st → w ≡ lay room (read_then (under (reading h) b n f) g (spot bs at)) m s → r ≡ Full → Gives w (Refused Room at m) st
    begun-full bare q e = let z : ◌≡◌ {A = ℕ} 0 1 = cc in absurd (omega arith)
    begun-full (put l) q e = let z : ◌≡◌ {A = ℕ} 0 1 = cc in absurd (omega arith)
    begun-full (full {s} {m} l) q e = gives-refused (q ∙ rw (then-headed (spot bs at)) (lay-full room m s (struct_at at) (read_then f g (spot bs at)) l))

    pub begun-at : {b : Bool} {s : List ℕ} {m : ℕ} {st : List ℕ} {k : ℕ} {r : Begun} → Begins room at b s m r st → w ≡ lay room (read_then (under (reading h) b n f) g (spot bs at)) m s → r ≡ At k
        → w ≡ lay room (read_then f g (spot bs at)) k st
    unfolding under with_entry
    begun-at {k} (bare {s} {m}) q e = let c : m ≡ k = cc in rw (← c) q
    begun-at {k} (put {s} {m} l) q e =
        let c : m + 1 ≡ k = cc in
        rw (← c) (q ∙ rw (then-headed (spot bs at)) (lay-entry room m s (struct_at at) (read_then f g (spot bs at)) l))
    begun-at (full l) q e = let z : ◌≡◌ {A = ℕ} 0 1 = cc in absurd (omega arith)
