-- Laying a run: entries in front of it are laid first, by one entry and then by induction; and what comes behind a run is laid from where it was left.
-- Assumes nothing.
use mathlib.Core.Path.{◌≡◌, refl, ap, ap₂, sym, ◌∙◌}
use mathlib.Core.List.{List, [], ◌∷◌, ◌++◌}
use Prim.Native.Nat.{ℕ, suc, ◌+◌, ◌-◌, ◌*◌, ◌≤◌, ◌<◌}
use native.Mathlib.Nat.{add-zero, add_assoc}
use native.Mathlib.Omega.{arith}
use lib.ListN.{length, take, length-append}
use lib.Seq.{take-nil}
use Rattle.wire.specs.declared.Refusal.{Refusal}
use Rattle.wire.specs.declared.Refusal.TheVariants.{Room}
use Rattle.wire.specs.Values.{Entry}
use Rattle.wire.specs.Reading.{Spot, Outcome, reached, refused, Run, run_after, read_nothing, read_on, read_then, within, fit}
use Rattle.wire.specs.Answers.{words_per, words, words_of, room_of}
use Rattle.laws.proofs.Splits.{by-lt}
use Rattle.laws.proofs.Parts.{sets-append}
use Rattle.laws.proofs.Runs.{fit_then}
use Rattle.entry.specs.Words.{put_at}
use Rattle.entry.proofs.Words.{put-there, put-nowhere, room-put, next-words}
use Rattle.read_item.specs.Lay.{Left, store_from, laid, lay}

abbrev pub left : Outcome → ℕ → List ℕ → Left
left end n s = record { ends = end; count = n; store = s }

-- ---- the store

store-none : (m : ℕ) (s : List ℕ) → store_from [] m s ≡ s
unfolding store_from words
store-none m s = rw (take-nil (room_of s - m))

-- the first entry is put, if the store has words for it
store_entry : (e : Entry) (es : List Entry) (m : ℕ) (s : List ℕ) → store_from (e ∷ es) m s ≡ store_from es (m + 1) (put_at s m (words_of e))
unfolding store_from words
store_entry e es m s =
    by-lt m (room_of s)
    (λ h.
    let one : room_of s - m ≡ suc (room_of s - (m + 1)) = omega arith in
    rw (room-put s m (words_of e), put-there s m (words_of e) h, one, next-words m e, sets-append s (words_per * m) (words_of e) (words (take (room_of s - (m + 1)) es))))
    (λ h.
    let none : room_of s - m ≡ 0 = omega arith in
    let later : room_of s - (m + 1) ≡ 0 = omega arith in
    rw (room-put s m (words_of e), put-nowhere s m (words_of e) h, none, later))

store-behind : (es fs : List Entry) (m : ℕ) (s : List ℕ) → store_from (es ++ fs) m s ≡ store_from fs (m + length es) (store_from es m s)
store-behind [] fs m s = rw (store-none m s, add-zero m)
store-behind (e ∷ es) fs m s =
    let next : m + 1 + length es ≡ m + suc (length es) = omega arith in
    store_entry e (es ++ fs) m s ∙ store-behind es fs (m + 1) (put_at s m (words_of e)) ∙ ap₂ (store_from fs) next (sym (store_entry e es m s))

-- ---- a run

pub laid_none : (o : Outcome) (m : ℕ) (s : List ℕ) → laid (record { made = []; ends = o }) m s ≡ left o m s
unfolding laid
laid_none o m s = rw (add-zero m, store-none m s)

laid-behind : (es : List Entry) (r : Run) (m : ℕ) (s : List ℕ) → laid (run_after es r) m s ≡ laid r (m + length es) (store_from es m s)
unfolding laid run_after
laid-behind es r m s = rw (length-append es r.made, add_assoc m (length es) (length r.made), store-behind es r.made m s)

laid-entry : (e : Entry) (r : Run) (m : ℕ) (s : List ℕ) → laid (run_after (e ∷ []) r) m s ≡ laid r (m + 1) (put_at s m (words_of e))
laid-entry e r m s = laid-behind (e ∷ []) r m s ∙ ap (laid r (m + 1)) (store_entry e [] m s ∙ store-none (m + 1) (put_at s m (words_of e)))

-- ---- with room

module _ (room : ℕ) where
  pub lay-nothing : (x : Spot) (m : ℕ) (s : List ℕ) → lay room (read_nothing x) m s ≡ left (reached x) m s
  unfolding lay fit within read_nothing
  lay-nothing x m s = laid_none (reached x) m s

  -- what g makes of where a run was left
  abbrev pub on_by : Outcome → Left → (Spot → Run) → Left
  on_by (reached y) w g = lay room (g y) w.count w.store
  on_by (refused e p) w g = w

  pub lay-then : (f g : Spot → Run) (x : Spot) (m : ℕ) (s : List ℕ) → lay room (read_then f g x) m s ≡ on_by (lay room (f x) m s).ends (lay room (f x) m s) g
  unfolding lay laid read_on
  lay-then f g x m s = ap (λ r. laid r m s) (fit_then (room - m) f g x) ∙ go (fit (room - m) (f x)).made (fit (room - m) (f x)).ends
    where
      go : (es : List Entry) (o : Outcome)
          → laid (read_on es o (λ y. fit (room - m - length es) (g y))) m s ≡ on_by o (laid (record { made = es; ends = o }) m s) g
      go es (refused e p) = refl
      go es (reached y) =
          let rest : room - (m + length es) ≡ room - m - length es = omega arith in
          laid-behind es (fit (room - m - length es) (g y)) m s ∙ rw rest

  -- an item wants room: for its entry, which is in front, and for its refusal
  module _ (m : ℕ) (s : List ℕ) where
    pub lay-entry : (e : Entry) (r : Run) → m < room → lay room (run_after (e ∷ []) r) m s ≡ lay room r (m + 1) (put_at s m (words_of e))
    unfolding lay fit within run_after
    lay-entry e r h =
        let one : room - m ≡ suc (room - (m + 1)) = omega arith in
        rw one (laid-entry e (within (room - (m + 1)) r.made r.ends) m s)

    pub lay-refused : (e : Refusal) (p : ℕ) → m < room → lay room (record { made = []; ends = refused e p }) m s ≡ left (refused e p) m s
    unfolding lay fit within
    lay-refused e p h =
        let one : room - m ≡ suc (room - (m + 1)) = omega arith in
        rw one (laid_none (refused e p) m s)

    pub lay-full : (e : Entry) (r : Run) → room ≤ m → lay room (run_after (e ∷ []) r) m s ≡ left (refused Room e.place) m s
    unfolding lay fit within run_after
    lay-full e r h = let none : room - m ≡ 0 = omega arith in rw none (laid_none (refused Room e.place) m s)
