-- Two readings whose items are alike are alike.
-- Assumes nothing.
use mathlib.Core.Path.{◌≡◌, refl, sym, ap, ◌∙◌}
use mathlib.Core.Bool.{Bool, true, false}
use mathlib.Core.List.{List, [], ◌++◌, append_assoc}
use Prim.Native.Nat.{ℕ, ◌≤◌}
use Rattle.wire.specs.Item.{Item}
use Rattle.wire.specs.Shape.{Kind, Shape}
use Rattle.wire.specs.Walk.{Follow, following, is_known, Walk}
use Rattle.wire.specs.Values.{Entry}
use Rattle.wire.specs.Append.{Matches}
use Rattle.wire.specs.Reading.{Head, Spot, Run, Outcome, reached, refused, run_after, read_nothing, read_on, read_then, past, enter, read_item, reading}
use Rattle.laws.specs.Steps.{Law, Every}
use Rattle.laws.specs.Beside.{Sides, Each, none, also, Runs, ended, parted, Items, alike, refuse, part, ItemsAlike, ReadsAlike}
use Rattle.laws.proofs.Walks.{walk-law, every}

each_append : {E : Entry → Entry → Type 0} {ds es fs gs : List Entry} → Each E ds es → Each E fs gs → Each E (ds ++ fs) (es ++ gs)
each_append none k = k
each_append (also e h) k = also e (each_append h k)

-- the first reading and the second
abbrev sides : Head → Head → Bool → Walk
sides h h' true = reading h
sides h h' false = reading h'

module _ (b : Sides) where
  record Alike (f g : Spot → Run) : Type 0 where
    runs : (x y : Spot) → b.Spots x y → Runs b (f x).made (f x).ends (g y).made (g y).ends

  runs-behind : {ds es fs gs : List Entry} {o p : Outcome} → Each b.Entries ds es → Runs b fs o gs p → Runs b (ds ++ fs) o (es ++ gs) p
  runs-behind h (ended k s) = ended (each_append h k) s
  runs-behind {es} h (parted {es = gs} {rest} q k s) = parted {es = es ++ gs} {rest = rest} (ap (λ l. es ++ l) q ∙ sym (append_assoc es gs rest)) (each_append h k) s

  alike-nothing : Alike read_nothing read_nothing
  unfolding read_nothing
  alike-nothing = record { runs = λ x y s. ended none s }

  alike_then : {f f' g g' : Spot → Run} → Alike f g → Alike f' g' → Alike (read_then f f') (read_then g g')
  unfolding read_then read_on run_after
  alike_then {f'} {g'} h k = record { runs = λ x y s. go (h.runs x y s) }
    where
      go : {ds es : List Entry} {o p : Outcome} → Runs b ds o es p → Runs b (read_on ds o f').made (read_on ds o f').ends (read_on es p g').made (read_on es p g').ends
      go (ended {x} {y} c s) = runs-behind c (k.runs x y s)
      go (parted {es} {rest} {o = reached y} q c s) = parted {es = es} {rest = rest ++ (g' y).made} (ap (λ l. l ++ (g' y).made) q ∙ append_assoc es rest (g' y).made) c (b.later s (g' y).made (g' y).ends)
      go (parted {o = refused f r} q c s) = parted q c s

  module _ (h h' : Head) where
    alike-item : (f g : Follow → Spot → Run) (k : Kind) (n m : ℕ) → ItemsAlike b h h' n m
        → ((a : ℕ) → is_known (following k a) n ≡ true → Alike (f (following k a)) (g (following k a)))
        → Alike (read_item h k n (λ a. f (following k a))) (read_item h' k m (λ a. g (following k a)))
    unfolding read_item enter run_after
    alike-item f g k n m items r = record { runs = λ x y s. go x y (items k x y s) }
      where
        go : (x y : Spot) {i j : Item} → Items b k n x y i j
            → Runs b (enter i (λ a. f (following k a)) x).made (enter i (λ a. f (following k a)) x).ends (enter j (λ a. g (following k a)) y).made (enter j (λ a. g (following k a)) y).ends
        go x y (alike {o} {q} kn e c s) = rw (← e) (runs-behind (also c none) ((r o.first kn).runs (past o.used x) (past q.used y) s))
        go x y (refuse s) = parted {es = []} refl none s
        go x y (part s) = parted {es = []} refl none (s _ _)

    pub matching-alike : ((n m : ℕ) → n ≤ m → ItemsAlike b h h' n m) → {s t : Shape} → Matches s t → ReadsAlike b h h' s t
    matching-alike items m = (walk-law law m).runs
      where
        law : Law (λ (i : Unit {0}). reading h) (λ (i : Unit {0}). reading h') (λ f g. Alike (f tt) (g tt))
        law = record { none = alike-nothing; both = alike_then; made = λ f g k n m l. alike-item (λ way. f way tt) (λ way. g way tt) k n m (items n m l) }

    pub itself-alike : ((n : ℕ) → ItemsAlike b h h' n n) → (t : Shape) → ReadsAlike b h h' t t
    itself-alike items t = (every law t).runs
      where
        law : Every (sides h h') (λ f. Alike (f true) (f false))
        law = record { none = alike-nothing; both = alike_then; made = λ f k n r. alike-item (λ way. f way true) (λ way. f way false) k n n (items n) (λ a e. r a) }
