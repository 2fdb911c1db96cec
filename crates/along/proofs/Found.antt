-- Going along the path answers what the full read's entries do, whatever is read behind.
-- Assumes nothing.
use mathlib.Core.Path.{◌≡◌, refl, sym, ap, ◌∙◌}
use mathlib.Core.Bool.{Bool, true, false}
use mathlib.Core.List.{List, [], ◌∷◌}
use mathlib.Core.Option.{Option, none, some}
use Prim.Native.Nat.{ℕ, zero, suc, ◌-◌}
use native.Mathlib.Omega.{arith}
use lib.ListN.{length}
use borrow.Author.Tests.{ltb-false}
use Rattle.wire.specs.declared.Refusal.TheVariants.{Room}
use Rattle.wire.specs.Item.{Item}
use Rattle.wire.specs.Item.{Took, Refused as NotTaken}
use Rattle.wire.specs.Tests.{pick, given, decided}
use Rattle.wire.specs.Shape.{Kind, plain, pooled, option, sequence, map, struct, enum, same_kind, Shape, node, Shapes, count}
use Rattle.wire.specs.Shape as shapes
use Rattle.wire.specs.Walk.{each, following, all, times, along, walk, walks}
use Rattle.wire.specs.Values.{Entry, tell}
use Rattle.wire.specs.Reading.{head, Spot, Run, Outcome, reached, refused, run_after, read_nothing, read_on, read_then, past, enter, read_item, reading, read, fit}
use Rattle.laws.specs.Steps.{row}
use Rattle.laws.specs.Told.{Kept, keeps, cuts}
use Rattle.laws.proofs.Splits.{not-both}
use Rattle.laws.proofs.Runs.{then-then, item-then, then-nothing, fit_then, fit-item, fit_none}
use Rattle.laws.proofs.Told.{read_told}
use Rattle.desk.specs.FindAnswer.{FindAnswer}
use Rattle.desk.specs.FindAnswer.{Absent, Refused}
use Rattle.desk.specs.Path.{is_passed, leads, leads_at, is_there, Located, absent, locate_on, locate_item, locate, locate_at, find_answer, find_in}
use Rattle.along.specs.Seek.{seek_on, seek_item, seek, seek_at}
use Rattle.along.specs.Laws.{SeeksFound}

-- ---- the way in

pub no-some : {A : Type 0} {a : A} → ◌≡◌ {A = Option A} none (some a) → ⊥
no-some e = let z : ◌≡◌ {A = ℕ} 0 1 = cc in omega arith

-- a path goes in where an item is passed and there: its children follow at least once
pub record GoesIn (k : Kind) (a : ℕ) : Type 0 where
  pub more : ℕ
  pub rounds : following k a ≡ each (suc more)

goes_in : (k : Kind) (a : ℕ) → is_passed k ≡ true → is_there k a ≡ true → GoesIn k a
unfolding is_passed is_there same_kind decided pick following
goes_in (plain l) a p h = not-both p refl
goes_in (pooled c) a p h = not-both p refl
goes_in option zero p h = not-both h refl
goes_in option (suc a) p h = record { more = a; rounds = refl }
goes_in sequence a p h = not-both p refl
goes_in map a p h = not-both p refl
goes_in struct a p h = record { more = 0; rounds = refl }
goes_in enum a p h = not-both p refl

-- what is not there is an option, read as absent
pub record Lacking (k : Kind) (a : ℕ) : Type 0 where
  pub kind : k ≡ option
  pub word : a ≡ 0

pub lacking : (k : Kind) (a : ℕ) → is_there k a ≡ false → Lacking k a
unfolding is_there same_kind decided pick
lacking (plain l) a h = not-both refl h
lacking (pooled c) a h = not-both refl h
lacking option a h = record { kind = refl; word = omega (arith, ltb-false 0 a h) }
lacking sequence a h = not-both refl h
lacking map a h = not-both refl h
lacking struct a h = not-both refl h
lacking enum a h = not-both refl h

pub given-some : {A : Type 0} (b : Bool) (f : Unit {0} → Option A) {a : A} → given b f none ≡ some a → (b ≡ true) × (f tt ≡ some a)
unfolding given
given-some true f e = (refl, e)
given-some false f e = absurd (no-some e)

-- ---- the same answer

abbrev after : Shapes → (Spot → Run) → ℕ → Spot → Run
after ts g room x = fit room (read_then (row (reading head) ts) g x)

abbrev within : Shape → (Spot → Run) → ℕ → Spot → Run
within t g room x = fit room (read_then (read t) g x)

-- what follows an item that the path goes into begins with its children
in-along : (k : Kind) (a : ℕ) (ts : Shapes) (g : Spot → Run) → (i : GoesIn k a) → (y : Spot)
    → read_then (along (reading head) (following k a) (walks (reading head) ts)) g y ≡ read_then (row (reading head) ts) (read_then (times (reading head) i.more (row (reading head) ts)) g) y
in-along k a ts g i y = rw i.rounds (unfold along times in then-then (row (reading head) ts) (times (reading head) i.more (row (reading head) ts)) g y)

-- an item: where its inside is reached, the answers agree there
same_item_lem : (k : Kind) (path : List ℕ) (room : ℕ) (next : ℕ → Spot → Run) (here : ℕ → List ℕ → Spot → FindAnswer) (there : ℕ → List ℕ → List Entry → Located) (x : Spot)
    → ((i : ℕ) (rest : List ℕ) → path ≡ i ∷ rest → (a : ℕ) → is_there k a ≡ true → (y : Spot)
    → here i rest y ≡ find_answer (there i rest (fit room (next a y)).made) (fit room (next a y)).ends)
    → (j : Item)
    → seek_item k path j x here
    ≡ find_answer (locate_item k path (enter j (λ a y. fit room (next a y)) x).made there) (enter j (λ a y. fit room (next a y)) x).ends
unfolding seek_item locate_item enter run_after find_answer given
same_item_lem k [] room next here there x h (NotTaken e) = refl
same_item_lem k (i ∷ path) room next here there x h (NotTaken e) = refl
same_item_lem k [] room next here there x h (Took own) = refl
same_item_lem k (i ∷ path) room next here there x h (Took own) = go (is_there k own.first) refl
  where
    go : (t : Bool) → is_there k own.first ≡ t
        → given t (λ _. here i path (past own.used x)) (Absent x.place)
        ≡ find_answer (given t (λ _. there i path (fit room (next own.first (past own.used x))).made) (absent x.place)) (fit room (next own.first (past own.used x))).ends
    go true q = h i path refl own.first q (past own.used x)
    go false q = refl

nil-cons : {A : Type 0} {i : ℕ} {rest : List ℕ} → ◌≡◌ {A = List ℕ} [] (i ∷ rest) → A
nil-cons e = let z : ◌≡◌ {A = ℕ} 0 1 = cc in absurd (omega arith)

-- the children's answers, as far as the path wants them
abbrev Inside : Kind → Shapes → List ℕ → Type 0
Inside k ts path = (i : ℕ) (rest : List ℕ) → path ≡ i ∷ rest → (is_passed k ≡ true)
    × ((g : Spot → Run) (room : ℕ) (y : Spot) → seek_at ts i rest room y ≡ find_answer (locate_at ts i rest (after ts g room y).made) (after ts g room y).ends)

cons-cons : (k : Kind) (ts : Shapes) (i : ℕ) (path : List ℕ) (j : ℕ) (rest : List ℕ) → ◌≡◌ {A = List ℕ} (i ∷ path) (j ∷ rest) → is_passed k ≡ true
    → ((g : Spot → Run) (room : ℕ) (y : Spot) → seek_at ts i path room y ≡ find_answer (locate_at ts i path (after ts g room y).made) (after ts g room y).ends)
    → (is_passed k ≡ true)
    × ((g : Spot → Run) (room : ℕ) (y : Spot) → seek_at ts j rest room y ≡ find_answer (locate_at ts j rest (after ts g room y).made) (after ts g room y).ends)
cons-cons k ts i path j rest q p h =
    let a : i ≡ j = cc in
    let b : path ≡ rest = cc in
    (p, rw (← a, ← b) h)

same-node : (k : Kind) (ts : Shapes) (path : List ℕ) → Inside k ts path → (g : Spot → Run) (room : ℕ) (x : Spot)
    → seek (node k ts) path room x ≡ find_in (node k ts) path (within (node k ts) g room x)
unfolding seek find_in locate read walk
same-node k ts path inside g zero x =
    rw (
      item-then head k (count ts) (λ a. along (reading head) (following k a) (walks (reading head) ts)) g x,
      fit_none head k (count ts) (λ a. read_then (along (reading head) (following k a) (walks (reading head) ts)) g) x,
    )
    (nothing path)
  where
    nothing : (path : List ℕ) → Refused Room x.place ≡ find_answer (locate_item k path [] (λ i rest fs. locate_at ts i rest fs)) (refused Room x.place)
    nothing path = unfold locate_item find_answer in refl
same-node k ts path inside g (suc room) x =
    rw (
      item-then head k (count ts) (λ a. along (reading head) (following k a) (walks (reading head) ts)) g x,
      fit-item head k (count ts) (λ a. read_then (along (reading head) (following k a) (walks (reading head) ts)) g) x room,
    )
    (unfold read_item in same_item_lem k path room (λ a. read_then (along (reading head) (following k a) (walks (reading head) ts)) g)
    (λ i rest y. seek_at ts i rest room y) (λ i rest fs. locate_at ts i rest fs) x child (head k (count ts) x.place x.bytes))
  where
    child : (i : ℕ) (rest : List ℕ) → path ≡ i ∷ rest → (a : ℕ) → is_there k a ≡ true → (y : Spot)
        → seek_at ts i rest room y
        ≡ find_answer (locate_at ts i rest (fit room (read_then (along (reading head) (following k a) (walks (reading head) ts)) g y)).made)
        (fit room (read_then (along (reading head) (following k a) (walks (reading head) ts)) g y)).ends
    child i rest q a h y =
        let c = inside i rest q in
        let w = goes_in k a c.0 h in
        rw (in-along k a ts g w y) (c.1 (read_then (times (reading head) w.more (row (reading head) ts)) g) room y)

-- the fields in front
same_row_lem : (t : Shape) (ts : Shapes) (i : ℕ) (path : List ℕ)
    → ((g : Spot → Run) (room : ℕ) (y : Spot) → seek_at ts i path room y ≡ find_answer (locate_at ts i path (after ts g room y).made) (after ts g room y).ends)
    → (g : Spot → Run) (room : ℕ) (x : Spot)
    → seek_at (shapes.more t ts) (suc i) path room x
    ≡ find_answer (locate_at (shapes.more t ts) (suc i) path (after (shapes.more t ts) g room x).made) (after (shapes.more t ts) g room x).ends
unfolding seek_at locate_at walks all
same_row_lem t ts i path h g room x =
    rw (then-then (λ y. walk (reading head) t y) (row (reading head) ts) g x, fit_then room (λ y. walk (reading head) t y) (read_then (row (reading head) ts) g) x)
    (unfold read in go (fit room (walk (reading head) t x)).made (fit room (walk (reading head) t x)).ends (unfold read in read_told t room x))
  where
    next : List Entry → Spot → Run
    next es y = fit (room - length es) (read_then (row (reading head) ts) g y)

    go : (es : List Entry) (o : Outcome) → Kept (tell t) es o
        → seek_on room es o (λ left y. seek_at ts i path left y)
        ≡ find_answer (locate_on (tell t (read_on es o (next es)).made) (λ rest. locate_at ts i path rest)) (read_on es o (next es)).ends
    go es (reached y) (keeps us k) = unfold read_on run_after seek_on in rw (k.told (next es y).made) (unfold locate_on in h g (room - length es) y)
    go es (refused e p) (cuts us k) = unfold read_on seek_on in rw k (unfold locate_on find_answer in refl)

first_field : (t : Shape) (ts : Shapes) (g : Spot → Run) (x : Spot)
    → read_then (read t) (read_then (row (reading head) ts) g) x ≡ read_then (read_then (λ y. walk (reading head) t y) (row (reading head) ts)) g x
unfolding read
first_field t ts g x = sym (then-then (λ y. walk (reading head) t y) (row (reading head) ts) g x)

mutual
  unfolding leads leads_at seek_at locate_at walks all find_in

  along-path : (t : Shape) (path : List ℕ) (k : Kind) → leads t path ≡ some k → (g : Spot → Run) (room : ℕ) (x : Spot)
      → seek t path room x ≡ find_in t path (within t g room x)
  along-path (node k ts) [] l e g room x = same-node k ts [] (λ i rest q. nil-cons q) g room x
  along-path (node k ts) (i ∷ path) l e g room x =
      same-node k ts (i ∷ path) (λ j rest q. cons-cons k ts i path j rest q (given-some (is_passed k) (λ _. leads_at ts i path) e).0
      (λ g room y. along-row ts i path l (given-some (is_passed k) (λ _. leads_at ts i path) e).1 g room y)) g room x

  along-row : (ts : Shapes) (i : ℕ) (path : List ℕ) (k : Kind) → leads_at ts i path ≡ some k → (g : Spot → Run) (room : ℕ) (x : Spot)
      → seek_at ts i path room x ≡ find_answer (locate_at ts i path (after ts g room x).made) (after ts g room x).ends
  along-row shapes.none i path k e g room x = absurd (no-some e)
  along-row (shapes.more t ts) zero path k e g room x =
      along-path t path k e (read_then (row (reading head) ts) g) room x
      ∙ ap (λ r. find_in t path (fit room r)) (first_field t ts g x)
  along-row (shapes.more t ts) (suc i) path k e g room x = same_row_lem t ts i path (λ g room y. along-row ts i path k e g room y) g room x

pub seeks-found : SeeksFound
seeks-found t path k e room x = along-path t path k e read_nothing room x ∙ ap (λ r. find_in t path (fit room r)) (then-nothing (read t) x)
