-- The answer for a path is settled by the bytes up to the end of the item that decides it.
-- Assumes nothing.
use mathlib.Core.Path.{◌≡◌, refl, sym, ap, ◌∙◌}
use mathlib.Core.Bool.{Bool, true, false}
use mathlib.Core.List.{List, [], ◌∷◌, ◌++◌}
use mathlib.Core.Option.{some, none}
use Prim.Native.Nat.{ℕ, zero, suc, ◌+◌, ◌-◌, ◌≤◌}
use native.Mathlib.Nat.{add-zero, zero-add, add_assoc}
use native.Mathlib.Omega.{arith}
use lib.ListN.{length, drop, length-drop}
use lib.Seq.{drop-append-le, drop-drop}
use Rattle.wire.specs.declared.Refusal.{Refusal}
use Rattle.wire.specs.declared.Own.{Own}
use Rattle.wire.specs.Item.{Item}
use Rattle.wire.specs.Item.{Took, Refused as NotTaken}
use Rattle.wire.specs.Tests.{pick, given}
use Rattle.wire.specs.Shape.{Kind, plain, pooled, option, sequence, map, struct, enum, Shape, node, Shapes, count}
use Rattle.wire.specs.Shape as shapes
use Rattle.wire.specs.Values.{Entry}
use Rattle.wire.specs.Reading.{head, Spot, front, Outcome, reached, refused, past, read, fit}
use Rattle.laws.specs.Longer.{spot, Moved}
use Rattle.laws.proofs.Splits.{not-both}
use Rattle.laws.proofs.Longer.{front-item}
use Rattle.laws.proofs.Early.{past-front, fit-early}
use Rattle.desk.specs.FindAnswer.{FindAnswer}
use Rattle.desk.specs.FindAnswer.{Found, NoItem, Absent, Refused}
use Rattle.desk.specs.Path.{is_field, is_passed, leads, leads_at, is_there, find_in}
use Rattle.along.specs.Seek.{seek_on, seek_item, seek, seek_at}
use Rattle.along.specs.Laws.{Decides, item, gone, Settled, settled, LaterBytes, SomeItem}
use Rattle.along.specs.Laws as laws
use Rattle.along.proofs.Found.{no-some, given-some, lacking, seeks-found}

-- m bytes on from x stands the item that decides, and on all bytes that begin with those up to its end the answer is the same
data Fixed (k : Kind) (x : Spot) (here : Spot → FindAnswer) : FindAnswer → Type 0 where
  fixed : {ans : FindAnswer} (m u : ℕ) → Decides k (drop m x.bytes) (x.place + m) u ans
      → ((s r r' : List ℕ) → x.bytes ≡ s ++ r → m + u ≤ length s → here (spot (s ++ r') x.place) ≡ ans) → Fixed k x here ans
  refuses : {e : Refusal} {p : ℕ} → Fixed k x here (Refused e p)

-- an answer that is fixed n bytes on, if those n bytes lead there
shift : {k : Kind} (x : Spot) (n : ℕ) (inner here : Spot → FindAnswer) {ans : FindAnswer} → Fixed k (past n x) inner ans
    → ((s r r' : List ℕ) → x.bytes ≡ s ++ r → n ≤ length s → here (spot (s ++ r') x.place) ≡ inner (past n (spot (s ++ r') x.place)))
    → Fixed k x here ans
unfolding past
shift {k} x n inner here (fixed {ans} m u d again) leads-there =
    fixed (n + m) u (rw (drop-drop m n x.bytes, add_assoc x.place n m) at d)
    (λ s r r' q l.
    let h : n ≤ length s = omega arith in
    leads-there s r r' q h ∙ ap inner (past-front n s r' x.place h)
    ∙ again (drop n s) r r' (ap (drop n) q ∙ drop-append-le n s r h) (omega (arith, length-drop n s)))
shift x n inner here refuses leads-there = refuses

-- ---- an item

-- the path's own item has no use for children
head-count : (k : Kind) (n p : ℕ) (s : List ℕ) → is_field k ≡ true → head k n p s ≡ head k 0 p s
unfolding is_field head
head-count (plain l) n p s h = refl
head-count (pooled c) n p s h = refl
head-count option n p s h = not-both h refl
head-count sequence n p s h = not-both h refl
head-count map n p s h = not-both h refl
head-count struct n p s h = not-both h refl
head-count enum n p s h = not-both h refl

option-count : (k : Kind) (n p : ℕ) (s : List ℕ) → k ≡ option → head k n p s ≡ head option 0 p s
unfolding head
option-count k n p s e = rw e

pick_some : {A : Type 0} (b : Bool) {a c : A} → pick b (some a) none ≡ some c → (b ≡ true) × (a ≡ c)
unfolding pick
pick_some true e = (refl, cc)
pick_some false e = absurd (no-some e)

-- the path ends at the node
fix-end : (k : Kind) (ts : Shapes) → is_field k ≡ true → (room : ℕ) (x : Spot) → Fixed k x (seek (node k ts) [] (suc room)) (seek (node k ts) [] (suc room) x)
fix-end k ts f room x = unfold seek in go (head k (count ts) x.place x.bytes) refl
  where
    next : ℕ → List ℕ → Spot → FindAnswer
    next i rest y = seek_at ts i rest room y

    go : (i : Item) → head k (count ts) x.place x.bytes ≡ i
        → Fixed k x (λ y. seek_item k [] (head k (count ts) y.place y.bytes) y next) (seek_item k [] i x next)
    go (NotTaken e) p = unfold seek_item in refuses
    go (Took own) p =
        unfold seek_item in
        fixed {ans = Found own.first own.second x.place} 0 own.used (rw (add-zero x.place) (item (sym (head-count k (count ts) x.place x.bytes f) ∙ p) refl))
        (λ s r r' q l. rw (front-item k (count ts) x.place s r r' own (ap (head k (count ts) x.place) (sym q) ∙ p) (omega arith)))

-- the path goes on
fix-on : (k l : Kind) (ts : Shapes) (i : ℕ) (rest : List ℕ) → ((room : ℕ) (x : Spot) → Fixed l x (seek_at ts i rest room) (seek_at ts i rest room x))
    → (room : ℕ) (x : Spot) → Fixed l x (seek (node k ts) (i ∷ rest) (suc room)) (seek (node k ts) (i ∷ rest) (suc room) x)
fix-on k l ts i rest h room x = unfold seek in go (head k (count ts) x.place x.bytes) refl
  where
    next : ℕ → List ℕ → Spot → FindAnswer
    next j more y = seek_at ts j more room y

    here : Spot → FindAnswer
    here y = seek_item k (i ∷ rest) (head k (count ts) y.place y.bytes) y next

    again : (own : Own) → head k (count ts) x.place x.bytes ≡ Took own → (s r r' : List ℕ) → x.bytes ≡ s ++ r → own.used ≤ length s
        → here (spot (s ++ r') x.place) ≡ given (is_there k own.first) (λ _. seek_at ts i rest room (past own.used (spot (s ++ r') x.place))) (Absent x.place)
    again own p s r r' q l = unfold seek_item in rw (front-item k (count ts) x.place s r r' own (ap (head k (count ts) x.place) (sym q) ∙ p) l)

    there : (own : Own) → head k (count ts) x.place x.bytes ≡ Took own → (t : Bool) → is_there k own.first ≡ t
        → Fixed l x here (given t (λ _. seek_at ts i rest room (past own.used x)) (Absent x.place))
    there own p true t =
        unfold given in
        shift x own.used (seek_at ts i rest room) here (h room (past own.used x)) (λ s r r' q z. again own p s r r' q z ∙ rw t (unfold given in refl))
    there own p false t =
        let c = lacking k own.first t in
        unfold given in
        fixed {ans = Absent x.place} 0 own.used (rw (add-zero x.place) (gone (sym (option-count k (count ts) x.place x.bytes c.kind) ∙ p) c.word refl))
        (λ s r r' q z. again own p s r r' q (omega arith) ∙ rw t (unfold given in refl))

    go : (j : Item) → head k (count ts) x.place x.bytes ≡ j → Fixed l x here (seek_item k (i ∷ rest) j x next)
    go (NotTaken e) p = unfold seek_item in refuses
    go (Took own) p = unfold seek_item in there own p (is_there k own.first) refl

fix-zero : (k l : Kind) (ts : Shapes) (path : List ℕ) (x : Spot) → Fixed l x (seek (node k ts) path zero) (seek (node k ts) path zero x)
unfolding seek
fix-zero k l ts path x = refuses

-- the fields in front
fix_field : (l : Kind) (t : Shape) (ts : Shapes) (i : ℕ) (path : List ℕ) → ((room : ℕ) (x : Spot) → Fixed l x (seek_at ts i path room) (seek_at ts i path room x))
    → (room : ℕ) (x : Spot) → Fixed l x (seek_at (shapes.more t ts) (suc i) path room) (seek_at (shapes.more t ts) (suc i) path room x)
fix_field l t ts i path h room x = unfold seek_at in go (fit room (read t x)).made (fit room (read t x)).ends refl
  where
    next : ℕ → Spot → FindAnswer
    next left y = seek_at ts i path left y

    here : Spot → FindAnswer
    here y = seek_on room (fit room (read t y)).made (fit room (read t y)).ends next

    on : (es : List Entry) (y : Spot) → Moved (λ z. fit room (read t z)) x es y → Fixed l x here (seek_at ts i path (room - length es) y)
    on es y w =
        rw w.ends
        (shift x w.used (seek_at ts i path (room - length es)) here (h (room - length es) (past w.used x)) (λ s r r' q z. rw (w.again s r r' q z) (unfold seek_on in refl)))

    go : (es : List Entry) (o : Outcome) → fit room (read t x) ≡ record { made = es; ends = o } → Fixed l x here (seek_on room es o next)
    go es (reached y) p = unfold seek_on in on es y (fit-early t room x es y p)
    go es (refused e f) p = unfold seek_on in refuses

mutual
  unfolding leads leads_at seek_at

  fix-path : (t : Shape) (path : List ℕ) (l : Kind) → leads t path ≡ some l → (room : ℕ) (x : Spot) → Fixed l x (seek t path room) (seek t path room x)
  fix-path (node k ts) path l e zero x = fix-zero k l ts path x
  fix-path (node k ts) [] l e (suc room) x = rw (← (pick_some (is_field k) e).1) (fix-end k ts (pick_some (is_field k) e).0 room x)
  fix-path (node k ts) (i ∷ path) l e (suc room) x =
      fix-on k l ts i path (λ room x. fix-row ts i path l (given-some (is_passed k) (λ _. leads_at ts i path) e).1 room x) room x

  fix-row : (ts : Shapes) (i : ℕ) (path : List ℕ) (l : Kind) → leads_at ts i path ≡ some l → (room : ℕ) (x : Spot)
      → Fixed l x (seek_at ts i path room) (seek_at ts i path room x)
  fix-row shapes.none i path l e room x = absurd (no-some e)
  fix-row (shapes.more t ts) zero path l e room x = fix-path t path l e room x
  fix-row (shapes.more t ts) (suc i) path l e room x = fix_field l t ts i path (λ room x. fix-row ts i path l e room x) room x

pub later-bytes : LaterBytes
later-bytes t path k e room message = rw (← seeks-found t path k e room (front message)) (go (fix-path t path k e room (front message)))
  where
    go : {ans : FindAnswer} → Fixed k (front message) (seek t path room) ans → Settled k message (λ m. find_in t path (fit room (read t (front m)))) ans
    go (fixed m u d again) =
        settled m u (rw (zero-add m) at d) (λ s rest other q h. sym (seeks-found t path k e room (front (s ++ other))) ∙ again s rest other q h)
    go refuses = laws.refuses

pub some_item : SomeItem
some_item t path k e room message n = go (later-bytes t path k e room message) n
  where
    decided-some : {s : List ℕ} {p u : ℕ} {r : FindAnswer} → Decides k s p u r → r ≡ NoItem → ⊥
    decided-some (item q u) n = let z : ◌≡◌ {A = ℕ} 0 1 = cc in omega arith
    decided-some (gone q w u) n = let z : ◌≡◌ {A = ℕ} 0 1 = cc in omega arith

    go : {answer : List ℕ → FindAnswer} {r : FindAnswer} → Settled k message answer r → r ≡ NoItem → ⊥
    go (settled p u d a) n = decided-some d n
    go laws.refuses n = let z : ◌≡◌ {A = ℕ} 0 1 = cc in omega arith
