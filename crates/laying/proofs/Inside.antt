-- A refusal stands no farther than the bytes, with any room.
-- Assumes nothing.
use mathlib.Core.Path.{◌≡◌, refl, sym, ap, ◌∙◌}
use mathlib.Core.List.{List}
use Prim.Native.Nat.{ℕ, zero, suc, ◌+◌, ◌-◌, ◌≤◌}
use native.Mathlib.Omega.{arith}
use lib.ListN.{length, length-drop}
use Rattle.wire.specs.declared.Refusal.{Refusal}
use Rattle.wire.specs.Item.{Item}
use Rattle.wire.specs.Item.{Took, Refused}
use Rattle.wire.specs.Shape.{Kind, Shape}
use Rattle.wire.specs.Walk.{following}
use Rattle.wire.specs.Values.{Entry}
use Rattle.wire.specs.Reading.{Spot, front, Outcome, reached, refused, Run, head, run_after, read_nothing, read_on, read_then, past, enter, read_item, reading, read, within, fit}
use Rattle.laws.specs.Steps.{Every}
use Rattle.laws.specs.Bounds.{Fits, takes}
use Rattle.laws.proofs.Walks.{every}
use Rattle.laws.proofs.Bounds.{head-fits}
use Rattle.laws.proofs.Runs.{fit_then, fit-item, fit_none, fit-reached}
use Rattle.desk.specs.Path.{most_entries}
use Rattle.desk.specs.Messages.{Keyed, skim, stops, next_by, next_of}

-- a run keeps place and bytes together, and is refused no farther than they reach
record Stays (f : Spot → Run) : Type 0 where
  keeps : (x z : Spot) (es : List Entry) → f x ≡ record { made = es; ends = reached z } → z.place + length z.bytes ≡ x.place + length x.bytes
  stops : (room : ℕ) (x : Spot) (e : Refusal) (p : ℕ) → (fit room (f x)).ends ≡ refused e p → p ≤ x.place + length x.bytes

-- ---- nothing, and one step after another

not-refused : {A : Type 0} {e : Refusal} {p : ℕ} {z : Spot} → reached z ≡ refused e p → A
not-refused q = let z : ◌≡◌ {A = ℕ} 0 1 = cc in absurd (omega arith)

nothing-stays : Stays read_nothing
nothing-stays =
    record {
      keeps = λ x z es e. ap (λ (y : Spot). y.place + length y.bytes) (sym (ended x z es e));
      stops = λ room x e p q. not-refused (never room x q);
    }
  where
    ended : (x z : Spot) (es : List Entry) → read_nothing x ≡ record { made = es; ends = reached z } → x ≡ z
    ended x z es e = unfold read_nothing in (let q : reached x ≡ reached z = ap (λ (r : Run). r.ends) e in cc)

    never : (room : ℕ) (x : Spot) {e : Refusal} {p : ℕ} → (fit room (read_nothing x)).ends ≡ refused e p → reached x ≡ refused e p
    never zero x q = unfold read_nothing fit within in q
    never (suc room) x q = unfold read_nothing fit within in q

module _ {f g : Spot → Run} (a : Stays f) (b : Stays g) where
  on-keeps : (x z : Spot) (es fs : List Entry) (o : Outcome) → f x ≡ record { made = fs; ends = o } → read_on fs o g ≡ record { made = es; ends = reached z }
      → z.place + length z.bytes ≡ x.place + length x.bytes
  unfolding read_on run_after
  on-keeps x z es fs (reached y) q e = b.keeps y z (g y).made (ap (λ o. record { made = (g y).made; ends = o }) (ap (λ r. r.ends) e)) ∙ a.keeps x y fs q
  on-keeps x z es fs (refused w p) q e = not-refused (sym (ap (λ r. r.ends) e))

  on-stops : (room : ℕ) (x : Spot) (e : Refusal) (p : ℕ) (fs : List Entry) (o : Outcome) → fit room (f x) ≡ record { made = fs; ends = o }
      → (read_on fs o (λ y. fit (room - length fs) (g y))).ends ≡ refused e p → p ≤ x.place + length x.bytes
  unfolding read_on run_after
  on-stops room x e p fs (refused w q) r h = a.stops room x e p (ap (λ r. r.ends) r ∙ h)
  on-stops room x e p fs (reached y) r h = omega (arith, b.stops (room - length fs) y e p h, a.keeps x y fs (fit-reached room (f x) fs y r).1)

  then-stays : Stays (read_then f g)
  then-stays =
      record {
        keeps = λ x z es e. on-keeps x z es (f x).made (f x).ends refl (unfold read_then in e);
        stops = λ room x e p q. on-stops room x e p (fit room (f x)).made (fit room (f x)).ends refl (sym (ap (λ r. r.ends) (fit_then room f g x)) ∙ q);
      }

-- ---- an item

past-keeps : (n : ℕ) (x : Spot) → n ≤ length x.bytes → (past n x).place + length (past n x).bytes ≡ x.place + length x.bytes
unfolding past
past-keeps n x h = simp length-drop (omega arith)

module _ (k : Kind) (n : ℕ) (g : ℕ → Spot → Run) (h : (a : ℕ) → Stays (g a)) where
  enter-keeps : (x z : Spot) (es : List Entry) (i : Item) → Fits x.bytes i → enter i g x ≡ record { made = es; ends = reached z } → z.place + length z.bytes ≡ x.place + length x.bytes
  unfolding enter run_after
  enter-keeps x z es (Took own) (takes l) e =
      (h own.first).keeps (past own.used x) z (g own.first (past own.used x)).made (ap (λ o. record { made = (g own.first (past own.used x)).made; ends = o }) (ap (λ r. r.ends) e)) ∙ past-keeps own.used x l
  enter-keeps x z es (Refused w) f e = not-refused (sym (ap (λ r. r.ends) e))

  enter-stops : (room : ℕ) (x : Spot) (e : Refusal) (p : ℕ) (i : Item) → Fits x.bytes i → (enter i (λ a y. fit room (g a y)) x).ends ≡ refused e p → p ≤ x.place + length x.bytes
  unfolding enter run_after
  enter-stops room x e p (Took own) (takes l) q = omega (arith, (h own.first).stops room (past own.used x) e p q, past-keeps own.used x l)
  enter-stops room x e p (Refused w) f q = let z : x.place ≡ p = cc in omega arith

  full-stops : (x : Spot) (e : Refusal) (p : ℕ) → (fit 0 (read_item head k n g x)).ends ≡ refused e p → p ≤ x.place + length x.bytes
  full-stops x e p q = let z : x.place ≡ p = cc (sym (ap (λ r. r.ends) (fit_none head k n g x)) ∙ q) in omega arith

  item-stays : Stays (read_item head k n g)
  item-stays = record { keeps = λ x z es e. enter-keeps x z es (head k n x.place x.bytes) (head-fits k n x.place x.bytes) (unfold read_item in e); stops = stops }
    where
      stops : (room : ℕ) (x : Spot) (e : Refusal) (p : ℕ) → (fit room (read_item head k n g x)).ends ≡ refused e p → p ≤ x.place + length x.bytes
      stops zero x e p q = full-stops x e p q
      stops (suc room) x e p q = entered (sym (ap (λ r. r.ends) (fit-item head k n g x room)) ∙ q)
        where
          entered : (read_item head k n (λ a y. fit room (g a y)) x).ends ≡ refused e p → p ≤ x.place + length x.bytes
          entered z = enter-stops room x e p (head k n x.place x.bytes) (head-fits k n x.place x.bytes) (unfold read_item in z)

stays : Every (λ (i : Unit {0}). reading head) (λ f. Stays (f tt))
stays = record { none = nothing-stays; both = then-stays; made = λ f k n. item-stays k n (λ a. f (following k a) tt) }

read_stays : (t : Shape) → Stays (read t)
unfolding read
read_stays t = every stays t

-- ---- a message

pub stops-inside : (k : Keyed) (s : List ℕ) {e : Refusal} {p : ℕ} → next_of k s ≡ stops e p → p ≤ length s
unfolding next_of skim
stops-inside k s {e} {p} q = go (fit most_entries (read k.shape (front s))).ends refl q
  where
    go : (o : Outcome) → (fit most_entries (read k.shape (front s))).ends ≡ o → next_by k s o ≡ stops e p → p ≤ length s
    go (reached x) a z = unfold next_by in (let y : ◌≡◌ {A = ℕ} 0 1 = cc in absurd (omega arith))
    go (refused w x) a z = let b : x ≡ p = (unfold next_by in cc) in omega (arith, (read_stays k.shape).stops most_entries (front s) w x a)
