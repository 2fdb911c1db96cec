-- A reading is decided by the bytes that it took: on others that begin with them it is the same.
-- Assumes nothing.
use mathlib.Core.Path.{◌≡◌, refl, sym, ap, ◌∙◌}
use mathlib.Core.List.{List, [], ◌++◌}
use Prim.Native.Nat.{ℕ, ◌+◌, ◌≤◌}
use native.Mathlib.Nat.{add-zero}
use native.Mathlib.Omega.{arith}
use lib.ListN.{length, drop, length-drop}
use lib.Seq.{drop-append-le}
use Rattle.wire.specs.Shape.{Kind, Shape}
use Rattle.wire.specs.Walk.{following}
use Rattle.wire.specs.Values.{Entry}
use Rattle.wire.specs.Reading.{head, Spot, Run, reached, run_after, read_nothing, read_on, read_then, past, enter, read_item, reading, read, fit}
use Rattle.laws.specs.Steps.{Every}
use Rattle.laws.specs.Longer.{spot, Moved, EarlyReads}
use Rattle.laws.proofs.Walks.{every}
use Rattle.laws.proofs.Bounds.{past-past}
use Rattle.laws.proofs.Longer.{front-item}
use Rattle.laws.proofs.Runs.{same_spot, ThenRead, then-read, ItemRead, item-read, fit-reached, within-reached}

pub past-front : (n : ℕ) (s r : List ℕ) (p : ℕ) → n ≤ length s → past n (spot (s ++ r) p) ≡ spot (drop n s ++ r) (p + n)
unfolding past
past-front n s r p h = rw (drop-append-le n s r h)

record Early (f : Spot → Run) : Type 0 where
  moves : (x : Spot) (es : List Entry) (y : Spot) → f x ≡ record { made = es; ends = reached y } → Moved f x es y

early-nothing : Early read_nothing
unfolding read_nothing past
early-nothing = record { moves = λ x es y e. go x es y (ap (λ r. r.made) e) (same_spot (ap (λ r. r.ends) e)) }
  where
    go : (x : Spot) (es : List Entry) (y : Spot) → [] ≡ es → x ≡ y → Moved read_nothing x es y
    go x es y a b = record { used = 0; ends = sym b ∙ rw (add-zero x.place); again = λ s r r' q l. rw (← a, add-zero x.place) }

-- what follows bytes that were taken: it began behind them
module _ (g : Spot → Run) (x : Spot) (u : ℕ) (es : List Entry) (y : Spot) (w : Moved g (past u x) es y) where
  behind-ends : y ≡ past (u + w.used) x
  behind-ends = w.ends ∙ past-past u w.used x

  behind-again : (s r r' : List ℕ) → x.bytes ≡ s ++ r → u + w.used ≤ length s
      → g (past u (spot (s ++ r') x.place)) ≡ record { made = es; ends = reached (past (u + w.used) (spot (s ++ r') x.place)) }
  unfolding past
  behind-again s r r' q l =
      let h : u ≤ length s = omega arith in
      let here = past-front u s r' x.place h in
      let left : (past u x).bytes ≡ drop u s ++ r = ap (drop u) q ∙ drop-append-le u s r h in
      let again : g (spot (drop u s ++ r') (x.place + u)) ≡ record { made = es; ends = reached (past w.used (spot (drop u s ++ r') (x.place + u))) }
      = w.again (drop u s) r r' left (omega (arith, length-drop u s)) in
      ap g here ∙ again ∙ ap (λ z. record { made = es; ends = reached z }) (ap (past w.used) (sym here) ∙ past-past u w.used (spot (s ++ r') x.place))

early-then : {f g : Spot → Run} → Early f → Early g → Early (read_then f g)
early-then {f} {g} h k = record { moves = λ x es y e. go x es y (then-read f g x es y e) }
  where
    go : (x : Spot) (es : List Entry) (y : Spot) → ThenRead f g x es y → Moved (read_then f g) x es y
    go x es y t = let v = h.moves x t.these t.between t.first in
        with_first v (k.moves (past v.used x) t.those y (ap g (sym v.ends) ∙ t.second))
      where
        with_first : (v : Moved f x t.these t.between) → Moved g (past v.used x) t.those y → Moved (read_then f g) x es y
        with_first v w =
            record {
              used = v.used + w.used;
              ends = behind-ends g x v.used t.those y w;
              again = λ s r r' q l. unfold read_then in rw (v.again s r r' q (omega arith), t.all) (unfold read_on in rw (behind-again g x v.used t.those y w s r r' q l) (unfold run_after in refl));
            }

early-item : (k : Kind) (n : ℕ) (next : ℕ → Spot → Run) → ((a : ℕ) → Early (next a)) → Early (read_item head k n next)
early-item k n next h = record { moves = λ x es y e. go x es y (item-read head k n next x es y e) }
  where
    go : (x : Spot) (es : List Entry) (y : Spot) → ItemRead head k n next x es y → Moved (read_item head k n next) x es y
    go x es y t =
        let f = next t.own.first in
        let w = (h t.own.first).moves (past t.own.used x) t.those y t.inside in
        record {
          used = t.own.used + w.used;
          ends = behind-ends f x t.own.used t.those y w;
          again = λ s r r' q l.
              unfold read_item in
              rw (front-item k n x.place s r r' t.own (ap (head k n x.place) (sym q) ∙ t.took) (omega arith), t.all)
              (unfold enter in rw (behind-again f x t.own.used t.those y w s r r' q l) (unfold run_after in refl));
        }

pub read-early : EarlyReads
unfolding read
read-early t = (every law t).moves
  where
    law : Every (λ (i : Unit {0}). reading head) (λ f. Early (f tt))
    law = record { none = early-nothing; both = early-then; made = λ f k n. early-item k n (λ a. f (following k a) tt) }

-- so it is with room for so many entries
pub fit-early : (t : Shape) (room : ℕ) (x : Spot) (es : List Entry) (y : Spot) → fit room (read t x) ≡ record { made = es; ends = reached y } → Moved (λ z. fit room (read t z)) x es y
fit-early t room x es y e =
    let c = fit-reached room (read t x) es y e in
    let w = read-early t x es y c.1 in
    record { used = w.used; ends = w.ends; again = λ s r r' q h. ap (fit room) (w.again s r r' q h) ∙ (unfold fit in within-reached room es _ c.0) }
