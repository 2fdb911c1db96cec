-- Bytes behind what was read may be taken away, since an item that stands in the bytes in front is the same without them.
-- Assumes nothing.
use mathlib.Core.Path.{◌≡◌, refl, sym, ap, ◌∙◌}
use mathlib.Core.List.{List, [], ◌∷◌, ◌++◌, append-nil}
use Prim.Native.Nat.{ℕ, ◌+◌, ◌≤◌}
use native.Mathlib.Omega.{arith}
use lib.ListN.{length, length-drop}
use lib.Seq.{drop-append-le}
use Rattle.wire.specs.declared.Own.{Own}
use Rattle.wire.specs.Item.{Took}
use Rattle.wire.specs.Shape.{Kind}
use Rattle.wire.specs.Walk.{following}
use Rattle.wire.specs.Values.{Entry}
use Rattle.wire.specs.Reading.{Spot, Run, reached, head, run_after, read_nothing, read_on, read_then, past, entry_of, enter, read_item, reading, read}
use Rattle.laws.specs.Steps.{Every}
use Rattle.laws.specs.Bounds.{Fits, takes}
use Rattle.laws.specs.Longer.{longer}
use Rattle.laws.specs.Shorter.{Back, Shortens, ReadShortens, RowShortens}
use Rattle.laws.proofs.Walks.{every, every-row}
use Rattle.laws.proofs.Bounds.{head-fits}
use Rattle.laws.proofs.Longer.{front-item}
use Rattle.laws.proofs.Runs.{same_spot, then-read, item-read}

made_of : {r : Run} {es : List Entry} {z : Spot} → r ≡ record { made = es; ends = reached z } → r.made ≡ es
made_of e = ap (λ r. r.made) e

-- ---- nothing

nothing-shortens : Shortens read_nothing
unfolding read_nothing longer
nothing-shortens =
    record {
      on = λ x z es e. let q = ap (λ (y : Spot). y.place) (ended e) in omega arith;
      keeps = λ x z es e. ap (λ (y : Spot). y.place + length y.bytes) (sym (ended e));
      back = λ x extra z es e l. record { y = x; ran = ap (λ es. record { made = es; ends = reached x }) (made_of e); end = sym (ended e) };
    }
  where
    ended : {x z : Spot} {es : List Entry} → ◌≡◌ {A = Run} (record { made = []; ends = reached x }) (record { made = es; ends = reached z }) → x ≡ z
    ended e = same_spot (ap (λ (r : Run). r.ends) e)

-- ---- one step and another

then-shortens : {f g : Spot → Run} → Shortens f → Shortens g → Shortens (read_then f g)
then-shortens {f} {g} a b = record { on = on; keeps = keeps; back = back }
  where
    on : (x z : Spot) (es : List Entry) → read_then f g x ≡ record { made = es; ends = reached z } → x.place ≤ z.place
    on x z es e =
        let r = then-read f g x es z e in
        omega (arith, a.on x r.between _ r.first, b.on r.between z _ r.second)

    keeps : (x z : Spot) (es : List Entry) → read_then f g x ≡ record { made = es; ends = reached z } → z.place + length z.bytes ≡ x.place + length x.bytes
    keeps x z es e = let r = then-read f g x es z e in b.keeps r.between z _ r.second ∙ a.keeps x r.between _ r.first

    joins : (x : Spot) {es fs : List Entry} {y z : Spot} → f x ≡ record { made = es; ends = reached y } → g y ≡ record { made = fs; ends = reached z }
        → read_then f g x ≡ record { made = es ++ fs; ends = reached z }
    joins x p q = unfold read_then read_on run_after in rw (p, q)

    back : (x : Spot) (extra : List ℕ) (z : Spot) (es : List Entry) → read_then f g (longer extra x) ≡ record { made = es; ends = reached z } → z.place ≤ x.place + length x.bytes
        → Back (read_then f g) x extra es z
    back x extra z es e l =
        let r = then-read f g (longer extra x) es z e in
        let k = b.on r.between z _ r.second in
        let first = a.back x extra r.between _ r.first (omega arith) in
        let at : r.between.place ≡ first.y.place = unfold longer in ap (λ (w : Spot). w.place) first.end in
        let kept = a.keeps x first.y _ first.ran in
        let second = b.back first.y extra z _ (rw first.end at r.second) (omega arith) in
        record { y = second.y; ran = joins x first.ran second.ran ∙ ap (λ es. record { made = es; ends = reached second.y }) (sym r.all); end = second.end }

-- ---- an item

past-longer : (n : ℕ) (extra : List ℕ) (x : Spot) → n ≤ length x.bytes → past n (longer extra x) ≡ longer extra (past n x)
unfolding past longer
past-longer n extra x h = rw (drop-append-le n x.bytes extra h)

past-keeps : (n : ℕ) (x : Spot) → n ≤ length x.bytes → (past n x).place + length (past n x).bytes ≡ x.place + length x.bytes
unfolding past
past-keeps n x h = simp length-drop (omega arith)

past-place : (n : ℕ) (x : Spot) → (past n x).place ≡ x.place + n
unfolding past
past-place n x = refl

fits-took : {s : List ℕ} {own : Own} → Fits s (Took own) → own.used ≤ length s
fits-took (takes l) = l

item-shortens : (k : Kind) (n : ℕ) (g : ℕ → Spot → Run) → ((a : ℕ) → Shortens (g a)) → Shortens (read_item head k n g)
item-shortens k n g h = record { on = on; keeps = keeps; back = back }
  where
    few : (x : Spot) {own : Own} → head k n x.place x.bytes ≡ Took own → own.used ≤ length x.bytes
    few x q = fits-took (rw q at (head-fits k n x.place x.bytes))

    on : (x z : Spot) (es : List Entry) → read_item head k n g x ≡ record { made = es; ends = reached z } → x.place ≤ z.place
    on x z es e =
        let r = item-read head k n g x es z e in
        omega (arith, past-place r.own.used x, (h r.own.first).on (past r.own.used x) z _ r.inside)

    keeps : (x z : Spot) (es : List Entry) → read_item head k n g x ≡ record { made = es; ends = reached z } → z.place + length z.bytes ≡ x.place + length x.bytes
    keeps x z es e =
        let r = item-read head k n g x es z e in
        (h r.own.first).keeps (past r.own.used x) z _ r.inside ∙ past-keeps r.own.used x (few x r.took)

    enters : (x : Spot) {own : Own} {es : List Entry} {y : Spot} → head k n x.place x.bytes ≡ Took own → g own.first (past own.used x) ≡ record { made = es; ends = reached y }
        → read_item head k n g x ≡ record { made = entry_of own x ∷ es; ends = reached y }
    enters x p q = unfold read_item enter run_after in rw (p, q)

    taken : (x : Spot) (extra : List ℕ) {own : Own} → head k n (longer extra x).place (longer extra x).bytes ≡ Took own → own.used ≤ length x.bytes → head k n x.place x.bytes ≡ Took own
    taken x extra {own} q l = unfold longer in (rw (append-nil x.bytes) at (front-item k n x.place x.bytes extra [] own q l))

    same-entry : (x : Spot) (extra : List ℕ) (own : Own) → entry_of own (longer extra x) ≡ entry_of own x
    same-entry x extra own = unfold longer in refl

    back : (x : Spot) (extra : List ℕ) (z : Spot) (es : List Entry) → read_item head k n g (longer extra x) ≡ record { made = es; ends = reached z } → z.place ≤ x.place + length x.bytes
        → Back (read_item head k n g) x extra es z
    back x extra z es e l =
        let r = item-read head k n g (longer extra x) es z e in
        let own = r.own in
        let m = (h own.first).on (past own.used (longer extra x)) z _ r.inside in
        let p = past-place own.used (longer extra x) in
        let o : (longer extra x).place ≡ x.place = unfold longer in refl in
        let inside : own.used ≤ length x.bytes = omega arith in
        let w = past-longer own.used extra x inside in
        let kept = past-keeps own.used x inside in
        let rest = (h own.first).back (past own.used x) extra z _ (rw w at r.inside) (omega arith) in
        record {
          y = rest.y;
          ran = enters x (taken x extra r.took inside) rest.ran ∙ ap (λ es. record { made = es; ends = reached rest.y }) (ap (λ e. e ∷ r.those) (sym (same-entry x extra own)) ∙ sym r.all);
          end = rest.end;
        }

-- ---- whole shapes

shortens : Every (λ (i : Unit {0}). reading head) (λ f. Shortens (f tt))
shortens = record { none = nothing-shortens; both = then-shortens; made = λ f k n. item-shortens k n (λ a. f (following k a) tt) }

pub read-shortens : ReadShortens
unfolding read
read-shortens t = every shortens t

pub row-shortens : RowShortens
row-shortens ts = every-row shortens ts
