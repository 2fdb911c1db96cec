-- The word of a field is the first word of the entry that a full reading makes for it.
-- Assumes nothing.
use mathlib.Core.Path.{◌≡◌, sym, ap, ◌∙◌}
use mathlib.Core.List.{List, ◌∷◌, ◌++◌, append_assoc}
use Prim.Native.Nat.{ℕ, zero, suc, ◌+◌, ◌<◌}
use native.Mathlib.Omega.{arith}
use Rattle.wire.specs.Shape.{Shape, node, Shapes, count}
use Rattle.wire.specs.Shape as shapes
use Rattle.wire.specs.Walk.{all, walk, walks}
use Rattle.wire.specs.Values.{Entry}
use Rattle.wire.specs.Reading.{Spot, reached, head, run_after, read_nothing, read_on, read_then, entry_of, read_item, reading, read}
use Rattle.laws.specs.Steps.{row}
use Rattle.desk.specs.Messages.{first_word, onward, word_at}
use Rattle.batches.specs.Words.{in_front, Stands, WordStands}
use Rattle.laws.proofs.Runs.{then-read, item-read}

-- a reading that reaches its end has made an entry
record Some (t : Shape) (x : Spot) : Type 0 where
  own : Entry
  others : List Entry
  made : (read t x).made ≡ own ∷ others

some_of : (t : Shape) (x y : Spot) → (read t x).ends ≡ reached y → Some t x
unfolding read walk read_item
some_of (node k ts) x y e =
    let r = item-read head k (count ts) _ x (read (node k ts) x).made y (ap (λ o. record { made = (read (node k ts) x).made; ends = o }) e) in
    record { own = entry_of r.own x; others = r.those; made = r.all }

-- a row's entries: the first field's, and the others'
module _ (t : Shape) (ts : Shapes) (x y : Spot) (first : (read t x).ends ≡ reached y) where
  row_made : (row (reading head) (shapes.more t ts) x).made ≡ (read t x).made ++ (row (reading head) ts y).made
  unfolding all walks read_then read_on run_after read
  row_made = rw first

  stands-first : Stands (shapes.more t ts) zero x ((read t x).made ++ (row (reading head) ts y).made)
  unfolding word_at first_word in_front all walks read_nothing
  stands-first =
      let s = some_of t x y first in
      record { own = s.own; others = s.others ++ (row (reading head) ts y).made; made = rw s.made; word = rw s.made }

  stands-later : (i : ℕ) → Stands ts i y (row (reading head) ts y).made → Stands (shapes.more t ts) (suc i) x ((read t x).made ++ (row (reading head) ts y).made)
  stands-later i s = record { own = s.own; others = s.others; made = made; word = word }
    where
      front : (row (reading head) (in_front (suc i) (shapes.more t ts)) x).made ≡ (read t x).made ++ (row (reading head) (in_front i ts) y).made
      front = unfold in_front all walks read_then read_on run_after read in rw first

      made : (read t x).made ++ (row (reading head) ts y).made ≡ (row (reading head) (in_front (suc i) (shapes.more t ts)) x).made ++ s.own ∷ s.others
      made = ap (λ l. (read t x).made ++ l) s.made ∙ sym (append_assoc (read t x).made (row (reading head) (in_front i ts) y).made (s.own ∷ s.others)) ∙ ap (λ l. l ++ s.own ∷ s.others) (sym front)

      word : s.own.first ≡ word_at (shapes.more t ts) (suc i) x
      word = unfold word_at onward in rw first s.word

first_ends : (t : Shape) (ts : Shapes) (x z : Spot) (es : List Entry) {X : Type 0} → row (reading head) (shapes.more t ts) x ≡ record { made = es; ends = reached z }
    → ((y : Spot) → (read t x).ends ≡ reached y → row (reading head) ts y ≡ record { made = (row (reading head) ts y).made; ends = reached z } → (read t x).made ++ (row (reading head) ts y).made ≡ es → X) → X
unfolding all walks read_then read
first_ends t ts x z es e f =
    let r = then-read (read t) (row (reading head) ts) x es z e in
    let q = ap (λ r. r.ends) r.first in
    f r.between q (ap (λ o. record { made = (row (reading head) ts r.between).made; ends = o }) (ap (λ r. r.ends) r.second))
    (rw (ap (λ r. r.made) r.first, ap (λ r. r.made) r.second) (sym r.all))

pub word_stands : WordStands
word_stands shapes.none i x z es l e = unfold count in absurd (omega arith)
word_stands (shapes.more t ts) zero x z es l e = first_ends t ts x z es e (λ y q r j. rw (← j) (stands-first t ts x y q))
word_stands (shapes.more t ts) (suc i) x z es l e =
    first_ends t ts x z es e (λ y q r j. rw (← j) (stands-later t ts x y q i (word_stands ts i y z _ (less l) r)))
  where
    less : suc i < count (shapes.more t ts) → i < count ts
    less l = unfold count in omega arith
