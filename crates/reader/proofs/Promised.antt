-- The contracts of the public calls, from what the cycle gives for the root, whose number stands in the trailer, or from the root's own item where it is a leaf: with a store's own room, and with none; and a row skimmed.
-- Assumes nothing.
use Rattle.std.specs.Prelude.{Err}
use mathlib.Core.Path.{◌≡◌, refl, sym, ap, ap₂, ◌∙◌}
use mathlib.Core.Bool.{Bool, false}
use mathlib.Core.List.{List, [], ◌∷◌}
use Prim.Native.Nat.{ℕ, zero, suc, ◌+◌, ◌-◌, ◌≤◌, ◌<◌, ◌^◌}
use native.Mathlib.Nat.{sub-zero, zero-add}
use native.Mathlib.Omega.{arith}
use lib.ListN.{length, drop}
use lib.Seq.{take_all, sets-eq}
use Rattle.wire.specs.declared.Refusal.{Refusal}
use Rattle.wire.specs.Item.{Item}
use Rattle.wire.specs.declared.Layout.{Layout}
use Rattle.wire.specs.Checked.{Checked}
use Rattle.wire.specs.Checked.{Good, Bad}
use Rattle.wire.specs.ReadAnswer.{ReadAnswer}
use Rattle.wire.specs.ReadAnswer.{Done, Refused}
use Rattle.wire.specs.Walk.{times, walk}
use Rattle.wire.specs.Table.{u16_at, node_at, record_of, check, shape_of}
use Rattle.wire.specs.Values.{Entry}
use Rattle.wire.specs.Reading.{Spot, Outcome, reached, refused, front, Head, head, judged, head_by, run_after, reading, within, fit}
use Rattle.wire.specs.Answers.{words, room_of, store_with, read_by, skims, rest_of}
use Rattle.laws.specs.Answered.{Reads}
use Rattle.laws.specs.KindRanges.{IsInner}
use Rattle.laws.proofs.Places.{length-words}
use Rattle.laws.proofs.Runs.{then-nothing}
use Rattle.laws.proofs.Tables.{good-table}
use Rattle.laws.proofs.Unique.{by-equation}
use Rattle.leaf.specs.Leaves.{leaf_take_at}
use Rattle.table.proofs.Stretches.{falls-first, rounds-once, flat-rounds, root-number, root-falls}
use Rattle.table.specs.declared.Way.{Way}
use Rattle.table.specs.Parts.{Flat, under, node_step, row_step, rounds_step}
use Rattle.read_item.specs.Lay.{store_from, laid, lay}
use Rattle.read_item.specs.Steps.{Puts}
use Rattle.read_item.proofs.Laying.{laid_none}
use Rattle.reader.specs.Steps.{Gives, answer_behind}
use Rattle.reader.specs.Promise.{OneReading, OneRest, OneSkim}
use Rattle.reader.proofs.Laying.{gives-refused}
use Rattle.reader.proofs.Turns.{leaf-gives, leaf-own}

-- ---- the reading, with any room

-- the root's node is the whole shape, and so are its rounds, by any way to read items
module _ (h : Head) (room : ℕ) (table message store : List ℕ) {l : Layout} {a : ReadAnswer} {st : List ℕ} (at : ℕ) (good : check table ≡ Good l) (e : at + 4 ≡ length table) where
  node-gives : {i : ℕ} → i ≡ u16_at table at → Gives (lay room (node_step (reading h) table l i (front message)) 0 store) a st
      → Gives (laid (fit room (walk (reading h) (shape_of table l) (front message))) 0 store) a st
  unfolding lay node_step
  node-gives q g = rw (good-table table l good).its_shape (rw (q ∙ root-number table good at e, sub-zero room) at g)

  root-gives : {way : Way} → Flat table l l.nodes at 1 way
      → Gives (lay room (rounds_step (reading h) table l 1 way.headed way.from way.width (front message)) 0 store) a st
      → Gives (laid (fit room (walk (reading h) (shape_of table l) (front message))) 0 store) a st
  root-gives flat g =
      node-gives refl (rw (← flat-rounds (good-table table l good) (omega arith) (reading h) then-nothing flat 1, rounds-once (reading h) table l then-nothing at (front message)) at g)

module _ (strict : Bool) (table message : List ℕ) (room : ℕ) (store : List ℕ) where
  pub with-bad : {e : Refusal} {p : ℕ} → check table ≡ Bad e p → Gives (laid (read_by strict (check table) table room message) 0 store) (Refused e p 0) store
  unfolding read_by
  with-bad {e} {p} bad = gives-refused (rw bad (laid_none (refused e p) 0 store))

  pub with-good : {l : Layout} {way : Way} {a : ReadAnswer} {st : List ℕ} (at : ℕ) → check table ≡ Good l → at + 4 ≡ length table → Flat table l l.nodes at 1 way
      → Gives (lay room (rounds_step (reading (head_by strict)) table l 1 way.headed way.from way.width (front message)) 0 store) a st
      → Gives (laid (read_by strict (check table) table room message) 0 store) a st
  unfolding read_by
  with-good at good e flat g = rw good (root-gives (head_by strict) room table message store at good e flat g)

-- the root is a leaf, read plainly, and there is room for its entry
module _ (table message : List ℕ) (room : ℕ) (store : List ℕ) where
  pub with-leaf : {l : Layout} (at : ℕ) → check table ≡ Good l → at + 4 ≡ length table → {i : ℕ} → i ≡ u16_at table at → 0 < room
      → {k : ℕ} → k ≡ (node_at table (record_of l i)).number → (IsInner k → ⊥) → length message < 2 ^ 64
      → {got : Item} → got ≡ leaf_take_at k 0 message → {a : ReadAnswer} {st : List ℕ} → Puts 0 0 store got a st
      → Gives (laid (read_by false (check table) table room message) 0 store) a st
  unfolding read_by judged
  with-leaf {l} at good e {i} q some {k} kind outer fits took puts =
      let goods = good-table table l good in
      let below : i < l.nodes = rw q (falls-first (root-falls table good at e) (omega arith)) in
      rw good
      (node-gives (head_by false) room table message store at good e q
      (leaf-gives (head_by false) room goods below message 0 0 store some k kind outer (leaf-own false goods below message 0 k kind outer (omega arith) ∙ sym took) puts))

-- ---- the room of a store, and no store

few : (room : ℕ) (es : List Entry) (o : Outcome) → length (within room es o).made ≤ room
unfolding within run_after
few room [] (reached x) = omega arith
few zero [] (refused e p) = omega arith
few (suc room) [] (refused e p) = omega arith
few zero (e ∷ es) o = omega arith
few (suc room) (e ∷ es) o = let h = few room es o in omega arith

by-few : (strict : Bool) (c : Checked) (table : List ℕ) (room : ℕ) (message : List ℕ) → length (read_by strict c table room message).made ≤ room
unfolding read_by fit
by-few strict (Good l) table room message = few room _ _
by-few strict (Err r) table room message = omega arith

-- so many entries have their words
in-front : (es : List Entry) (s : List ℕ) → length es ≤ room_of s → store_from es 0 s ≡ store_with es s
unfolding store_from store_with
in-front es s h =
    rw (sub-zero (room_of s), take_all (room_of s) es h)
    (sets-eq (words es) s 0 (unfold room_of in omega (arith, length-words es)) ∙ rw (zero-add (length (words es))))

module _ (table message : List ℕ) {a : ReadAnswer} where
  pub reads_whole : (strict : Bool) (store : List ℕ) {st : List ℕ} → Gives (laid (read_by strict (check table) table (room_of store) message) 0 store) a st
      → Reads (read_by strict (check table) table (room_of store) message) store a st
  unfolding laid
  reads_whole strict store g = record {
    answered = g.answered ∙ rw (zero-add (length (read_by strict (check table) table (room_of store) message).made));
    stored = g.stored ∙ in-front (read_by strict (check table) table (room_of store) message).made store (by-few strict (check table) table (room_of store) message);
  }

  pub skims-whole : (room : ℕ) (store : List ℕ) {st : List ℕ} → Gives (laid (read_by false (check table) table room message) 0 store) a st → a ≡ skims table message room
  unfolding skims laid
  skims-whole room store g = g.answered ∙ rw (zero-add (length (read_by false (check table) table room message).made))

-- a row so many times over, and once
module _ (table : List ℕ) (l : Layout) (from n : ℕ) (x : Spot) (room made : ℕ) {a : ReadAnswer} where
  pub skims-rounds : (c : ℕ) (store : List ℕ) {st : List ℕ} → Gives (lay room (rounds_step (reading (head_by false)) table l c false from n x) made store) a st
      → a ≡ answer_behind made (fit (room - made) (rounds_step (reading head) table l c false from n x))
  unfolding head_by judged lay laid answer_behind
  skims-rounds c store g = g.answered

  pub skims-row : a ≡ answer_behind made (fit (room - made) (rounds_step (reading head) table l 1 false from n x))
      → a ≡ answer_behind made (fit (room - made) (row_step (reading head) table l from n x))
  unfolding rounds_step under times
  skims-row g = g ∙ ap (λ r. answer_behind made (fit (room - made) r)) (then-nothing (row_step (reading head) table l from n) x)

-- ---- the rest

module _ (message : List ℕ) (a : ReadAnswer) where
  pub rest-done : {p n : ℕ} → a ≡ Done p n → {r : List ℕ} → r ≡ drop p message → r ≡ rest_of message a
  unfolding rest_of
  rest-done e h = rw e h

  pub rest-refused : {e : Refusal} {p n : ℕ} → a ≡ Refused e p n → [] ≡ rest_of message a
  unfolding rest_of
  rest-refused e = rw e

-- ---- no choice

pub one-reading : OneReading
one-reading run store x y f g = ap₂ (λ a s. (a, s)) (f.answered ∙ sym g.answered) (f.stored ∙ sym g.stored)

pub one-rest : OneRest
one-rest message a = by-equation (rest_of message a)

pub one-skim : OneSkim
one-skim table message room = by-equation (skims table message room)
