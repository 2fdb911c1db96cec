-- Two lists' items are passed side by side: an item has as many in front of it on both sides, whatever was inside of those.
-- Assumes nothing.
use mathlib.Core.Path.{◌≡◌, refl, sym, ap, subst, ◌∙◌}
use mathlib.Core.Bool.{Bool, true, false}
use mathlib.Core.List.{List, [], ◌∷◌, ◌++◌, append_assoc, append-nil, map-append}
use mathlib.Core.List as lists
use Prim.Native.Nat.{ℕ, ◌+◌}
use native.Mathlib.Nat.{add-zero}
use native.Mathlib.Omega.{arith}
use Rattle.wire.specs.Tests.{given}
use Rattle.wire.specs.Shape.{Kind, Shape}
use Rattle.wire.specs.Walk.{Follow, following, Walk, walk}
use Rattle.wire.specs.Values.{Entry, Tag, Told, kept, tell_nothing, tell_then, tell_item, telling, tell}
use Rattle.laws.specs.Steps.{Every}
use Rattle.laws.proofs.Walks.{every}
use Rattle.laws.proofs.Told.{then-kept, item-kept}
use Rattle.desk.specs.Differ.{same_item, Pair, Sides, beside, Compared, pairing, compare_nothing, compare_then, differing, compare_two, compare_item, comparing, take_entry, listed, differences}
use Rattle.beside.specs.Paths.{Placed, Inside, Passed, place_nothing, place_then, place_one, place_first, place_item, placing, placed, Paired, none, left, right, pair, PlacedAll, SamePaths}
use Rattle.beside.proofs.Same.{item-follows}
use Rattle.beside.proofs.Empty.{Agreeing, agree-nothing, agree_then, agree-item, whole-told}

-- ---- pairs behind pairs

lefts : (is : List Placed) {is' js : List Placed} {ps : List Pair} → Paired is' js ps → Paired (is ++ is') js ps
lefts [] h = h
lefts (i ∷ is) h = left (lefts is h)

rights : (js : List Placed) {is js' : List Placed} {ps : List Pair} → Paired is js' ps → Paired is (js ++ js') ps
rights [] h = h
rights (j ∷ js) h = right (rights js h)

paired-then : {is js is' js' : List Placed} {ps qs : List Pair} → Paired is js ps → Paired is' js' qs → Paired (is ++ is') (js ++ js') (ps ++ qs)
paired-then (none {is} {js}) k = lefts is (rights js k)
paired-then (left h) k = left (paired-then h k)
paired-then (right h) k = right (paired-then h k)
paired-then (pair e h) k = pair e (paired-then h k)

-- ---- entries that a step told, passed

abbrev inside : List ℕ → ℕ → List Entry → Inside
inside path at es = record { path = path; passed = at; entries = es }

abbrev own : List Placed → List Entry
own is = lists.map (λ (i : Placed). i.entry) is

module _ (pool pool' : List ℕ) where
  record Pathed (u : List Entry → Told) (f : Inside → Passed) (c : Sides (List Entry) → Compared (List Entry)) : Type 0 where
    agrees : Agreeing pool pool' u c
    steps : ℕ
    moves : (path : List ℕ) (at : ℕ) (es : List Entry) (ts : List Tag) (rest : List Entry) → u es ≡ kept ts rest → (f (inside path at es)).rest ≡ inside path (at + steps) rest
    covers : (path : List ℕ) (at : ℕ) (es : List Entry) (ts : List Tag) (rest : List Entry) → u es ≡ kept ts rest → es ≡ own (f (inside path at es)).items ++ rest
    pairs : (path : List ℕ) (at : ℕ) (es fs : List Entry) (ts us : List Tag) (rest rest' : List Entry) → u es ≡ kept ts rest → u fs ≡ kept us rest'
        → Paired (f (inside path at es)).items (f (inside path at fs)).items (c (beside es fs)).pairs

  pathed-nothing : Pathed tell_nothing place_nothing compare_nothing
  unfolding tell_nothing place_nothing compare_nothing
  pathed-nothing =
      record {
        agrees = agree-nothing pool pool';
        steps = 0;
        moves = λ path at es ts rest e. let a : es ≡ rest = cc in rw (a, add-zero at);
        covers = λ path at es ts rest e. let a : es ≡ rest = cc in a;
        pairs = λ path at es fs ts us rest rest' e f. none;
      }

  module _ {u v : List Entry → Told} {f g : Inside → Passed} {c d : Sides (List Entry) → Compared (List Entry)} (h : Pathed u f c) (k : Pathed v g d) where
    then-moves : (path : List ℕ) (at : ℕ) (es : List Entry) (ts : List Tag) (rest : List Entry) → tell_then u v es ≡ kept ts rest
        → (place_then f g (inside path at es)).rest ≡ inside path (at + (h.steps + k.steps)) rest
    unfolding place_then
    then-moves path at es ts rest e =
        let s = then-kept u v es ts rest e in
        let sum : at + h.steps + k.steps ≡ at + (h.steps + k.steps) = omega arith in
        ap (λ y. (g y).rest) (h.moves path at es s.these s.between s.first) ∙ k.moves path (at + h.steps) s.between s.those rest s.second ∙ ap (λ m. inside path m rest) sum

    then-covers : (path : List ℕ) (at : ℕ) (es : List Entry) (ts : List Tag) (rest : List Entry) → tell_then u v es ≡ kept ts rest
        → es ≡ own (place_then f g (inside path at es)).items ++ rest
    unfolding place_then
    then-covers path at es ts rest e =
        let s = then-kept u v es ts rest e in
        let a = h.covers path at es s.these s.between s.first in
        let b = k.covers path (at + h.steps) s.between s.those rest s.second in
        let one = (f (inside path at es)).items in
        let two = (g (inside path (at + h.steps) s.between)).items in
        a ∙ ap (λ l. own one ++ l) b ∙ sym (append_assoc (own one) (own two) rest) ∙ ap (λ l. l ++ rest) (sym (map-append (λ (i : Placed). i.entry) one two))
        ∙ (rw (h.moves path at es s.these s.between s.first))

    then-pairs : (path : List ℕ) (at : ℕ) (es fs : List Entry) (ts us : List Tag) (rest rest' : List Entry) → tell_then u v es ≡ kept ts rest → tell_then u v fs ≡ kept us rest'
        → Paired (place_then f g (inside path at es)).items (place_then f g (inside path at fs)).items (compare_then c d (beside es fs)).pairs
    unfolding place_then compare_then pairing
    then-pairs path at es fs ts us rest rest' p q =
        let s = then-kept u v es ts rest p in
        let r = then-kept u v fs us rest' q in
        rw (
          h.moves path at es s.these s.between s.first,
          h.moves path at fs r.these r.between r.first,
          (h.agrees.meets es fs s.these r.these s.between r.between s.first r.first).rests,
        )
        (paired-then (h.pairs path at es fs s.these r.these s.between r.between s.first r.first)
        (k.pairs path (at + h.steps) s.between r.between s.those r.those rest rest' s.second r.second))

    pathed-then : Pathed (tell_then u v) (place_then f g) (compare_then c d)
    pathed-then =
        record { agrees = agree_then pool pool' h.agrees k.agrees; steps = h.steps + k.steps; moves = then-moves; covers = then-covers; pairs = then-pairs }

  module _ (u : Follow → List Entry → Told) (f : Follow → Inside → Passed) (c : Follow → Sides (List Entry) → Compared (List Entry)) (k : Kind) (n : ℕ)
      (h : (a : ℕ) → Pathed (u (following k a)) (f (following k a)) (c (following k a))) where
    abbrev told : List Entry → Told
    told = tell_item k n (λ a. u (following k a))

    abbrev places_one : Inside → Passed
    places_one = place_item k n (λ a. f (following k a))

    item-moves : (path : List ℕ) (at : ℕ) (es : List Entry) (ts : List Tag) (rest : List Entry) → told es ≡ kept ts rest → (places_one (inside path at es)).rest ≡ inside path (at + 1) rest
    unfolding place_item place_first place_one
    item-moves path at es ts rest e =
        let s = item-kept k n (λ a. u (following k a)) es ts rest e in
        rw (s.list, (h s.entry.first).moves (at ∷ path) 0 s.inside s.those rest s.told)

    item-covers : (path : List ℕ) (at : ℕ) (es : List Entry) (ts : List Tag) (rest : List Entry) → told es ≡ kept ts rest → es ≡ own (places_one (inside path at es)).items ++ rest
    unfolding place_item place_first place_one
    item-covers path at es ts rest e =
        let s = item-kept k n (λ a. u (following k a)) es ts rest e in
        rw s.list (ap {B = List Entry} (λ l. s.entry ∷ l) ((h s.entry.first).covers (at ∷ path) 0 s.inside s.those rest s.told))

    two : (path : List ℕ) (at : ℕ) (e e' : Entry) (es fs : List Entry) (ts us : List Tag) (rest rest' : List Entry)
        → u (following k e.first) es ≡ kept ts rest → u (following k e'.first) fs ≡ kept us rest' → (t : Bool) → same_item pool pool' k e e' ≡ t
        → Paired (record { path = at ∷ path; entry = e } ∷ (f (following k e.first) (inside (at ∷ path) 0 es)).items)
        (record { path = at ∷ path; entry = e' } ∷ (f (following k e'.first) (inside (at ∷ path) 0 fs)).items)
        (given t (λ _. c (following k e.first) (beside es fs)) (differing (λ a. c (following k a)) (record { entry = e; rest = es }) (record { entry = e'; rest = fs }))).pairs
    two path at e e' es fs ts us rest rest' p q true t =
        let way = item-follows pool pool' k e e' t in
        unfold given in
        subst (λ w. Paired (record { path = at ∷ path; entry = e } ∷ (f (following k e.first) (inside (at ∷ path) 0 es)).items)
        (record { path = at ∷ path; entry = e' } ∷ (f w (inside (at ∷ path) 0 fs)).items) (c (following k e.first) (beside es fs)).pairs) way
        (left (right ((h e.first).pairs (at ∷ path) 0 es fs ts us rest rest' p (rw way q))))
    two path at e e' es fs ts us rest rest' p q false t = unfold given differing in pair refl none

    item-pairs : (path : List ℕ) (at : ℕ) (es fs : List Entry) (ts us : List Tag) (rest rest' : List Entry) → told es ≡ kept ts rest → told fs ≡ kept us rest'
        → Paired (places_one (inside path at es)).items (places_one (inside path at fs)).items (compare_item listed (same_item pool pool') k n (λ a. c (following k a)) (beside es fs)).pairs
    unfolding place_item place_first place_one compare_item take_entry compare_two
    item-pairs path at es fs ts us rest rest' p q =
        let s = item-kept k n (λ a. u (following k a)) es ts rest p in
        let r = item-kept k n (λ a. u (following k a)) fs us rest' q in
        rw (s.list, r.list)
        (two path at s.entry r.entry s.inside r.inside s.those r.those rest rest' s.told r.told (same_item pool pool' k s.entry r.entry) refl)

    pathed-item : Pathed told places_one (compare_item listed (same_item pool pool') k n (λ a. c (following k a)))
    pathed-item = record { agrees = agree-item pool pool' u c k n (λ a. (h a).agrees); steps = 1; moves = item-moves; covers = item-covers; pairs = item-pairs }

  data Way : Type 0 where
    tells places compares : Way

  abbrev ways : Way → Walk
  ways tells = telling
  ways places = placing
  ways compares = comparing listed (same_item pool pool')

  pathed : (t : Shape) → Pathed (tell t) (walk placing t) (walk (comparing listed (same_item pool pool')) t)
  unfolding tell
  pathed t = every law t
    where
      law : Every ways (λ f. Pathed (f tells) (f places) (f compares))
      law = record { none = pathed-nothing; both = pathed-then; made = λ f k n h. pathed-item (λ way. f way tells) (λ way. f way places) (λ way. f way compares) k n h }

pub placed-all : PlacedAll
unfolding placed
placed-all t pool es vs e =
    let w = whole-told t pool es vs e in
    sym ((pathed pool pool t).covers [] 0 es w.tags [] w.told ∙ append-nil _)

pub same-paths : SamePaths
unfolding placed differences
same-paths t pool es pool' fs vs ws p q =
    let a = whole-told t pool es vs p in
    let b = whole-told t pool' fs ws q in
    (pathed pool pool' t).pairs [] 0 es fs a.tags b.tags [] [] a.told b.told
