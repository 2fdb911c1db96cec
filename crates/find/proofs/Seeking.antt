-- One step of the way along a path, in the table's numbers: no room, refused, absent, or on to the child, the fields in front of which are one row.
-- Assumes nothing.
use mathlib.Core.Path.{◌≡◌, refl, sym, ap, fun_ext, ◌∙◌}
use mathlib.Core.Bool.{true, false}
use mathlib.Core.List.{List, [], ◌∷◌, ◌++◌}
use Prim.Native.Nat.{ℕ, zero, suc, ◌+◌, ◌-◌, ◌*◌, ◌<◌, ◌≤◌, ◌^◌}
use native.Mathlib.Nat.{add-zero, sub-zero, not-suc-le-zero}
use native.Mathlib.Omega.{arith}
use lib.ListN.{length, take, drop, length-append}
use lib.Seq.{drop-drop}
use Rattle.wire.specs.declared.Refusal.{Refusal}
use Rattle.wire.specs.declared.Refusal.TheVariants.{Room}
use Rattle.wire.specs.declared.Own.{Own}
use Rattle.wire.specs.Item.{Item}
use Rattle.wire.specs.Item.{Took, Refused as NotTaken}
use Rattle.wire.specs.declared.Layout.{Layout}
use Rattle.wire.specs.ReadAnswer.{ReadAnswer}
use Rattle.wire.specs.ReadAnswer.{Done, Refused as NotRead}
use Rattle.wire.specs.Tests.{given}
use Rattle.wire.specs.Walk.{all, walk, walks}
use Rattle.wire.specs.Table.{u16_at, kind_of, Node, node_at, record_of, shapes_at}
use Rattle.wire.specs.Values.{Entry}
use Rattle.wire.specs.Reading.{head, Spot, Run, Outcome, reached, refused, run_after, read_nothing, read_on, past, reading, read, within, fit}
use Rattle.laws.specs.Bounds.{Fits, takes}
use Rattle.laws.specs.Tables.{node_kind, node_first, node_count, node_child, node_shape, node_shapes, GoodTable}
use Rattle.laws.proofs.Bounds.{head-fits, head-sound}
use Rattle.laws.proofs.Children.{count-children}
use Rattle.laws.proofs.Parts.{tail, length-tail}
use Rattle.laws.proofs.Runs.{fit_then}
use Rattle.laws.proofs.Tables.{next_place}
use Rattle.table.specs.Parts.{Falls, row_step}
use Rattle.table.proofs.Stretches.{node-falls}
use Rattle.wire.specs.Answers.{read_answer}
use Rattle.leaf.specs.Leaves.{leaf_take_at}
use Rattle.read_item.specs.Steps.{spot, own_of}
use Rattle.read_item.proofs.Entering.{number_small}
use Rattle.read_item.proofs.Heads.{head-leaf}
use Rattle.reader.specs.Steps.{answer_behind}
use Rattle.reader.proofs.Turns.{from, row-steady, said-refused, said-done}
use Rattle.desk.specs.FindAnswer.{FindAnswer}
use Rattle.desk.specs.FindAnswer.{Found, Absent, Refused}
use Rattle.desk.specs.Path.{is_field, most_entries, is_there}
use Rattle.along.specs.Seek.{seek_on, seek_item, seek, seek_at}
use Rattle.desk.specs.declared.NotFound.TheVariants.{Absent as Left, Refused as Not}
use Rattle.find.specs.PassAnswer.{PassAnswer, In, Out}
use Rattle.find.specs.Steps.{Inward, Owns, seek_node, seek_behind, Passes, inside, outside}
use Rattle.find.proofs.Passing.{field-outer}

-- ---- the fields in front, at once

-- behind a run, and then behind another one
on_then : (room : ℕ) (es : List Entry) (o : Outcome) (g : Spot → Run) (next : ℕ → Spot → FindAnswer)
    → seek_on room (read_on es o (λ y. fit (room - length es) (g y))).made (read_on es o (λ y. fit (room - length es) (g y))).ends next
    ≡ seek_on room es o (λ left y. seek_on left (fit left (g y)).made (fit left (g y)).ends next)
on_then room es (refused e p) g next = unfold read_on seek_on in refl
on_then room es (reached y) g next = unfold read_on run_after seek_on in go (fit (room - length es) (g y)).made (fit (room - length es) (g y)).ends
  where
    go : (fs : List Entry) (o : Outcome) → seek_on room (es ++ fs) o next ≡ seek_on (room - length es) fs o next
    go fs (refused e p) = unfold seek_on in refl
    go fs (reached z) = unfold seek_on in ap (λ left. next left z) (less (length-append es fs))
      where
        less : {n : ℕ} → n ≡ length es + length fs → room - n ≡ room - length es - length fs
        less e = omega arith

module _ (s : List ℕ) (l : Layout) (path : List ℕ) where
  pub at_once : (from n which room : ℕ) (x : Spot) → which < n → seek_at (shapes_at (node_shape s l) s from n) which path room x ≡ seek_behind s l from which room x path
  unfolding seek_at seek_behind shapes_at row_step all walks
  at_once from zero which room x h = absurd (not-suc-le-zero h)
  at_once from (suc n) zero room x h = unfold read_nothing fit within seek_on in rw (add-zero from, sub-zero room)
  at_once from (suc n) (suc which) room x h = step (λ left y. at_once (from + 2) n which left y (omega arith))
    where
      step : ((left : ℕ) (y : Spot) → seek_at (shapes_at (node_shape s l) s (from + 2) n) which path left y ≡ seek_behind s l (from + 2) which left y path)
          → seek_on room (fit room (read (node_shape s l (u16_at s from)) x)).made (fit room (read (node_shape s l (u16_at s from)) x)).ends (λ left y. seek_at (shapes_at (node_shape s l) s (from + 2) n) which path left y)
          ≡ seek_behind s l from (suc which) room x path
      step ih =
          rw (fit_then room (λ y. walk (reading head) (node_shape s l (u16_at s from)) y) (row_step (reading head) s l (from + 2) which) x, next_place from which)
          (unfold read in
          (ap (seek_on room (fit room (walk (reading head) (node_shape s l (u16_at s from)) x)).made (fit room (walk (reading head) (node_shape s l (u16_at s from)) x)).ends) (fun_ext (λ left. fun_ext (λ y. ih left y)))
          ∙ sym (on_then room _ _ (row_step (reading head) s l (from + 2) which) _)))

-- the fields in front stand in the table as the child with them does
pub falls-front : {s : List ℕ} {from n m i : ℕ} → Falls s from n i → m ≤ n → Falls s from m i
falls-front f l = record { inside = omega (arith, f.inside); below = λ j h. f.below j (omega arith) }

-- a row that was skimmed behind the first m entries
module _ (s : List ℕ) (l : Layout) (at which : ℕ) (bs : List ℕ) (p m : ℕ) {a : ReadAnswer}
    (said : a ≡ answer_behind m (fit (most_entries - m) (row_step (reading head) s l at which (spot bs p)))) where
  abbrev whole : List ℕ → FindAnswer
  whole = seek_behind s l at which (most_entries - m) (spot bs p)

  pub skimmed-refused : {e : Refusal} {q n : ℕ} → a ≡ NotRead e q n → Passes s l (u16_at s (at + 2 * which)) bs p whole (Out (Not e q))
  unfolding seek_behind
  skimmed-refused {e} {q} h =
      outside {cause = Not e q} (λ rest. rw (said-refused (row_step (reading head) s l at which) (row-steady head-sound s l at which) bs p (most_entries - m) m said h) (unfold seek_on in refl))

  pub skimmed-on : {c q n : ℕ} → a ≡ Done q n → c ≡ u16_at s (at + 2 * which) → Passes s l (u16_at s (at + 2 * which)) bs p whole (In c q n)
  unfolding seek_behind
  skimmed-on {c} {q} {n} h e =
      let (went, ends, many) = said-done (row_step (reading head) s l at which) (row-steady head-sound s l at which) bs p (most_entries - m) m said h in
      rw e (inside {q = q} {m = n} went.up went.inside (λ rest. rw (ends, tail bs (q - p)) (unfold seek_on in ap (λ left. seek (node_shape s l (u16_at s (at + 2 * which))) rest left (spot (drop (q - p) bs) q)) (less (length (fit (most_entries - m) (row_step (reading head) s l at which (spot bs p))).made) many))))
    where
      less : (k : ℕ) → n ≡ m + k → most_entries - m - k ≡ most_entries - n
      less k q = omega arith

-- a row of none
module _ (s : List ℕ) (l : Layout) (at : ℕ) (bs : List ℕ) (p m : ℕ) where
  none_said : answer_behind m (fit (most_entries - m) (row_step (reading head) s l at 0 (spot bs p))) ≡ Done p m
  unfolding answer_behind read_answer row_step shapes_at all walks read_nothing fit within
  none_said = rw (add-zero m)

  pub skimmed-none : {which c : ℕ} → which ≡ 0 → c ≡ u16_at s at → Passes s l (u16_at s (at + 2 * which)) bs p (seek_behind s l at which (most_entries - m) (spot bs p)) (In c p m)
  skimmed-none {which} {c} z e = rw z (skimmed-on s l at 0 bs p m refl none_said (e ∙ ap (u16_at s) (sym (add-zero at))))

-- a step that began u bytes on
pub passes-behind : {s : List ℕ} {l : Layout} {c : ℕ} (bs : List ℕ) (p u : ℕ) (whole here : List ℕ → FindAnswer) {r : PassAnswer} → u ≤ length bs
    → ((rest : List ℕ) → here rest ≡ whole rest) → Passes s l c (take (length bs - u) (drop u bs)) (p + u) whole r → Passes s l c bs p here r
passes-behind {s} {l} {c} bs p u whole here h same (outside e) = outside (λ rest. same rest ∙ e rest)
passes-behind {s} {l} {c} bs p u whole here h same (inside {q} {m} up fits e) =
    let there : u + (q - (p + u)) ≡ q - p = omega arith in
    inside {q = q} {m = m} (omega arith) (omega (arith, length-tail bs u, fits, h, up))
    (λ rest. same rest ∙ e rest ∙ ap (λ b. seek (node_shape s l c) rest (most_entries - m) (spot b q)) (ap (drop (q - (p + u))) (tail bs u) ∙ drop-drop (q - (p + u)) u bs ∙ ap (λ k. drop k bs) there))

-- ---- an item of a node

-- An item that the path goes through was taken, with the first word a: its own bytes are there, and the fields in front of the
-- child stand in the table with it. The answer is that of an absent option, or of what comes behind the fields in front.
pub record Goes (s : List ℕ) (l : Layout) (i which : ℕ) (bs : List ℕ) (p m a used : ℕ) : Type 0 where
  pub bytes : used ≤ length bs
  pub falls : Falls s (node_first l i (node_at s (record_of l i))) (which + 1) i
  pub absent : is_there (node_kind (node_at s (record_of l i))) a ≡ false
      → Passes s l (node_child s l i (node_at s (record_of l i)) which) bs p (seek_node s l i which (most_entries - m) (spot bs p)) (Out (Left p))
  pub rest : is_there (node_kind (node_at s (record_of l i))) a ≡ true → (path : List ℕ) → seek_node s l i which (most_entries - m) (spot bs p) path
      ≡ seek_behind s l (node_first l i (node_at s (record_of l i))) which (most_entries - (m + 1)) (spot (take (length bs - used) (drop used bs)) (p + used)) path

module _ {s : List ℕ} {l : Layout} {i : ℕ} (g : GoodTable s l) (below : i < l.nodes) where
  abbrev r : Node
  r = node_at s (record_of l i)

  seek-none : (path : List ℕ) (x : Spot) → seek (node_shape s l i) path 0 x ≡ Refused Room x.place
  unfolding seek
  seek-none path x = rw (g.node-good i below).its_shape

  seek-item : (path : List ℕ) (room : ℕ) (x : Spot)
      → seek (node_shape s l i) path (suc room) x ≡ seek_item (node_kind r) path (own_of head r x) x (λ j rest y. seek_at (node_shapes s l i r) j rest room y)
  unfolding seek own_of
  seek-item path room x = rw ((g.node-good i below).its_shape, count-children (node_shape s l) s (node_first l i r) (node_count r))

  module _ (bs : List ℕ) (p m : ℕ) where
    pub no_room : (path : List ℕ) → most_entries ≤ m → seek (node_shape s l i) path (most_entries - m) (spot bs p) ≡ Refused Room p
    no_room path full = let none_left : most_entries - m ≡ 0 = omega arith in rw none_left (seek-none path (spot bs p))

    pub pass-full : (which : ℕ) → most_entries ≤ m → Passes s l (node_child s l i r which) bs p (seek_node s l i which (most_entries - m) (spot bs p)) (Out (Not Room p))
    pass-full which full = outside {cause = Not Room p} (λ rest. unfold seek_node in no_room (which ∷ rest) full)

    module _ (some : m < most_entries) where
      with-room : (path : List ℕ) {own : Item} → own_of head r (spot bs p) ≡ own
          → seek (node_shape s l i) path (most_entries - m) (spot bs p) ≡ seek_item (node_kind r) path own (spot bs p) (λ j rest y. seek_at (node_shapes s l i r) j rest (most_entries - (m + 1)) y)
      with-room path q = let one : most_entries - m ≡ suc (most_entries - (m + 1)) = omega arith in rw (one, ← q) (seek-item path (most_entries - (m + 1)) (spot bs p))

      -- the path's own item
      module _ (k : ℕ) (is : k ≡ r.number) (field : is_field (node_kind r) ≡ true) (fits : p + length bs < 2 ^ 64) {got : Item} (took : got ≡ leaf_take_at k p bs) where
        own-field : own_of head r (spot bs p) ≡ got
        unfolding own_of
        own-field = sym (took ∙ head-leaf (node_count r) p bs k (rw (← is) at (field-outer r.number field)) (number_small g below k is) fits ∙ ap (λ q. head (kind_of q) (node_count r) p bs) is)

        pub field-refused : {e : Refusal} → got ≡ NotTaken e → Refused e p ≡ seek (node_shape s l i) [] (most_entries - m) (spot bs p)
        field-refused q = sym (with-room [] (own-field ∙ q) ∙ (unfold seek_item in refl))

        pub field_found : {own : Own} → got ≡ Took own → Found own.first own.second p ≡ seek (node_shape s l i) [] (most_entries - m) (spot bs p)
        field_found q = sym (with-room [] (own-field ∙ q) ∙ (unfold seek_item in refl))

      -- one that the path goes through, as it was entered
      module _ {which : ℕ} (inward : Inward r which) where
        abbrev c : ℕ
        c = node_child s l i r which

        abbrev here : List ℕ → FindAnswer
        here = seek_node s l i which (most_entries - m) (spot bs p)

        own-refused : {why : Refusal} → own_of head r (spot bs p) ≡ NotTaken why → Passes s l c bs p here (Out (Not why p))
        own-refused {why} q = outside {cause = Not why p} (λ rest. unfold seek_node in (with-room (which ∷ rest) q ∙ (unfold seek_item in refl)))

        own-goes : (own : Own) → own_of head r (spot bs p) ≡ Took own → Goes s l i which bs p m own.first own.used
        own-goes own q =
            let n = node-falls g below in
            record {
              bytes = ends (unfold own_of in (rw q at (head-fits (node_kind r) (node_count r) p bs)));
              falls = record { inside = omega (arith, n.inside, inward.there); below = λ j h. n.below j (omega (arith, inward.there)) };
              absent = λ z. outside {cause = Left p} (λ path. took path ∙ rw z (unfold given in refl));
              rest = λ z path. took path ∙ rw z (unfold given in (at_once s l path (node_first l i r) (node_count r) which (most_entries - (m + 1)) (past own.used (spot bs p)) inward.there ∙ (unfold past in rw (tail bs own.used))));
            }
          where
            ends : Fits bs (Took own) → own.used ≤ length bs
            ends (takes h) = h

            took : (path : List ℕ) → here path
                ≡ given (is_there (node_kind r) own.first) (λ _. seek_at (node_shapes s l i r) which path (most_entries - (m + 1)) (past own.used (spot bs p))) (Absent p)
            took path = unfold seek_node in (with-room (which ∷ path) q ∙ (unfold seek_item in refl))

        module _ (k : ℕ) (is : k ≡ r.number) {got : Item} (owns : Owns k bs got) where
          own-passed : own_of head r (spot bs p) ≡ got
          unfolding own_of
          own-passed = sym (owns (node_count r) p ∙ ap (λ q. head (kind_of q) (node_count r) p bs) is)

          pub pass-refused : {why : Refusal} → got ≡ NotTaken why → Passes s l c bs p here (Out (Not why p))
          pass-refused q = own-refused (own-passed ∙ q)

          pub pass-goes : {own : Own} → got ≡ Took own → Goes s l i which bs p m own.first own.used
          pass-goes {own} q = own-goes own (own-passed ∙ q)
