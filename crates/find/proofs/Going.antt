-- The way along a path as a loop: the rest of it from a node and a place answers what the whole of it answers.
-- Assumes nothing.
use mathlib.Core.Path.{◌≡◌, refl, sym, ap, ◌∙◌}
use mathlib.Core.Bool.{true}
use mathlib.Core.List.{List, []}
use Prim.Native.Nat.{ℕ, ◌+◌, ◌-◌, ◌<◌, ◌≤◌}
use native.Mathlib.Omega.{arith}
use lib.ListN.{length, get_or, take, drop, length-drop}
use lib.Seq.{drop-drop}
use Rattle.wire.specs.declared.Layout.{Layout}
use Rattle.wire.specs.Table.{node_at, record_of, shape_of}
use Rattle.wire.specs.Reading.{front}
use Rattle.laws.specs.Tables.{node_kind, node_child, node_shape, GoodTable}
use Rattle.laws.proofs.Parts.{tail, next}
use Rattle.read_item.specs.Steps.{spot}
use Rattle.std.specs.Prelude.{Err}
use Rattle.desk.specs.declared.NotFound.{NotFound}
use Rattle.desk.specs.Path.{is_field, most_entries, leads}
use Rattle.along.specs.Seek.{seek}
use Rattle.find.specs.declared.Passed.{Passed}
use Rattle.find.specs.PassAnswer.{PassAnswer, In, Out}
use Rattle.find.specs.Steps.{is_some, Inward, seek_node, Passes, Arrives}
use Rattle.find.specs.Steps as steps
use Rattle.find.proofs.Leading.{Leading, lead-start, lead-next, lead-inward, lead-rest, lead-end}

-- two answers that are one have the same parts
same-in : {c c' q q' m m' : ℕ} → In c q m ≡ In c' q' m' → (c ≡ c') × (q ≡ q') × (m ≡ m')
same-in {c} {c'} {q} {q'} {m} {m'} h =
    let same : ◌≡◌ {A = Passed} (record { node = c; place = q; made = m }) (record { node = c'; place = q'; made = m' }) = cc in
    (ap (λ r. r.node) same, ap (λ r. r.place) same, ap (λ r. r.made) same)

-- i positions on, the way stands at a node and at a place of the message, with so many entries made
pub record Going (s : List ℕ) (l : Layout) (path message : List ℕ) (node i : ℕ) (rest : List ℕ) (at made : ℕ) : Type 0 where
  pub leading : Leading s l path node i
  pub within : at ≤ length message
  pub bytes : rest ≡ drop at message
  pub same : seek (node_shape s l node) (drop i path) (most_entries - made) (spot rest at) ≡ seek (shape_of s l) path most_entries (front message)

module _ {s : List ℕ} {l : Layout} (g : GoodTable s l) (path message : List ℕ) where
  pub go-start : Going s l path message l.root 0 message 0 0
  go-start =
      record {
        leading = lead-start g path;
        within = omega arith;
        bytes = refl;
        same = ap (λ t. seek t path most_entries (front message)) (sym g.its_shape);
      }

  module _ {node i : ℕ} {rest : List ℕ} {at made : ℕ} (going : Going s l path message node i rest at made) where
    pub go-long : at + length rest ≡ length message
    go-long = omega (arith, going.within, ap length going.bytes, length-drop at message)

    module _ (leads-there : is_some (leads (shape_of s l) path) ≡ true) where
      pub go-inward : i < length path → Inward (node_at s (record_of l node)) (get_or path i 0)
      go-inward more = lead-inward g path going.leading more leads-there

      -- the path's next position was passed
      module _ (more : i < length path) {r : PassAnswer}
          (passed : Passes s l (node_child s l node (node_at s (record_of l node)) (get_or path i 0)) rest at (seek_node s l node (get_or path i 0) (most_entries - made) (spot rest at)) r) where
        here : seek_node s l node (get_or path i 0) (most_entries - made) (spot rest at) (drop (i + 1) path) ≡ seek (shape_of s l) path most_entries (front message)
        unfolding seek_node
        here = ap (λ p. seek (node_shape s l node) p (most_entries - made) (spot rest at)) (sym (next path i more)) ∙ going.same

        pub go-out : {cause : NotFound} → r ≡ Out cause → Arrives s l path message r
        go-out {cause} = turn passed
          where
            turn : {r : PassAnswer} → Passes s l (node_child s l node (node_at s (record_of l node)) (get_or path i 0)) rest at (seek_node s l node (get_or path i 0) (most_entries - made) (spot rest at)) r
                → r ≡ Out cause → Arrives s l path message r
            turn (steps.outside e) q = steps.Arrives.outside (sym here ∙ e (drop (i + 1) path))
            turn (steps.inside up fits e) q = let z : ◌≡◌ {A = ℕ} 0 1 = cc in absurd (omega arith)

        pub go-in : {c q m : ℕ} → r ≡ In c q m
            → (at ≤ q) × (q - at ≤ length rest) × Going s l path message c (i + 1) (take (length rest - (q - at)) (drop (q - at) rest)) q m
        go-in {c} {q} {m} = turn passed
          where
            turn : {r : PassAnswer} → Passes s l (node_child s l node (node_at s (record_of l node)) (get_or path i 0)) rest at (seek_node s l node (get_or path i 0) (most_entries - made) (spot rest at)) r
                → r ≡ In c q m → (at ≤ q) × (q - at ≤ length rest) × Going s l path message c (i + 1) (take (length rest - (q - at)) (drop (q - at) rest)) q m
            turn (steps.outside e) h = let z : ◌≡◌ {A = ℕ} 0 1 = cc in absurd (omega arith)
            turn (steps.inside up fits e) h =
                let (child, place, count) = same-in h in
                let inward = go-inward more in
                let far : at + (q - at) ≡ q = omega arith in (
                  omega arith,
                  omega arith,
                  record {
                    leading = lead-next g path going.leading more inward.passed inward.there (sym child);
                    within = omega (arith, go-long);
                    bytes = tail rest (q - at) ∙ ap (drop (q - at)) going.bytes ∙ drop-drop (q - at) at message ∙ ap (λ k. drop k message) far;
                    same = rw (tail rest (q - at)) (sym (rw (child, place, count) at (e (drop (i + 1) path))) ∙ here);
                  },
                )

      pub go-end : length path ≤ i → Arrives s l path message (In node at made)
      go-end done =
          steps.Arrives.inside {m = made} going.leading.below (sym (lead-end g path going.leading done) ∙ leads-there) going.within
          (sym going.same ∙ rw (lead-rest g path going.leading done, going.bytes))

-- ---- the item at its end

module _ {s : List ℕ} {l : Layout} {path message : List ℕ} {r : PassAnswer} (arrived : Arrives s l path message r) where
  pub end-out : {cause : NotFound} → r ≡ Out cause → Err cause ≡ seek (shape_of s l) path most_entries (front message)
  end-out {cause} = turn arrived
    where
      turn : {r : PassAnswer} → Arrives s l path message r → r ≡ Out cause → Err cause ≡ seek (shape_of s l) path most_entries (front message)
      turn (steps.Arrives.outside {cause = other} e) q = let same : other ≡ cause = cc in sym (e ∙ ap Err same)
      turn (steps.Arrives.inside b f h e) q = let z : ◌≡◌ {A = ℕ} 0 1 = cc in absurd (omega arith)

  -- where it stands
  pub record Stands (c q m : ℕ) : Type 0 where
    pub below : c < l.nodes
    pub field : is_field (node_kind (node_at s (record_of l c))) ≡ true
    pub within : q ≤ length message
    pub same : seek (node_shape s l c) [] (most_entries - m) (spot (take (length message - q) (drop q message)) q) ≡ seek (shape_of s l) path most_entries (front message)

  pub end-in : {c q m : ℕ} → r ≡ In c q m → Stands c q m
  end-in {c} {q} {m} = turn arrived
    where
      turn : {r : PassAnswer} → Arrives s l path message r → r ≡ In c q m → Stands c q m
      turn (steps.Arrives.outside e) h = let z : ◌≡◌ {A = ℕ} 0 1 = cc in absurd (omega arith)
      turn (steps.Arrives.inside b f w e) h =
          let (node, place, count) = same-in h in
          record {
            below = rw node at b;
            field = rw node at f;
            within = rw place at w;
            same = rw (tail message q) (sym (rw (node, place, count) at e));
          }
