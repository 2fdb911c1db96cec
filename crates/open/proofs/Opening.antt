-- An item that has children is opened: refused, or its entry made and what follows it held, if anything does, above the items that are open.
-- Assumes nothing.
use mathlib.Core.Path.{◌≡◌, refl, sym, ap, ◌∙◌}
use mathlib.Core.Bool.{true, false}
use mathlib.Core.List.{List, ◌∷◌}
use Prim.Native.Nat.{ℕ, suc, ◌+◌, ◌-◌, ◌*◌, ◌^◌, ◌<◌, ◌≤◌}
use native.Mathlib.Omega.{arith}
use lib.ListN.{length, drop}
use Rattle.wire.specs.declared.Refusal.{Refusal}
use Rattle.wire.specs.Item.{Item}
use Rattle.wire.specs.Item.{Took}
use Rattle.wire.specs.declared.Layout.{Layout}
use Rattle.wire.specs.Shape.{depth}
use Rattle.wire.specs.Walk.{following, is_known}
use Rattle.wire.specs.Table.{node_at, record_of}
use Rattle.wire.specs.Reading.{Head, Spot, Run, past, read_nothing, read_then, reading}
use Rattle.laws.specs.Heads.{Sound}
use Rattle.laws.specs.Tables.{node_kind, node_count, node_shape, GoodTable}
use Rattle.laws.proofs.Runs.{then-nothing}
use Rattle.table.specs.declared.Stretch.{Stretch}
use Rattle.table.specs.declared.Way.{Way}
use Rattle.table.specs.Parts.{Falls, Flat, node_step, rounds_step}
use Rattle.table.proofs.Stretches.{rounds-end, flat-falls, flat-rounds}
use Rattle.read_item.specs.declared.Inside.{Inside}
use Rattle.read_item.specs.Entered.{Entered}
use Rattle.read_item.specs.Entered as entered
use Rattle.read_item.specs.Lay.{lay}
use Rattle.read_item.specs.Steps.{spot, own_of, after_of, Enters, goes as enters, stops as halts}
use Rattle.read_item.proofs.Entering.{Goes as Taken}
use Rattle.reader.proofs.Turns.{turn-refused, node-steady, entered-refused, entered_on}
use Rattle.open.specs.declared.Held.{Held}
use Rattle.open.specs.Step.{On, Refused}
use Rattle.open.specs.Items.{holding, helds_of, pending, Sinks, Chain, over}
use Rattle.open.specs.Steps.{goes, refuses, Opens}
use Rattle.open.proofs.Words.{helds-held, helds-length}
use Rattle.open.proofs.Chains.{depth-some, sinks-some, sinks-followed, node-sinks, flat-sinks, chain-few, chain-lower}
use Rattle.open.proofs.Weights.{load-entry, load-held}
use Rattle.open.proofs.Pending.{then-none, lay-alike, rounds-empty, pending-over}

-- what follows an item that was taken: its chains are shorter than the item's
entered-sinks : {h : Head} → Sound h → {s : List ℕ} {l : Layout} {i : ℕ} → GoodTable s l → i < l.nodes → (bs : List ℕ) (p m : ℕ) (store : List ℕ) {r : Entered} {st : List ℕ}
    → Enters l i (node_at s (record_of l i)) p m store (own_of h (node_at s (record_of l i)) (spot bs p)) r st → {to : Stretch} {u : ℕ} → r ≡ entered.On to u
    → Sinks s l to.from to.width (depth (node_shape s l i) - 1)
unfolding after_of
entered-sinks {h} sound {s} {l} {i} g below bs p m store e {to} {u} = go refl e
  where
    go : {got : Item} {q : Entered} {t : List ℕ} → own_of h (node_at s (record_of l i)) (spot bs p) ≡ got → Enters l i (node_at s (record_of l i)) p m store got q t
        → q ≡ entered.On to u → Sinks s l to.from to.width (depth (node_shape s l i) - 1)
    go o halts k = let z : ◌≡◌ {A = ℕ} 0 1 = cc in absurd (omega arith)
    go o (enters {own}) k =
        let r = node_at s (record_of l i) in
        let same : ◌≡◌ {A = Inside} (record { to = after_of l i r own.first; used = own.used }) (record { to = to; used = u }) = cc in
        let way : after_of l i r own.first ≡ to = ap (λ r. r.to) same in
        let taken : h (node_kind r) (node_count r) p bs ≡ Took own = unfold own_of in o in
        let knows : is_known (following (node_kind r) own.first) (node_count r) ≡ true = sound.knows (node_kind r) (node_count r) p bs taken in
        let shorter : depth (node_shape s l i) ≤ suc (depth (node_shape s l i) - 1) = omega arith in
        rw (← way) (sinks-followed (node-sinks g below shorter) (following (node_kind r) own.first) knows)

module _ {h : Head} (sound : Sound h) (room : ℕ) {s : List ℕ} {l : Layout} {i : ℕ} (g : GoodTable s l) (below : i < l.nodes) (bs : List ℕ) (p m : ℕ) (store : List ℕ) (some : m < room)
    {r : Entered} {st : List ℕ} (e : Enters l i (node_at s (record_of l i)) p m store (own_of h (node_at s (record_of l i)) (spot bs p)) r st) where
  -- it is refused
  pub opens-refused : (fs : List Held) {why : Refusal} {o : List ℕ} → r ≡ entered.Refused why → Opens h room s l i fs bs p m store (Refused why p m) st o
  opens-refused fs q =
      refuses (turn-refused room (node_step (reading h) s l i) (pending h s l fs) (node-steady sound s l i) _ bs p m store refl _ st (entered-refused h room g below bs p m store some e q) refl)

  module _ {to : Stretch} {u : ℕ} (q : r ≡ entered.On to u) where
    pub taken : Taken h room (lay room (node_step (reading h) s l i (spot bs p)) m store) s l i (spot bs p) m to u st
    taken = entered_on h room g below bs p m store some e sound q

    abbrev follow : Spot → Run
    follow = rounds_step (reading h) s l to.rounds false to.from to.width

    entry-made : (after : Spot → Run) → lay room (read_then (node_step (reading h) s l i) after (spot bs p)) m store ≡ lay room (read_then follow after (spot (drop (p + u - p) bs) (p + u))) (m + 1) st
    entry-made after =
        let far : p + u - p ≡ u = omega arith in
        rw far (lay-alike room (node_step (reading h) s l i) follow after (spot bs p) (spot (drop u bs) (p + u)) m (m + 1) store st (unfold past in taken.rest))

    module _ (o : List ℕ) (d : ℕ) (chain : Chain s l (depth (node_shape s l i)) (helds_of o d)) where
      -- nothing follows
      opens-bare : ((x : Spot) → follow x ≡ read_nothing x) → Opens h room s l i (helds_of o d) bs p m store (On d (p + u) (m + 1)) st o
      opens-bare none = goes {e = d} {q = p + u} {k = m + 1} (record {
        up = omega arith;
        inside = omega (arith, taken.inside);
        whole = entry-made (pending h s l (helds_of o d)) ∙ ap (λ r. lay room r (m + 1) st) (then-none follow (pending h s l (helds_of o d)) _ (none _));
        chain = chain-lower (depth-some (node_shape s l i)) chain;
        less = load-entry room m some (helds_of o d);
      })

      pub opens-none : to.rounds ≡ 0 → Opens h room s l i (helds_of o d) bs p m store (On d (p + u) (m + 1)) st o
      opens-none z = opens-bare (λ x. rounds-end (reading h) s l to.rounds false to.from to.width x (omega arith))

      pub opens-empty : to.width ≡ 0 → Opens h room s l i (helds_of o d) bs p m store (On d (p + u) (m + 1)) st o
      opens-empty z = opens-bare (rounds-empty h s l to.rounds to.from to.width (omega arith))

      module _ (wide : 0 < to.width) where
        deep : 0 < depth (node_shape s l i) - 1
        deep = sinks-some (entered-sinks sound g below bs p m store e q) wide

        -- there is room for one more open item
        pub opens-room : length o ≡ 1024 → 4 * d + 4 ≤ length o
        opens-room h = omega (arith, deep, chain-few chain, helds-length o d)

        -- what follows is held
        pub opens-held : length o ≡ 1024 → to.rounds < 2 ^ 64 → length s < 2 ^ 64 → {way : Way} → Flat s l i to.from to.width way
            → {o' : List ℕ} → o' ≡ holding o d (record { from = way.from; width = way.width; headed = way.headed; left = 0; rounds = to.rounds })
            → Opens h room s l i (helds_of o d) bs p m store (On (d + 1) (p + u) (m + 1)) st o'
        opens-held long few short {way} flat {o'} held = goes {e = d + 1} {q = p + u} {k = m + 1} {st = st} {o = o'} (record {
          up = omega arith;
          inside = omega (arith, taken.inside);
          whole = entry-made (pending h s l (helds_of o d)) ∙ rw (above, flat-rounds g (omega arith) (reading h) then-nothing flat to.rounds) (ap (λ r. lay room r (m + 1) st) (sym (pending-over h s l f (helds_of o d) _ (omega arith))));
          chain = rw above (over {most = depth (node_shape s l i) - 1} {f = f} {fs = helds_of o d} deep falls (flat-sinks g (omega arith) (entered-sinks sound g below bs p m store e q) flat) (omega arith) (rw up chain));
          less = rw above (load-held room m some (helds_of o d) f (omega arith) few (omega (arith, falls.inside)));
        })
          where
            f : Held
            f = record { from = way.from; width = way.width; headed = way.headed; left = 0; rounds = to.rounds }

            above : helds_of o' (d + 1) ≡ f ∷ helds_of o d
            above = rw held (helds-held o d f (opens-room long))

            up : suc (depth (node_shape s l i) - 1) ≡ depth (node_shape s l i)
            up = omega (arith, deep)

            falls : Falls s way.from way.width l.nodes
            falls = let inner = flat-falls g (omega arith) flat in record { inside = inner.inside; below = λ c b. let low = inner.below c b in omega arith }
