-- An item of a node on both sides: no room, refused, the same with its stretch behind it, or a pair and each side behind it alone.
-- Assumes nothing.
use mathlib.Core.Path.{◌≡◌, refl, sym, ap, ◌∙◌}
use mathlib.Core.Bool.{Bool, true, false}
use mathlib.Core.List.{List, [], ◌∷◌, append-nil}
use Prim.Native.Nat.{ℕ, ◌+◌, ◌-◌, ◌≤◌, ◌<◌}
use native.Mathlib.Nat.{add-zero}
use native.Mathlib.Omega.{arith}
use lib.ListN.{length, take, drop}
use lib.Dec.{eqb}
use Rattle.wire.specs.declared.Refusal.{Refusal}
use Rattle.wire.specs.declared.Own.{Own}
use Rattle.wire.specs.Item.{Item}
use Rattle.wire.specs.Item.{Took, Refused}
use Rattle.wire.specs.declared.Layout.{Layout}
use Rattle.wire.specs.ReadAnswer.{ReadAnswer}
use Rattle.wire.specs.ReadAnswer.{Done, Refused as NotRead}
use Rattle.wire.specs.Answers.{read_answer}
use Rattle.wire.specs.Tests.{pick, given}
use Rattle.wire.specs.Shape.{Kind}
use Rattle.wire.specs.Values.{Entry, is_pooled}
use Rattle.wire.specs.Walk.{each, following, is_known, times, along, walks}
use Rattle.wire.specs.Table.{kind_of, Node, node_at, record_of, shapes_at}
use Rattle.wire.specs.Reading.{head, Spot, Outcome, reached, refused, Run, past, reading, fit}
use Rattle.laws.specs.KindRanges.{IsInner}
use Rattle.laws.specs.Tables.{node_kind, node_count, node_shape, node_shapes, GoodTable}
use Rattle.laws.proofs.Answers.{same-done}
use Rattle.laws.proofs.Known.{head-known}
use Rattle.laws.proofs.EachKind.{outer-kinds}
use Rattle.laws.proofs.Children.{walk-node}
use Rattle.laws.proofs.Parts.{tail}
use Rattle.laws.proofs.Runs.{not-reached, within-reached, fit-reached}
use Rattle.table.specs.declared.Stretch.{Stretch}
use Rattle.table.specs.declared.Way.{Way}
use Rattle.table.specs.Parts.{Falls, Flat, under, node_step, row_step, rounds_step}
use Rattle.table.proofs.Stretches.{node-falls, falls-followed, along-followed, flat-rounds}
use Rattle.read_item.specs.Steps.{spot, own_of, after_of}
use Rattle.reader.specs.Steps.{answer_behind}
use Rattle.desk.specs.Differ.{Pair, Sides, beside, alone, sole}
use Rattle.beside.specs.Meeting.{same_own, Met, met, unread, met_after, meet_nothing, meet_on, meet_then, met_apart, meet_two, meet_item, meeting}
use Rattle.beside.specs.Laws.{Passes, passes, stops}
use Rattle.beside.proofs.Readings.{row-meets, rounds-meets}
use Rattle.beside.proofs.Owns.{head-used}
use Rattle.compare_item.specs.Pairs.{with_pair, pairs_from}
use Rattle.compare_item.specs.declared.Sides as item
use Rattle.compare_item.specs.declared.Inside.{Inside}
use Rattle.compare_item.specs.Taken.{Taken}
use Rattle.compare_item.specs.Taken.{Both, Unread}
use Rattle.compare_item.specs.Entered.{Entered}
use Rattle.compare_item.specs.Entered.{On, Unread as Unentered}
use Rattle.compare_item.specs.Items.{taken_both, entered_both}
use Rattle.compare_item.proofs.Leaves.{pooled-not}
use Rattle.compare_walk.specs.Walked.{Walked}
use Rattle.compare_walk.specs.Walked.{Apart}
use Rattle.compare_walk.specs.Walked as walked
use Rattle.compare_walk.specs.Steps.{Left, went, stopped, lay, Gives, passed_by, passed}
use Rattle.compare_walk.proofs.Laying.{lay-nothing, lay-over, lay-fits, lay-after, gives-stopped, gives-went}

-- ---- nothing behind a step is the step

pub ends-bare : (f : Sides Spot → Met) (z : Sides Spot) → meet_then f meet_nothing z ≡ f z
unfolding meet_then
ends-bare f z = go (f z)
  where
    go : (r : Met) → meet_on r meet_nothing ≡ r
    go (met m n ps y) = unfold meet_on meet_nothing met_after in rw (add-zero m, add-zero n, append-nil ps)
    go unread = unfold meet_on in refl

-- ---- two answers that are one have the same parts

same-taken : {b b' : Bool} {u u' o o' : ℕ} → Both b u o ≡ Both b' u' o' → (b ≡ b') × (u ≡ u') × (o ≡ o')
same-taken {b} {b'} {u} {u'} {o} {o'} e =
    let same : ◌≡◌ {A = item.Sides} (record { same = b; used = u; other = o }) (record { same = b'; used = u'; other = o' }) = cc in
    (ap (λ r. r.same) same, ap (λ r. r.used) same, ap (λ r. r.other) same)

same-entered : {b b' : Bool} {u u' o o' : ℕ} {t t' w w' : Stretch} → On b u t o w ≡ On b' u' t' o' w' → (b ≡ b') × (u ≡ u') × (t ≡ t') × (o ≡ o') × (w ≡ w')
same-entered {b} {b'} {u} {u'} {o} {o'} {t} {t'} {w} {w'} e =
    let same : ◌≡◌ {A = Inside} (record { same = b; used = u; to = t; other = o; toward = w }) (record { same = b'; used = u'; to = t'; other = o'; toward = w' }) = cc in
    (ap (λ r. r.same) same, ap (λ r. r.used) same, ap (λ r. r.to) same, ap (λ r. r.other) same, ap (λ r. r.toward) same)

-- ---- an item wants room on both sides

data Counts : Met → Type 0 where
  counts : (a b : ℕ) {ps : List Pair} {z : Sides Spot} → Counts (met (1 + a) (1 + b) ps z)
  none : Counts unread

two-counts : (k : Kind) (next : ℕ → Sides Spot → Met) (x y : Spot) (i j : Item) → Counts (meet_two k next x y i j)
unfolding meet_two
two-counts k next x y (Refused why) j = none
two-counts k next x y (Took a) (Refused why) = none
two-counts k next x y (Took a) (Took b) = go (same_own k a x.bytes b y.bytes)
  where
    after : (r : Met) → Counts (met_after 1 1 [] r)
    after (met m n ps z) = unfold met_after in counts m n
    after unread = unfold met_after in none

    apart : (p : Pair) (r q : Met) → Counts (met_apart p r q)
    apart p (met m _ _ z) (met n _ _ z') = unfold met_apart in counts m n
    apart p (met m _ _ z) unread = unfold met_apart in none
    apart p unread q = unfold met_apart in none

    go : (t : Bool) → Counts (given t (λ _. met_after 1 1 [] (next a.first (beside (past a.used x) (past b.used y))))
        (met_apart (record { one = x.place; other = y.place }) (next a.first (alone (past a.used x))) (next b.first (alone (past b.used y)))))
    go true = unfold given in after _
    go false = unfold given in apart _ _ _

lay-full : (room m n c : ℕ) (s : List ℕ) {r : Met} → Counts r → (m < room → n < room → ⊥) → lay room r m n c s ≡ stopped
lay-full room m n c s (counts a b {ps} {z}) h = lay-over room m n c s (1 + a) (1 + b) ps z (λ p q. h (omega arith) (omega arith))
lay-full room m n c s none h = unfold lay in refl

-- ---- each side alone

-- a run with room for so many entries: all of it, or cut short
pub data Fitted (room : ℕ) (r : Run) : Run → Type 0 where
  all : {x : Spot} → r.ends ≡ reached x → length r.made ≤ room → Fitted room r (record { made = r.made; ends = reached x })
  cut : {es : List Entry} {why : Refusal} {p : ℕ} → ((x : Spot) → r.ends ≡ reached x → length r.made ≤ room → ⊥) → Fitted room r (record { made = es; ends = refused why p })

pub fitted : (room : ℕ) (r : Run) → Fitted room r (fit room r)
fitted room r = go (fit room r).made (fit room r).ends refl
  where
    whole : {x : Spot} → r.ends ≡ reached x → length r.made ≤ room → fit room r ≡ record { made = r.made; ends = reached x }
    whole {x} e l = unfold fit in rw e (within-reached room r.made x l)

    go : (es : List Entry) (o : Outcome) → fit room r ≡ record { made = es; ends = o } → Fitted room r (record { made = es; ends = o })
    go es (reached x) e =
        let f = fit-reached room r es x e in
        let made : r.made ≡ es = ap (λ t. t.made) f.1 in
        rw (← made) (all (ap (λ t. t.ends) f.1) (rw made f.0))
    go es (refused why p) e = cut (λ x h l. not-reached (ap (λ t. t.ends) (sym e ∙ whole h l)))

-- both went alone, behind an item that made an entry on each side and the pair p
module _ (room m n c : ℕ) (s : List ℕ) (p : Pair) (r q : Run) {a b : Met} (one : Passes r.made r.ends a) (other : Passes q.made q.ends b) where
  over : ((x y : Spot) → r.ends ≡ reached x → q.ends ≡ reached y → 1 + length r.made ≤ room - m → 1 + length q.made ≤ room - n → ⊥) → lay room (met_apart p a b) m n c s ≡ stopped
  over h = go refl refl one other
    where
      go : {o o' : Outcome} {a b : Met} → r.ends ≡ o → q.ends ≡ o' → Passes r.made o a → Passes q.made o' b → lay room (met_apart p a b) m n c s ≡ stopped
      go e f passes passes = unfold met_apart in lay-over room m n c s (1 + length r.made) (1 + length q.made) (p ∷ []) _ (λ k l. h _ _ e f k l)
      go e f passes stops = unfold met_apart lay in refl
      go e f stops passes = unfold met_apart lay in refl
      go e f stops stops = unfold met_apart lay in refl

  fits : {x y : Spot} → r.ends ≡ reached x → q.ends ≡ reached y → 1 + length r.made ≤ room - m → 1 + length q.made ≤ room - n
      → lay room (met_apart p a b) m n c s ≡ went (beside x y) (m + 1 + length r.made) (n + 1 + length q.made) (c + 1) (with_pair p.one p.other c s)
  fits {x} {y} e f k l = go (rw e at one) (rw f at other)
    where
      go : {a b : Met} → Passes r.made (reached x) a → Passes q.made (reached y) b
          → lay room (met_apart p a b) m n c s ≡ went (beside x y) (m + 1 + length r.made) (n + 1 + length q.made) (c + 1) (with_pair p.one p.other c s)
      go passes passes =
          unfold met_apart sole in
          let here : m + (1 + length r.made) ≡ m + 1 + length r.made = omega arith in
          let there : n + (1 + length q.made) ≡ n + 1 + length q.made = omega arith in
          lay-fits room m n c s (1 + length r.made) (1 + length q.made) (p ∷ []) (beside x y) k l ∙ rw (here, there) (unfold pairs_from in refl)

  pub passed-gives : m < room → n < room → {w : Walked} → w ≡ passed (m + 1) (n + 1) (c + 1) (fit (room - (m + 1)) r) (fit (room - (n + 1)) q)
      → Gives (lay room (met_apart p a b) m n c s) w (with_pair p.one p.other c s)
  unfolding passed passed_by
  passed-gives some more = go (fitted (room - (m + 1)) r) (fitted (room - (n + 1)) q)
    where
      go : {r' q' : Run} {w : Walked} → Fitted (room - (m + 1)) r r' → Fitted (room - (n + 1)) q q' → w ≡ passed (m + 1) (n + 1) (c + 1) r' q'
          → Gives (lay room (met_apart p a b) m n c s) w (with_pair p.one p.other c s)
      go (all {x} h k) (all {x = y} h' k') e = rw e (gives-went x y (fits h h' (omega arith) (omega arith)))
      go (all h k) (cut f) e = rw e (gives-stopped (over (λ x y h h' k k'. f y h' (omega arith))))
      go (cut f) (all h k) e = rw e (gives-stopped (over (λ x y h h' k k'. f x h (omega arith))))
      go (cut f) (cut g) e = rw e (gives-stopped (over (λ x y h h' k k'. f x h (omega arith))))

-- rounds that a side goes over alone are those of a reading
rounds-pass : (s : List ℕ) (l : Layout) (c from n : ℕ) (x : Spot)
    → Passes (rounds_step (reading head) s l c false from n x).made (rounds_step (reading head) s l c false from n x).ends (rounds_step meeting s l c false from n (alone x))
unfolding rounds_step under row_step
rounds-pass s l c from n x = (rounds-meets (row-meets (shapes_at (node_shape s l) s from n)) c).passing x

-- ---- an item of a node

-- so many bytes behind a spot, as the code takes them
abbrev pub behind : ℕ → Spot → Spot
behind u x = spot (take (length x.bytes - u) (drop u x.bytes)) (x.place + u)

behind-past : (u : ℕ) (x : Spot) → behind u x ≡ past u x
unfolding past
behind-past u x = rw (tail x.bytes u)

-- what an item that has children leaves, if it was taken on both sides
pub record Enters (s : List ℕ) (l : Layout) (i : ℕ) (x y : Spot) (same : Bool) (used : ℕ) (to : Stretch) (other : ℕ) (toward : Stretch) : Type 0 where
  pub a : Own
  pub b : Own
  pub mine : own_of head (node_at s (record_of l i)) x ≡ Took a
  pub its : own_of head (node_at s (record_of l i)) y ≡ Took b
  pub same-so : eqb a.first b.first ≡ same
  pub used-so : a.used ≡ used
  pub to-so : after_of l i (node_at s (record_of l i)) a.first ≡ to
  pub other-so : b.used ≡ other
  pub toward-so : after_of l i (node_at s (record_of l i)) b.first ≡ toward

module _ {s : List ℕ} {l : Layout} {i : ℕ} (g : GoodTable s l) (below : i < l.nodes) where
  abbrev node : Node
  node = node_at s (record_of l i)

  abbrev nexts : ℕ → Sides Spot → Met
  nexts a = along meeting (following (node_kind node) a) (walks meeting (node_shapes s l i node))

  item-met : (x y : Spot) → node_step meeting s l i (beside x y) ≡ meet_two (node_kind node) nexts x y (own_of head node x) (own_of head node y)
  unfolding node_step own_of meet_item
  item-met x y = walk-node meeting (g.node-good i below) (beside x y)

  pub item-full : (room : ℕ) (x y : Spot) (m n c : ℕ) (st : List ℕ) → (m < room → n < room → ⊥) → lay room (node_step meeting s l i (beside x y)) m n c st ≡ stopped
  item-full room x y m n c st h = rw (item-met x y) (lay-full room m n c st (two-counts (node_kind node) nexts x y (own_of head node x) (own_of head node y)) h)

  -- what follows an item that was taken at a spot
  module _ (x : Spot) {a : Own} (taken : own_of head node x ≡ Took a) where
    own-head : head (node_kind node) (node_count node) x.place x.bytes ≡ Took a
    unfolding own_of
    own-head = taken

    knows : is_known (following (node_kind node) a.first) (node_count node) ≡ true
    knows = head-known (node_kind node) (node_count node) x.place x.bytes own-head

    own-inside : a.used ≤ length x.bytes
    own-inside = head-used (node_kind node) (node_count node) x own-head

    own-falls : Falls s (after_of l i node a.first).from (after_of l i node a.first).width i
    unfolding after_of
    own-falls = falls-followed (node-falls g below) (following (node_kind node) a.first) knows

    own-next : (z : Sides Spot) → nexts a.first z ≡ rounds_step meeting s l (after_of l i node a.first).rounds false (after_of l i node a.first).from (after_of l i node a.first).width z
    unfolding after_of
    own-next z = along-followed meeting s l ends-bare (following (node_kind node) a.first) _ (node_count node) knows z

  -- ---- one with children

  module _ (x y : Spot) where
    pub entered-unread : (room m n c : ℕ) (st : List ℕ) {e : Entered} → e ≡ entered_both l i node (own_of head node x) (own_of head node y) → e ≡ Unentered
        → lay room (node_step meeting s l i (beside x y)) m n c st ≡ stopped
    entered-unread room m n c st e q = rw (item-met x y) (go (own_of head node x) (own_of head node y) (sym e ∙ q))
      where
        go : (i' j : Item) → entered_both l i node i' j ≡ Unentered → lay room (meet_two (node_kind node) nexts x y i' j) m n c st ≡ stopped
        go (Took a) (Took b) h = unfold entered_both in (let z : ◌≡◌ {A = ℕ} 0 1 = cc in absurd (omega arith))
        go (Took a) (Refused why) h = unfold meet_two lay in refl
        go (Refused why) j h = unfold meet_two lay in refl

    pub entered_on : {e : Entered} {same : Bool} {used other : ℕ} {to toward : Stretch} → e ≡ entered_both l i node (own_of head node x) (own_of head node y) → e ≡ On same used to other toward
        → Enters s l i x y same used to other toward
    entered_on {same} {used} {other} {to} {toward} e q = go (own_of head node x) (own_of head node y) refl refl (sym e ∙ q)
      where
        go : (i' j : Item) → own_of head node x ≡ i' → own_of head node y ≡ j → entered_both l i node i' j ≡ On same used to other toward → Enters s l i x y same used to other toward
        go (Took a) (Took b) p p' h =
            unfold entered_both in
            let (same-so, used-so, to-so, other-so, toward-so) = same-entered h in
            record { a = a; b = b; mine = p; its = p'; same-so = same-so; used-so = used-so; to-so = to-so; other-so = other-so; toward-so = toward-so }
        go (Took a) (Refused why) p p' h = unfold entered_both in (let z : ◌≡◌ {A = ℕ} 0 1 = cc in absurd (omega arith))
        go (Refused why) j p p' h = unfold entered_both in (let z : ◌≡◌ {A = ℕ} 0 1 = cc in absurd (omega arith))

    module _ {same : Bool} {used other : ℕ} {to toward : Stretch} (e : Enters s l i x y same used to other toward) where
      pub one_inside : used ≤ length x.bytes
      one_inside = rw (← e.used-so) (own-inside x e.mine)

      pub other-inside : other ≤ length y.bytes
      other-inside = rw (← e.other-so) (own-inside y e.its)

      pub one-falls : Falls s to.from to.width i
      one-falls = rw (← e.to-so) (own-falls x e.mine)

      pub other-falls : Falls s toward.from toward.width i
      other-falls = rw (← e.toward-so) (own-falls y e.its)

      -- the own bytes of an item that has children are the same if its first words are
      met-inner : {k : ℕ} → k ≡ node.number → IsInner k → node_step meeting s l i (beside x y)
          ≡ given same (λ _. met_after 1 1 [] (rounds_step meeting s l to.rounds false to.from to.width (beside (past used x) (past other y))))
          (met_apart (record { one = x.place; other = y.place }) (rounds_step meeting s l to.rounds false to.from to.width (alone (past used x))) (rounds_step meeting s l toward.rounds false toward.from toward.width (alone (past other y))))
      unfolding meet_two same_own pick
      met-inner {k} q inner =
          let number : is_pooled (node_kind node) ≡ false = sym (rw q at (pooled-not k (λ r. omega (arith, inner.0, r.1)))) in
          item-met x y
          ∙ rw (e.mine, e.its, number, own-next x e.mine (beside (past e.a.used x) (past e.b.used y)), own-next x e.mine (alone (past e.a.used x)), own-next y e.its (alone (past e.b.used y)), e.same-so, e.used-so, e.to-so, e.other-so, e.toward-so)

      module _ (room m n c : ℕ) (st : List ℕ) (some : m < room) (more : n < room) {k : ℕ} (q : k ≡ node.number) (inner : IsInner k) where
        -- the same: both sides go on, by the fields of the one struct that follows
        pub goes_on : same ≡ true → {way : Way} → Flat s l i to.from to.width way → {w : Walked} {last : List ℕ}
            → Gives (lay room (rounds_step meeting s l to.rounds way.headed way.from way.width (beside (behind used x) (behind other y))) (m + 1) (n + 1) c st) w last
            → Gives (lay room (node_step meeting s l i (beside x y)) m n c st) w last
        unfolding given pairs_from
        goes_on t flat h =
            let few : i ≤ l.nodes = omega arith in
            rw (met-inner q inner, t, lay-after room m n c st 1 1 [] (rounds_step meeting s l to.rounds false to.from to.width (beside (past used x) (past other y))) (omega arith) (omega arith), add-zero c, flat-rounds g few meeting ends-bare flat to.rounds) (rw (behind-past used x, behind-past other y) at h)

        -- a pair: each side goes alone
        pub goes-apart : same ≡ false → {w : Walked} {last : List ℕ} → last ≡ with_pair x.place y.place c st
            → w ≡ passed (m + 1) (n + 1) (c + 1) (fit (room - (m + 1)) (rounds_step (reading head) s l to.rounds false to.from to.width (behind used x))) (fit (room - (n + 1)) (rounds_step (reading head) s l toward.rounds false toward.from toward.width (behind other y)))
            → Gives (lay room (node_step meeting s l i (beside x y)) m n c st) w last
        unfolding given
        goes-apart t put h =
            rw (put, met-inner q inner, t)
            (passed-gives room m n c st (record { one = x.place; other = y.place }) _ _
            (rounds-pass s l to.rounds to.from to.width (past used x)) (rounds-pass s l toward.rounds toward.from toward.width (past other y)) some more (rw (behind-past used x, behind-past other y) at h))

  -- ---- a leaf

  module _ (bs : List ℕ) (p : ℕ) (bs' : List ℕ) (p' : ℕ) {k : ℕ} (q : k ≡ node.number) (outer : IsInner k → ⊥) where
    abbrev took : Taken
    took = taken_both (kind_of k) bs bs' (head (kind_of k) 0 p bs) (head (kind_of k) 0 p' bs')

    leaf-own : (s : List ℕ) (at : ℕ) → own_of head node (spot s at) ≡ head (kind_of k) 0 at s
    unfolding own_of
    leaf-own s at = ap (λ j. head (kind_of j) (node_count node) at s) (sym q) ∙ sym (childless (node_count node))
      where
        childless : (m : ℕ) → head (kind_of k) 0 at s ≡ head (kind_of k) m at s
        childless m = unfold head in outer-kinds (λ kind. head kind 0 at s ≡ head kind m at s) (λ x. refl) (λ c. refl) k outer

    -- nothing follows
    leaf-next : (a : ℕ) (z : Sides Spot) → nexts a z ≡ meet_nothing z
    unfolding along times following
    leaf-next a z = rw (← q) (rw (outer-kinds (λ kind. following kind a ≡ each 0) (λ x. refl) (λ c. refl) k outer))

    leaf-met : node_step meeting s l i (beside (spot bs p) (spot bs' p')) ≡ meet_two (kind_of k) nexts (spot bs p) (spot bs' p') (head (kind_of k) 0 p bs) (head (kind_of k) 0 p' bs')
    leaf-met = item-met (spot bs p) (spot bs' p') ∙ rw (leaf-own bs p, leaf-own bs' p', q)

    pub leaf-inside : {t : Taken} {same : Bool} {used other : ℕ} → t ≡ took → t ≡ Both same used other → (used ≤ length bs) × (other ≤ length bs')
    leaf-inside {same} {used} {other} e h = go (head (kind_of k) 0 p bs) (head (kind_of k) 0 p' bs') refl refl (sym e ∙ h)
      where
        go : (i' j : Item) → head (kind_of k) 0 p bs ≡ i' → head (kind_of k) 0 p' bs' ≡ j → taken_both (kind_of k) bs bs' i' j ≡ Both same used other → (used ≤ length bs) × (other ≤ length bs')
        go (Took a) (Took b) f f' h =
            unfold taken_both in
            let (_, u, v) = same-taken h in
            (rw (← u) (head-used (kind_of k) 0 (spot bs p) f), rw (← v) (head-used (kind_of k) 0 (spot bs' p') f'))
        go (Took a) (Refused why) f f' h = unfold taken_both in (let z : ◌≡◌ {A = ℕ} 0 1 = cc in absurd (omega arith))
        go (Refused why) j f f' h = unfold taken_both in (let z : ◌≡◌ {A = ℕ} 0 1 = cc in absurd (omega arith))

    module _ (room m n c : ℕ) (st : List ℕ) {t : Taken} (e : t ≡ took) where
      abbrev laid : Item → Item → Left
      laid i' j = lay room (meet_two (kind_of k) nexts (spot bs p) (spot bs' p') i' j) m n c st

      pub leaf-unread : t ≡ Unread → lay room (node_step meeting s l i (beside (spot bs p) (spot bs' p'))) m n c st ≡ stopped
      leaf-unread h = rw leaf-met (go (head (kind_of k) 0 p bs) (head (kind_of k) 0 p' bs') (sym e ∙ h))
        where
          go : (i' j : Item) → taken_both (kind_of k) bs bs' i' j ≡ Unread → laid i' j ≡ stopped
          go (Took a) (Took b) h = unfold taken_both in (let z : ◌≡◌ {A = ℕ} 0 1 = cc in absurd (omega arith))
          go (Took a) (Refused why) h = unfold meet_two lay in refl
          go (Refused why) j h = unfold meet_two lay in refl

      module _ (some : m < room) (more : n < room) {same : Bool} {used other : ℕ} (h : t ≡ Both same used other) where
        leaf-taken : lay room (node_step meeting s l i (beside (spot bs p) (spot bs' p'))) m n c st
            ≡ given same (λ _. went (beside (past used (spot bs p)) (past other (spot bs' p'))) (m + 1) (n + 1) c st)
            (went (beside (past used (spot bs p)) (past other (spot bs' p'))) (m + 1) (n + 1) (c + 1) (with_pair p p' c st))
        leaf-taken = rw leaf-met (go (head (kind_of k) 0 p bs) (head (kind_of k) 0 p' bs') (sym e ∙ h))
          where
            by : (a b : Own) (u : Bool)
                → lay room (given u (λ _. met_after 1 1 [] (nexts a.first (beside (past a.used (spot bs p)) (past b.used (spot bs' p')))))
                (met_apart (record { one = p; other = p' }) (nexts a.first (alone (past a.used (spot bs p)))) (nexts b.first (alone (past b.used (spot bs' p')))))) m n c st
                ≡ given u (λ _. went (beside (past a.used (spot bs p)) (past b.used (spot bs' p'))) (m + 1) (n + 1) c st)
                (went (beside (past a.used (spot bs p)) (past b.used (spot bs' p'))) (m + 1) (n + 1) (c + 1) (with_pair p p' c st))
            by a b true =
                unfold given in
                rw (leaf-next a.first (beside (past a.used (spot bs p)) (past b.used (spot bs' p'))))
                (lay-after room m n c st 1 1 [] _ (omega arith) (omega arith) ∙ lay-nothing room _ (m + 1) (n + 1) (c + 0) (pairs_from [] c st) ∙ (unfold pairs_from in rw (add-zero c)))
            by a b false =
                unfold given in
                rw (leaf-next a.first (alone (past a.used (spot bs p))), leaf-next b.first (alone (past b.used (spot bs' p'))))
                (unfold meet_nothing met_apart sole in
                (let one : 1 + 0 ≤ room - m = omega arith in
                let two : 1 + 0 ≤ room - n = omega arith in
                lay-fits room m n c st (1 + 0) (1 + 0) (record { one = p; other = p' } ∷ []) _ one two ∙ (unfold pairs_from in refl)))

            go : (i' j : Item) → taken_both (kind_of k) bs bs' i' j ≡ Both same used other → laid i' j
                ≡ given same (λ _. went (beside (past used (spot bs p)) (past other (spot bs' p'))) (m + 1) (n + 1) c st)
                (went (beside (past used (spot bs p)) (past other (spot bs' p'))) (m + 1) (n + 1) (c + 1) (with_pair p p' c st))
            go (Took a) (Took b) h =
                unfold taken_both meet_two in
                let (t, u, v) = same-taken h in
                rw (t, ← u, ← v) (by a b same)
            go (Took a) (Refused why) h = unfold taken_both in (let z : ◌≡◌ {A = ℕ} 0 1 = cc in absurd (omega arith))
            go (Refused why) j h = unfold taken_both in (let z : ◌≡◌ {A = ℕ} 0 1 = cc in absurd (omega arith))

        pub leaf-same : same ≡ true → Gives (lay room (node_step meeting s l i (beside (spot bs p) (spot bs' p'))) m n c st) (walked.Both (p + used) (p' + other) (m + 1) (n + 1) c) st
        unfolding given past
        leaf-same t = gives-went (past used (spot bs p)) (past other (spot bs' p')) (leaf-taken ∙ rw t)

        pub leaf-differs : same ≡ false → {last : List ℕ} → last ≡ with_pair p p' c st
            → Gives (lay room (node_step meeting s l i (beside (spot bs p) (spot bs' p'))) m n c st) (walked.Both (p + used) (p' + other) (m + 1) (n + 1) (c + 1)) last
        unfolding given past
        leaf-differs t put = rw put (gives-went (past used (spot bs p)) (past other (spot bs' p')) (leaf-taken ∙ rw t))

-- ---- both skimmed

module _ (m n c : ℕ) (r q : Run) {a b : ReadAnswer} (one : a ≡ answer_behind m r) (other : b ≡ answer_behind n q) where
  pub both-passed : {at by k j : ℕ} → a ≡ Done at k → b ≡ Done by j → walked.Both at by k j c ≡ passed m n c r q
  unfolding answer_behind passed
  both-passed {at} {by} {k} {j} e f = go r.ends q.ends (sym one ∙ e) (sym other ∙ f)
    where
      go : (o o' : Outcome) → read_answer o (m + length r.made) ≡ Done at k → read_answer o' (n + length q.made) ≡ Done by j → walked.Both at by k j c ≡ passed_by m n c r.made o q.made o'
      go (reached x) (reached y) h i =
          unfold read_answer passed_by in
          let (here, made) = same-done h in
          let (there, more) = same-done i in
          rw (here, there, made, more)
      go (reached x) (refused why i) h k = unfold read_answer in (let z : ◌≡◌ {A = ℕ} 0 1 = cc in absurd (omega arith))
      go (refused why i) o' h k = unfold read_answer in (let z : ◌≡◌ {A = ℕ} 0 1 = cc in absurd (omega arith))

  pub first-stopped : {why : Refusal} {i k : ℕ} → a ≡ NotRead why i k → Apart ≡ passed m n c r q
  unfolding answer_behind passed
  first-stopped {why} {i} {k} e = go r.ends q.ends (sym one ∙ e)
    where
      go : (o o' : Outcome) → read_answer o (m + length r.made) ≡ NotRead why i k → Apart ≡ passed_by m n c r.made o q.made o'
      go (reached x) o' h = unfold read_answer in (let z : ◌≡◌ {A = ℕ} 0 1 = cc in absurd (omega arith))
      go (refused why i) o' h = unfold passed_by in refl

  pub second-stopped : {why : Refusal} {i k : ℕ} → b ≡ NotRead why i k → Apart ≡ passed m n c r q
  unfolding answer_behind passed
  second-stopped {why} {i} {k} e = go r.ends q.ends (sym other ∙ e)
    where
      go : (o o' : Outcome) → read_answer o' (n + length q.made) ≡ NotRead why i k → Apart ≡ passed_by m n c r.made o q.made o'
      go (reached x) (reached y) h = unfold read_answer in (let z : ◌≡◌ {A = ℕ} 0 1 = cc in absurd (omega arith))
      go (reached x) (refused why i) h = unfold passed_by in refl
      go (refused why i) o' h = unfold passed_by in refl
