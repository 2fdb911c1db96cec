-- A key field is taken behind the fields in front of it, and its word is the key's.
-- Assumes nothing.
use mathlib.Core.Path.{◌≡◌, refl, sym, ap, ◌∙◌}
use mathlib.Core.Bool.{Bool}
use mathlib.Core.List.{List, [], ◌∷◌}
use Prim.Native.Nat.{ℕ, zero, suc, ◌+◌, ◌-◌, ◌*◌, ◌≤◌, ◌<◌}
use native.Mathlib.Nat.{add-zero, zero-add}
use native.Mathlib.Omega.{arith}
use lib.ListN.{length, take, drop}
use Rattle.wire.specs.declared.Layout.{Layout}
use Rattle.wire.specs.declared.Own.{Own}
use Rattle.wire.specs.declared.Refusal.{Refusal}
use Rattle.wire.specs.declared.Refusal.TheVariants.{Room}
use Rattle.wire.specs.Item.{Item}
use Rattle.wire.specs.Item.{Took as Taken, Refused as NotTaken}
use Rattle.std.specs.Prelude.{Ok}
use Rattle.wire.specs.declared.Reached.{Reached}
use Rattle.wire.specs.Shape.{unsigned, Plain, int, Kind, plain}
use Rattle.wire.specs.Walk.{Step, following, all, times, along, walk, walks}
use Rattle.wire.specs.Table.{u16_at, node_at, record_of, shapes_at}
use Rattle.wire.specs.Numbers.{varint}
use Rattle.wire.specs.Values.{Entry}
use Rattle.wire.specs.Reading.{Spot, reached, refused, Run, head, read_plain, run_after, read_nothing, read_then, past, entry_of, enter, read_item, reading, read, within, fit}
use Rattle.laws.specs.Tables.{node_kind, node_shape, GoodTable}
use Rattle.laws.proofs.Items.{on-unsigned}
use Rattle.laws.proofs.Varints.{took_in}
use Rattle.laws.proofs.Children.{walk-node, read_none}
use Rattle.laws.proofs.Runs.{then-nothing, then-read}
use Rattle.laws.proofs.Tables.{next_place}
use Rattle.laws.proofs.Parts.{tail, length-tail}
use Rattle.table.specs.Parts.{Falls, row_step}
use Rattle.read_item.specs.Steps.{spot}
use Rattle.reader.specs.Steps.{answer_behind}
use Rattle.desk.specs.Path.{most_entries}
use Rattle.desk.specs.Messages.{first_word, onward, word_at}
use Rattle.messages.specs.Word.{Took, Refused}
use Rattle.messages.specs.Fields.{key_width, IsKey}
use Rattle.messages.specs.Steps.{skimmed, Goes, Words, took, not_taken}
use Rattle.messages.specs.Past.{Uses}
use Rattle.messages.proofs.Steps.{goes_then, first-refused, then-refused, goes-read, row-split, skim-goes}

-- ---- an integer's own item

unfoldable leaf_run : Item → Spot → Run
leaf_run (Taken own) y = record { made = entry_of own y ∷ []; ends = reached (past own.used y) }
leaf_run (NotTaken e) y = record { made = []; ends = refused e y.place }

leaf-item : (leaf : Plain) (k : Kind) (n : ℕ) (fs : List (Step (reading head))) (y : Spot) → k ≡ plain leaf
    → read_item head k n (λ a. along (reading head) (following k a) fs) y ≡ leaf_run (read_plain leaf y.bytes) y
leaf-item leaf k n fs y e = rw e (unfold read_item head in go (read_plain leaf y.bytes))
  where
    go : (i : Item) → enter i (λ a. along (reading head) (following (plain leaf) a) fs) y ≡ leaf_run i y
    go (Taken own) = unfold enter following along times read_nothing run_after leaf_run in refl
    go (NotTaken e) = unfold enter leaf_run in refl

leaf-fit : (r : ℕ) (i : Item) (y : Spot) → fit (suc r) (leaf_run i y) ≡ leaf_run i y
unfolding leaf_run fit within run_after
leaf-fit r (Taken own) y = refl
leaf-fit r (NotTaken e) y = refl

module _ {s : List ℕ} {l : Layout} (g : GoodTable s l) where
  abbrev row_of : ℕ → ℕ → Spot → Run
  row_of from n = row_step (reading head) s l from n

  one-node : (at : ℕ) (y : Spot) → row_of at 1 y ≡ walk (reading head) (node_shape s l (u16_at s at)) y
  unfolding row_step shapes_at all walks
  one-node at y = then-nothing (walk (reading head) (node_shape s l (u16_at s at))) y

  module _ (at : ℕ) (f : Falls s at 1 l.nodes) {leaf : Plain} (kind : node_kind (node_at s (record_of l (u16_at s at))) ≡ plain leaf) where
    below : u16_at s at < l.nodes
    below = rw (add-zero at) at (f.below 0 (omega arith))

    leaf-run : (y : Spot) → walk (reading head) (node_shape s l (u16_at s at)) y ≡ leaf_run (read_plain leaf y.bytes) y
    leaf-run y = walk-node (reading head) (g.node-good (u16_at s at) below) y ∙ leaf-item leaf _ _ _ y kind

    leaf-fits : (m : ℕ) (y : Spot) → m < most_entries → fit (most_entries - m) (row_of at 1 y) ≡ leaf_run (read_plain leaf y.bytes) y
    leaf-fits m y h =
        let e : most_entries - m ≡ suc (most_entries - m - 1) = omega arith in
        ap (fit (most_entries - m)) (one-node at y ∙ leaf-run y) ∙ ap (λ r. fit r (leaf_run (read_plain leaf y.bytes) y)) e ∙ leaf-fit (most_entries - m - 1) (read_plain leaf y.bytes) y

    -- a leaf that takes n bytes, which are there
    pub leaf-goes : {m n : ℕ} (y : Spot) → m < most_entries → n ≤ length y.bytes → Uses (read_plain leaf y.bytes) n → Goes (row_of at 1) m y n (m + 1)
    leaf-goes {m} {n} y h k u =
        record {
          made = entry_of u.own y ∷ [];
          ran = leaf-fits m y h ∙ (unfold leaf_run in rw (u.is, u.used));
          many = refl;
          inside = k;
        }

  module _ (at : ℕ) (narrow : Bool) (f : Falls s at 1 l.nodes) (is : IsKey s l at narrow) where
    as-varint : (y : Spot) → leaf_run (read_plain (int unsigned (key_width narrow)) y.bytes) y ≡ leaf_run (varint (key_width narrow) y.bytes) y
    as-varint y = ap (λ i. leaf_run i y) (unfold read_plain in on-unsigned (varint (key_width narrow) y.bytes))

    key-run : (y : Spot) → walk (reading head) (node_shape s l (u16_at s at)) y ≡ leaf_run (varint (key_width narrow) y.bytes) y
    key-run y = leaf-run at f is.kind y ∙ as-varint y

    key-fit : (m : ℕ) (y : Spot) → m < most_entries → fit (most_entries - m) (row_of at 1 y) ≡ leaf_run (varint (key_width narrow) y.bytes) y
    key-fit m y h = leaf-fits at f is.kind m y h ∙ as-varint y

    key-goes : {m : ℕ} (y : Spot) {own : Own} → m < most_entries → varint (key_width narrow) y.bytes ≡ Taken own → Goes (row_of at 1) m y own.used (m + 1)
    key-goes {m} y {own} h q =
        record {
          made = entry_of own y ∷ [];
          ran = key-fit m y h ∙ (unfold leaf_run in rw q);
          many = refl;
          inside = (took_in (key_width narrow) y.bytes q).within;
        }

    key-refused : {m : ℕ} (y : Spot) {e : Refusal} → m < most_entries → varint (key_width narrow) y.bytes ≡ NotTaken e → (fit (most_entries - m) (row_of at 1 y)).ends ≡ refused e y.place
    key-refused {m} y h q = ap (λ r. r.ends) (key-fit m y h) ∙ (unfold leaf_run in rw q)

    key-full : {m : ℕ} (y : Spot) → most_entries ≤ m → (fit (most_entries - m) (row_of at 1 y)).ends ≡ refused Room y.place
    key-full {m} y h =
        let e : most_entries - m ≡ 0 = omega arith in
        rw (e, one-node at y) (ap (λ r. r.ends) (read_none head (node_shape s l (u16_at s at)) y))

    key-first : (y : Spot) {own : Own} → varint (key_width narrow) y.bytes ≡ Taken own → first_word (read (node_shape s l (u16_at s at)) y).made ≡ own.first
    unfolding read
    key-first y q = ap (λ r. first_word r.made) (key-run y) ∙ (unfold leaf_run first_word in rw q)

  -- ---- words

  -- the word of a field behind some others is found behind them
  pub words-behind : (a b d from : ℕ) (x y : Spot) (es : List Entry) → row_of from a x ≡ record { made = es; ends = reached y }
      → word_at (shapes_at (node_shape s l) s from (a + b)) (a + d) x ≡ word_at (shapes_at (node_shape s l) s (from + 2 * a) b) d y
  words-behind zero b d from x y es e = rw (zero-add b, zero-add d, add-zero from) (ap (word_at (shapes_at (node_shape s l) s from b) d) (same e))
    where
      same : row_of from 0 x ≡ record { made = es; ends = reached y } → x ≡ y
      same e = unfold row_step shapes_at all walks read_nothing in (let q : reached x ≡ reached y = ap (λ (r : Run). r.ends) e in cc)
  words-behind (suc a) b d from x y es e = go (λ z fs q. words-behind a b d (from + 2) z y fs q)
    where
      go : ((z : Spot) (fs : List Entry) → row_of (from + 2) a z ≡ record { made = fs; ends = reached y }
          → word_at (shapes_at (node_shape s l) s (from + 2) (a + b)) (a + d) z ≡ word_at (shapes_at (node_shape s l) s (from + 2 + 2 * a) b) d y)
          → word_at (shapes_at (node_shape s l) s from (suc a + b)) (suc a + d) x ≡ word_at (shapes_at (node_shape s l) s (from + 2 * suc a) b) d y
      go ih =
          let r = then-read (read (node_shape s l (u16_at s from))) (row_of (from + 2) a) x es y (first e) in
          let n : suc a + b ≡ suc (a + b) = omega arith in
          let k : suc a + d ≡ suc (a + d) = omega arith in
          rw (n, k, next_place from a) (more r.between (ap (λ r. r.ends) r.first) ∙ ih r.between r.those r.second)
        where
          first : row_of from (suc a) x ≡ record { made = es; ends = reached y } → read_then (read (node_shape s l (u16_at s from))) (row_of (from + 2) a) x ≡ record { made = es; ends = reached y }
          first e = unfold row_step shapes_at all walks read in e

          more : (z : Spot) → (read (node_shape s l (u16_at s from)) x).ends ≡ reached z
              → word_at (shapes_at (node_shape s l) s from (suc (a + b))) (suc (a + d)) x ≡ word_at (shapes_at (node_shape s l) s (from + 2) (a + b)) (a + d) z
          more z q = unfold shapes_at word_at onward in rw q

  module _ (from before m : ℕ) (x : Spot) (narrow : Bool) (f : Falls s from (before + 1) l.nodes) (is : IsKey s l (from + 2 * before) narrow) where
    its-fall : Falls s (from + 2 * before) 1 l.nodes
    its-fall = record { inside = omega (arith, f.inside); below = λ c h. let e : from + 2 * before + 2 * c ≡ from + 2 * before = omega arith in rw e (f.below before (omega arith)) }

    pub word-took : {n c place : ℕ} {own : Own} → Goes (row_of from before) m x n c → c < most_entries → x.place + n ≡ place → varint (key_width narrow) (drop n x.bytes) ≡ Taken own
        → Words s l from before m x (Took own.first (place + own.used) (c + 1))
    word-took {n} {c} {place} {own} a h at q =
        let there : varint (key_width narrow) (past n x).bytes ≡ Taken own = unfold past in q in
        let place-behind : x.place + (n + own.used) ≡ place + own.used = omega arith in
        let b = goes_then (row_of from before) (row_of (from + 2 * before) 1) m x a (key-goes (from + 2 * before) narrow its-fall is (past n x) h there) in
        let word : (more : ℕ) → word_at (shapes_at (node_shape s l) s from (before + suc more)) before x ≡ own.first = λ more. first-word more there in
        took (record { made = b.made; ran = ap (fit (most_entries - m)) (row-split s l before 1 from x) ∙ b.ran; many = b.many; inside = b.inside })
        place-behind
        word
      where
        first-word : (more : ℕ) → varint (key_width narrow) (past n x).bytes ≡ Taken own → word_at (shapes_at (node_shape s l) s from (before + suc more)) before x ≡ own.first
        first-word more there =
            ap (λ i. word_at (shapes_at (node_shape s l) s from (before + suc more)) i x) (sym (add-zero before)) ∙ words-behind before (suc more) 0 from x (past n x) _ (goes-read a)
            ∙ (unfold word_at shapes_at in key-first (from + 2 * before) narrow its-fall is (past n x) there)

    refused-at : {e : Refusal} {p : ℕ} → (fit (most_entries - m) (read_then (row_of from before) (row_of (from + 2 * before) 1) x)).ends ≡ refused e p → Words s l from before m x (Refused e p)
    refused-at q = not_taken (ap (λ r. (fit (most_entries - m) r).ends) (row-split s l before 1 from x) ∙ q)

    pub word-before : {e : Refusal} {p : ℕ} → (fit (most_entries - m) (row_of from before x)).ends ≡ refused e p → Words s l from before m x (Refused e p)
    word-before q = refused-at (first-refused (row_of from before) (row_of (from + 2 * before) 1) m x q)

    pub word-full : {n c place : ℕ} → Goes (row_of from before) m x n c → most_entries ≤ c → x.place + n ≡ place → Words s l from before m x (Refused Room place)
    word-full {n} a h at =
        refused-at (then-refused (row_of from before) (row_of (from + 2 * before) 1) m x a (key-full (from + 2 * before) narrow its-fall is (past n x) h ∙ ap (refused Room) (unfold past in at)))

    pub word-refused : {n c place : ℕ} {e : Refusal} → Goes (row_of from before) m x n c → c < most_entries → x.place + n ≡ place → varint (key_width narrow) (drop n x.bytes) ≡ NotTaken e
        → Words s l from before m x (Refused e place)
    word-refused {n} {e = e} a h at q =
        let there : varint (key_width narrow) (past n x).bytes ≡ NotTaken e = unfold past in q in
        refused-at (then-refused (row_of from before) (row_of (from + 2 * before) 1) m x a (key-refused (from + 2 * before) narrow its-fall is (past n x) h there ∙ ap (refused e) (unfold past in at)))

  -- ---- as the code goes

  pub falls-fewer : {from n i : ℕ} → Falls s from (n + 1) i → Falls s from n i
  falls-fewer f = record { inside = omega (arith, f.inside); below = λ c h. f.below c (omega arith) }

  module _ (from before m : ℕ) (bs : List ℕ) (place : ℕ) (narrow : Bool) (f : Falls s from (before + 1) l.nodes) (is : IsKey s l (from + 2 * before) narrow)
      {r : Reached} (done : Ok r ≡ skimmed (answer_behind m (fit (most_entries - m) (row_of from before (spot bs place))))) where
    -- the bytes behind the fields in front
    abbrev rest : List ℕ
    rest = take (length bs - (r.place - place)) (drop (r.place - place) bs)

    there : place + (r.place - place) ≡ r.place
    there = let h = (skim-goes s l from before m (spot bs place) done).0 in omega arith

    behind : {i : Item} → varint (key_width narrow) rest ≡ i → varint (key_width narrow) (drop (r.place - place) bs) ≡ i
    behind q = ap (varint (key_width narrow)) (sym (tail bs (r.place - place))) ∙ q

    pub took-there : {own : Own} → r.count < most_entries → varint (key_width narrow) rest ≡ Taken own → Words s l from before m (spot bs place) (Took own.first (r.place + own.used) (r.count + 1))
    took-there h q = word-took from before m (spot bs place) narrow f is (skim-goes s l from before m (spot bs place) done).2 h there (behind q)

    pub refused-there : {e : Refusal} → r.count < most_entries → varint (key_width narrow) rest ≡ NotTaken e → Words s l from before m (spot bs place) (Refused e r.place)
    refused-there h q = word-refused from before m (spot bs place) narrow f is (skim-goes s l from before m (spot bs place) done).2 h there (behind q)

    pub full-there : most_entries ≤ r.count → Words s l from before m (spot bs place) (Refused Room r.place)
    full-there h = word-full from before m (spot bs place) narrow f is (skim-goes s l from before m (spot bs place) done).2 h there

    pub ends_there : {own : Own} → varint (key_width narrow) rest ≡ Taken own → r.place + own.used ≤ place + length bs
    ends_there q = omega (arith, (took_in (key_width narrow) rest q).within, length-tail bs (r.place - place), (skim-goes s l from before m (spot bs place) done).0, (skim-goes s l from before m (spot bs place) done).1)
