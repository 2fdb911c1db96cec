-- The leaves in front of a row: each is read where the one before it ended, whatever is read after the row.
-- Assumes nothing.
use mathlib.Core.Path.{◌≡◌, refl, sym, ap, ◌∙◌}
use mathlib.Core.Bool.{Bool, false}
use mathlib.Core.List.{List}
use Prim.Native.Nat.{ℕ, ◌+◌, ◌-◌, ◌*◌, ◌^◌, ◌<◌, ◌≤◌}
use native.Mathlib.Nat.{le_refl}
use native.Mathlib.Omega.{arith}
use lib.ListN.{length, drop, length-drop}
use lib.Seq.{drop-drop}
use Rattle.laws.proofs.Answers.{same-done}
use Rattle.wire.specs.declared.Refusal.{Refusal}
use Rattle.wire.specs.declared.Refusal.TheVariants.{Room}
use Rattle.wire.specs.Item.{Item}
use Rattle.wire.specs.declared.Layout.{Layout}
use Rattle.wire.specs.ReadAnswer.{ReadAnswer}
use Rattle.wire.specs.ReadAnswer.{Done, Refused as NotRead}
use Rattle.wire.specs.Table.{u16_at, node_at, record_of}
use Rattle.wire.specs.Reading.{Head, Spot, Outcome, reached, refused, Run, judged, head_by, read_then, reading}
use Rattle.wire.specs.Answers.{read_answer}
use Rattle.laws.specs.Heads.{Sound}
use Rattle.laws.specs.KindRanges.{IsInner, is_inner}
use Rattle.laws.specs.Tables.{GoodTable}
use Rattle.laws.proofs.KindRanges.{not-inner}
use Rattle.laws.proofs.Parts.{tail}
use Rattle.leaf.specs.Leaves.{leaf_take_at}
use Rattle.table.specs.Parts.{Falls, node_step, row_step}
use Rattle.read_item.specs.Lay.{Left, laid, lay}
use Rattle.read_item.specs.Steps.{spot, Puts}
use Rattle.read_item.proofs.Entering.{item-full}
use Rattle.reader.specs.Steps.{Gives}
use Rattle.reader.proofs.Laying.{gives-refused, gives_as}
use Rattle.reader.proofs.Turns.{from as part_from, Went, turn-refused, turned, node-steady, leaf-gives, leaf-own}
use Rattle.open.specs.Step.{On, Refused}
use Rattle.open.specs.Steps.{last_from, Passes, Leads, passes, stops}
use Rattle.open.proofs.Pending.{row-then}

-- the last numbers of a row that falls
pub falls-last : {s : List ℕ} {from n i : ℕ} → Falls s from n i → (left : ℕ) → left ≤ n → Falls s (last_from from n left) left i
falls-last {from = from} {n = n} f left h = record {
  inside = omega (arith, f.inside);
  below = λ c b. let e : from + 2 * (n - left) + 2 * c ≡ from + 2 * (n - left + c) = omega arith in rw e (f.below (n - left + c) (omega arith));
}

-- entries are only added
gives_more : (room : ℕ) (r : Run) (m : ℕ) (st : List ℕ) {a : ReadAnswer} {st' : List ℕ} → Gives (lay room r m st) a st' → {q k : ℕ} → a ≡ Done q k → m ≤ k
gives_more room r m st {a} g {q} {k} e = go (lay room r m st) (unfold lay laid in omega arith) (sym g.answered ∙ e)
  where
    go : (w : Left) → m ≤ w.count → read_answer w.ends w.count ≡ Done q k → m ≤ k
    go w more e = ends w.ends e
      where
        ends : (o : Outcome) → read_answer o w.count ≡ Done q k → m ≤ k
        ends (reached y) e = unfold read_answer in omega (arith, (same-done e).1)
        ends (refused r i) e = unfold read_answer in (let z : ◌≡◌ {A = ℕ} 0 1 = cc in absurd (omega arith))

module _ {h : Head} {room : ℕ} {s : List ℕ} {l : Layout} {from n : ℕ} {bs : List ℕ} {p m : ℕ} {st : List ℕ} where
  pub passes_none : Passes h room s l from n bs p m st n p m st
  passes_none = record {
    fewer = le_refl n;
    up = le_refl p;
    inside = omega arith;
    more = le_refl m;
    whole = λ g. let e : from + 2 * (n - n) ≡ from = omega arith in let z : p - p ≡ 0 = omega arith in rw (e, z);
  }

  module _ {left q k : ℕ} {st' : List ℕ} (along : Passes h room s l from n bs p m st left q k st') where
    -- no number is left
    pub passes-all : left ≤ 0 → Leads h room s l from n bs p m st (On 0 q k) st'
    passes-all e = let z : left ≡ 0 = omega arith in passes (rw z at along) (record { next = λ b. absurd (omega arith) })

    -- the next one's item has children
    pub passes-inner : (i : ℕ) → i ≡ u16_at s (last_from from n left) → k < room → (number : ℕ) → number ≡ (node_at s (record_of l i)).number → IsInner number
        → Leads h room s l from n bs p m st (On left q k) st'
    passes-inner i is some number e inner = passes along (record { next = λ _. (some, rw (e, is) at inner) })

    module _ (some : 0 < left) {i : ℕ} (is : i ≡ u16_at s (last_from from n left)) {rest : List ℕ} (same : rest ≡ drop (q - p) bs) where
      abbrev after : (Spot → Run) → Spot → Run
      after g = read_then (row_step (reading h) s l (last_from from n left + 2) (left - 1)) g

      next-first : (g : Spot → Run) → lay room (read_then (row_step (reading h) s l from n) g (spot bs p)) m st ≡ lay room (read_then (node_step (reading h) s l i) (after g) (spot rest q)) k st'
      next-first g = along.whole g ∙ rw same (ap (λ r. lay room r k st') (row-then h s l (last_from from n left) left g (spot (drop (q - p) bs) q) some i is))

      -- it is read
      module _ (sound : Sound h) {a : ReadAnswer} {st'' : List ℕ} (called : Gives (lay room (node_step (reading h) s l i (spot rest q)) k st') a st'') where
        pub passes-stops : {why : Refusal} {q' k' : ℕ} → a ≡ NotRead why q' k' → Leads h room s l from n bs p m st (Refused why q' k') st''
        passes-stops e = stops (λ g. gives_as e (turn-refused room (node_step (reading h) s l i) (after g) (node-steady sound s l i) _ rest q k st' (next-first g) a st'' called e))

        module _ {q' k' : ℕ} (e : a ≡ Done q' k') where
          pub passes-went : Went rest q q'
          passes-went = (turned room (node_step (reading h) s l i) (after (node_step (reading h) s l i)) (node-steady sound s l i) _ rest q k st' (next-first (node_step (reading h) s l i)) a st'' called e).0

          pub passes-rest : part_from rest q q' ≡ drop (q' - p) bs
          passes-rest =
              let far : q - p + (q' - q) ≡ q' - p = omega (arith, along.up, passes-went.up) in
              tail rest (q' - q) ∙ rw (same, drop-drop (q' - q) (q - p) bs, far)

          pub passes-next : Passes h room s l from n bs p m st (left - 1) q' k' st''
          passes-next = record {
            fewer = omega (arith, along.fewer);
            up = omega (arith, along.up, passes-went.up);
            inside = omega (arith, along.up, along.inside, passes-went.up, passes-went.inside, ap length same, length-drop (q - p) bs);
            more = omega (arith, along.more, gives_more room _ k st' called e);
            whole = λ g.
                let there : last_from from n left + 2 ≡ last_from from n (left - 1) = omega (arith, along.fewer) in
                (turned room (node_step (reading h) s l i) (after g) (node-steady sound s l i) _ rest q k st' (next-first g) a st'' called e).1 ∙ rw (there, passes-rest);
          }

      -- or has no room
      pub passes-full : Sound h → GoodTable s l → i < l.nodes → room ≤ k → Leads h room s l from n bs p m st (Refused Room q k) st'
      passes-full sound good below full = passes-stops sound (gives-refused (item-full h room good below (spot rest q) k st' full)) refl

-- ---- a leaf, as the code reads it

module _ {p m : ℕ} {st : List ℕ} {a : ReadAnswer} {st' : List ℕ} where
  pub puts_plain : (strict : Bool) {got item : Item} → strict ≡ false → got ≡ item → Puts p m st got a st' → Puts p m st (judged strict item) a st'
  unfolding judged
  puts_plain strict e q put = rw (e, ← q) put

  pub puts-as : {item : Item} {b : ReadAnswer} → a ≡ b → Puts p m st item a st' → Puts p m st item b st'
  puts-as e put = rw e at put

pub leaf-called : (strict : Bool) (room : ℕ) {s : List ℕ} {l : Layout} {i : ℕ} → GoodTable s l → i < l.nodes → (bs : List ℕ) (p m : ℕ) (st : List ℕ) → m < room
    → (k : ℕ) → k ≡ (node_at s (record_of l i)).number → is_inner k ≡ false → p + length bs < 2 ^ 64 → {a : ReadAnswer} {st' : List ℕ}
    → Puts p m st (judged strict (leaf_take_at k p bs)) a st' → Gives (lay room (node_step (reading (head_by strict)) s l i (spot bs p)) m st) a st'
leaf-called strict room g below bs p m st some k e test fits =
    let outer = not-inner k test in leaf-gives (head_by strict) room g below bs p m st some k e outer (leaf-own strict g below bs p k e outer fits)
