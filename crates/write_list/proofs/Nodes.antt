-- An entry is a misfit, or its own bytes and then what follows: a leaf's, which nothing follows, and that of a good table's node, which a stretch follows.
-- Assumes nothing.
use mathlib.Core.Path.{◌≡◌, refl, sym, ap, ◌∙◌}
use mathlib.Core.Bool.{Bool, true, false}
use mathlib.Core.List.{List}
use mathlib.Core.Option.{Option, some, none}
use Prim.Native.Nat.{ℕ, ◌+◌, ◌*◌, ◌^◌, ◌<◌, ◌≤◌}
use native.Mathlib.Omega.{arith}
use lib.ListN.{length}
use borrow.Author.Tests.{ltb-true}
use Rattle.wire.specs.declared.Layout.{Layout}
use Rattle.wire.specs.Shape.{Plain, Content, Kind, plain, pooled}
use Rattle.wire.specs.Walk.{following, is_known, times, along, walks, Step}
use Rattle.wire.specs.Table.{kinds, is_kind, kind_of, node_at, record_of, child_count, shapes_at}
use Rattle.wire.specs.Writing.{Left, Wrote, misfit, wrote_after, head_bytes, write_nothing, spell, write_entry, write_item, writing, write}
use Rattle.wire.specs.Answers.{room_of}
use Rattle.laws.specs.KindRanges.{IsLeaf}
use Rattle.laws.specs.Tables.{node_first, node_count, node_shape, GoodTable}
use Rattle.laws.proofs.Splits.{by-test, not-both}
use Rattle.laws.proofs.Heads.{written_known}
use Rattle.laws.proofs.Children.{walk-node}
use Rattle.laws.proofs.EachKind.{outer-kinds}
use Rattle.table.specs.declared.Stretch.{Stretch}
use Rattle.table.specs.Parts.{followed, Falls, node_step}
use Rattle.table.proofs.Stretches.{falls-followed, node-falls, along-followed}
use Rattle.output.specs.Bytes.{Puts}
use Rattle.write_item.specs.Own.{is_some, Known, Lets, Fits, SpellsEntry}
use Rattle.write_list.specs.Entered.{Entered}
use Rattle.write_list.specs.Entered.{On, Misfit}
use Rattle.write_list.specs.Steps.{entries, write_leaf, Sure, Going, Goes, Enters}
use Rattle.entry.specs.Words.{first_at, second_at}
use Rattle.write_list.proofs.Entries.{entries_none, entries-more}
use Rattle.write_list.proofs.Going.{then-nothing}

-- ---- an entry

-- the writing w of the entries from e on: the first of them has the bytes o, and `rest` is left then
pub record Starts (w : Wrote) (o : Option (List ℕ)) (rest : Wrote) (e : ℕ) : Type 0 where
  pub lacks : o ≡ none → w ≡ misfit e
  pub has : (bs : List ℕ) → o ≡ some bs → w ≡ wrote_after bs rest

pub item-starts : (k : Kind) (n : ℕ) (pool : List ℕ) (next : ℕ → Left → Wrote) (ws : List ℕ) (e : ℕ) → e < room_of ws
    → {a b : ℕ} → a ≡ first_at ws e → b ≡ second_at ws e → Starts (write_item pool k n next (entries ws e)) (head_bytes k n pool a b) (next a (entries ws (e + 1))) e
unfolding write_item write_entry spell entries
item-starts k n pool next ws e more {a} {b} ea eb =
    let spelt : write_item pool k n next (entries ws e) ≡ spell (head_bytes k n pool a b) a next e (entries ws (e + 1)).entries =
    ap (write_item pool k n next) (entries-more ws e more) ∙ (rw (ea, eb)) in
    record { lacks = λ q. spelt ∙ (rw q); has = λ bs q. spelt ∙ (rw q) }

record Has (o : Option (List ℕ)) : Type 0 where
  bytes : List ℕ
  is : o ≡ some bytes

has : (o : Option (List ℕ)) → is_some o ≡ true → Has o
unfolding is_some
has (some s) e = record { bytes = s; is = refl }
has none e = not-both e refl

has-not : (o : Option (List ℕ)) → is_some o ≡ false → o ≡ none
unfolding is_some
has-not (some s) e = not-both refl e
has-not none e = refl

pub some_fits : (k : Kind) (n : ℕ) (pool : List ℕ) (a b : ℕ) → is_some (head_bytes k n pool a b) ≡ true → Fits k pool a b
some_fits k n pool a b is = let h = has _ is in record { children = n; bytes = h.bytes; is = h.is }

module _ {w : Wrote} {o : Option (List ℕ)} {rest : Wrote} {e : ℕ} (h : Starts w o rest e) where
  pub start-lacks : is_some o ≡ false → w ≡ misfit e
  start-lacks lacks = h.lacks (has-not o lacks)

  pub start-known : {judged : Bool} → Sure judged w → Known judged o
  start-known sure = record { is = λ j. by-test (is_some o) (λ yes. yes) (λ lacks. absurd (sure.never j e (start-lacks lacks))) }

  pub start-going : {u : ℕ} {before : List ℕ} {n : ℕ} {out : List ℕ} → is_some o ≡ true → ((s : List ℕ) → o ≡ some s → Puts s u before n out) → Going w rest u before n out
  start-going is puts = let b = has o is in record { bytes = b.bytes; is = h.has b.bytes b.is; puts = puts b.bytes b.is }

-- ---- a leaf

pub leaf-starts : (k : Kind) (pool ws : List ℕ) (e : ℕ) → e < room_of ws → {a b : ℕ} → a ≡ first_at ws e → b ≡ second_at ws e
    → Starts (write_leaf k pool (entries ws e)) (head_bytes k 0 pool a b) (write_nothing (entries ws (e + 1))) e
unfolding write_leaf
leaf-starts k pool ws e more ea eb = item-starts k 0 pool _ ws e more ea eb

-- nothing follows it
abbrev Alone : (pool : List ℕ) → Kind → Type 0
Alone pool k = (b : ℕ) (fs : List (Step (writing pool))) (x : Left) → write_item pool k (child_count k b) (λ a. along (writing pool) (following k a) fs) x ≡ write_leaf k pool x

plain-alone : (pool : List ℕ) (l : Plain) → Alone pool (plain l)
unfolding child_count following along times write_leaf
plain-alone pool l b fs x = refl

pooled-alone : (pool : List ℕ) (c : Content) → Alone pool (pooled c)
unfolding child_count following along times write_leaf
pooled-alone pool c b fs x = refl

leaf-alone : (pool : List ℕ) {k : ℕ} → IsLeaf k → Alone pool (kind_of k)
leaf-alone pool {k} f = outer-kinds (Alone pool) (plain-alone pool) (pooled-alone pool) k f.outer

-- ---- an entry of the node i

module _ {s : List ℕ} {l : Layout} {i : ℕ} (good : GoodTable s l) (below : i < l.nodes) (pool ws : List ℕ) (e : ℕ) where
  pub node_end : room_of ws ≤ e → node_step (writing pool) s l i (entries ws e) ≡ misfit e
  unfolding node_step write write_item write_entry
  node_end h = ap (write (node_shape s l i) pool) (entries_none ws e h) ∙ walk-node (writing pool) (good.node-good i below) _

  -- its record has the kind's number k
  module _ {k : ℕ} (ek : k ≡ (node_at s (record_of l i)).number) where
    pub node-number : k < 32
    unfolding is_kind kinds
    node-number = rw ek (ltb-true _ 32 (good.node-good i below).is-kind)

    pub node-leaf : IsLeaf k → node_step (writing pool) s l i (entries ws e) ≡ write_leaf (kind_of k) pool (entries ws e)
    unfolding node_step write
    node-leaf f = walk-node (writing pool) (good.node-good i below) (entries ws e) ∙ (rw (← ek) (leaf-alone pool f _ _ (entries ws e)))

    -- and n children, and the entry has the words a and b
    module _ {n : ℕ} (en : n ≡ node_count (node_at s (record_of l i))) (more : e < room_of ws) {a b : ℕ} (ea : a ≡ first_at ws e) (eb : b ≡ second_at ws e) where
      pub node-starts : Starts (node_step (writing pool) s l i (entries ws e)) (head_bytes (kind_of k) n pool a b)
          (along (writing pool) (following (kind_of k) a) (walks (writing pool) (shapes_at (node_shape s l) s (node_first l i (node_at s (record_of l i))) n)) (entries ws (e + 1)))
          e
      unfolding node_step write
      node-starts = rw (walk-node (writing pool) (good.node-good i below) (entries ws e), ek, en) (item-starts _ _ pool _ ws e more ea eb)

      -- as the code asks it, which passes over what was judged
      module _ {judged r : Bool} (sure : Sure judged (node_step (writing pool) s l i (entries ws e))) (lets : Lets judged (kind_of k) n a b r) where
        asked : r ≡ is_some (head_bytes (kind_of k) n pool a b)
        asked = lets.at pool (start-known node-starts sure)

        pub node-has : r ≡ true → is_some (head_bytes (kind_of k) n pool a b) ≡ true
        node-has h = sym asked ∙ h

        pub node-lacks : r ≡ false → node_step (writing pool) s l i (entries ws e) ≡ misfit e
        node-lacks h = start-lacks node-starts (sym asked ∙ h)

      module _ (yes : is_some (head_bytes (kind_of k) n pool a b) ≡ true) where
        pub node-follows : is_known (following (kind_of k) a) n ≡ true
        node-follows = written_known (kind_of k) n pool _ _ (has _ yes).is

        -- the numbers of its children stand from an offset on
        module _ {from : ℕ} (ef : from ≡ node_first l i (node_at s (record_of l i))) where
          falls : Falls s from n i
          falls = rw (ef, en) (node-falls good below)

          pub node-inside : length s < 2 ^ 63 → from + 2 * n < 2 ^ 64
          node-inside h = omega (arith, falls.inside)

          pub node-goes : {u m : ℕ} {before out : List ℕ} {to : Stretch} → SpellsEntry (kind_of k) pool a b u before m out
              → to ≡ followed (following (kind_of k) a) from n → Goes (node_step (writing pool) s l i (entries ws e)) s l pool i ws e u before to m out
          node-goes puts goes =
              rw goes
              (record {
                more = more;
                falls = falls-followed falls (following (kind_of k) a) node-follows;
                going =
                    rw (← (along-followed (writing pool) s l then-nothing (following (kind_of k) a) from n node-follows (entries ws (e + 1))), ef)
                    (start-going node-starts yes (λ bs q. puts.puts n q));
              })

-- ---- what was entered

module _ {w : Wrote} {s : List ℕ} {l : Layout} {pool : List ℕ} {i : ℕ} {ws : List ℕ} {at u : ℕ} {before : List ℕ} {r : Entered} {out : List ℕ}
    (h : Enters w s l pool i ws at u before r out) where
  pub entered_on : {to : Stretch} {n : ℕ} → r ≡ On to n → Goes w s l pool i ws at u before to n out
  entered_on q = rw q at h.holds

  pub entered-misfit : r ≡ Misfit → w ≡ misfit at
  entered-misfit q = rw q at h.holds
