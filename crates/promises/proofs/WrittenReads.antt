-- What was written spells its values, and a walk over these bytes makes them again: the run over them, whatever follows, has the same values and that same rest.
-- Assumes nothing.
use mathlib.Core.Path.{◌≡◌, sym, ap, ◌∙◌}
use mathlib.Core.List.{List, [], ◌++◌}
use mathlib.Core.List as lists
use Prim.Native.Nat.{ℕ, ◌*◌, ◌/◌, ◌≤◌}
use native.Mathlib.Omega.{arith}
use native.Mathlib.Nat.{zero-add}
use lib.ListN.{length, take}
use Rattle.wire.specs.declared.Layout.{Layout}
use Rattle.wire.specs.Checked.{Good}
use Rattle.wire.specs.Shape.{Shape}
use Rattle.wire.specs.Table.{check, shape_of}
use Rattle.wire.specs.Values.{Tag, kept, tell, value_of, whole, SameValues}
use Rattle.wire.specs.Reading.{reached, read, fit}
use Rattle.wire.specs.Answers.{words_per, entries_of, room_of, reads, store_with, form, writes}
use Rattle.laws.specs.Range.{AreWords}
use Rattle.laws.proofs.Runs.{within-reached}
use Rattle.laws.proofs.ReadBy.{reads_plain}
use Rattle.laws.proofs.Places.{words-entries, length-entries, front-words}
use Rattle.promises.specs.Places.{places, Stand}
use Rattle.promises.proofs.Trips.{Again}
use Rattle.promises.proofs.Written.{Written, written, entries-words, values-told, Whole, whole_of}

-- the run over s and any rest, where s was written of the words ws: as many entries, the same values, that rest, and the places of what was written
pub record WrittenReads (table ws pool s rest store : List ℕ) : Type 0 where
  pub layout : Layout
  pub is-good : check table ≡ Good layout
  pub ends : (reads table (s ++ rest) store).ends ≡ reached (record { bytes = rest; place = length s })
  pub many : words_per * length (reads table (s ++ rest) store).made ≡ length ws
  pub same : SameValues (shape_of table layout) pool (entries_of ws) (s ++ rest) (reads table (s ++ rest) store).made
  pub stored : SameValues (shape_of table layout) pool (entries_of ws) (s ++ rest) (entries_of (take (length ws) (store_with (reads table (s ++ rest) store).made store)))
  pub tags : List Tag
  pub items : tell (shape_of table layout) (entries_of ws) ≡ kept tags []
  pub stand : Stand pool 0 tags (places (entries_of (take (length ws) (store_with (reads table (s ++ rest) store).made store)))) s

pub written-reads : (table ws pool : List ℕ) (room : ℕ) (s rest store : List ℕ) → AreWords ws → writes table ws pool room ≡ form s → length ws ≤ length store
    → WrittenReads table ws pool s rest store
unfolding reads fit room_of
written-reads table ws pool room s rest store ok e fits =
    record {
      layout = w.layout;
      is-good = w.is-good;
      ends = ap (λ r. r.ends) is;
      many = rw is many;
      same = rw is same;
      stored = rw (is, front-words a.made (length ws) store many, words-entries) same;
      tags = all.tags;
      items = all.items;
      stand = rw (is, front-words a.made (length ws) store many, words-entries) a.stand;
    }
  where
    w : Written table ws pool s
    w = written table ws pool room s e

    t : Shape
    t = shape_of table w.layout

    all : Whole t pool (entries_of ws) s
    all = whole_of w

    a : Again pool (read t) (tell t) (length (entries_of ws)) all.tags s 0 rest (s ++ rest)
    a = all.again (entries-words ws ok) rest

    many : words_per * length a.made ≡ length ws
    many = ap (words_per *◌) a.many ∙ length-entries ws w.even

    is : reads table (s ++ rest) store ≡ record { made = a.made; ends = reached (record { bytes = rest; place = length s }) }
    is = rw (w.is-good, reads_plain, a.reads, zero-add) (within-reached (length store / words_per) a.made _ (omega (arith, many)))

    same : SameValues t pool (entries_of ws) (s ++ rest) a.made
    same =
        record {
          them = lists.map (value_of pool) all.tags;
          those = all.are;
          these = values-told t (s ++ rest) a.tells ∙ ap whole (sym a.same);
        }
