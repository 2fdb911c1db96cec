-- Which messages a compaction keeps can be decided by the rows: it is the last of each key.
-- Assumes nothing.
use mathlib.Core.Path.{◌≡◌, refl, sym, ◌∙◌}
use mathlib.Core.Bool.{Bool, true, false}
use mathlib.Core.List.{List, [], ◌∷◌}
use mathlib.Core.Option.{Option, none, some}
use Prim.Native.Nat.{ℕ, ◌+◌, ◌<◌, ◌≤◌}
use native.Mathlib.Omega.{arith}
use lib.ListN.{length}
use borrow.Author.Tests.{ne_eqb, eq-eqb}
use Rattle.wire.specs.Tests.{pick}
use Rattle.desk.specs.declared.Key.{Key}
use Rattle.desk.specs.declared.Row.{Row}
use Rattle.desk.specs.Rows.{same_key, sort, or_else, some_if, last_row}
use Rattle.desk.specs.Messages.{Keyed, Message, rows_of}
use Rattle.desk.specs.Compact.{occurs, keep_last, is_last, kept_by}
use Rattle.batches.specs.Reads.{Reads, ended, also}
use Rattle.batches.specs.Compacting.{RowsKeepLast}
use Rattle.batches.proofs.Order.{key-itself}
use Rattle.batches.proofs.Last.{last-sort}

-- a key occurs, and its last row is not before the first message; or it doesn't, and has none
data LastIs (at : ℕ) : Bool → Option ℕ → Type 0 where
  there : {o : ℕ} → at ≤ o → LastIs at true (some o)
  nowhere : LastIs at false none

last-is : (k : Key) (at : ℕ) (ms : List Message) → LastIs at (occurs k ms) (last_row k (rows_of at ms))
unfolding occurs last_row rows_of
last-is k at [] = nowhere
last-is k at (m ∷ ms) = go (same_key k m.key) (last-is k (at + length m.bytes) ms)
  where
    go : (t : Bool) {b : Bool} {o : Option ℕ} → LastIs (at + length m.bytes) b o → LastIs at (pick t true b) (or_else o (some_if t at))
    go true (there {o} l) = unfold pick or_else some_if in there {o = o} (omega arith)
    go true nowhere = unfold pick or_else some_if in there {o = at} (omega arith)
    go false (there {o} l) = unfold pick or_else some_if in there {o = o} (omega arith)
    go false nowhere = unfold pick or_else some_if in nowhere

else-assoc {ℓ} : {X : Type ℓ} (a b c : Option X) → or_else (or_else a b) c ≡ or_else a (or_else b c)
unfolding or_else
else-assoc (some x) b c = refl
else-assoc none b c = refl

kept-one : (at to : ℕ) {b : Bool} {o : Option ℕ} (p : Option ℕ) {X : Type 0} (x y : X) → at < to → LastIs to b o → pick (is_last (or_else (or_else o (some at)) p) at) x y ≡ pick b y x
unfolding is_last or_else pick
kept-one at to p x y l (there {o} h) = rw (ne_eqb o at (λ q. omega arith))
kept-one at to p x y l nowhere = rw (eq-eqb at at refl)

module _ (rows : List Row) where
  kept_by_lem : {k : Keyed} {s : List ℕ} {ms : List Message} (at : ℕ) (pre : Key → Option ℕ) → Reads k s ms
      → ((key : Key) → last_row key rows ≡ or_else (last_row key (rows_of at ms)) (pre key)) → kept_by rows at ms ≡ keep_last ms
  unfolding kept_by keep_last
  kept_by_lem at pre ended h = refl
  kept_by_lem at pre (also {m} {ms} q l r) h =
      rw (kept_by_lem (at + length m.bytes) (λ key. or_else (some_if (same_key key m.key) at) (pre key)) r (λ key. later key (h key)))
      (one (h m.key))
    where
      later : (key : Key) → last_row key rows ≡ or_else (last_row key (rows_of at (m ∷ ms))) (pre key)
          → last_row key rows ≡ or_else (last_row key (rows_of (at + length m.bytes) ms)) (or_else (some_if (same_key key m.key) at) (pre key))
      later key e = e ∙ (unfold last_row rows_of in else-assoc (last_row key (rows_of (at + length m.bytes) ms)) (some_if (same_key key m.key) at) (pre key))

      own : last_row m.key (rows_of at (m ∷ ms)) ≡ or_else (last_row m.key (rows_of (at + length m.bytes) ms)) (some at)
      own = unfold last_row rows_of some_if in rw (key-itself m.key)

      one : last_row m.key rows ≡ or_else (last_row m.key (rows_of at (m ∷ ms))) (pre m.key)
          → pick (is_last (last_row m.key rows) at) (m ∷ keep_last ms) (keep_last ms) ≡ pick (occurs m.key ms) (keep_last ms) (m ∷ keep_last ms)
      one e = rw (e, own) (kept-one at (at + length m.bytes) (pre m.key) (m ∷ keep_last ms) (keep_last ms) (omega arith) (last-is m.key (at + length m.bytes) ms))

pub rows-keep-last : RowsKeepLast
rows-keep-last k s ms r = kept_by_lem (sort (rows_of 0 ms)) 0 (λ key. none) r (λ key. last-sort key 0 ms ∙ sym (plain (last_row key (rows_of 0 ms))))
  where
    plain : (o : Option ℕ) → or_else o none ≡ o
    plain (some x) = unfold or_else in refl
    plain none = unfold or_else in refl
