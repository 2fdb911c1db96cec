-- The last message of a key: found from sorted rows and by reading from the front, it is the same.
-- Assumes nothing.
use mathlib.Core.Path.{◌≡◌, refl, sym, ap, ◌∙◌}
use mathlib.Core.Bool.{Bool, true, false}
use mathlib.Core.List.{List, [], ◌∷◌}
use mathlib.Core.Option.{Option, none, some, map}
use Prim.Native.Nat.{ℕ, ◌+◌, ◌<◌, ◌≤◌}
use native.Mathlib.Nat.{add-zero}
use native.Mathlib.Omega.{arith}
use lib.ListN.{length, drop}
use lib.Seq.{drop-drop, drop-append_seam}
use borrow.Author.Tests.{lt-ltb, le-leb, eq-eqb}
use Rattle.wire.specs.Tests.{pick, given}
use Rattle.laws.proofs.Splits.{by-test, not-both}
use Rattle.desk.specs.declared.Key.{Key}
use Rattle.desk.specs.declared.Row.{Row}
use Rattle.desk.specs.Rows.{same_key, before_or, not_after, insert, sort, or_else, some_if, last_row}
use Rattle.desk.specs.Messages.{Keyed, Message, next, next_of, rows_of, Part, last_from}
use Rattle.batches.specs.Reads.{Reads, ended, also}
use Rattle.desk.specs.Batch.{so, Parts, part_by, found_in, or_missing}
use Rattle.batches.proofs.Order.{same_key_lem}
use Rattle.batches.proofs.Ends.{next-joins, next-length}

-- ---- rows

-- each offset is at least so much
data From (least : ℕ) : List Row → Type 0 where
  none_left : From least []
  each : {r : Row} {rs : List Row} → least ≤ r.offset → From least rs → From least (r ∷ rs)

-- a row of the same key, no later in its offset, does not stand after another
same-not-after : (r x : Row) → r.key ≡ x.key → r.offset ≤ x.offset → not_after r x ≡ true
unfolding not_after before_or pick
same-not-after r x q h =
    rw (eq-eqb r.key.store x.key.store (ap (λ k. k.store) q), eq-eqb r.key.product x.key.product (ap (λ k. k.product) q))
    (le-leb r.offset x.offset h)

-- of two rows of different keys, at most one is of a key: their order does not matter
swap : (k : Key) (a b : Row) (o : Option ℕ) → not_after a b ≡ false → a.offset ≤ b.offset
    → or_else (or_else o (some_if (same_key k a.key) a.offset)) (some_if (same_key k b.key) b.offset)
    ≡ or_else (or_else o (some_if (same_key k b.key) b.offset)) (some_if (same_key k a.key) a.offset)
unfolding or_else
swap k a b (some o) n h = refl
swap k a b none n h = go (same_key k a.key) (same_key k b.key) refl refl
  where
    go : (s t : Bool) → same_key k a.key ≡ s → same_key k b.key ≡ t
        → or_else (some_if s a.offset) (some_if t b.offset) ≡ or_else (some_if t b.offset) (some_if s a.offset)
    go true true e f = not-both (same-not-after a b (sym (same_key_lem k a.key e) ∙ same_key_lem k b.key f) h) n
    go true false e f = unfold or_else some_if in refl
    go false true e f = unfold or_else some_if in refl
    go false false e f = unfold or_else some_if in refl

last-insert : (k : Key) (r : Row) (xs : List Row) → From r.offset xs → last_row k (insert r xs) ≡ last_row k (r ∷ xs)
unfolding insert
last-insert k r [] f = refl
last-insert k r (x ∷ xs) (each l f) = by-test (not_after r x) (λ q. first q) (λ q. second q (last-insert k r xs f))
  where
    first : not_after r x ≡ true → last_row k (pick (not_after r x) (r ∷ x ∷ xs) (x ∷ insert r xs)) ≡ last_row k (r ∷ x ∷ xs)
    first q = unfold pick in rw q

    second : not_after r x ≡ false → last_row k (insert r xs) ≡ last_row k (r ∷ xs) → last_row k (pick (not_after r x) (r ∷ x ∷ xs) (x ∷ insert r xs)) ≡ last_row k (r ∷ x ∷ xs)
    second q ih = unfold pick last_row in rw (q, ih) (swap k r x (last_row k xs) q l)

from-insert : (n : ℕ) (r : Row) (xs : List Row) → n ≤ r.offset → From n xs → From n (insert r xs)
unfolding insert
from-insert n r [] h f = each h none_left
from-insert n r (x ∷ xs) h (each l f) = go (not_after r x) (from-insert n r xs h f)
  where
    go : (t : Bool) → From n (insert r xs) → From n (pick t (r ∷ x ∷ xs) (x ∷ insert r xs))
    go true ih = unfold pick in each h (each l f)
    go false ih = unfold pick in each l ih

from_more : {n m : ℕ} (xs : List Row) → n ≤ m → From m xs → From n xs
from_more [] h none_left = none_left
from_more (x ∷ xs) h (each {r} l f) = each {r = r} (omega arith) (from_more xs h f)

from-sort : (n : ℕ) (xs : List Row) → From n xs → From n (sort xs)
unfolding sort
from-sort n [] f = none_left
from-sort n (x ∷ xs) (each l f) = from-insert n x (sort xs) l (from-sort n xs f)

rows-from : (at : ℕ) (ms : List Message) → From at (rows_of at ms)
unfolding rows_of
rows-from at [] = none_left
rows-from at (m ∷ ms) =
    each {r = record { key = m.key; offset = at }} (omega arith) (from_more (rows_of (at + length m.bytes) ms) (omega arith) (rows-from (at + length m.bytes) ms))

-- sorted or not, the last row of a key is the same
pub last-sort : (k : Key) (at : ℕ) (ms : List Message) → last_row k (sort (rows_of at ms)) ≡ last_row k (rows_of at ms)
unfolding rows_of sort
last-sort k at [] = refl
last-sort k at (m ∷ ms) =
    last-insert k (record { key = m.key; offset = at }) (sort (rows_of (at + length m.bytes) ms))
    (from-sort at (rows_of (at + length m.bytes) ms) (from_more _ (omega arith) (rows-from (at + length m.bytes) ms)))
    ∙ next_row _ _ (last-sort k (at + length m.bytes) ms)
  where
    next_row : (xs ys : List Row) → last_row k xs ≡ last_row k ys → last_row k (record { key = m.key; offset = at } ∷ xs) ≡ last_row k (record { key = m.key; offset = at } ∷ ys)
    next_row xs ys e = unfold last_row in rw e

else-map : (o : Option Part) (t : Bool) (p : Part) → or_else (map (λ q. q.from) o) (some_if t p.from) ≡ map (λ (q : Part). q.from) (or_else o (some_if t p))
unfolding or_else some_if
else-map (some q) t p = refl
else-map none true p = refl
else-map none false p = refl

pub last-rows : (k : Key) (at : ℕ) (ms : List Message) → last_row k (rows_of at ms) ≡ map (λ (p : Part). p.from) (last_from k at ms)
unfolding rows_of last_row last_from
last-rows k at [] = refl
last-rows k at (m ∷ ms) =
    rw (last-rows k (at + length m.bytes) ms) (else-map (last_from k (at + length m.bytes) ms) (same_key k m.key) (record { from = at; len = length m.bytes }))

-- ---- messages

-- a part is a message that stands in s, d bytes from its front
pub record Stands (k : Keyed) (s : List ℕ) (at : ℕ) (p : Part) : Type 0 where
  pub d : ℕ
  pub place : at + d ≡ p.from
  pub inside : d < length s
  pub m : Message
  pub rest : List ℕ
  pub there : next_of k (drop d s) ≡ next m rest
  pub len : length m.bytes ≡ p.len

pub last-stands : {k : Keyed} {s : List ℕ} {ms : List Message} (key : Key) (at : ℕ) {p : Part} → Reads k s ms → last_from key at ms ≡ some p → Stands k s at p
unfolding last_from
last-stands key at ended e = let z : ◌≡◌ {A = ℕ} 0 1 = cc in absurd (omega arith)
last-stands {k} {s} key at {p} (also {rest} {m} {ms} q h r) e =
    go (last_from key (at + length m.bytes) ms) (same_key key m.key) e (λ f. last-stands key (at + length m.bytes) r f) refl
  where
    behind : drop (length m.bytes) s ≡ rest
    behind = ap (drop (length m.bytes)) (sym (next-joins k s q)) ∙ drop-append_seam m.bytes rest

    later : Stands k rest (at + length m.bytes) p → Stands k s at p
    later x =
        let whole = next-length k s q in
        record {
          d = length m.bytes + x.d;
          place = omega (arith, x.place);
          inside = omega (arith, x.inside);
          m = x.m;
          rest = x.rest;
          there = ap (next_of k) (sym (drop-drop x.d (length m.bytes) s) ∙ ap (drop x.d) behind) ∙ x.there;
          len = x.len;
        }

    here : record { from = at; len = length m.bytes } ≡ p → Stands k s at p
    here f =
        let whole = next-length k s q in
        record { d = 0; place = add-zero at ∙ ap (λ p. p.from) f; inside = omega arith; m = m; rest = rest; there = q; len = ap (λ p. p.len) f }

    go : (o : Option Part) (t : Bool) → or_else o (some_if t (record { from = at; len = length m.bytes })) ≡ some p
        → (last_from key (at + length m.bytes) ms ≡ some p → Stands k rest (at + length m.bytes) p) → last_from key (at + length m.bytes) ms ≡ o → Stands k s at p
    go (some p') t e ih f = unfold or_else in later (ih (f ∙ e))
    go none true e ih f = unfold or_else some_if in here (cc)
    go none false e ih f = unfold or_else some_if in (let z : ◌≡◌ {A = ℕ} 0 1 = cc in absurd (omega arith))

found-there : (b : Parts) (p : Part) → Stands b.keys b.front 0 p → found_in b (some p.from) ≡ so p
unfolding found_in given part_by
found-there b p x =
    let at : x.d ≡ p.from = omega (arith, x.place) in
    rw (← at, lt-ltb x.d (length b.front) x.inside, x.there) (ap (λ n. so (record { from = x.d; len = n })) x.len)

-- what the rows of a good batch find
module _ (k : Keyed) (s : List ℕ) (ms : List Message) (rows : List Row) (reads : Reads k s ms) (good : rows ≡ sort (rows_of 0 ms)) where
  pub found-last : (key : Key) → found_in (record { keys = k; front = s; rows = rows }) (last_row key rows) ≡ or_missing (last_from key 0 ms)
  found-last key =
      ap (found_in (record { keys = k; front = s; rows = rows })) (ap (last_row key) good ∙ last-sort key 0 ms ∙ last-rows key 0 ms)
      ∙ go (last_from key 0 ms) refl
    where
      go : (o : Option Part) → last_from key 0 ms ≡ o → found_in (record { keys = k; front = s; rows = rows }) (map (λ (p : Part). p.from) o) ≡ or_missing o
      go none e = unfold found_in or_missing in refl
      go (some p) e = unfold or_missing in found-there (record { keys = k; front = s; rows = rows }) p (last-stands key 0 reads e)
