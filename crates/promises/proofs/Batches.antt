-- What is promised of night batches follows from the laws of `batches`: an answer that is done names what was made, and the laws say what that is.
-- Assumes nothing.
use Rattle.std.specs.Prelude.{Err}
use mathlib.Core.Path.{◌≡◌, refl, sym, ap, ◌∙◌}
use mathlib.Core.Bool.{Bool, true, false}
use mathlib.Core.List.{List, [], ◌++◌, append_assoc, append-nil}
use mathlib.Core.Option.{Option, none, some}
use Prim.Native.Nat.{ℕ, zero, suc, ◌+◌, ◌-◌, ◌^◌, ◌<◌, ◌≤◌}
use native.Mathlib.Omega.{arith}
use lib.ListN.{length, take, drop, get_or, length-append, length-drop}
use lib.Seq.{take_at, drop_at, drop-append-le}
use lib.Dec.{ltb}
use borrow.Author.Tests.{ltb-true, le-leb, ne_eqb}
use Rattle.wire.specs.Checked.{Checked}
use Rattle.wire.specs.Checked.{Good as GoodTable, Bad as BadTable}
use Rattle.wire.specs.Tests.{pick, given, both}
use Rattle.wire.specs.Shape.{Shape}
use Rattle.wire.specs.Table.{check}
use Rattle.laws.specs.Range.{AreBytes}
use Rattle.laws.proofs.Bytes.{below-drop}
use Rattle.desk.specs.declared.Fault.{Fault}
use Rattle.desk.specs.declared.Fault.TheVariants.{Wire, Fields, Batch as BadBatch, Missing}
use Rattle.desk.specs.BatchWritten.{Done as Written, Refused as NotWritten}
use Rattle.desk.specs.BatchFound.{Part as Found, Refused as NotFound}
use Rattle.desk.specs.declared.Key.{Key}
use Rattle.desk.specs.declared.Part as found
use Rattle.desk.specs.Rows.{same_key, sort, some_if, number_at, rows_bytes, row_at, rows_at}
use Rattle.desk.specs.Messages.{Keyed, is_keyed, Message, Cut, next, stops, next_of, Split, whole, broken, split, joined, rows_of, Part}
use Rattle.desk.specs.Batch.{Or, so, fault, after, shape_by, tabled, keyed, trailer, batch_of, Parts, parts_at, open_at, opened, split_by, sized, writes, part_by, found_in, written_answer, out_with, found_answer, batch_write, batch_write_out, batch_last, part_of}
use Rattle.batches.specs.Search.{no_row, row_before}
use Rattle.batches.proofs.Order.{sort-sorts}
use Rattle.batches.proofs.Ends.{next-joins, split-reads, reads-joined}
use Rattle.batches.proofs.Recut.{next-behind}
use Rattle.batches.proofs.Checks.{not_so, of-after, of_room, of-so, check-is-good, rows-find-last, writing-passes, written-in-front}
use Rattle.batches.proofs.Opened.{number_lt, of-given, opened-facts}
use Rattle.batches.proofs.Search.{searched-is-last}
use Rattle.promises.specs.Batches.{WrittenPasses, Holds, WrittenHolds, RefusedKeeps, CheckExactly, GoodRows, LastFromFront, Lies, FoundLies, Refuses, table-bad, fields-unfit, batch-bad, no_key, SearchRefuses, LargeStores}

-- ---- writing

pub written-passes : WrittenPasses
unfolding batch_write batch_write_out
written-passes table s f g out n e =
    writing-passes table s f g (length out) (take n (out_with (writes table s f g (length out)) out)) (written-in-front (writes table s f g (length out)) out n e)

-- what is made is the messages' bytes and more, and fits the room
record Made (messages : List ℕ) (room : ℕ) (batch : List ℕ) : Type 0 where
  more : List ℕ
  same : messages ++ more ≡ batch
  fits : length batch ≤ room

of-whole : (x : Split) {ms : List Message} → split_by x ≡ so ms → x ≡ whole ms
unfolding split_by
of-whole (whole rs) e = ap whole (cc)
of-whole (broken why p) e = not_so e

made_of : (table s : List ℕ) (f g room : ℕ) (batch : List ℕ) → writes table s f g room ≡ so batch → Made s room batch
unfolding writes
made_of table s f g room batch e =
    of-after (tabled table) _ e (λ t h e. of-after (keyed (record { shape = t; store = f; product = g })) _ e
    (λ k q e. of-after (split_by (split k s)) _ e (λ ms v e. of-after (sized ms) _ e (λ rs z e. of_room room (batch_of k rs) e
    (λ l w. unfold sized in of-so _ ms _ z (λ _ u. finish k ms rs (reads-joined ((split-reads k s ms).0 (of-whole (split k s) v))) u l w))))))
  where
    finish : (k : Keyed) (ms rs : List Message) → joined ms ≡ s → ms ≡ rs → length (batch_of k rs) ≤ room → batch_of k rs ≡ batch → Made s room batch
    finish k ms rs j u l w =
        unfold batch_of in
        record {
          more = rows_bytes (sort (rows_of 0 ms)) ++ trailer (length ms) k;
          same = rw (← j) (ap (λ ms. joined ms ++ (rows_bytes (sort (rows_of 0 ms)) ++ trailer (length ms) k)) u ∙ w);
          fits = rw w at l;
        }

holds : (messages out : List ℕ) (made : Or (List ℕ)) (n : ℕ) → written_answer made ≡ Written n → ((batch : List ℕ) → made ≡ so batch → Made messages (length out) batch)
    → Holds messages out (out_with made out) n
unfolding written_answer out_with
holds messages out (so s) n e of =
    let m = of s refl in
    let q : length s ≡ n = cc in
    let l : length messages + length m.more ≡ length s = sym (length-append messages m.more) ∙ ap length m.same in
    record {
      front = rw (← m.same, append_assoc messages m.more _) (take_at messages _ (length messages) refl);
      within = omega arith;
      room = omega (arith, m.fits);
      behind = rw (← q) (drop_at s (drop (length s) out) (length s) refl);
    }
holds messages out (fault why) n e of = let z : ◌≡◌ {A = ℕ} 0 1 = cc in absurd (omega arith)

pub written-holds : WrittenHolds
unfolding batch_write batch_write_out
written-holds table s f g out n e = holds s out (writes table s f g (length out)) n e (λ batch q. made_of table s f g (length out) batch q)

pub keeps : (made : Or (List ℕ)) (out : List ℕ) (why : Fault) → written_answer made ≡ NotWritten why → out_with made out ≡ out
unfolding written_answer out_with
keeps (so s) out why e = let z : ◌≡◌ {A = ℕ} 0 1 = cc in absurd (omega arith)
keeps (fault r) out why e = refl

pub refused-keeps : RefusedKeeps
unfolding batch_write batch_write_out
refused-keeps table s f g out why e = keeps (writes table s f g (length out)) out why e

-- ---- the whole check

pub check-exactly : CheckExactly
check-exactly table batch = ((check-is-good table batch).0, (check-is-good table batch).1)

pub good-rows : GoodRows
good-rows table batch good = rw good.rows (sort-sorts (rows_of 0 good.messages))

-- ---- the search

pub last-from-front : LastFromFront
unfolding batch_last
last-from-front table batch k answer e x = searched-is-last table batch k answer e x ∙ ap found_answer (rows-find-last table batch k e)

of-found {ℓ} : {X : Type ℓ} (o : Or Part) {from len : ℕ} → Found from len ≡ found_answer o → ((p : Part) → o ≡ so p → p.from ≡ from → p.len ≡ len → X) → X
unfolding found_answer
of-found (so p) {from = a} {len = n} e f =
    let same : ◌≡◌ {A = found.Part} (record { from = a; len = n }) (record { from = p.from; len = p.len }) = cc in
    f p refl (sym (ap (λ q. q.from) same)) (sym (ap (λ q. q.len) same))
of-found (fault why) e f = let z : ◌≡◌ {A = ℕ} 0 1 = cc in absurd (omega arith)

-- the message that is read at a place before the rows
record Reads (b : Parts) (p : Part) : Type 0 where
  before : p.from < length b.front
  message : Message
  rest : List ℕ
  reads : next_of b.keys (drop p.from b.front) ≡ next message rest
  long : length message.bytes ≡ p.len

of_part : (b : Parts) (at : ℕ) (c : Cut) (p : Part) → at < length b.front → next_of b.keys (drop at b.front) ≡ c → part_by at c ≡ so p → Reads b p
unfolding part_by
of_part b at (next m rest) p l n e =
    let q : record { from = at; len = length m.bytes } ≡ p = cc in
    rw (← q) (record { before = l; message = m; rest = rest; reads = n; long = refl })
of_part b at (stops why i) p l n e = not_so e

found-reads : (b : Parts) (o : Option ℕ) (p : Part) → found_in b o ≡ so p → Reads b p
unfolding found_in
found-reads b none p e = not_so e
found-reads b (some at) p e =
    of-given (ltb at (length b.front)) _ _ e (λ t f. of_part b at (next_of b.keys (drop at b.front)) p (ltb-true at (length b.front) t) refl f)

module _ (table batch : List ℕ) (t : Shape) (b : Parts) (has_shape : tabled table ≡ so t) (has_parts : opened t batch ≡ so b) (from : ℕ) (m : Message) (rest : List ℕ)
    (before : from < length b.front) (reads : next_of b.keys (drop from b.front) ≡ next m rest) where
  inside : from + length m.bytes ≤ length b.front
  inside = omega (arith, simp (length-append, length-drop) at (ap length (next-joins b.keys (drop from b.front) reads)))

  there : drop from batch ≡ m.bytes ++ (rest ++ (opened-facts t batch b has_parts).tail)
  there =
      let facts = opened-facts t batch b has_parts in
      ap (drop from) (sym facts.whole) ∙ drop-append-le from b.front facts.tail (omega arith)
      ∙ ap (λ s. s ++ facts.tail) (sym (next-joins b.keys (drop from b.front) reads)) ∙ append_assoc m.bytes rest facts.tail

  handed : part_of batch (Found from (length m.bytes)) ≡ m.bytes
  unfolding part_of pick
  handed =
      let size = (opened-facts t batch b has_parts).size in
      rw (le-leb (from + length m.bytes) (length batch) (omega (arith, inside)), there) (take_at m.bytes _ (length m.bytes) refl)

  lies : Lies table batch from (length m.bytes)
  lies =
      record {
        shape = t;
        parts = b;
        has_shape = has_shape;
        has_parts = has_parts;
        inside = inside;
        message = m;
        reads = rw handed (rw (append-nil m.bytes) at (next-behind b.keys (drop from b.front) [] reads));
        bytes = sym handed;
        long = refl;
      }

pub found-lies : FoundLies
found-lies table batch k from len x =
    of-found (after (tabled table) (λ t. after (opened t batch) (λ b. found_in b (row_before k b.rows x.u)))) x.said
    (λ p e f g. of-after (tabled table) _ e (λ t h e. of-after (opened t batch) _ e (λ b i e. made t b h i p f g (found-reads b (row_before k b.rows x.u) p e))))
  where
    made : (t : Shape) (b : Parts) → tabled table ≡ so t → opened t batch ≡ so b → (p : Part) → p.from ≡ from → p.len ≡ len → Reads b p → Lies table batch from len
    made t b h i p f g r = rw (← f, ← g, ← r.long) (lies table batch t b h i p.from r.message r.rest r.before r.reads)

-- ---- its refusals

of-fault {ℓ} : {X : Type ℓ} {A B : Type 0} (x : Or A) (f : A → Or B) {why : Fault} → after x f ≡ fault why → (x ≡ fault why → X) → ((a : A) → x ≡ so a → f a ≡ fault why → X) → X
unfolding after
of-fault (so a) f e g h = h a refl e
of-fault (fault r) f e g h = g (ap fault (cc))

of_test {ℓ} : {X : Type ℓ} {A : Type 0} (t : Bool) (f : Unit {0} → Or A) (r : Fault) {why : Fault} → given t f (fault r) ≡ fault why → (r ≡ why → X) → (f tt ≡ fault why → X) → X
unfolding given
of_test true f r e g h = h e
of_test false f r e g h = g (cc)

not-fault {ℓ} : {X : Type ℓ} {A : Type 0} {a : A} {why : Fault} → so a ≡ fault why → X
not-fault q = let z : ◌≡◌ {A = ℕ} 0 1 = cc in absurd (omega arith)

module _ (table : List ℕ) (why : Fault) where
  bad-refuses : BadBatch ≡ why → Refuses table why
  bad-refuses e = rw (← e) batch-bad

  shape-refuses : (c : Checked) → check table ≡ c → shape_by c table ≡ fault why → Refuses table why
  unfolding shape_by
  shape-refuses (GoodTable l) h e = not-fault e
  shape-refuses (Err it) h e = let q : Wire it.why it.place ≡ why = cc in rw (← q) (table-bad h)

  keyed-refuses : (k : Keyed) → keyed k ≡ fault why → Refuses table why
  unfolding keyed
  keyed-refuses k e = go (is_keyed k) e
    where
      go : (t : Bool) → pick t (so k) (fault Fields) ≡ fault why → Refuses table why
      go true e = unfold pick in not-fault e
      go false e = unfold pick in (let q : Fields ≡ why = cc in rw (← q) fields-unfit)

  opened-refuses : (t : Shape) (batch : List ℕ) → opened t batch ≡ fault why → Refuses table why
  unfolding opened open_at
  opened-refuses t batch e =
      of_test _ _ BadBatch e bad-refuses
      (λ e. of-fault (keyed _) _ e (λ e. keyed-refuses _ e) (λ k h e. of_test _ _ BadBatch e bad-refuses (λ e. not-fault e)))

  part-refuses : (at : ℕ) (c : Cut) → part_by at c ≡ fault why → Refuses table why
  unfolding part_by
  part-refuses at (next m rest) e = not-fault e
  part-refuses at (stops r p) e = bad-refuses (cc)

  found-refuses : (b : Parts) (o : Option ℕ) → found_in b o ≡ fault why → Refuses table why
  unfolding found_in
  found-refuses b none e = let q : Missing ≡ why = cc in rw (← q) no_key
  found-refuses b (some at) e = of_test _ _ BadBatch e bad-refuses (λ e. part-refuses at (next_of b.keys (drop at b.front)) e)

of-refused : (o : Or Part) {why : Fault} → NotFound why ≡ found_answer o → o ≡ fault why
unfolding found_answer
of-refused (so p) e = let z : ◌≡◌ {A = ℕ} 0 1 = cc in absurd (omega arith)
of-refused (fault r) e = ap fault (cc)

pub search-refuses : SearchRefuses
search-refuses table batch k why x =
    of-fault (tabled table) _ (of-refused (after (tabled table) (λ t. after (opened t batch) (λ b. found_in b (row_before k b.rows x.u)))) x.said)
    (λ e. unfold tabled in shape-refuses table why (check table) refl e)
    (λ t h e. of-fault (opened t batch) _ e (λ e. opened-refuses table why t batch e) (λ b i e. found-refuses table why b (row_before k b.rows x.u) e))

-- ---- store numbers that no row has

small-store : (n : ℕ) (s : List ℕ) (j : ℕ) → AreBytes s → (get_or (rows_at n s) j no_row).key.store < 2 ^ 32
unfolding rows_at row_at
small-store zero s j h = omega arith
small-store (suc n) s zero h = number_lt 4 0 s h
small-store (suc n) s (suc j) h = small-store n (drop 16 s) j (below-drop 256 16 s h)

no-row : (k : Key) (n : ℕ) (s : List ℕ) (u : ℕ) → AreBytes s → 2 ^ 32 ≤ k.store → row_before k (rows_at n s) u ≡ none
unfolding row_before
no-row k n s zero h l = refl
no-row k n s (suc j) h l = unfold some_if in rw other
  where
    other : same_key k (get_or (rows_at n s) j no_row).key ≡ false
    other = unfold same_key both in rw (ne_eqb k.store (get_or (rows_at n s) j no_row).key.store (λ e. omega (arith, small-store n s j h)))

of-opened {ℓ} : {X : Type ℓ} (t : Shape) (batch : List ℕ) (b : Parts) → opened t batch ≡ so b → ((n at : ℕ) → rows_at n (drop at batch) ≡ b.rows → X) → X
unfolding opened open_at parts_at
of-opened {X} t batch b e f =
    of-given _ _ _ e (λ l e. of-after (keyed _) _ e (λ k q e. of-given _ _ _ e (λ g e. taken k e)))
  where
    end : ℕ
    end = length batch - 12

    taken : (k : Keyed) → so (parts_at batch (end - number_at 4 (end + 4) batch) (number_at 4 end batch) k) ≡ so b → X
    taken k e =
        let same : parts_at batch (end - number_at 4 (end + 4) batch) (number_at 4 end batch) k ≡ b = cc in
        f (number_at 4 end batch) (end - number_at 4 (end + 4) batch) (ap (λ b. b.rows) same)

pub large-stores : LargeStores
unfolding after found_in found_answer
large-stores table batch k answer t b h i bytes l x =
    of-opened t batch b i (λ n at e. x.said ∙ rw (h, i, ← e, no-row k n (drop at batch) x.u (below-drop 256 at batch bytes) l))
