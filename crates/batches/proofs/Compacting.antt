-- A compaction passes the check, answers as before, is done once, and is no longer than the batch.
-- Assumes nothing.
use mathlib.Core.Path.{◌≡◌, refl, sym, ap, ◌∙◌}
use mathlib.Core.List.{List, [], ◌++◌}
use mathlib.Core.Option.{Option, none, some, map}
use Prim.Native.Nat.{ℕ, ◌+◌, ◌*◌, ◌≤◌}
use native.Mathlib.Omega.{arith}
use lib.ListN.{length, take, drop, length-append}
use borrow.Author.Tests.{le-leb}
use Rattle.desk.specs.declared.Fault.TheVariants.{Missing}
use Rattle.wire.specs.Tests.{pick}
use Rattle.laws.specs.Range.{AreBytes}
use Rattle.desk.specs.declared.Key.{Key}
use Rattle.desk.specs.Rows.{sort, rows_bytes}
use Rattle.desk.specs.Messages.{Keyed, Message, whole, joined, rows_of, Part, last_from}
use Rattle.desk.specs.Compact.{keep_last, compacts}
use Rattle.desk.specs.Batch.{Or, so, fault, after, tabled, in_room, trailer, batch_of, opened, messages_of, checks, or_missing, finds_last}
use Rattle.batches.specs.Good.{IsGood}
use Rattle.batches.specs.Laws.{found_bytes}
use Rattle.batches.specs.Compacting.{KeepsThose, CompactionPasses, CompactionKeeps, CompactionHolds, CompactionOnce, CompactionShorter, CompactionFits}
use Rattle.batches.proofs.Ends.{reads-joined}
use Rattle.batches.proofs.Bytes.{length-sort, length-rows_of, length-rows, length-trailer}
use Rattle.batches.proofs.Last.{found-last}
use Rattle.batches.proofs.Checks.{of-after, of_room, messages-pass, messages-of, passes_of, passes-good, made-opened}
use Rattle.batches.proofs.Opened.{Opened, opened-facts, sort-offsets}
use Rattle.batches.proofs.Keeping.{reads-keep, keep-fewer, keep-shorter, keep-offsets, keep-once, last_bytes, last-keep, last-bytes}

-- ---- a batch and what it was made of

record Done (table batch : List ℕ) (room : ℕ) (new : List ℕ) : Type 0 where
  passes : IsGood table batch
  same : batch_of passes.parts.keys (keep_last passes.messages) ≡ new
  fits : length new ≤ room

done-of : (table batch : List ℕ) (room : ℕ) (new : List ℕ) → compacts table batch room ≡ so new → Done table batch room new
unfolding compacts
done-of table batch room new e =
    of-after (tabled table) _ e (λ t h e. of-after (opened t batch) _ e (λ b k e. of-after (messages_of b) _ e (λ ms s e. messages-pass b s (λ u v.
    of_room room (batch_of b.keys (keep_last ms)) e (λ l w.
    record { passes = record { shape = t; parts = b; messages = ms; has_shape = h; has_parts = k; reads = u; rows = v }; same = w; fits = rw (ap length w) at l })))))

pub length-batch : (k : Keyed) (ms : List Message) → length (batch_of k ms) ≡ length (joined ms) + (16 * length ms + 12)
unfolding batch_of
length-batch k ms =
    length-append (joined ms) (rows_bytes (sort (rows_of 0 ms)) ++ trailer (length ms) k)
    ∙ ap (λ n. length (joined ms) + n) (length-append (rows_bytes (sort (rows_of 0 ms))) (trailer (length ms) k)
    ∙ rw (length-rows (sort (rows_of 0 ms)), length-sort (rows_of 0 ms), length-rows_of 0 ms, length-trailer (length ms) k))

-- ---- what is known of a batch that passes

module _ (table batch : List ℕ) (p : IsGood table batch) where
  facts : Opened p.shape batch p.parts
  facts = opened-facts p.shape batch p.parts p.has_parts

  many : length p.parts.rows ≡ length p.messages
  many = ap length p.rows ∙ length-sort (rows_of 0 p.messages) ∙ length-rows_of 0 p.messages

  joins : joined p.messages ≡ p.parts.front
  joins = reads-joined p.reads

  shorter : length (batch_of p.parts.keys (keep_last p.messages)) ≤ length batch
  shorter =
      let a = length-batch p.parts.keys (keep_last p.messages) in
      let b = facts.size in
      let c = many in
      let d = ap length joins in
      let e = keep-fewer p.messages in
      let f = keep-shorter p.messages in
      omega arith

  -- the parts of its compaction
  new-opened : AreBytes batch
      → opened p.shape (batch_of p.parts.keys (keep_last p.messages)) ≡ so (record { keys = p.parts.keys; front = joined (keep_last p.messages); rows = sort (rows_of 0 (keep_last p.messages)) })
  new-opened bs =
      rw (← facts.shape)
      (made-opened p.parts.keys (keep_last p.messages) facts.fits (reads-keep p.reads)
      (keep-offsets p.messages 0 0 (omega arith) (sort-offsets (rows_of 0 p.messages) (rw p.rows at (facts.offsets bs))))
      (let a = facts.few bs in let b = many in let c = keep-fewer p.messages in omega arith))

  unfoldable new-passes : AreBytes batch → IsGood table (batch_of p.parts.keys (keep_last p.messages))
  new-passes bs =
      record {
        shape = p.shape;
        parts = record { keys = p.parts.keys; front = joined (keep_last p.messages); rows = sort (rows_of 0 (keep_last p.messages)) };
        messages = keep_last p.messages;
        has_shape = p.has_shape;
        has_parts = new-opened bs;
        reads = reads-keep p.reads;
        rows = refl;
      }

-- ---- the last message of a key, as bytes

unfoldable bytes_or : Option (List ℕ) → Or (List ℕ)
bytes_or (some s) = so s
bytes_or none = fault Missing

found-or : (batch : List ℕ) (o : Option Part) → found_bytes batch (or_missing o) ≡ bytes_or (map (λ (p : Part). take p.len (drop p.from batch)) o)
unfolding found_bytes or_missing bytes_or
found-or batch (some p) = refl
found-or batch none = refl

pub finds_last-last : (table batch : List ℕ) (p : IsGood table batch) (k : Key) → finds_last table batch k ≡ or_missing (last_from k 0 p.messages)
unfolding finds_last after
finds_last-last table batch p k =
    rw (p.has_shape, p.has_parts) (found-last p.parts.keys p.parts.front p.messages p.parts.rows p.reads p.rows k)

found-last-bytes : (table batch : List ℕ) (p : IsGood table batch) (k : Key) → found_bytes batch (finds_last table batch k) ≡ bytes_or (last_bytes k p.messages)
found-last-bytes table batch p k =
    ap (found_bytes batch) (finds_last-last table batch p k) ∙ found-or batch (last_from k 0 p.messages)
    ∙ ap bytes_or (last-bytes k p.messages batch [] (facts table batch p).tail 0 refl (ap (λ s. s ++ (facts table batch p).tail) (joins table batch p) ∙ (facts table batch p).whole))

-- ---- the laws

pub compaction-passes : CompactionPasses
compaction-passes table batch room new bs e =
    let d = done-of table batch room new e in rw d.same at (passes-good (new-passes table batch d.passes bs))

pub compaction-shorter : CompactionShorter
compaction-shorter table batch room new e =
    let d = done-of table batch room new e in rw d.same at (shorter table batch d.passes)

compact-of : (table batch : List ℕ) (room : ℕ) (p : IsGood table batch) → length (batch_of p.parts.keys (keep_last p.messages)) ≤ room
    → compacts table batch room ≡ so (batch_of p.parts.keys (keep_last p.messages))
unfolding compacts after in_room pick
compact-of table batch room p l =
    rw (p.has_shape, p.has_parts, messages-of p.parts p.messages p.reads p.rows, le-leb (length (batch_of p.parts.keys (keep_last p.messages))) room l)

pub compaction-fits : CompactionFits
compaction-fits table batch room e l =
    let p = passes_of e in
    record { new = batch_of p.parts.keys (keep_last p.messages); made = compact-of table batch room p (let s = shorter table batch p in omega arith) }

pub compaction-once : CompactionOnce
unfolding new-passes
compaction-once table batch room room' new bs e l = go (done-of table batch room new e)
  where
    go : Done table batch room new → compacts table new room' ≡ so new
    go d =
        let p = d.passes in
        let again : batch_of p.parts.keys (keep_last (keep_last p.messages)) ≡ new = ap (batch_of p.parts.keys) (keep-once p.messages) ∙ d.same in
        let q = new-passes table batch p bs in
        rw again at (rw d.same at (compact-of table (batch_of p.parts.keys (keep_last p.messages)) room' q (let g = ap length again in omega arith)))

pub checks-of : (table batch : List ℕ) (p : IsGood table batch) → checks table batch ≡ so p.messages
unfolding checks after
checks-of table batch p = rw (p.has_shape, p.has_parts) (messages-of p.parts p.messages p.reads p.rows)

pub compaction-holds : CompactionHolds
unfolding new-passes
compaction-holds table batch room new bs e = go (done-of table batch room new e)
  where
    go : Done table batch room new → KeepsThose table batch new
    go d =
        record {
          messages = d.passes.messages;
          before = checks-of table batch d.passes;
          after = rw d.same at (checks-of table (batch_of d.passes.parts.keys (keep_last d.passes.messages)) (new-passes table batch d.passes bs));
        }

pub compaction-keeps : CompactionKeeps
unfolding new-passes
compaction-keeps table batch room new k bs e = go (done-of table batch room new e)
  where
    go : Done table batch room new → found_bytes new (finds_last table new k) ≡ found_bytes batch (finds_last table batch k)
    go d =
        let p = d.passes in
        rw (← d.same) (found-last-bytes table (batch_of p.parts.keys (keep_last p.messages)) (new-passes table batch p bs) k
        ∙ ap bytes_or (last-keep k p.messages) ∙ sym (found-last-bytes table batch p k))
