-- Compaction: what refuses first, and the batch of what is kept where nothing does.
-- Assumes nothing.
use mathlib.Core.Path.{◌≡◌, refl, sym, ap, ◌∙◌, subst}
use mathlib.Core.Bool.{Bool, true, false}
use mathlib.Core.List.{List, ◌++◌}
use Prim.Native.Nat.{ℕ, ◌+◌, ◌-◌, ◌*◌, ◌≤◌}
use native.Mathlib.Omega.{arith}
use lib.ListN.{length, take, drop}
use lib.Seq.{length-take-le}
use lib.Dec.{leb}
use borrow.Author.Tests.{leb-true}
use Rattle.wire.specs.declared.Refusal.{Refusal}
use Rattle.wire.specs.declared.Refusal.TheVariants.{Full}
use Rattle.wire.specs.declared.Layout.{Layout}
use Rattle.wire.specs.Checked.{Checked}
use Rattle.wire.specs.Checked.{Good as GoodTable, Bad as BadTable}
use Rattle.wire.specs.Tests.{pick}
use Rattle.wire.specs.Table.{shape_of, check}
use Rattle.desk.specs.declared.Fault.{Fault}
use Rattle.desk.specs.declared.Fault.TheVariants.{Wire, Batch as BadBatch}
use Rattle.desk.specs.BatchWritten.{BatchWritten}
use Rattle.desk.specs.BatchWritten.{Done, Refused}
use Rattle.desk.specs.Messages.{Message, joined, rows_of}
use Rattle.desk.specs.Batch.{Or, so, fault, after, shape_by, tabled, in_room, batch_of, Parts, opened, messages_of, written_answer, out_with}
use Rattle.desk.specs.Compact.{keep_last, compacts}
use Rattle.batches.proofs.Bytes.{length-sort, length-rows_of}
use Rattle.batches.proofs.Keeping.{keep-fewer}
use Rattle.batches.proofs.Checks.{messages-pass}
use Rattle.batches.proofs.Compacting.{length-batch}
use Rattle.row.specs.Ranks.{row_count, rows_in}
use Rattle.row.proofs.Bytes.{length-rows_in}
use Rattle.messages.specs.declared.Fields.{Fields}
use Rattle.messages.specs.Fields.{keys_of, KeyedBy}
use Rattle.keeping.specs.declared.Surveyed.{Surveyed}
use Rattle.starts.specs.Window.{parts_in, Judges, good, bad}
use Rattle.keeping.specs.Kept.{Good, survey_of, Keeps, batch_kept}
use Rattle.batch.specs.Taking.{Opened}
use Rattle.batch.specs.Taking.{Refused as NotOpened}
use Rattle.batch.specs.Opened.{row_bytes_of, Parted, Opens, refuses}
use Rattle.batch.specs.Writing.{Writes}
use Rattle.batch.specs.Compacting.{compacted_by}
use Rattle.batch.proofs.Writing.{unwritten}

pub judged-good : {b : Parts} {t : Bool} → Judges b t → t ≡ true → Good b
judged-good {b} j q = go (subst (Judges b) q j)
  where
    go : Judges b true → Good b
    go (good {ms} e) = record { them = ms; is = e }

module _ {table : List ℕ} {l : Layout} {f : Fields} (by : KeyedBy table l f) (front rows out : List ℕ) where
  abbrev parts : Parts
  parts = parts_in table l f front rows

  abbrev made : Or (List ℕ)
  made = compacted_by parts (length out)

  is-bad : messages_of parts ≡ fault BadBatch → Writes made out (Refused BadBatch) out
  is-bad e = unwritten (unfold compacted_by after in rw e)

  pub compact-bad : {t : Bool} → Judges parts t → t ≡ false → Writes made out (Refused BadBatch) out
  compact-bad j q = go (subst (Judges parts) q j)
    where
      go : Judges parts false → Writes made out (Refused BadBatch) out
      go (bad e) = is-bad e

  module _ (g : Good parts) {r : Surveyed} (s : r ≡ survey_of (messages_of parts)) where
    abbrev ms : List Message
    ms = g.them

    abbrev count : ℕ
    count = r.count

    abbrev len : ℕ
    len = r.len

    told : r ≡ record { count = length (keep_last ms); len = length (joined (keep_last ms)) }
    told = s ∙ ap survey_of g.is ∙ (unfold survey_of in refl)

    many : length (keep_last ms) ≡ count
    many = sym (ap (λ (r : Surveyed). r.count) told)

    bytes : length (joined (keep_last ms)) ≡ len
    bytes = sym (ap (λ (r : Surveyed). r.len) told)

    pub compact-few : 16 * count ≤ length rows
    compact-few = messages-pass parts g.is (λ a e. small (ap length e ∙ length-sort (rows_of 0 ms) ∙ length-rows_of 0 ms))
      where
        small : length (rows_in rows) ≡ length ms → 16 * count ≤ length rows
        small e = unfold row_count in omega (arith, keep-fewer ms, many, length-rows_in rows)

    size : length (batch_of (keys_of table l f) (keep_last ms)) ≡ len + (16 * count + 12)
    size = length-batch (keys_of table l f) (keep_last ms) ∙ rw (bytes, many)

    made-room : made ≡ in_room (length out) (batch_of (keys_of table l f) (keep_last ms))
    made-room = unfold compacted_by after in rw g.is

    pub compact-full : {t : Bool} → t ≡ leb (len + (16 * count + 12)) (length out) → t ≡ false → Writes made out (Refused (Wire Full 0)) out
    compact-full e z = unwritten (made-room ∙ (unfold in_room pick in rw (size, sym e ∙ z)))

    module _ {t : Bool} (e : t ≡ leb (len + (16 * count + 12)) (length out)) (z : t ≡ true) where
      pub compact-fits : len + (16 * count + 12) ≤ length out
      compact-fits = leb-true (len + (16 * count + 12)) (length out) (sym e ∙ z)

      total : len + 16 * count + 12 ≡ len + (16 * count + 12)
      total = omega arith

      pub compact-sizes : length (take (len + 16 * count + 12) out) ≡ len + (16 * count + 12)
      compact-sizes = length-take-le (len + 16 * count + 12) out (omega (arith, compact-fits)) ∙ total

      pub compact-keeps : Keeps table l f front rows len (take (len + 16 * count + 12) out)
      compact-keeps = record { them = ms; is = g.is; size = bytes; room = compact-sizes ∙ rw (many) }

      pub compact-done : {a : List ℕ} → a ≡ batch_kept (keys_of table l f) (messages_of parts) → Writes made out (Done (len + 16 * count + 12)) (a ++ drop (len + 16 * count + 12) out)
      compact-done {a} q = stored (made-room ∙ (unfold in_room pick in rw (size, sym e ∙ z)))
        where
          same : a ≡ batch_of (keys_of table l f) (keep_last ms)
          same = q ∙ ap (batch_kept (keys_of table l f)) g.is ∙ (unfold batch_kept in refl)

          stored : made ≡ so (batch_of (keys_of table l f) (keep_last ms)) → Writes made out (Done (len + 16 * count + 12)) (a ++ drop (len + 16 * count + 12) out)
          stored done = record { answered = unfold written_answer in rw (done, size, total); stored = unfold out_with in rw (done, size, same, total) }

-- ---- the call

module _ (table batch out : List ℕ) where
  abbrev all : Or (List ℕ)
  all = compacts table batch (length out)

  pub compact-table : {c : Checked} {why : Refusal} {i : ℕ} → c ≡ check table → c ≡ BadTable why i → Writes all out (Refused (Wire why i)) out
  compact-table e q = unwritten (unfold compacts tabled shape_by after in rw (sym e ∙ q))

  module _ {l : Layout} {c : Checked} (e : c ≡ check table) (q : c ≡ GoodTable l) where
    by_parts : all ≡ after (opened (shape_of table l) batch) (λ b. after (messages_of b) (λ ms. in_room (length out) (batch_of b.keys (keep_last ms))))
    by_parts = unfold compacts tabled shape_by after in rw (sym e ∙ q)

    pub compact-fault : {r : Opened} {why : Fault} → Opens table l batch r → r ≡ NotOpened why → Writes all out (Refused why) out
    compact-fault {why} o a = go (rw a at o)
      where
        go : Opens table l batch (NotOpened why) → Writes all out (Refused why) out
        go (refuses z) = unwritten (by_parts ∙ (unfold after in rw z))

    pub compact-all : {f : Fields} {start end : ℕ} {answer : BatchWritten} {after' : List ℕ} → Parted table l batch f start end
        → Writes (compacted_by (parts_in table l f (take start batch) (row_bytes_of batch start end)) (length out)) out answer after' → Writes all out answer after'
    compact-all {f} {start} {end} {answer} {after'} p w = subst (λ m. Writes m out answer after') (sym same) w
      where
        same : all ≡ compacted_by (parts_in table l f (take start batch) (row_bytes_of batch start end)) (length out)
        same = by_parts ∙ (unfold after compacted_by in rw p.is)
