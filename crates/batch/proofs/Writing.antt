-- Writing: what refuses first, and the batch where nothing does.
-- Assumes nothing.
use mathlib.Core.Path.{◌≡◌, refl, sym, ap, ◌∙◌, subst}
use mathlib.Core.Bool.{Bool, true, false}
use mathlib.Core.List.{List, ◌++◌}
use Prim.Native.Nat.{ℕ, ◌+◌, ◌-◌, ◌*◌, ◌^◌, ◌≤◌, ◌<◌}
use lib.ListN.{length, take, drop}
use lib.Seq.{length-take-le}
use lib.Dec.{ltb}
use borrow.Author.Tests.{ltb-true, le-leb, lt-leb}
use Rattle.wire.specs.declared.Refusal.{Refusal}
use Rattle.wire.specs.declared.Refusal.TheVariants.{Full}
use Rattle.wire.specs.declared.Layout.{Layout}
use Rattle.wire.specs.Checked.{Checked}
use Rattle.wire.specs.Checked.{Good as GoodTable, Bad as BadTable}
use Rattle.wire.specs.Tests.{pick, both}
use Rattle.wire.specs.Table.{shape_of, check}
use Rattle.laws.proofs.Splits.{both_left, both_right}
use Rattle.desk.specs.declared.Fault.{Fault}
use Rattle.desk.specs.declared.Fault.TheVariants.{Wire, Fields as BadFields, Batch as BadBatch}
use Rattle.desk.specs.BatchWritten.{BatchWritten}
use Rattle.desk.specs.BatchWritten.{Done, Refused}
use Rattle.desk.specs.Messages.{Keyed, Message, Split, whole, split, rows_of}
use Rattle.desk.specs.Batch.{Or, so, fault, after, shape_by, tabled, keyed, in_room, trailer, batch_of, split_by, offsets_fit, sized, writes, written_answer, out_with}
use Rattle.batches.specs.Reads.{Reads}
use Rattle.batches.proofs.Ends.{split-reads, reads-joined}
use Rattle.batches.proofs.Keys.{rows_fit}
use Rattle.batches.proofs.Compacting.{length-batch}
use Rattle.messages.specs.declared.Fields.{Fields}
use Rattle.messages.specs.Found.{Found}
use Rattle.messages.specs.Found.{At, Unfit}
use Rattle.messages.specs.Fields.{keys_of, Finds, found, unfit}
use Rattle.laying.specs.Counted.{Counted}
use Rattle.laying.specs.Counted.{All, Stopped}
use Rattle.laying.specs.Counts.{Counts, counts, breaks, rows_for, ending, Laid, batch_for}
use Rattle.laying.proofs.Laying.{sorted-rows}
use Rattle.batch.specs.Writing.{Writes, Fitting, made_by}

-- a refusal leaves the output
pub unwritten : {made : Or (List ℕ)} {out : List ℕ} {why : Fault} → made ≡ fault why → Writes made out (Refused why) out
unwritten e = record { answered = unfold written_answer in rw e; stored = unfold out_with in rw e }

module _ {table : List ℕ} {l : Layout} {f : Fields} {store product : ℕ} (fit : Fitting table l f store product) (bytes out : List ℕ) where
  abbrev k : Keyed
  k = keys_of table l f

  abbrev made : Or (List ℕ)
  made = made_by table l f bytes (length out)

  made-stops : {x : Split} {why : Refusal} {p : ℕ} → split k bytes ≡ x → Counts x (Stopped why p) → made ≡ fault (Wire why p)
  unfolding made_by
  made-stops e breaks = rw e (unfold split_by after in refl)

  pub write-stops : {r : Counted} {why : Refusal} {p : ℕ} → Counts (split k bytes) r → r ≡ Stopped why p → Writes made out (Refused (Wire why p)) out
  write-stops c q = unwritten (made-stops refl (rw q at c))

  record Ready (n last : ℕ) : Type 0 where
    ms : List Message
    is : split k bytes ≡ whole ms
    many : length ms ≡ n
    offsets : offsets_fit (rows_of 0 ms) ≡ ltb last (2 ^ 32)

  ready : {x : Split} {n last : ℕ} → split k bytes ≡ x → Counts x (All n last) → Ready n last
  ready e (counts {ms} a b) = record { ms = ms; is = e; many = a; offsets = b }

  module _ {r : Counted} {n last : ℕ} (c : Counts (split k bytes) r) (q : r ≡ All n last) where
    rd : Ready n last
    rd = ready refl (rw q at c)

    size-test : {t : Bool} → t ≡ both (ltb last (2 ^ 32)) (both (ltb n (2 ^ 32)) (ltb (16 * n) (2 ^ 32)))
        → t ≡ both (offsets_fit (rows_of 0 rd.ms)) (both (ltb (length rd.ms) (2 ^ 32)) (ltb (16 * length rd.ms) (2 ^ 32)))
    size-test e = e ∙ rw (rd.offsets, rd.many)

    made-sized : made ≡ after (sized rd.ms) (λ ms. in_room (length out) (batch_of k ms))
    unfolding made_by
    made-sized = rw rd.is (unfold split_by after in refl)

    pub write-large : {t : Bool} → t ≡ both (ltb last (2 ^ 32)) (both (ltb n (2 ^ 32)) (ltb (16 * n) (2 ^ 32))) → t ≡ false → Writes made out (Refused BadBatch) out
    write-large e z = unwritten (made-sized ∙ (unfold sized pick after in rw (sym (size-test e) ∙ z)))

    module _ {t : Bool} (e : t ≡ both (ltb last (2 ^ 32)) (both (ltb n (2 ^ 32)) (ltb (16 * n) (2 ^ 32)))) (z : t ≡ true) where
      pub write-few : 16 * n < 2 ^ 32
      write-few = ltb-true (16 * n) (2 ^ 32) (both_right _ _ (both_right _ _ (sym e ∙ z)))

      made-room : made ≡ in_room (length out) (batch_of k rd.ms)
      made-room = made-sized ∙ (unfold sized pick after in rw (sym (size-test e) ∙ z))

      reads : Reads k bytes rd.ms
      reads = (split-reads k bytes rd.ms).0 rd.is

      size : length (batch_of k rd.ms) ≡ length bytes + (16 * n + 12)
      size = length-batch k rd.ms ∙ rw (reads-joined reads, rd.many)

      pub write-full : length out < length bytes + (16 * n + 12) → Writes made out (Refused (Wire Full 0)) out
      write-full h = unwritten (made-room ∙ (unfold in_room pick in rw (size, lt-leb (length bytes + (16 * n + 12)) (length out) h)))

      pub write-laid : length bytes + (16 * n + 12) ≤ length out → Laid (split k bytes) bytes n (take (length bytes + (16 * n + 12)) out)
      write-laid h =
          record {
            them = rd.ms;
            is = rd.is;
            many = rd.many;
            fits = rows_fit 0 fit.by.fits reads (rd.offsets ∙ both_left _ _ (sym e ∙ z));
            few = write-few;
            room = length-take-le (length bytes + (16 * n + 12)) out h;
          }

      same-batch : batch_for (split k bytes) bytes n store product ≡ batch_of k rd.ms
      same-batch = ap (λ x. batch_for x bytes n store product) rd.is ∙ go
        where
          go : batch_for (whole rd.ms) bytes n store product ≡ batch_of k rd.ms
          go = unfold batch_for batch_of rows_for ending trailer in
              rw (reads-joined reads, sorted-rows (rows_of 0 rd.ms) (rows_fit 0 fit.by.fits reads (rd.offsets ∙ both_left _ _ (sym e ∙ z))), rd.many, fit.is)

      pub write_done : length bytes + (16 * n + 12) ≤ length out → {a : List ℕ} → a ≡ batch_for (split k bytes) bytes n store product
          → Writes made out (Done (length bytes + (16 * n + 12))) (a ++ drop (length bytes + (16 * n + 12)) out)
      write_done h {a} q = stored (made-room ∙ (unfold in_room pick in rw (size, le-leb (length bytes + (16 * n + 12)) (length out) h)))
        where
          stored : made ≡ so (batch_of k rd.ms) → Writes made out (Done (length bytes + (16 * n + 12))) (a ++ drop (length bytes + (16 * n + 12)) out)
          stored done = record { answered = unfold written_answer in rw (done, size); stored = unfold out_with in rw (done, size, q, same-batch) }

-- ---- the call

pub fitting-of : {table : List ℕ} {l : Layout} {store product : ℕ} {r : Found} {f : Fields} → Finds table l store product r → r ≡ At f → Fitting table l f store product
fitting-of {table} {l} {store} {product} {r} {f} s a = go (rw a at s)
  where
    go : Finds table l store product (At f) → Fitting table l f store product
    go (found x y) = record { by = x; is = y }

module _ (table bytes : List ℕ) (store product : ℕ) (out : List ℕ) where
  abbrev all : Or (List ℕ)
  all = writes table bytes store product (length out)

  pub write-table : {c : Checked} {why : Refusal} {i : ℕ} → c ≡ check table → c ≡ BadTable why i → Writes all out (Refused (Wire why i)) out
  write-table e q = unwritten (unfold writes tabled shape_by after in rw (sym e ∙ q))

  module _ {l : Layout} {c : Checked} (e : c ≡ check table) (q : c ≡ GoodTable l) where
    by-keys : all ≡ after (keyed (record { shape = shape_of table l; store = store; product = product })) (λ k. after (split_by (split k bytes)) (λ ms. after (sized ms) (λ ms. in_room (length out) (batch_of k ms))))
    by-keys = unfold writes tabled shape_by after in rw (sym e ∙ q)

    pub write-unfit : {r : Found} → Finds table l store product r → r ≡ Unfit → Writes all out (Refused BadFields) out
    write-unfit {r} s a = go (rw a at s)
      where
        go : Finds table l store product Unfit → Writes all out (Refused BadFields) out
        go (unfit z) = unwritten (by-keys ∙ (unfold keyed pick after in rw z))

    pub write-all : {f : Fields} {answer : BatchWritten} {after' : List ℕ} → Fitting table l f store product → Writes (made_by table l f bytes (length out)) out answer after' → Writes all out answer after'
    write-all {f} {answer} {after'} fit w = subst (λ m. Writes m out answer after') (sym same) w
      where
        same : all ≡ made_by table l f bytes (length out)
        same = by-keys ∙ (unfold keyed pick after made_by in rw (← fit.is, fit.by.fits))
