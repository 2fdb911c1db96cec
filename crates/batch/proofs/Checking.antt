-- The whole check: what refuses first, and what is judged of the parts.
-- Assumes nothing.
use mathlib.Core.Path.{◌≡◌, sym, ◌∙◌}
use mathlib.Core.Bool.{Bool, true, false}
use mathlib.Core.List.{List}
use Prim.Native.Nat.{ℕ}
use lib.ListN.{take}
use Rattle.wire.specs.declared.Refusal.{Refusal}
use Rattle.wire.specs.declared.Layout.{Layout}
use Rattle.wire.specs.Checked.{Checked}
use Rattle.wire.specs.Checked.{Good as GoodTable, Bad as BadTable}
use Rattle.wire.specs.Table.{shape_of, check}
use Rattle.desk.specs.declared.Fault.{Fault}
use Rattle.desk.specs.declared.Fault.TheVariants.{Wire, Batch as BadBatch}
use Rattle.desk.specs.BatchChecked.{Good, Bad}
use Rattle.desk.specs.Batch.{after, shape_by, tabled, Parts, opened, messages_of, checks, checked_answer, batch_check}
use Rattle.messages.specs.declared.Fields.{Fields}
use Rattle.starts.specs.Window.{parts_in, Judges, good, bad}
use Rattle.batch.specs.Taking.{Opened}
use Rattle.batch.specs.Taking.{Refused}
use Rattle.batch.specs.Opened.{row_bytes_of, parts_of, Parted, Opens, refuses}

module _ (table batch : List ℕ) where
  pub check-table : {c : Checked} {why : Refusal} {i : ℕ} → c ≡ check table → c ≡ BadTable why i → Bad (Wire why i) ≡ batch_check table batch
  unfolding batch_check checks tabled shape_by after checked_answer
  check-table e q = rw (sym e ∙ q)

  module _ {l : Layout} {c : Checked} (e : c ≡ check table) (q : c ≡ GoodTable l) where
    by_parts : batch_check table batch ≡ checked_answer (after (opened (shape_of table l) batch) (λ b. messages_of b))
    unfolding batch_check checks tabled shape_by after
    by_parts = rw (sym e ∙ q)

    pub check-fault : {r : Opened} {why : Fault} → Opens table l batch r → r ≡ Refused why → Bad why ≡ batch_check table batch
    check-fault {why} o a = go (rw a at o)
      where
        go : Opens table l batch (Refused why) → Bad why ≡ batch_check table batch
        go (refuses z) = sym (by_parts ∙ (unfold after checked_answer in rw z))

    module _ {f : Fields} {start end : ℕ} (p : Parted table l batch f start end) where
      by-messages : batch_check table batch ≡ checked_answer (messages_of (parts_of table l batch f start end))
      by-messages = by_parts ∙ (unfold after in rw p.is)

      abbrev parts : Parts
      parts = parts_in table l f (take start batch) (row_bytes_of batch start end)

      pub check-good : {t : Bool} → Judges parts t → t ≡ true → Good ≡ batch_check table batch
      check-good j a = go (rw a at j)
        where
          go : Judges parts true → Good ≡ batch_check table batch
          go (good z) = sym (by-messages ∙ (unfold checked_answer in rw z))

      pub check-bad : {t : Bool} → Judges parts t → t ≡ false → Bad BadBatch ≡ batch_check table batch
      check-bad j a = go (rw a at j)
        where
          go : Judges parts false → Bad BadBatch ≡ batch_check table batch
          go (bad z) = sym (by-messages ∙ (unfold checked_answer in rw z))
