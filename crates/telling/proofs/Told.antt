-- Each case of an answer has the number and the place that the definition gives it.
-- Assumes nothing.
use mathlib.Core.Path.{◌≡◌, refl}
use mathlib.Core.Bool.{Bool}
use Prim.Native.Nat.{ℕ}
use Rattle.wire.specs.declared.Refusal.{Refusal}
use Rattle.wire.specs.declared.Layout.{Layout}
use Rattle.wire.specs.Checked.{Checked}
use Rattle.wire.specs.Checked.{Good, Bad}
use Rattle.wire.specs.ReadAnswer.{ReadAnswer}
use Rattle.wire.specs.ReadAnswer.{Done, Refused as NotRead}
use Rattle.wire.specs.WriteAnswer.{WriteAnswer}
use Rattle.wire.specs.WriteAnswer.{Done as Written, Refused as NotWritten}
use Rattle.wire.specs.declared.Side.{Side}
use Rattle.wire.specs.AskAnswer.{AskAnswer}
use Rattle.wire.specs.AskAnswer.{Says, Refused as NotAsked, ShortArea}
use Rattle.wire.specs.TakeAnswer.{TakeAnswer}
use Rattle.wire.specs.TakeAnswer.{Done as Taken, Refused as NotTaken}
use Rattle.wire.specs.Answers.{side_number, yes_number, refusal_number, numbered, done, check_says, read_says, write_says, take_says, ask_says, place_after}
use Rattle.desk.specs.OpenAnswer.{OpenAnswer}
use Rattle.desk.specs.OpenAnswer.{Done as OpenDone, Refused as NotOpened, ShortList}
use Rattle.desk.specs.Listed.{open_says, open_count}
use Rattle.desk.specs.FindAnswer.{FindAnswer}
use Rattle.desk.specs.FindAnswer.{Found as AtPath, NoItem, Absent, Refused as NotFound}
use Rattle.desk.specs.Path.{find_says}
use Rattle.desk.specs.Path as path
use Rattle.desk.specs.CompareAnswer.{CompareAnswer}
use Rattle.desk.specs.CompareAnswer.{Done as AllPairs, Short, Refused as NotCompared, OtherRefused}
use Rattle.desk.specs.Differ.{compare_says}
use Rattle.desk.specs.Differ as differ
use Rattle.desk.specs.declared.Fault.{Fault}
use Rattle.desk.specs.declared.Fault.TheVariants.{Wire, Fields, Batch as BadBatch, Missing}
use Rattle.desk.specs.BatchWritten.{BatchWritten}
use Rattle.desk.specs.BatchWritten.{Done as BatchDone, Refused as NoBatch}
use Rattle.desk.specs.BatchChecked.{BatchChecked}
use Rattle.desk.specs.BatchChecked.{Good as GoodBatch, Bad as NotGood}
use Rattle.desk.specs.BatchFound.{BatchFound}
use Rattle.desk.specs.BatchFound.{Part, Refused as NoPart}
use Rattle.desk.specs.Batch.{fault_says, written_says, checked_says, found_says, from_of, len_of}
use Rattle.desk.specs.CsvAnswer.{CsvAnswer}
use Rattle.desk.specs.CsvAnswer.{Done as RowDone, Refused as NoRowMade, Unfit, NoRow}
use Rattle.desk.specs.Csv.{csv_says}
use Rattle.telling.specs.Told.{Told, count_of, Counted, CountedOpen, which_of, yes_of, ToldAsked, first_of, second_of, at_of, Took, Found, ToldCompared, ToldPart}

-- ---- the check

module _ {a : Checked} where
  pub check-good : {l : Layout} → a ≡ Good l → Told (check_says a) 0 0
  unfolding check_says done
  check-good g = rw g (record { number = refl; place = refl })

  pub check-bad : {w : Refusal} {i n : ℕ} → a ≡ Bad w i → n ≡ refusal_number w → Told (check_says a) n i
  unfolding check_says numbered
  check-bad g k = rw g (record { number = k; place = refl })

-- ---- reading

module _ {a : ReadAnswer} where
  pub count-done : {p n : ℕ} → a ≡ Done p n → Counted a 0 p n
  unfolding read_says done count_of
  count-done g = rw g (record { told = record { number = refl; place = refl }; count = refl })

  pub count-refused : {why : Refusal} {p n m : ℕ} → a ≡ NotRead why p n → m ≡ refusal_number why → Counted a m p n
  unfolding read_says numbered count_of
  count-refused g k = rw g (record { told = record { number = k; place = refl }; count = refl })

-- ---- reading with a list of open items

module _ {a : OpenAnswer} where
  pub open_done : {p n : ℕ} → a ≡ OpenDone p n → CountedOpen a 0 p n
  unfolding open_says open_count done
  open_done g = rw g (record { told = record { number = refl; place = refl }; count = refl })

  pub open-refused : {why : Refusal} {p n m : ℕ} → a ≡ NotOpened why p n → m ≡ refusal_number why → CountedOpen a m p n
  unfolding open_says open_count numbered
  open-refused g k = rw g (record { told = record { number = k; place = refl }; count = refl })

  pub open-short : a ≡ ShortList → CountedOpen a 22 0 0
  unfolding open_says open_count
  open-short g = rw g (record { told = record { number = refl; place = refl }; count = refl })

-- ---- writing

module _ {a : WriteAnswer} where
  pub write_done : {p : ℕ} → a ≡ Written p → Told (write_says a) 0 p
  unfolding write_says done
  write_done g = rw g (record { number = refl; place = refl })

  pub write-refused : {e : Refusal} {p m : ℕ} → a ≡ NotWritten e p → m ≡ refusal_number e → Told (write_says a) m p
  unfolding write_says numbered
  write-refused g k = rw g (record { number = k; place = refl })

-- ---- the append question

module _ {a : AskAnswer} where
  pub ask-says : {y : Bool} {n : ℕ} → a ≡ Says y → n ≡ yes_number y → ToldAsked a 0 0 0 n
  unfolding ask_says done which_of yes_of
  ask-says g e = rw g (record { told = record { number = refl; place = refl }; which = refl; yes = e })

  pub ask-refused : {t : Side} {w : Refusal} {i n m : ℕ} → a ≡ NotAsked t w i → n ≡ refusal_number w → m ≡ side_number t → ToldAsked a n i m 0
  unfolding ask_says numbered which_of yes_of
  ask-refused g e k = rw g (record { told = record { number = e; place = refl }; which = k; yes = refl })

  pub ask-short : a ≡ ShortArea → ToldAsked a 25 0 0 0
  unfolding ask_says which_of yes_of
  ask-short g = rw g (record { told = record { number = refl; place = refl }; which = refl; yes = refl })

-- ---- one item

module _ {t : TakeAnswer} {before : ℕ} where
  pub take_done : {a b at p : ℕ} → t ≡ Taken a b at p → Took t before 0 p a b at
  unfolding take_says done place_after first_of second_of at_of
  take_done g = rw g (record { number = refl; place = refl; first = refl; second = refl; at = refl })

  pub take-refused : {p n : ℕ} {w : Refusal} → t ≡ NotTaken w p → n ≡ refusal_number w → Took t before n before 0 0 0
  unfolding take_says numbered place_after first_of second_of at_of
  take-refused g k = rw g (record { number = k; place = refl; first = refl; second = refl; at = refl })

-- ---- one item by its path

module _ {a : FindAnswer} where
  pub find-found : {p x y : ℕ} → a ≡ AtPath x y p → Found a 0 p x y
  unfolding find_says done path.first_of path.second_of
  find-found g = rw g (record { told = record { number = refl; place = refl }; first = refl; second = refl })

  pub find_none : a ≡ NoItem → Found a 13 0 0 0
  unfolding find_says path.first_of path.second_of
  find_none g = rw g (record { told = record { number = refl; place = refl }; first = refl; second = refl })

  pub find_absent : {p : ℕ} → a ≡ Absent p → Found a 14 p 0 0
  unfolding find_says path.first_of path.second_of
  find_absent g = rw g (record { told = record { number = refl; place = refl }; first = refl; second = refl })

  pub find-refused : {w : Refusal} {p n : ℕ} → a ≡ NotFound w p → n ≡ refusal_number w → Found a n p 0 0
  unfolding find_says numbered path.first_of path.second_of
  find-refused g k = rw g (record { told = record { number = k; place = refl }; first = refl; second = refl })

-- ---- two messages side by side

module _ {a : CompareAnswer} where
  pub compare-done : {n : ℕ} → a ≡ AllPairs n → ToldCompared a 0 0 0 n
  unfolding compare_says done differ.which_of differ.count_of
  compare-done g = rw g (record { told = record { number = refl; place = refl }; which = refl; count = refl })

  pub compare-short : a ≡ Short → ToldCompared a 15 0 0 0
  unfolding compare_says differ.which_of differ.count_of
  compare-short g = rw g (record { told = record { number = refl; place = refl }; which = refl; count = refl })

  pub compare-refused : {e : Refusal} {p n : ℕ} → a ≡ NotCompared e p → n ≡ refusal_number e → ToldCompared a n p 0 0
  unfolding compare_says numbered differ.which_of differ.count_of
  compare-refused g k = rw g (record { told = record { number = k; place = refl }; which = refl; count = refl })

  pub compare-other : {e : Refusal} {p n : ℕ} → a ≡ OtherRefused e p → n ≡ refusal_number e → ToldCompared a n p 1 0
  unfolding compare_says numbered differ.which_of differ.count_of
  compare-other g k = rw g (record { told = record { number = k; place = refl }; which = refl; count = refl })

-- ---- night batches

module _ {f : Fault} where
  pub fault-wire : {e : Refusal} {p n : ℕ} → f ≡ Wire e p → n ≡ refusal_number e → Told (fault_says f) n p
  unfolding fault_says
  fault-wire g k = rw g (record { number = k; place = refl })

  pub fault-fields : f ≡ Fields → Told (fault_says f) 17 0
  unfolding fault_says
  fault-fields g = rw g (record { number = refl; place = refl })

  pub fault-batch : f ≡ BadBatch → Told (fault_says f) 18 0
  unfolding fault_says
  fault-batch g = rw g (record { number = refl; place = refl })

  pub fault-missing : f ≡ Missing → Told (fault_says f) 19 0
  unfolding fault_says
  fault-missing g = rw g (record { number = refl; place = refl })

module _ {a : BatchWritten} where
  pub batch-done : {p : ℕ} → a ≡ BatchDone p → Told (written_says a) 0 p
  unfolding written_says done
  batch-done g = rw g (record { number = refl; place = refl })

  pub batch-refused : {f : Fault} {p n : ℕ} → a ≡ NoBatch f → Told (fault_says f) n p → Told (written_says a) n p
  unfolding written_says
  batch-refused g k = rw g k

module _ {a : BatchChecked} where
  pub batch-good : a ≡ GoodBatch → Told (checked_says a) 0 0
  unfolding checked_says done
  batch-good g = rw g (record { number = refl; place = refl })

  pub batch-bad : {f : Fault} {p n : ℕ} → a ≡ NotGood f → Told (fault_says f) n p → Told (checked_says a) n p
  unfolding checked_says
  batch-bad g k = rw g k

module _ {a : BatchFound} where
  pub part-found : {from len : ℕ} → a ≡ Part from len → ToldPart a 0 0 from len
  unfolding found_says done from_of len_of
  part-found g = rw g (record { told = record { number = refl; place = refl }; starts = refl; long = refl })

  pub part-refused : {f : Fault} {p n : ℕ} → a ≡ NoPart f → Told (fault_says f) n p → ToldPart a n p 0 0
  unfolding found_says from_of len_of
  part-refused g k = rw g (record { told = k; starts = refl; long = refl })

-- ---- CSV rows

module _ {a : CsvAnswer} where
  pub row_done : {p : ℕ} → a ≡ RowDone p → Told (csv_says a) 0 p
  unfolding csv_says done
  row_done g = rw g (record { number = refl; place = refl })

  pub row-refused : {e : Refusal} {p n : ℕ} → a ≡ NoRowMade e p → n ≡ refusal_number e → Told (csv_says a) n p
  unfolding csv_says numbered
  row-refused g k = rw g (record { number = k; place = refl })

  pub row-unfit : a ≡ Unfit → Told (csv_says a) 20 0
  unfolding csv_says
  row-unfit g = rw g (record { number = refl; place = refl })

  pub row-none : {p : ℕ} → a ≡ NoRow p → Told (csv_says a) 21 p
  unfolding csv_says
  row-none g = rw g (record { number = refl; place = refl })
