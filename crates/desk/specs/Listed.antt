-- Reading with a lent list of open items (T-12): a list that is too short is refused before all else; else it is a reading.
-- Assumes nothing.
use Rattle.std.specs.Prelude.{◌≡◌, List, [], ℕ, length, drop, leb, Err, Ok}
use Rattle.wire.specs.ReadAnswer.{ReadAnswer}
use Rattle.wire.specs.ReadAnswer.{Done as Read, Refused as NotRead}
use Rattle.desk.specs.OpenAnswer.{OpenAnswer}
use Rattle.desk.specs.OpenAnswer.{Done, Refused, ShortList}
use Rattle.wire.specs.Tests.{given}
use Rattle.wire.specs.Reading.{Run}
use Rattle.wire.specs.Answers.{Numbered, numbered, done, run_answer, store_with, zeroed}

-- the words of a list: four for each of 256 open items
unfoldable pub list_words : ℕ
list_words = 1024

-- a reading's answer, as this call's
unfoldable pub open_answer : ReadAnswer → OpenAnswer
open_answer (Ok r) = Done r.place r.count
open_answer (Err r) = Refused r.why r.place r.count

-- the answer of a run with a list of so many words
unfoldable pub listed_answer : (words : ℕ) → Run → OpenAnswer
listed_answer words r = given (leb list_words words) (λ _. open_answer (run_answer r)) ShortList

-- the store after it: too short a list changes nothing
unfoldable pub listed_store : (words : ℕ) → Run → List ℕ → List ℕ
listed_store words r store = given (leb list_words words) (λ _. store_with r.made store) store

-- the list after it: its words are handed back zero, later ones as before; too short a list is unchanged
unfoldable pub list_after : List ℕ → List ℕ
list_after list = given (leb list_words (length list)) (λ _. zeroed list_words list) list

-- the answer's number and place
unfoldable pub open_says : OpenAnswer → Numbered
open_says (Ok r) = done r.place
open_says (Refused why p n) = numbered why p
open_says ShortList = record { number = 22; place = 0 }

-- the entries made
unfoldable pub open_count : OpenAnswer → ℕ
open_count (Ok r) = r.count
open_count (Refused why p n) = n
open_count ShortList = 0

-- the unread bytes: none on a refusal
unfoldable pub open_rest : List ℕ → OpenAnswer → List ℕ
open_rest message (Ok r) = drop r.place message
open_rest message (Refused why p n) = []
open_rest message ShortList = []

-- the answer, the store and the list as they are left are those of a run
pub record ReadsListed (w : Run) (store list : List ℕ) (a : OpenAnswer) (left list_left : List ℕ) : Type 0 where
  pub answered : a ≡ listed_answer (length list) w
  pub stored : left ≡ listed_store (length list) w store
  pub cleared : list_left ≡ list_after list
