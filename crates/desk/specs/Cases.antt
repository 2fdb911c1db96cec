-- Worked examples of document 02's questions: a call, and what it must answer.
-- Assumes nothing.
use Rattle.std.specs.Prelude.{◌≡◌, List, [], ◌∷◌, ◌++◌, ℕ, length, replicate}
use mathlib.Core.List as lists
use Rattle.wire.specs.Answers.{Numbered}
use Rattle.wire.specs.Cases.{table_t, tabled, leaf_table}
use Rattle.desk.specs.FindAnswer.{FindAnswer}
use Rattle.desk.specs.CompareAnswer.{CompareAnswer}
use Rattle.desk.specs.Path.{finds, find_says, first_of, second_of}
use Rattle.desk.specs.BatchFound.{BatchFound}
use Rattle.desk.specs.BatchFound.{Part as PartFound}
use Rattle.desk.specs.Differ.{compares, compare_answer, list_after, compare_says, which_of, count_of}
use Rattle.desk.specs.Compact.{batch_compact, batch_compact_out}
use Rattle.desk.specs.Csv.{Output, csv_answer, out_after, csv_says, csv_export}
use Rattle.desk.specs.Batch.{batch_write, batch_write_out, batch_check, batch_last, part_of, written_says, checked_says, found_says, from_of, len_of}

-- ---- one item by its path

pub record Finding : Type 0 where
  pub table : List ℕ
  pub path : List ℕ
  pub message : List ℕ

pub record Found : Type 0 where
  pub number : ℕ
  pub place : ℕ
  pub first : ℕ
  pub second : ℕ

unfoldable pub found_said : FindAnswer → Found
found_said a = record { number = (find_says a).number; place = (find_says a).place; first = first_of a; second = second_of a }

pub record FindCase : Type 0 where
  pub call : Finding
  pub said : Found

unfoldable pub finding : (table path message : List ℕ) → (number place first second : ℕ) → FindCase
finding table path message number place first second =
    record {
      call = record { table = table; path = path; message = message };
      said = record { number = number; place = place; first = first; second = second };
    }

unfoldable pub answer_of : Finding → Found
answer_of c = found_said (finds c.table c.path c.message)

abbrev pub FindsHold : List FindCase → Type 0
FindsHold cs = lists.map (λ (c : FindCase). answer_of c.call) cs ≡ lists.map (λ (c : FindCase). c.said) cs

-- S: a struct of an option of u8, a text, a sequence of u8 and a u8
unfoldable pub table_s : List ℕ
table_s =
    tabled
    (0x05 ∷ 0 ∷ 0 ∷ 0 ∷ 0 ∷ 0 ∷ 0x0f ∷ 0 ∷ 0 ∷ 0 ∷ 0 ∷ 0 ∷ 0x0c ∷ 0 ∷ 0 ∷ 0 ∷ 0 ∷ 0 ∷ 0x10 ∷ 0 ∷ 0 ∷ 0 ∷ 0 ∷ 0 ∷ 0x12 ∷ 0 ∷ 0 ∷ 0 ∷ 4 ∷ 0 ∷ [])
    (1 ∷ 0 ∷ 2 ∷ 0 ∷ 3 ∷ 0 ∷ 0 ∷ 0 ∷ []) 5 4

-- E: an enum with one variant, a u8
unfoldable pub table_e : List ℕ
table_e = tabled (0x05 ∷ 0 ∷ 0 ∷ 0 ∷ 0 ∷ 0 ∷ 0x13 ∷ 0 ∷ 0 ∷ 0 ∷ 1 ∷ 0 ∷ []) (0 ∷ 0 ∷ []) 2 1

-- O: an option of an option of a u8
unfoldable pub table_o : List ℕ
table_o = tabled (0x05 ∷ 0 ∷ 0 ∷ 0 ∷ 0 ∷ 0 ∷ 0x0f ∷ 0 ∷ 0 ∷ 0 ∷ 0 ∷ 0 ∷ 0x0f ∷ 0 ∷ 1 ∷ 0 ∷ 0 ∷ 0 ∷ []) [] 3 2

unfoldable pub find_cases : List FindCase
find_cases =
    -- the product of T; found though the read is refused later; refused before it
    finding table_t (1 ∷ []) (0xac ∷ 0x02 ∷ 0x05 ∷ 0x03 ∷ []) 0 2 5 0
    ∷ finding table_t (1 ∷ []) (0xac ∷ 0x02 ∷ 0x05 ∷ 0x80 ∷ []) 0 2 5 0
    ∷ finding table_t (2 ∷ []) (0xac ∷ 0x02 ∷ 0x85 ∷ []) 3 2 0 0
    -- a struct is no such item, nor is what isn't there, a unit or a variant's; the table alone decides
    ∷ finding table_t [] [] 13 0 0 0
    ∷ finding table_t (3 ∷ []) [] 13 0 0 0
    ∷ finding (leaf_table 14) [] [] 13 0 0 0
    ∷ finding table_e (0 ∷ []) (0 ∷ 9 ∷ []) 13 0 0 0
    -- through an option; absent, whatever follows; the first of two; a text's words
    ∷ finding table_s (0 ∷ 0 ∷ []) (1 ∷ 9 ∷ []) 0 1 9 0
    ∷ finding table_s (0 ∷ 0 ∷ []) (0 ∷ 0xff ∷ []) 14 0 0 0
    ∷ finding table_s (0 ∷ 0 ∷ []) (2 ∷ []) 8 0 0 0
    ∷ finding table_o (0 ∷ 0 ∷ []) (0 ∷ 1 ∷ 7 ∷ []) 14 0 0 0
    ∷ finding table_o (0 ∷ 0 ∷ []) (1 ∷ 0 ∷ 7 ∷ []) 14 1 0 0
    ∷ finding table_s (1 ∷ []) (1 ∷ 9 ∷ 2 ∷ 0x61 ∷ 0x62 ∷ []) 0 2 3 2
    -- an option in front is read, and isn't the path's
    ∷ finding table_s (3 ∷ []) (0 ∷ 0 ∷ 0 ∷ 7 ∷ []) 0 3 7 0
    ∷ finding (leaf_table 32) [] [] 2 0 0 0
    ∷ []

-- ---- two messages side by side

pub record Comparing : Type 0 where
  pub table : List ℕ
  pub one : List ℕ
  pub other : List ℕ
  pub list : List ℕ

pub record Compared : Type 0 where
  pub number : ℕ
  pub place : ℕ
  pub which : ℕ
  pub count : ℕ
  pub list : List ℕ

unfoldable pub compared_said : CompareAnswer → List ℕ → Compared
compared_said a list = record { number = (compare_says a).number; place = (compare_says a).place; which = which_of a; count = count_of a; list = list }

pub record CompareCase : Type 0 where
  pub call : Comparing
  pub said : Compared

unfoldable pub comparing : (table one other list : List ℕ) → (number place which count : ℕ) → (after : List ℕ) → CompareCase
comparing table one other list number place which count after =
    record {
      call = record { table = table; one = one; other = other; list = list };
      said = record { number = number; place = place; which = which; count = count; list = after };
    }

unfoldable pub compared_of : Comparing → Compared
compared_of c =
    compared_said (compare_answer (compares c.table c.one c.other) c.list) (list_after (compares c.table c.one c.other) c.list)

abbrev pub ComparesHold : List CompareCase → Type 0
ComparesHold cs = lists.map (λ (c : CompareCase). compared_of c.call) cs ≡ lists.map (λ (c : CompareCase). c.said) cs

unfoldable pub compare_cases : List CompareCase
compare_cases =
    -- 02's example; an overlong varint and the unread rest don't count
    comparing table_t (0xac ∷ 0x02 ∷ 0x05 ∷ 0x03 ∷ []) (0xac ∷ 0x02 ∷ 0x05 ∷ 0x05 ∷ []) (7 ∷ 7 ∷ 7 ∷ []) 0 0 0 1 (3 ∷ 3 ∷ 7 ∷ [])
    ∷ comparing table_t (0xac ∷ 0x02 ∷ 0x05 ∷ 0x03 ∷ []) (0xac ∷ 0x02 ∷ 0x85 ∷ 0x00 ∷ 0x03 ∷ 0x09 ∷ []) [] 0 0 0 0 []
    -- an option differs, its inside isn't compared, and the text behind it is the same at another place; then a count, and a u8
    ∷ comparing table_s (1 ∷ 9 ∷ 1 ∷ 0x61 ∷ 1 ∷ 5 ∷ 6 ∷ []) (0 ∷ 1 ∷ 0x61 ∷ 2 ∷ 5 ∷ 5 ∷ 7 ∷ []) (0 ∷ 0 ∷ 0 ∷ 0 ∷ 0 ∷ 0 ∷ 0 ∷ []) 0 0 0 3 (0 ∷ 0 ∷ 4 ∷ 3 ∷ 6 ∷ 6 ∷ 0 ∷ [])
    ∷ comparing table_s (1 ∷ 9 ∷ 1 ∷ 0x61 ∷ 1 ∷ 5 ∷ 6 ∷ []) (1 ∷ 8 ∷ 1 ∷ 0x62 ∷ 1 ∷ 4 ∷ 6 ∷ []) (0 ∷ 0 ∷ 0 ∷ 0 ∷ 0 ∷ 0 ∷ []) 0 0 0 3 (1 ∷ 1 ∷ 2 ∷ 2 ∷ 5 ∷ 5 ∷ [])
    -- floats by bits: a NaN is the same as itself, and 0 is not the same as -0
    ∷ comparing (leaf_table 10) (0 ∷ 0 ∷ 0 ∷ 0 ∷ 0 ∷ 0 ∷ 0xf8 ∷ 0x7f ∷ []) (0 ∷ 0 ∷ 0 ∷ 0 ∷ 0 ∷ 0 ∷ 0xf8 ∷ 0x7f ∷ []) [] 0 0 0 0 []
    ∷ comparing (leaf_table 9) (0 ∷ 0 ∷ 0 ∷ 0 ∷ []) (0 ∷ 0 ∷ 0 ∷ 0x80 ∷ []) (7 ∷ 7 ∷ []) 0 0 0 1 (0 ∷ 0 ∷ [])
    -- a list that is too short; the first message's refusal, and the second's
    ∷ comparing table_s (1 ∷ 9 ∷ 1 ∷ 0x61 ∷ 1 ∷ 5 ∷ 6 ∷ []) (0 ∷ 1 ∷ 0x61 ∷ 2 ∷ 5 ∷ 5 ∷ 7 ∷ []) (7 ∷ 7 ∷ 7 ∷ 7 ∷ 7 ∷ []) 15 0 0 0 (7 ∷ 7 ∷ 7 ∷ 7 ∷ 7 ∷ [])
    ∷ comparing table_t (0xac ∷ []) [] (7 ∷ 7 ∷ []) 3 0 0 0 (7 ∷ 7 ∷ [])
    ∷ comparing table_t (0xac ∷ 0x02 ∷ 0x05 ∷ 0x03 ∷ []) (0xac ∷ 0x02 ∷ []) (7 ∷ 7 ∷ []) 3 2 1 0 (7 ∷ 7 ∷ [])
    ∷ comparing table_t (0xac ∷ 0x02 ∷ []) (0xac ∷ []) (7 ∷ 7 ∷ []) 3 2 0 0 (7 ∷ 7 ∷ [])
    ∷ []

-- ---- night batches

pub data BatchCall : Type 0 where
  writing : (table messages : List ℕ) (store product : ℕ) (out : List ℕ) → BatchCall
  checking : (table batch : List ℕ) → BatchCall
  searching : (table batch : List ℕ) (store product : ℕ) → BatchCall
  handing : (batch : List ℕ) (from len : ℕ) → BatchCall
  compacting : (table batch out : List ℕ) → BatchCall

-- number and place, and the output afterwards, or the part's two numbers and its bytes
pub record BatchSaid : Type 0 where
  pub number : ℕ
  pub place : ℕ
  pub lent : List ℕ

unfoldable pub saying : Numbered → List ℕ → BatchSaid
saying n lent = record { number = n.number; place = n.place; lent = lent }

unfoldable pub found_part : (batch : List ℕ) → BatchFound → BatchSaid
found_part batch a = saying (found_says a) (from_of a ∷ len_of a ∷ part_of batch a)

unfoldable pub batch_answer : BatchCall → BatchSaid
batch_answer (writing table s store product out) = saying (written_says (batch_write table s store product out)) (batch_write_out table s store product out)
batch_answer (checking table batch) = saying (checked_says (batch_check table batch)) []
batch_answer (searching table batch store product) = found_part batch (batch_last table batch (record { store = store; product = product }))
batch_answer (handing batch from len) = found_part batch (PartFound from len)
batch_answer (compacting table batch out) = saying (written_says (batch_compact table batch out)) (batch_compact_out table batch out)

pub record BatchCase : Type 0 where
  pub call : BatchCall
  pub said : BatchSaid

unfoldable pub says : BatchCall → (number place : ℕ) → (lent : List ℕ) → BatchCase
says call number place lent = record { call = call; said = record { number = number; place = place; lent = lent } }

abbrev pub BatchesHold : List BatchCase → Type 0
BatchesHold cs = lists.map (λ (c : BatchCase). batch_answer c.call) cs ≡ lists.map (λ (c : BatchCase). c.said) cs

-- under table T: store 300 and product 5 counted -2, store 7 and product 5 counted 1, then the first again, counted 3
unfoldable pub three : List ℕ
three = 0xac ∷ 0x02 ∷ 0x05 ∷ 0x03 ∷ 0x07 ∷ 0x05 ∷ 0x02 ∷ 0xac ∷ 0x02 ∷ 0x05 ∷ 0x06 ∷ []

-- rows of stores 7 and 300, and a trailer
unfoldable pub seven : (product offset : ℕ) → List ℕ
seven product offset = 7 ∷ 0 ∷ 0 ∷ 0 ∷ product ∷ 0 ∷ 0 ∷ 0 ∷ 0 ∷ 0 ∷ 0 ∷ 0 ∷ offset ∷ 0 ∷ 0 ∷ 0 ∷ []

unfoldable pub three_hundred : (offset : ℕ) → List ℕ
three_hundred offset = 0x2c ∷ 1 ∷ 0 ∷ 0 ∷ 5 ∷ 0 ∷ 0 ∷ 0 ∷ 0 ∷ 0 ∷ 0 ∷ 0 ∷ offset ∷ 0 ∷ 0 ∷ 0 ∷ []

unfoldable pub ending : (count distance store product : ℕ) → List ℕ
ending count distance store product = count ∷ 0 ∷ 0 ∷ 0 ∷ distance ∷ 0 ∷ 0 ∷ 0 ∷ store ∷ 0 ∷ product ∷ 0 ∷ []

-- their batch of 71 bytes
unfoldable pub night : List ℕ
night = three ++ (seven 5 4 ++ (three_hundred 0 ++ (three_hundred 7 ++ ending 3 48 0 1)))

unfoldable pub batch_cases : List BatchCase
batch_cases =
    -- written with a byte to spare, and with one too few; the reader's own refusal in the fourth message; key fields swapped, or not there
    says (writing table_t three 0 1 (replicate 72 9)) 0 71 (night ++ (9 ∷ []))
    ∷ says (writing table_t three 0 1 (replicate 70 9)) 12 0 (replicate 70 9)
    ∷ says (writing table_t (three ++ (0xac ∷ [])) 0 1 (9 ∷ [])) 3 11 (9 ∷ [])
    ∷ says (writing table_t three 1 0 (9 ∷ [])) 17 0 (9 ∷ [])
    ∷ says (writing table_t (0xac ∷ []) 0 3 (9 ∷ [])) 17 0 (9 ∷ [])
    ∷ says (writing table_t [] 0 1 (replicate 12 9)) 0 12 (ending 0 0 0 1)
    -- of one store, rows by product
    ∷ says (writing table_t (7 ∷ 6 ∷ 2 ∷ 7 ∷ 5 ∷ 2 ∷ []) 0 1 (replicate 50 9)) 0 50 (7 ∷ 6 ∷ 2 ∷ 7 ∷ 5 ∷ 2 ∷ (seven 5 3 ++ (seven 6 0 ++ ending 2 32 0 1)))
    -- good; ties out of offset's order; a row too few; a row of another message; a message that reaches into the rows
    ∷ says (checking table_t night) 0 0 []
    ∷ says (checking table_t (three ++ (seven 5 4 ++ (three_hundred 7 ++ (three_hundred 0 ++ ending 3 48 0 1))))) 18 0 []
    ∷ says (checking table_t (three ++ (seven 5 4 ++ (three_hundred 7 ++ ending 2 32 0 1)))) 18 0 []
    ∷ says (checking table_t (three ++ (seven 5 3 ++ (three_hundred 0 ++ (three_hundred 7 ++ ending 3 48 0 1))))) 18 0 []
    ∷ says (checking table_t (7 ∷ 5 ∷ (seven 5 0 ++ ending 1 16 0 1))) 18 0 []
    -- under 12 bytes 18 comes before 17; a distance that is not 16 times the count, or reaches beyond the start
    ∷ says (checking (leaf_table 7) (1 ∷ [])) 18 0 []
    ∷ says (checking (leaf_table 7) night) 17 0 []
    ∷ says (checking table_t (three ++ (seven 5 4 ++ ending 1 17 0 1))) 18 0 []
    ∷ says (checking table_t (ending 1 16 0 1)) 18 0 []
    -- the last of two; no such product, and a store that fits no row; an offset that is not before the rows
    ∷ says (searching table_t night 300 5) 0 0 (7 ∷ 4 ∷ 0xac ∷ 0x02 ∷ 0x05 ∷ 0x06 ∷ [])
    ∷ says (searching table_t night 300 6) 19 0 (0 ∷ 0 ∷ [])
    ∷ says (searching table_t night 4294967303 5) 19 0 (0 ∷ 0 ∷ [])
    ∷ says (searching table_t (seven 5 4 ++ ending 1 16 0 1) 7 5) 18 0 (0 ∷ 0 ∷ [])
    -- a made-up answer that ends with the batch, and two that point beyond it
    ∷ says (handing (1 ∷ 2 ∷ 3 ∷ []) 1 2) 0 0 (1 ∷ 2 ∷ 2 ∷ 3 ∷ [])
    ∷ says (handing (1 ∷ 2 ∷ 3 ∷ []) 1 3) 0 0 (1 ∷ 3 ∷ [])
    ∷ says (handing (1 ∷ 2 ∷ 3 ∷ []) 4 0) 0 0 (4 ∷ 0 ∷ [])
    ∷ []

-- ---- compaction

-- the batch above with only the last message of each key: 51 bytes
unfoldable pub kept : List ℕ
kept = (7 ∷ 5 ∷ 2 ∷ 0xac ∷ 0x02 ∷ 5 ∷ 6 ∷ []) ++ (seven 5 0 ++ (three_hundred 3 ++ ending 2 32 0 1))

-- a batch of products 6 and 5 of one store, in this order
unfoldable pub turned : List ℕ
turned = (7 ∷ 6 ∷ 2 ∷ 7 ∷ 5 ∷ 2 ∷ []) ++ (seven 5 3 ++ (seven 6 0 ++ ending 2 32 0 1))

unfoldable pub compact_cases : List BatchCase
compact_cases =
    -- once, again, and with a byte too few; two keys out of order, each with one message; a batch that the check refuses; none
    says (compacting table_t night (replicate 52 9)) 0 51 (kept ++ (9 ∷ []))
    ∷ says (compacting table_t kept (replicate 51 9)) 0 51 kept
    ∷ says (compacting table_t night (replicate 50 9)) 12 0 (replicate 50 9)
    ∷ says (compacting table_t turned (replicate 50 9)) 0 50 turned
    ∷ says (compacting table_t (three ++ (seven 5 4 ++ (three_hundred 7 ++ ending 2 32 0 1))) (replicate 51 9)) 18 0 (replicate 51 9)
    ∷ says (compacting table_t (ending 0 0 0 1) (replicate 12 9)) 0 12 (ending 0 0 0 1)
    ∷ []

-- ---- CSV rows

pub record Exporting : Type 0 where
  pub table : List ℕ
  pub message : List ℕ
  pub out : List ℕ

-- number and place, and the output afterwards
pub record Exported : Type 0 where
  pub number : ℕ
  pub place : ℕ
  pub out : List ℕ

pub record ExportCase : Type 0 where
  pub call : Exporting
  pub said : Exported

unfoldable pub exporting : (table message out : List ℕ) → (number place : ℕ) → (after : List ℕ) → ExportCase
exporting table message out number place after =
    record { call = record { table = table; message = message; out = out }; said = record { number = number; place = place; out = after } }

unfoldable pub export_said : Output → (out : List ℕ) → Exported
export_said o out = record { number = (csv_says (csv_answer o)).number; place = (csv_says (csv_answer o)).place; out = out_after o out }

unfoldable pub exported_of : Exporting → Exported
exported_of c = export_said (csv_export c.table c.message (length c.out)) c.out

abbrev pub ExportsHold : List ExportCase → Type 0
ExportsHold cs = lists.map (λ (c : ExportCase). exported_of c.call) cs ≡ lists.map (λ (c : ExportCase). c.said) cs

-- a struct of one field of a kind
unfoldable pub one_field : ℕ → List ℕ
one_field k = tabled (k ∷ 0 ∷ 0 ∷ 0 ∷ 0 ∷ 0 ∷ 0x12 ∷ 0 ∷ 0 ∷ 0 ∷ 1 ∷ 0 ∷ []) (0 ∷ 0 ∷ []) 2 1

unfoldable pub export_cases : List ExportCase
export_cases =
    -- 300, 5 and -2, and the same with a rest; a message that ends; a row that the output has no room for
    exporting table_t (172 ∷ 2 ∷ 5 ∷ 3 ∷ []) (replicate 12 7) 0 10 ((51 ∷ 48 ∷ 48 ∷ 44 ∷ 53 ∷ 44 ∷ 45 ∷ 50 ∷ 13 ∷ 10 ∷ []) ++ replicate 2 7)
    ∷ exporting table_t (172 ∷ 2 ∷ 5 ∷ 3 ∷ 9 ∷ []) (replicate 10 7) 0 10 (51 ∷ 48 ∷ 48 ∷ 44 ∷ 53 ∷ 44 ∷ 45 ∷ 50 ∷ 13 ∷ 10 ∷ [])
    ∷ exporting table_t (172 ∷ 2 ∷ 5 ∷ []) (replicate 12 7) 3 3 (replicate 12 7)
    ∷ exporting table_t (172 ∷ 2 ∷ 5 ∷ 3 ∷ []) (replicate 9 7) 12 0 (replicate 9 7)
    -- a quote among others in a text, alone as a char; bytes, some and none
    ∷ exporting (one_field 12) (4 ∷ 97 ∷ 34 ∷ 195 ∷ 169 ∷ []) (replicate 9 7) 0 9 (34 ∷ 97 ∷ 34 ∷ 34 ∷ 195 ∷ 169 ∷ 34 ∷ 13 ∷ 10 ∷ [])
    ∷ exporting (one_field 11) (1 ∷ 34 ∷ []) (replicate 6 7) 0 6 (34 ∷ 34 ∷ 34 ∷ 34 ∷ 13 ∷ 10 ∷ [])
    ∷ exporting (one_field 13) (2 ∷ 10 ∷ 255 ∷ []) (replicate 8 7) 0 8 (34 ∷ 48 ∷ 97 ∷ 102 ∷ 102 ∷ 34 ∷ 13 ∷ 10 ∷ [])
    ∷ exporting (one_field 13) (0 ∷ []) (replicate 4 7) 0 4 (34 ∷ 34 ∷ 13 ∷ 10 ∷ [])
    -- the smallest i8, the largest u64, the bits of a NaN; zero and one
    ∷ exporting (one_field 1) (128 ∷ []) (replicate 6 7) 0 6 (45 ∷ 49 ∷ 50 ∷ 56 ∷ 13 ∷ 10 ∷ [])
    ∷ exporting (one_field 8) (255 ∷ 255 ∷ 255 ∷ 255 ∷ 255 ∷ 255 ∷ 255 ∷ 255 ∷ 255 ∷ 1 ∷ []) (replicate 22 7) 0 22 (49 ∷ 56 ∷ 52 ∷ 52 ∷ 54 ∷ 55 ∷ 52 ∷ 52 ∷ 48 ∷ 55 ∷ 51 ∷ 55 ∷ 48 ∷ 57 ∷ 53 ∷ 53 ∷ 49 ∷ 54 ∷ 49 ∷ 53 ∷ 13 ∷ 10 ∷ [])
    ∷ exporting (one_field 9) (1 ∷ 0 ∷ 192 ∷ 255 ∷ []) (replicate 12 7) 0 12 (52 ∷ 50 ∷ 57 ∷ 48 ∷ 55 ∷ 55 ∷ 50 ∷ 57 ∷ 57 ∷ 51 ∷ 13 ∷ 10 ∷ [])
    ∷ exporting (one_field 31) (0 ∷ 0 ∷ 0 ∷ 0 ∷ 0 ∷ 0 ∷ 0 ∷ 0 ∷ []) (replicate 3 7) 0 3 (48 ∷ 13 ∷ 10 ∷ [])
    ∷ exporting (one_field 0) (1 ∷ []) (replicate 3 7) 0 3 (49 ∷ 13 ∷ 10 ∷ [])
    -- no fields; a root that is no struct, an enum of a u8, a struct of an option; no table
    ∷ exporting (leaf_table 18) (9 ∷ []) (replicate 2 7) 0 2 (13 ∷ 10 ∷ [])
    ∷ exporting (leaf_table 5) (7 ∷ []) (replicate 3 7) 20 0 (replicate 3 7)
    ∷ exporting table_e (0 ∷ 7 ∷ []) (replicate 3 7) 20 0 (replicate 3 7)
    ∷ exporting table_s (0 ∷ 0 ∷ 0 ∷ 7 ∷ []) (replicate 3 7) 20 0 (replicate 3 7)
    ∷ exporting (1 ∷ 2 ∷ []) [] (replicate 3 7) 1 0 (replicate 3 7)
    ∷ []
