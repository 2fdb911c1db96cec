-- Worked examples as data: a call, and what it must answer and leave in the output.
-- Assumes nothing.
use Rattle.std.specs.Prelude.{◌≡◌, List, [], ◌∷◌, ℕ, length, replicate}
use mathlib.Core.List as lists
use Rattle.wire.specs.Answers.{Numbered}
use Rattle.wire.specs.Cases.{table_t, leaf_table}
use Rattle.desk.specs.Cases.{one_field}
use Rattle.desk.specs.Csv.{Output, csv_answer, csv_says, out_after, csv_export}
use Rattle.spellings.specs.Accept.{csv_import}

pub data Call : Type 0 where
  exporting : (table message out : List ℕ) → Call
  importing : (table input out : List ℕ) → Call

pub record Said : Type 0 where
  pub number : ℕ
  pub place : ℕ
  pub out : List ℕ

unfoldable pub said : Numbered → List ℕ → Said
said n out = record { number = n.number; place = n.place; out = out }

unfoldable pub said_of : Output → List ℕ → Said
said_of o out = said (csv_says (csv_answer o)) (out_after o out)

unfoldable pub answer : Call → Said
answer (exporting table message out) = said_of (csv_export table message (length out)) out
answer (importing table input out) = said_of (csv_import table input (length out)) out

pub record Case : Type 0 where
  pub call : Call
  pub says : Said

unfoldable pub case : Call → ℕ → ℕ → List ℕ → Case
case c n p out = record { call = c; says = record { number = n; place = p; out = out } }

-- each call of a list answers what the list says
abbrev pub Hold : List Case → Type 0
Hold cs = lists.map (λ (c : Case). answer c.call) cs ≡ lists.map (λ (c : Case). c.says) cs

-- ---- the examples

unfoldable pub out : List ℕ
out = replicate 12 7

-- numbers, texts, chars, bytes, the empty row, and each refusal
unfoldable pub cases : List Case
cases =
    case (exporting table_t (172 ∷ 2 ∷ 5 ∷ 3 ∷ []) out) 0 10 (51 ∷ 48 ∷ 48 ∷ 44 ∷ 53 ∷ 44 ∷ 45 ∷ 50 ∷ 13 ∷ 10 ∷ 7 ∷ 7 ∷ [])
    ∷ case (exporting table_t (172 ∷ 2 ∷ 5 ∷ 3 ∷ 9 ∷ []) out) 0 10 (51 ∷ 48 ∷ 48 ∷ 44 ∷ 53 ∷ 44 ∷ 45 ∷ 50 ∷ 13 ∷ 10 ∷ 7 ∷ 7 ∷ [])
    ∷ case (exporting table_t (172 ∷ 2 ∷ 5 ∷ []) out) 3 3 out
    ∷ case (importing table_t (51 ∷ 48 ∷ 48 ∷ 44 ∷ 53 ∷ 44 ∷ 45 ∷ 50 ∷ 13 ∷ 10 ∷ []) out) 0 4 (172 ∷ 2 ∷ 5 ∷ 3 ∷ 7 ∷ 7 ∷ 7 ∷ 7 ∷ 7 ∷ 7 ∷ 7 ∷ 7 ∷ [])
    ∷ case (importing table_t (51 ∷ 48 ∷ 48 ∷ 44 ∷ 48 ∷ 53 ∷ 44 ∷ 45 ∷ 50 ∷ 13 ∷ 10 ∷ []) out) 21 5 out
    ∷ case (importing table_t (51 ∷ 48 ∷ 48 ∷ 44 ∷ 53 ∷ 44 ∷ 45 ∷ 48 ∷ 13 ∷ 10 ∷ []) out) 21 7 out
    ∷ case (importing table_t (52 ∷ 50 ∷ 57 ∷ 52 ∷ 57 ∷ 54 ∷ 55 ∷ 50 ∷ 57 ∷ 54 ∷ []) out) 21 9 out
    ∷ case (importing table_t (51 ∷ 48 ∷ 48 ∷ 44 ∷ 53 ∷ []) out) 21 5 out
    ∷ case (importing table_t (51 ∷ 48 ∷ 48 ∷ 44 ∷ 53 ∷ 44 ∷ 45 ∷ 50 ∷ 13 ∷ 10 ∷ 13 ∷ 10 ∷ []) out) 21 10 out
    ∷ case (importing table_t (51 ∷ 48 ∷ 48 ∷ 44 ∷ 53 ∷ 44 ∷ 45 ∷ 50 ∷ 13 ∷ 13 ∷ []) out) 21 9 out
    ∷ case (importing (one_field 12) (34 ∷ 97 ∷ 34 ∷ 34 ∷ 195 ∷ 169 ∷ 34 ∷ 13 ∷ 10 ∷ []) out) 0 5 (4 ∷ 97 ∷ 34 ∷ 195 ∷ 169 ∷ 7 ∷ 7 ∷ 7 ∷ 7 ∷ 7 ∷ 7 ∷ 7 ∷ [])
    ∷ case (exporting (one_field 12) (4 ∷ 97 ∷ 34 ∷ 195 ∷ 169 ∷ []) out) 0 9 (34 ∷ 97 ∷ 34 ∷ 34 ∷ 195 ∷ 169 ∷ 34 ∷ 13 ∷ 10 ∷ 7 ∷ 7 ∷ 7 ∷ [])
    ∷ case (importing (one_field 12) (34 ∷ 237 ∷ 160 ∷ []) out) 21 2 out
    ∷ case (importing (one_field 11) (34 ∷ 34 ∷ 34 ∷ 34 ∷ 13 ∷ 10 ∷ []) out) 0 2 (1 ∷ 34 ∷ 7 ∷ 7 ∷ 7 ∷ 7 ∷ 7 ∷ 7 ∷ 7 ∷ 7 ∷ 7 ∷ 7 ∷ [])
    ∷ case (importing (one_field 11) (34 ∷ 34 ∷ 13 ∷ 10 ∷ []) out) 21 2 out
    ∷ case (importing (one_field 11) (34 ∷ 97 ∷ 98 ∷ 34 ∷ 13 ∷ 10 ∷ []) out) 21 2 out
    ∷ case (importing (one_field 13) (34 ∷ 48 ∷ 97 ∷ 102 ∷ 34 ∷ 13 ∷ 10 ∷ []) out) 21 4 out
    ∷ case (exporting (one_field 13) (2 ∷ 10 ∷ 255 ∷ []) out) 0 8 (34 ∷ 48 ∷ 97 ∷ 102 ∷ 102 ∷ 34 ∷ 13 ∷ 10 ∷ 7 ∷ 7 ∷ 7 ∷ 7 ∷ [])
    ∷ case (exporting (leaf_table 18) ([]) out) 0 2 (13 ∷ 10 ∷ 7 ∷ 7 ∷ 7 ∷ 7 ∷ 7 ∷ 7 ∷ 7 ∷ 7 ∷ 7 ∷ 7 ∷ [])
    ∷ case (importing (leaf_table 18) (13 ∷ 10 ∷ []) out) 0 0 out
    ∷ case (importing (leaf_table 5) (55 ∷ 13 ∷ 10 ∷ []) out) 20 0 out
    ∷ case (importing (1 ∷ 2 ∷ []) (55 ∷ 13 ∷ 10 ∷ []) out) 1 0 out
    ∷ case (importing table_t (51 ∷ 48 ∷ 48 ∷ 44 ∷ 53 ∷ 44 ∷ 45 ∷ 50 ∷ 13 ∷ 10 ∷ []) (7 ∷ 7 ∷ 7 ∷ [])) 12 0 (7 ∷ 7 ∷ 7 ∷ [])
    ∷ []
