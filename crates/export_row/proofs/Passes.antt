-- How an export answers, by what its first pass told: a refusal, or a row whose bytes were laid.
-- Assumes nothing.
use mathlib.Core.Path.{◌≡◌, sym, ap, ◌∙◌}
use mathlib.Core.List.{List, []}
use Prim.Native.Nat.{ℕ, ◌^◌, ◌<◌, ◌≤◌}
use native.Mathlib.Omega.{arith}
use lib.ListN.{length, take}
use Rattle.wire.specs.declared.Refusal.{Refusal}
use Rattle.wire.specs.declared.Refusal.TheVariants.{Full}
use Rattle.desk.specs.CsvAnswer.{Done, Refused}
use Rattle.desk.specs.Csv.{within}
use Rattle.output.specs.Bytes.{Puts}
use Rattle.put_row.specs.Row.{Row}
use Rattle.put_row.specs.Row as row
use Rattle.put_row.specs.Rows.{Told, spells, stops, LaysRow, laid, refused}
use Rattle.put_row.proofs.Telling.{is-laid, is-refused}
use Rattle.export_row.specs.Outputs.{Gives, told_output}
use Rattle.export_row.proofs.Once.{gives-no, laid-full, laid-short, laid-long}

abbrev bytes_of : Told → List ℕ
bytes_of (spells s p) = s
bytes_of (stops e p) = []

module _ {t : Told} {before : List ℕ} {r : Row} {kept : List ℕ} (out : List ℕ) (j : LaysRow t 0 before r kept) where
  pub passed-refused : {e : Refusal} {p : ℕ} → r ≡ row.Refused e p → Gives (told_output (length out) t) out (Refused e p) out
  unfolding told_output
  passed-refused q = gives-no out (ap (told_output (length out)) (is-refused j q).is)

  module _ {p n : ℕ} (q : r ≡ row.Laid p n) (small : length out < 2 ^ 63) where
    abbrev its-bytes : List ℕ
    its-bytes = (is-laid j q).bytes

    is_within : told_output (length out) t ≡ within (length out) its-bytes
    unfolding told_output
    is_within = ap (told_output (length out)) (is-laid j q).is

    pub passed-full : length out < n → Gives (told_output (length out) t) out (Refused Full 0) out
    passed-full m = laid-full out is_within (is-laid j q).lays small m

    module _ (m : n ≤ length out) where
      pub passed-short : n ≤ length before → {k : ℕ} {left : List ℕ} → Puts (take n kept) 0 out k left → Gives (told_output (length out) t) out (Done n) left
      passed-short h p = laid-short out is_within (is-laid j q).lays small m h p

      pub passed-long : {r : Row} {left : List ℕ} → LaysRow t 0 out r left → Gives (told_output (length out) t) out (Done n) left
      passed-long (laid {s = s} e l) =
          let same : s ≡ its-bytes = ap bytes_of (sym e ∙ (is-laid j q).is) in
          laid-long out is_within (is-laid j q).lays small m (rw same at l)
      passed-long (refused {e = w} {p = at} e l) =
          let no : spells its-bytes p ≡ stops w at = sym (is-laid j q).is ∙ e in
          let z : ◌≡◌ {A = ℕ} 0 1 = cc in
          absurd (omega arith)
