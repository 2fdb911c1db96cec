-- How an import answers, by what its first pass took: no row, or a message whose bytes were laid.
-- Assumes nothing.
use mathlib.Core.Path.{◌≡◌, sym, ap, ◌∙◌}
use mathlib.Core.List.{List, []}
use Prim.Native.Nat.{ℕ, ◌^◌, ◌<◌, ◌≤◌}
use native.Mathlib.Omega.{arith}
use lib.ListN.{length, take}
use Rattle.wire.specs.declared.Refusal.TheVariants.{Full}
use Rattle.desk.specs.CsvAnswer.{Done, Refused, NoRow}
use Rattle.desk.specs.Csv.{within}
use Rattle.output.specs.Bytes.{Puts}
use Rattle.put_number.specs.Lays.{Lays}
use Rattle.export_row.specs.Outputs.{Gives}
use Rattle.export_row.proofs.Once.{gives-no, laid-full, laid-short, laid-long}
use Rattle.take_row.specs.Message.{Message}
use Rattle.take_row.specs.Message as message
use Rattle.take_row.specs.Messages.{Taken, gives, stops_at, LaysMessage, laid, refused}
use Rattle.import_row.specs.Outputs.{taken_output}

abbrev bytes_of : Taken → List ℕ
bytes_of (gives s) = s
bytes_of (stops_at p) = []

record IsLaid (t : Taken) (out : List ℕ) (n : ℕ) (now : List ℕ) : Type 0 where
  bytes : List ℕ
  is : t ≡ gives bytes
  lays : Lays bytes 0 out n now

module _ {t : Taken} {before : List ℕ} {r : Message} {kept : List ℕ} (out : List ℕ) (j : LaysMessage t 0 before r kept) where
  pub passed-stopped : {p : ℕ} → r ≡ message.Stops p → Gives (taken_output (length out) t) out (NoRow p) out
  unfolding taken_output
  passed-stopped {p} q = go (rw q at j)
    where
      go : LaysMessage t 0 before (message.Stops p) kept → Gives (taken_output (length out) t) out (NoRow p) out
      go (refused e l) = gives-no out (ap (taken_output (length out)) e)

  module _ {n : ℕ} (q : r ≡ message.Laid n) (small : length out < 2 ^ 63) where
    is-laid : IsLaid t before n kept
    is-laid = go (rw q at j)
      where
        go : LaysMessage t 0 before (message.Laid n) kept → IsLaid t before n kept
        go (laid {s = s} e l) = record { bytes = s; is = e; lays = l }

    is_within : taken_output (length out) t ≡ within (length out) is-laid.bytes
    unfolding taken_output
    is_within = ap (taken_output (length out)) is-laid.is

    pub passed-full : length out < n → Gives (taken_output (length out) t) out (Refused Full 0) out
    passed-full m = laid-full out is_within is-laid.lays small m

    module _ (m : n ≤ length out) where
      pub passed-short : n ≤ length before → {k : ℕ} {left : List ℕ} → Puts (take n kept) 0 out k left → Gives (taken_output (length out) t) out (Done n) left
      passed-short h p = laid-short out is_within is-laid.lays small m h p

      pub passed-long : {r : Message} {left : List ℕ} → LaysMessage t 0 out r left → Gives (taken_output (length out) t) out (Done n) left
      passed-long (laid {s = s} e l) =
          let same : s ≡ is-laid.bytes = ap bytes_of (sym e ∙ is-laid.is) in
          laid-long out is_within is-laid.lays small m (rw same at l)
      passed-long (refused {p = at} e l) =
          let no : gives is-laid.bytes ≡ stops_at at = sym is-laid.is ∙ e in
          let z : ◌≡◌ {A = ℕ} 0 1 = cc in
          absurd (omega arith)
