-- The bytes in front of the output are the form of the list, and the run over them makes its values again; so one message never stands for two value lists.
-- Assumes nothing.
use mathlib.Core.Path.{◌≡◌, refl, sym, ap, ◌∙◌}
use mathlib.Core.List.{List, ◌++◌}
use Prim.Native.Nat.{ℕ}
use native.Mathlib.Omega.{arith}
use lib.ListN.{length, take, drop, length-append}
use lib.Seq.{take-append_seam, drop-append_seam}
use Rattle.wire.specs.declared.Layout.{Layout}
use Rattle.wire.specs.Checked.{Good}
use Rattle.wire.specs.ReadAnswer.{ReadAnswer}
use Rattle.wire.specs.ReadAnswer.{Done as Read}
use Rattle.wire.specs.WriteAnswer.{Done as Written}
use Rattle.wire.specs.Shape.{Shape}
use Rattle.wire.specs.Table.{check, shape_of}
use Rattle.wire.specs.Values.{Entry, SameValues}
use Rattle.wire.specs.Reading.{Spot, reached}
use Rattle.wire.specs.Answers.{entries_of, reads, read_answer, rest_of, Form, form, no_form, writes, write_answer, out_with}
use Rattle.laws.specs.Answered.{Reads, Writes}
use Rattle.promises.specs.RoundTrip.{ReadBack, RoundTrip, Injective}
use Rattle.promises.proofs.WrittenReads.{WrittenReads, written-reads}

-- ---- read back

-- a form was written: it is what stands in front
pub record Formed (f : Form) (n : ℕ) (out : List ℕ) : Type 0 where
  pub bytes : List ℕ
  pub is : f ≡ form bytes
  pub long : n ≡ length bytes
  pub front : take n out ≡ bytes

pub formed : (f : Form) {n : ℕ} {before out : List ℕ} → Writes f before (Written n) out → Formed f n out
unfolding write_answer out_with
formed (form s) {n} {before} w =
    let long : n ≡ length s = cc w.answered in
    record { bytes = s; is = refl; long = long; front = rw (long, w.stored) (take-append_seam s (drop (length s) before)) }
formed (no_form e p) {n} w = let z : ◌≡◌ {A = ℕ} 0 1 = cc w.answered in absurd (omega arith)

back : {table ws pool s rest store : List ℕ} {n : ℕ} → WrittenReads table ws pool s rest store → n ≡ length s → {a : ReadAnswer} {left : List ℕ}
    → Reads (reads table (s ++ rest) store) store a left → ReadBack table ws pool (s ++ rest) rest n a left
unfolding read_answer rest_of
back {table} {s} {rest} {store} {n} r long {a} h =
    record {
      layout = r.layout;
      is-good = r.is-good;
      count = length (reads table (s ++ rest) store).made;
      answered = answered;
      many = r.many;
      unread = rw (answered, long) (drop-append_seam s rest);
      same = rw h.stored r.stored;
      tags = r.tags;
      items = r.items;
      stand = rw (h.stored, long, take-append_seam s rest) r.stand;
    }
  where
    answered : a ≡ Read n (length (reads table (s ++ rest) store).made)
    answered = rw (r.ends, ← long) at h.answered

pub round_trip : RoundTrip
round_trip table ws pool before out n ok w rest store fits a left h =
    let f = formed (writes table ws pool (length before)) w in
    rw f.front (back (written-reads table ws pool (length before) f.bytes rest store ok f.is fits) f.long (rw f.front at h))

-- ---- one meaning

-- two lists with the same values as a third
meet : {t : Shape} {p q m : List ℕ} {es fs made : List Entry} → SameValues t p es m made → SameValues t q fs m made → SameValues t p es q fs
meet a b = record { them = a.them; those = a.those; these = b.those ∙ sym b.these ∙ a.these }

pub injective : Injective
injective table ws ws' pool pool' room room' s s' rest rest' ok ok' e e' is = (front, same)
  where
    a : WrittenReads table ws pool s rest (ws ++ ws')
    a = written-reads table ws pool room s rest (ws ++ ws') ok e (simp length-append (omega arith))

    b : WrittenReads table ws' pool' s' rest' (ws ++ ws')
    b = written-reads table ws' pool' room' s' rest' (ws ++ ws') ok' e' (simp length-append (omega arith))

    ends : reached (record { bytes = rest; place = length s }) ≡ reached (record { bytes = rest'; place = length s' })
    ends = sym a.ends ∙ ap (λ m. (reads table m (ws ++ ws')).ends) is ∙ b.ends

    front : s ≡ s'
    front =
        let spots : ◌≡◌ {A = Spot} (record { bytes = rest; place = length s }) (record { bytes = rest'; place = length s' }) = cc ends in
        let n : length s ≡ length s' = ap (λ x. x.place) spots in
        sym (take-append_seam s rest) ∙ (rw (is, n) (take-append_seam s' rest'))

    same : (l : Layout) → check table ≡ Good l → SameValues (shape_of table l) pool (entries_of ws) pool' (entries_of ws')
    same l e =
        let la : a.layout ≡ l = cc a.is-good in
        let lb : b.layout ≡ l = cc b.is-good in
        meet (rw (la, is) at a.same) (rw lb at b.same)
