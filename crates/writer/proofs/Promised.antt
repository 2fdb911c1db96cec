-- A list that was judged is refused, or is written: the count is exact where it is compared with the output, and nothing else was changed. The form
-- stands where it was put to be judged, if that has room for it.
-- Assumes nothing.
use Rattle.std.specs.Prelude.{Ok, Err}
use mathlib.Core.Path.{◌≡◌, refl, sym, ap, ◌∙◌}
use mathlib.Core.Bool.{true, false}
use mathlib.Core.List.{List, [], ◌++◌, append-nil}
use Prim.Native.Nat.{ℕ, ◌%◌, ◌^◌, ◌<◌, ◌≤◌}
use native.Mathlib.Omega.{arith}
use native.Mathlib.Nat.{zero-add}
use lib.ListN.{length, take, drop}
use lib.Dec.{leb, eqb}
use lib.Seq.{sets, sets-eq, take-append_seam}
use borrow.Author.Tests.{le-leb, lt-leb}
use Rattle.wire.specs.declared.Refusal.{Refusal}
use Rattle.wire.specs.declared.Refusal.TheVariants.{Values, Full}
use Rattle.wire.specs.declared.Layout.{Layout}
use Rattle.wire.specs.Checked.{Good, Bad}
use Rattle.wire.specs.WriteAnswer.{WriteAnswer}
use Rattle.wire.specs.WriteAnswer.{Done, Refused}
use Rattle.wire.specs.Tests.{pick, given}
use Rattle.wire.specs.Table.{check, shape_of}
use Rattle.wire.specs.Writing.{Wrote, wrote, misfit, wrote_after, writing, write}
use Rattle.wire.specs.Answers.{words_per, room_of, Form, form, no_form, form_of, formed, write_by, writes, write_answer, out_with}
use Rattle.laws.specs.Answered.{Writes}
use Rattle.table.specs.Parts.{row_step}
use Rattle.output.specs.Bytes.{cap, Puts}
use Rattle.output.proofs.Counting.{cap-above, cap-within}
use Rattle.write_list.specs.Put.{Put}
use Rattle.write_list.specs.Put as put
use Rattle.write_list.specs.declared.Ahead.{Ahead}
use Rattle.write_list.specs.Steps.{entries, Sure, Going, GivesBy, Gives, Reaches}
use Rattle.writer.specs.Promise.{Kept, OneWriting}
use Rattle.write_list.proofs.Entries.{entries_none, entries-more}
use Rattle.write_list.proofs.Going.{gives_whole}

writes-no : {f : Form} {e : Refusal} {p : ℕ} (out : List ℕ) → f ≡ no_form e p → Writes f out (Refused e p) out
unfolding write_answer out_with
writes-no out q = rw q (record { answered = refl; stored = refl })

-- ---- how a list ends

-- bytes that were put, and the entries from `at` on that are left
record AllPut (w : Wrote) (ws : List ℕ) (u : ℕ) (before : List ℕ) (at n : ℕ) (out : List ℕ) : Type 0 where
  bytes : List ℕ
  is : w ≡ wrote bytes (entries ws at)
  puts : Puts bytes u before n out

module _ {w : Wrote} {ws : List ℕ} {u : ℕ} {before : List ℕ} {r : Put} {out : List ℕ} (g : Gives w ws u before r out) where
  all-put : {at n : ℕ} → r ≡ put.Done at n → AllPut w ws u before at n out
  unfolding wrote_after
  all-put {at} {n} q =
      let d : Going w (wrote [] (entries ws at)) u before n out = rw q at g.holds in
      record { bytes = d.bytes; is = rw append-nil at d.is; puts = d.puts }

  not-put : {i : ℕ} → r ≡ put.Misfit i → w ≡ misfit i
  not-put q = rw q at g.holds

pub is-kept : {s : List ℕ} {l : Layout} {ws pool : List ℕ} {a : Ahead} {before room : List ℕ} → Reaches pool s l (write (shape_of s l) pool (entries ws 0)) ws 0 before a room → length before ≡ length room
    → Kept s l ws pool a room
is-kept {before = before} f e = record { before = before; same = e; reached = f }

-- what is kept in a room, and the row that is left behind it, are the whole
pub kept_gives : {s : List ℕ} {l : Layout} {ws pool : List ℕ} {a : Ahead} {room : List ℕ} {r : Put} {out : List ℕ} → length room < 2 ^ 63 → (k : Kept s l ws pool a room)
    → Gives (row_step (writing pool) s l a.child a.left (entries ws a.at)) ws a.used room r out → Gives (write (shape_of s l) pool (entries ws 0)) ws 0 k.before r out
kept_gives small k g = gives_whole (omega (arith, k.same)) k.reached.going g

-- it was judged by putting it in front of some bytes
module _ {w : Wrote} {ws before : List ℕ} {r : Put} {kept : List ℕ} (out : List ℕ) (j : Gives w ws 0 before r kept) where
  pub judged-misfit : {i : ℕ} → r ≡ put.Misfit i → Writes (formed (length out) w) out (Refused Values i) out
  unfolding formed
  judged-misfit q = writes-no out (ap (formed (length out)) (not-put j q))

  module _ {at n : ℕ} (q : r ≡ put.Done at n) where
    did : AllPut w ws 0 before at n kept
    did = all-put j q

    pub judged-sure : Sure true w
    judged-sure = record { never = λ t i e. let z : wrote did.bytes (entries ws at) ≡ misfit i = sym did.is ∙ e in let o : ◌≡◌ {A = ℕ} 0 1 = cc in omega arith }

    pub judged-more : at < room_of ws → Writes (formed (length out) w) out (Refused Values at) out
    unfolding formed form_of
    judged-more m = writes-no out (ap (formed (length out)) (did.is ∙ ap (wrote did.bytes) (entries-more ws at m)))

    module _ (small : length out < 2 ^ 63) (all : room_of ws ≤ at) where
      is-form : formed (length out) w ≡ pick (leb (length did.bytes) (length out)) (form did.bytes) (no_form Full 0)
      unfolding formed form_of
      is-form = ap (formed (length out)) (did.is ∙ ap (wrote did.bytes) (entries_none ws at all))

      count : n ≡ cap (length did.bytes)
      count = did.puts.counted ∙ ap cap (zero-add (length did.bytes))

      pub judged-full : length out < n → Writes (formed (length out) w) out (Refused Full 0) out
      unfolding pick
      judged-full m =
          writes-no out
          (is-form ∙ (rw (lt-leb (length did.bytes) (length out) (cap-above (length did.bytes) (length out) small (rw (← count) m)))))

      module _ (m : n ≤ length out) where
        exact : n ≡ length did.bytes
        exact = count ∙ cap-within (length did.bytes) (length out) small (rw (← count) m)

        stored : {left : List ℕ} → left ≡ sets out 0 did.bytes → Writes (formed (length out) w) out (Done n) left
        unfolding pick write_answer out_with
        stored e =
            rw (is-form, le-leb (length did.bytes) (length out) (omega (arith, exact)))
            (record {
              answered = ap Done exact;
              stored = e ∙ sets-eq did.bytes out 0 (omega (arith, exact)) ∙ ap (λ k. did.bytes ++ drop k out) (zero-add (length did.bytes));
            })

        front : n ≤ length before → take n kept ≡ did.bytes
        front h =
            ap (λ k. take k kept) exact
            ∙ ap (take (length did.bytes)) (did.puts.stored ∙ sets-eq did.bytes before 0 (omega (arith, exact)))
            ∙ take-append_seam did.bytes _

        pub judged-short : n ≤ length before → {k : ℕ} {left : List ℕ} → Puts (take n kept) 0 out k left → Writes (formed (length out) w) out (Done n) left
        judged-short h p = stored (p.stored ∙ ap (sets out 0) (front h))

        put_whole : (p : Put) (left : List ℕ) → GivesBy w ws 0 out p left → left ≡ sets out 0 did.bytes
        put_whole (Ok r) left d =
            let g : AllPut w ws 0 out r.at r.used left = all-put (record { holds = d }) refl in
            let same : wrote g.bytes (entries ws r.at) ≡ wrote did.bytes (entries ws at) = sym g.is ∙ did.is in
            let b : g.bytes ≡ did.bytes = cc in
            g.puts.stored ∙ ap (sets out 0) b
        put_whole (Err r) left d = absurd (judged-sure.never refl r.at d)

        pub judged-done : {p : Put} {left : List ℕ} → Gives w ws 0 out p left → Writes (formed (length out) w) out (Done n) left
        judged-done {p} {left} g = stored (put_whole p left g.holds)

-- ---- with the table's check

module _ (table ws pool out : List ℕ) where
  pub writes-bad : {e : Refusal} {p : ℕ} → check table ≡ Bad e p → Writes (writes table ws pool (length out)) out (Refused e p) out
  unfolding writes write_by
  writes-bad h = writes-no out (rw h)

  pub writes-cut : {l : Layout} → check table ≡ Good l → eqb (length ws % words_per) 0 ≡ false → Writes (writes table ws pool (length out)) out (Refused Values (room_of ws)) out
  unfolding writes write_by given room_of
  writes-cut h cut = writes-no out (rw (h, cut))

  pub writes-whole : {l : Layout} {a : WriteAnswer} {left : List ℕ} → check table ≡ Good l → eqb (length ws % words_per) 0 ≡ true
      → Writes (formed (length out) (write (shape_of table l) pool (entries ws 0))) out a left → Writes (writes table ws pool (length out)) out a left
  unfolding writes write_by given entries
  writes-whole h whole w = rw (h, whole) w

pub one-writing : OneWriting
one-writing table ws pool out x y f g =
    ap (λ (a : WriteAnswer). (a, x.1)) (f.answered ∙ sym g.answered) ∙ ap (λ (s : List ℕ). (y.0, s)) (f.stored ∙ sym g.stored)
