-- What was read of a message is written again to no more bytes, and to the same ones exactly if every item was in its shortest form; these are the messages that are read strictly, so that their values and their bytes say the same.
-- Assumes nothing.
use Rattle.std.specs.Prelude.{Err}
use mathlib.Core.Path.{◌≡◌, refl, sym, ap, subst, ◌∙◌}
use mathlib.Core.Bool.{true, false}
use mathlib.Core.List.{List, [], ◌++◌, append-nil}
use Prim.Native.Nat.{ℕ, ◌*◌, ◌%◌, ◌^◌, ◌≤◌}
use native.Mathlib.Omega.{arith}
use native.Mathlib.Nat.{zero-add}
use lib.ListN.{length, take, drop, replicate, length-replicate}
use lib.Seq.{length-take-le, take-append_seam}
use borrow.Author.Tests.{le-leb, eq-eqb}
use Rattle.wire.specs.declared.Layout.{Layout}
use Rattle.wire.specs.declared.Reached.{Reached}
use Rattle.wire.specs.Checked.{Checked}
use Rattle.wire.specs.Checked.{Good, Bad}
use Rattle.wire.specs.ReadAnswer.{Done as Read}
use Rattle.wire.specs.WriteAnswer.{WriteAnswer}
use Rattle.wire.specs.WriteAnswer.{Done as Written}
use Rattle.wire.specs.Tests.{pick, given}
use Rattle.wire.specs.Table.{check, shape_of}
use Rattle.wire.specs.Values.{Entry, tell}
use Rattle.wire.specs.Reading.{Spot, front, Outcome, reached, refused, Run, read}
use Rattle.wire.specs.Writing.{wrote, write}
use Rattle.wire.specs.Answers.{words_per, words, room_of, read_by, reads, reads_strict, read_answer, Form, form, form_of, formed, write_by, writes, write_answer, out_with}
use Rattle.laws.specs.Range.{AreBytes}
use Rattle.laws.specs.Answered.{Reads, Writes}
use Rattle.laws.proofs.Bytes.{below-take}
use Rattle.laws.proofs.Places.{words-entries, length-words, front-words}
use Rattle.laws.proofs.ReadBy.{reads_plain}
use Rattle.laws.proofs.Runs.{fit-reached}
use Rattle.promises.specs.Strict.{tags_of, items_by, items, all_shortest}
use Rattle.promises.specs.ByteForByte.{words_in, IsWritten, ComesBack, ByteForByte, StrictComesBack, Duplicates}
use Rattle.promises.proofs.RoundTrips as trips
use Rattle.promises.proofs.RoundTrips.{injective}
use Rattle.promises.proofs.SameBytes.{same_bytes}
use Rattle.promises.proofs.RunsAgain.{Rewritten, GoodRun, rewrites}
use Rattle.promises.proofs.Strict.{strict-exactly}

-- ---- what is written

-- the entries es of n bytes in front of the message, written again with a limit
record Again (table message : List ℕ) (es : List Entry) (n limit : ℕ) : Type 0 where
  out : List ℕ
  is : writes table (words es) message limit ≡ form out
  there : n ≤ length message
  few : length out ≤ n
  then_same : all_shortest message (items table es) ≡ true → out ≡ take n message
  then-shortest : length out ≡ n → all_shortest message (items table es) ≡ true

-- entries that are all written, with room enough
written_all : (table message : List ℕ) (l : Layout) (limit : ℕ) (es : List Entry) (out : List ℕ) (i : ℕ)
    → write (shape_of table l) message (record { at = 0; entries = es }) ≡ wrote out (record { at = i; entries = [] }) → length out ≤ limit
    → write_by (Good l) table (words es) message limit ≡ form out
unfolding write_by formed form_of given pick
written_all table message l limit es out i e fits =
    rw (eq-eqb (length (words es) % words_per) 0 (rw (length-words es) (omega arith)), words-entries es, e, le-leb (length out) limit fits)

again-of : (table message : List ℕ) (l : Layout) (limit : ℕ) (es : List Entry) (x : Spot) → check table ≡ Good l → x.place ≤ limit
    → Rewritten message (write (shape_of table l) message) (tell (shape_of table l)) 0 message es x → Again table message es x.place limit
unfolding writes items items_by
again-of table message l limit es x is-good fits w =
    record {
      out = w.out;
      is = rw is-good (written_all table message l limit es w.out _ (rw append-nil at (w.writes 0 [])) (omega (arith, w.few, n)));
      there = rw n w.there;
      few = omega (arith, w.few, n);
      then_same = rw (is-good, tags, n) w.then_same;
      then-shortest = rw (is-good, tags, n) w.then-shortest;
    }
  where
    n : x.place ≡ w.n
    n = ap (λ y. y.place) w.spot ∙ zero-add w.n

    tags : tags_of (tell (shape_of table l) es) ≡ w.tags
    tags = unfold tags_of in ap tags_of (rw append-nil at (w.tells.told []))

again : (table message store : List ℕ) (limit : ℕ) (es : List Entry) (x : Spot) → AreBytes message → reads table message store ≡ record { made = es; ends = reached x }
    → x.place ≤ limit → Again table message es x.place limit
unfolding reads read_by
again table message store limit es x bs e fits = go (check table) refl e
  where
    go : (c : Checked) → check table ≡ c → read_by false c table (room_of store) message ≡ record { made = es; ends = reached x } → Again table message es x.place limit
    go (Err it) q h = let z : ◌≡◌ {A = ℕ} 0 1 = cc (ap (λ r. r.ends) h) in absurd (omega arith)
    go (Good l) q h =
        let t = shape_of table l in
        let free = (fit-reached (room_of store) (read t (front message)) es x (rw reads_plain at h)).1 in
        again-of table message l limit es x q fits
        (subst (λ (r : Run). GoodRun message (write t message) (tell t) 0 message r.made r.ends) free ((rewrites message bs t).again 0 message refl))

-- ---- a call that was done

-- the run of a reading that answered so: its entries are in front of the store that it left
record Done (r : Run) (n count : ℕ) (left : List ℕ) : Type 0 where
  end : Spot
  is : r ≡ record { made = r.made; ends = reached end }
  place : n ≡ end.place
  front : words_in left count ≡ words r.made

done-run : (r : Run) (store left : List ℕ) (n count : ℕ) → Reads r store (Read n count) left → Done r n count left
done-run r store left n count h = go r.ends refl h.answered
  where
    go : (o : Outcome) → r.ends ≡ o → Read n count ≡ read_answer o (length r.made) → Done r n count left
    go (reached x) e a =
        unfold read_answer in
        let same : ◌≡◌ {A = Reached} (record { place = n; count = count }) (record { place = x.place; count = length r.made }) = cc in
        let many : count ≡ length r.made = ap (λ q. q.count) same in
        record {
          end = x;
          is = ap (λ o. record { made = r.made; ends = o }) e;
          place = ap (λ q. q.place) same;
          front = rw h.stored (front-words r.made (words_per * count) store (ap (words_per *◌) (sym many)));
        }
    go (refused why p) e a = unfold read_answer in let z : ◌≡◌ {A = ℕ} 0 1 = cc a in absurd (omega arith)

-- a form that is written to an output
form-written : {f : Form} {s before out : List ℕ} {a : WriteAnswer} → f ≡ form s → Writes f before a out → (a ≡ Written (length s)) × (take (length s) out ≡ s)
unfolding write_answer out_with
form-written {s} {before} e w =
    (w.answered ∙ ap write_answer e, ap (take (length s)) (w.stored ∙ ap (λ f. out_with f before) e) ∙ take-append_seam s (drop (length s) before))

-- what comes back is the form
form-back : (table message ws before : List ℕ) (n : ℕ) → ComesBack table message ws before n → writes table ws message (length before) ≡ form (take n message)
form-back table message ws before n c =
    let f = writes table ws message (length before) in
    let b = c (write_answer f) (out_with f before) (record { answered = refl; stored = refl }) in
    let w = trips.formed f (record { answered = sym b.0; stored = refl }) in
    w.is ∙ ap form (sym w.front ∙ b.1)

-- ---- byte for byte

module _ (table message before : List ℕ) (n : ℕ) (es : List Entry) (b : Again table message es n (length before)) where
  is-written : IsWritten table message (words es) before n
  is-written a out w = (length b.out, (form-written b.is w).0, b.few)

  comes_back : all_shortest message (items table es) ≡ true → ComesBack table message (words es) before n
  comes_back e a out w =
      let same = b.then_same e in
      let long : length b.out ≡ n = ap length same ∙ length-take-le n message b.there in
      let f = form-written b.is w in
      (f.0 ∙ ap Written long, ap (λ m. take m out) (sym long) ∙ f.1 ∙ same)

  only-shortest : ComesBack table message (words es) before n → all_shortest message (items table es) ≡ true
  only-shortest c =
      let same : b.out ≡ take n message = cc (sym b.is ∙ form-back table message (words es) before n c) in
      b.then-shortest (ap length same ∙ length-take-le n message b.there)

pub byte-for-byte : ByteForByte
byte-for-byte table message store left before n count bs h fits =
    let d = done-run (reads table message store) store left n count h in
    let es = (reads table message store).made in
    let b : Again table message es n (length before) = rw d.place (again table message store (length before) es d.end bs d.is (rw (← d.place) fits)) in
    rw (d.front, words-entries es) (is-written table message before n es b, search (only-shortest table message before n es b, comes_back table message before n es b))

-- ---- the strict read

pub strict-comes-back : StrictComesBack
strict-comes-back table message store left before n count bs fits = (there, back)
  where
    there : Reads (reads_strict table message store) store (Read n count) left
        → Reads (reads table message store) store (Read n count) left × ComesBack table message (words_in left count) before n
    there h =
        let d = done-run (reads_strict table message store) store left n count h in
        let s = (strict-exactly table message store _ d.end).0 d.is in
        let p = rw (d.is ∙ sym s.0) at h in
        (p, (byte-for-byte table message store left before n count bs p fits).1.1 (rw (d.front, words-entries) s.1))

    back : Reads (reads table message store) store (Read n count) left × ComesBack table message (words_in left count) before n
        → Reads (reads_strict table message store) store (Read n count) left
    back h =
        let d = done-run (reads table message store) store left n count h.0 in
        let all = (byte-for-byte table message store left before n count bs h.0 fits).1.0 h.1 in
        rw ((strict-exactly table message store _ d.end).1 (d.is, rw (d.front, words-entries) at all) ∙ sym d.is) h.0

-- ---- duplicates

pub duplicates : Duplicates
duplicates table message message' store store' left left' n n' count count' l bs bs' ws ws' is-good h h' = (
  λ e. (injective table _ _ message message' _ _ _ _ [] [] (below-take (2 ^ 64) (words_per * count) left ws) (below-take (2 ^ 64) (words_per * count') left' ws') a b (ap (λ s. s ++ []) e)).1 l is-good,
  λ v. same_bytes table _ _ message message' _ _ _ _ l is-good a b v,
)
  where
    room : ℕ → List ℕ
    room n = replicate n 0

    form-of : (message store left : List ℕ) (n count : ℕ) → AreBytes message → Reads (reads_strict table message store) store (Read n count) left
        → writes table (words_in left count) message (length (room n)) ≡ form (take n message)
    form-of message store left n count bs h =
        form-back table message (words_in left count) (room n) n
        ((strict-comes-back table message store left (room n) n count bs (omega (arith, length-replicate {A = ℕ} n 0))).0 h).1

    a : writes table (words_in left count) message (length (room n)) ≡ form (take n message)
    a = form-of message store left n count bs h

    b : writes table (words_in left' count') message' (length (room n')) ≡ form (take n' message')
    b = form-of message' store' left' n' count' bs' h'
