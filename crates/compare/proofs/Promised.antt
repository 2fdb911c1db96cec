-- The contract of the public call, from what the walk gives for the root: it stops exactly where a reading of 16,384 entries is refused, and
-- else its pairs are the differences.
-- Assumes nothing.
use Rattle.std.specs.Prelude.{Err}
use mathlib.Core.Path.{◌≡◌, refl, sym, ap, ap₂, ◌∙◌}
use mathlib.Core.Bool.{true, false}
use mathlib.Core.List.{List, ◌++◌}
use Prim.Native.Nat.{ℕ, ◌+◌, ◌*◌, ◌/◌, ◌≤◌, ◌<◌}
use native.Mathlib.Nat.{zero-add}
use native.Mathlib.Omega.{arith}
use lib.ListN.{length, take, drop}
use lib.Seq.{take-append_seam}
use borrow.Author.Tests.{le-leb, lt-leb}
use Rattle.wire.specs.declared.Refusal.{Refusal}
use Rattle.wire.specs.declared.Layout.{Layout}
use Rattle.wire.specs.Checked.{Checked}
use Rattle.wire.specs.Checked.{Good, Bad}
use Rattle.wire.specs.ReadAnswer.{ReadAnswer}
use Rattle.wire.specs.ReadAnswer.{Done, Refused}
use Rattle.wire.specs.Tests.{pick}
use Rattle.wire.specs.Shape.{Shape}
use Rattle.wire.specs.Walk.{walk}
use Rattle.wire.specs.Table.{check, shape_of}
use Rattle.wire.specs.Reading.{Spot, Outcome, reached, refused, Run, front, read, fit}
use Rattle.wire.specs.Answers.{read_by, read_answer, run_answer, skims}
use Rattle.laws.proofs.Answers.{same-refused}
use Rattle.laws.proofs.ReadBy.{reads_plain}
use Rattle.desk.specs.CompareAnswer.{CompareAnswer}
use Rattle.desk.specs.CompareAnswer as answer
use Rattle.desk.specs.Path.{most_entries}
use Rattle.desk.specs.Differ.{Pair, beside, differences, Answered, pairs, refuses, compare_runs, compare_reads, compare_by, compares, pair_words, has_room, compare_answer, list_after}
use Rattle.beside.specs.Meeting.{Met, meeting}
use Rattle.beside.specs.Laws.{Meets, ends, first, second}
use Rattle.beside.proofs.Readings.{shape-meets}
use Rattle.beside.proofs.Pairs.{same_met}
use Rattle.compare_item.specs.Pairs.{pairs_from}
use Rattle.compare_item.proofs.Pairs.{length_from, length_pairs, pairs-front}
use Rattle.compare_walk.specs.Walked.{Walked}
use Rattle.compare_walk.specs.Walked.{Both, Apart}
use Rattle.compare_walk.specs.Steps.{Left, went, stopped, lay, Gives, goes, stops}
use Rattle.compare_walk.proofs.Laying.{lay-over, lay-fits}
use Rattle.compare_walk.proofs.Turns.{same-both}
use Rattle.compare_walk.proofs.Items.{Fitted, all, cut, fitted}
use Rattle.compare.specs.Pairs.{refusal_of, Kept}
use Rattle.compare.specs.Promise.{Compares, OneComparison}

-- ---- what the walk tells of the comparison

-- the answer and the list of a walk, of two messages that are compared, or of which one is refused
pub data Told (s : List ℕ) : Walked → List ℕ → Answered → Type 0 where
  done : {q q' m n c : ℕ} {ps : List Pair} {st : List ℕ} → c ≡ length ps → st ≡ pairs_from ps 0 s → Told s (Both q q' m n c) st (pairs ps)
  none : {st : List ℕ} {a : CompareAnswer} → Told s Apart st (refuses a)

stopped-told : {s st : List ℕ} {v : Left} {w : Walked} {a : CompareAnswer} → v ≡ stopped → Gives v w st → Told s w st (refuses a)
stopped-told e goes = let z : ◌≡◌ {A = ℕ} 0 1 = cc in absurd (omega arith)
stopped-told e stops = none

went-told : {s st : List ℕ} {v : Left} {w : Walked} {x y : Spot} {m n : ℕ} {ps : List Pair} → v ≡ went (beside x y) m n (0 + length ps) (pairs_from ps 0 s) → Gives v w st → Told s w st (pairs ps)
went-told {s} {ps = ps} e (goes {c = c} {s = st}) =
    let same : c ≡ 0 + length ps = cc in
    let listed : st ≡ pairs_from ps 0 s = cc in
    done (same ∙ zero-add (length ps)) listed
went-told e stops = let z : ◌≡◌ {A = ℕ} 0 1 = cc in absurd (omega arith)

module _ (t : Shape) (one other : List ℕ) (s : List ℕ) where
  abbrev first_run : Run
  first_run = read t (front one)

  abbrev second_run : Run
  second_run = read t (front other)

  abbrev left : Left
  left = lay most_entries (walk meeting t (beside (front one) (front other))) 0 0 0 s

  over : ((x y : Spot) → first_run.ends ≡ reached x → second_run.ends ≡ reached y → length first_run.made ≤ most_entries → length second_run.made ≤ most_entries → ⊥) → left ≡ stopped
  over h = go refl refl ((shape-meets t).meeting (front one) (front other))
    where
      go : {o o' : Outcome} {d : Met} → first_run.ends ≡ o → second_run.ends ≡ o' → Meets first_run.made o second_run.made o' d → lay most_entries d 0 0 0 s ≡ stopped
      go e f (ends {x} {y} {ps = ps} l) = lay-over most_entries 0 0 0 s (length first_run.made) (length second_run.made) ps (beside x y) (λ a b. h x y e f (omega arith) (omega arith))
      go e f first = unfold lay in refl
      go e f second = unfold lay in refl

  fits : (x y : Spot) → first_run.ends ≡ reached x → second_run.ends ≡ reached y → length first_run.made ≤ most_entries → length second_run.made ≤ most_entries
      → left ≡ went (beside x y) (0 + length first_run.made) (0 + length second_run.made) (0 + length (differences t one first_run.made other second_run.made))
      (pairs_from (differences t one first_run.made other second_run.made) 0 s)
  fits x y e f k l =
      ap (λ d. lay most_entries d 0 0 0 s)
      (same_met t one other first_run.made second_run.made x y (ap (λ o. record { made = first_run.made; ends = o }) e) (ap (λ o. record { made = second_run.made; ends = o }) f))
      ∙ lay-fits most_entries 0 0 0 s _ _ _ _ (omega arith) (omega arith)

  runs-told : {w : Walked} {st : List ℕ} → Gives left w st → Told s w st (compare_reads t one other (fit most_entries first_run) (fit most_entries second_run))
  unfolding compare_reads
  runs-told {w} {st} g = go (fitted most_entries first_run) (fitted most_entries second_run)
    where
      go : {r q : Run} → Fitted most_entries first_run r → Fitted most_entries second_run q → Told s w st (compare_runs t one other r.made r.ends q.made q.ends)
      go (all {x} h k) (all {x = y} h' k') = unfold compare_runs in went-told (fits x y h h' k k') g
      go (all h k) (cut f) = unfold compare_runs in stopped-told (over (λ x y a b c d. f y b d)) g
      go (cut f) (all h k) = unfold compare_runs in stopped-told (over (λ x y a b c d. f x a c)) g
      go (cut f) (cut h) = unfold compare_runs in stopped-told (over (λ x y a b c d. f x a c)) g

module _ (table one other : List ℕ) where
  pub tells : {l : Layout} (s : List ℕ) {w : Walked} {st : List ℕ} → check table ≡ Good l
      → Gives (lay most_entries (walk meeting (shape_of table l) (beside (front one) (front other))) 0 0 0 s) w st → Told s w st (compares table one other)
  unfolding compares compare_by
  tells {l} s good g = rw good (runs-told (shape_of table l) one other s g)

  -- ---- a refusal

  -- a skim's answer is that of the reading with room for 16,384 entries
  said : (message : List ℕ) (l : Layout) → run_answer (read_by false (Good l) table most_entries message)
      ≡ read_answer (fit most_entries (read (shape_of table l) (front message))).ends (length (fit most_entries (read (shape_of table l) (front message))).made)
  said message l = rw (reads_plain l table most_entries message)

  refused-said : (o : Outcome) (n : ℕ) {why : Refusal} {p k : ℕ} → read_answer o n ≡ Refused why p k → o ≡ refused why p
  unfolding read_answer
  refused-said (reached x) n e = let z : ◌≡◌ {A = ℕ} 0 1 = cc in absurd (omega arith)
  refused-said (refused why p) n e =
      let (same, place, _) = same-refused e in
      rw (same, place)

  done-said : (o : Outcome) (n : ℕ) {p k : ℕ} → read_answer o n ≡ Done p k → (x : Spot) × (o ≡ reached x)
  unfolding read_answer
  done-said (reached x) n e = (x, refl)
  done-said (refused why p) n e = let z : ◌≡◌ {A = ℕ} 0 1 = cc in absurd (omega arith)

  pub first-refused : {a : ReadAnswer} {why : Refusal} {p k : ℕ} → a ≡ skims table one most_entries → a ≡ Refused why p k → answer.Refused why p ≡ refusal_of (compares table one other)
  unfolding skims compares
  first-refused {why} {p} {k} s e = go (check table) (sym s ∙ e)
    where
      go : (c : Checked) → run_answer (read_by false c table most_entries one) ≡ Refused why p k → answer.Refused why p ≡ refusal_of (compare_by c table one other)
      go (Good l) h = unfold compare_by compare_reads in rw (refused-said _ _ (sym (said one l) ∙ h)) (unfold compare_runs refusal_of in refl)
      go (Err r) h =
          unfold read_by read_answer compare_by refusal_of in
          let (same, place, _) = same-refused h in
          rw (same, place)

  pub second-refused : {a b : ReadAnswer} {q j : ℕ} {why : Refusal} {p k : ℕ} → a ≡ skims table one most_entries → b ≡ skims table other most_entries → a ≡ Done q j → b ≡ Refused why p k
      → answer.OtherRefused why p ≡ refusal_of (compares table one other)
  unfolding skims compares
  second-refused {q} {j} {why} {p} {k} s t e f = go (check table) (sym s ∙ e) (sym t ∙ f)
    where
      go : (c : Checked) → run_answer (read_by false c table most_entries one) ≡ Done q j → run_answer (read_by false c table most_entries other) ≡ Refused why p k
          → answer.OtherRefused why p ≡ refusal_of (compare_by c table one other)
      go (Good l) h i = unfold compare_by compare_reads in rw ((done-said _ _ (sym (said one l) ∙ h)).1, refused-said _ _ (sym (said other l) ∙ i)) (unfold compare_runs refusal_of in refl)
      go (Err r) h k = unfold read_by read_answer in (let z : ◌≡◌ {A = ℕ} 0 1 = cc in absurd (omega arith))

  pub none-refused : {a b : ReadAnswer} {q j p k : ℕ} → a ≡ skims table one most_entries → b ≡ skims table other most_entries → a ≡ Done q j → b ≡ Done p k
      → answer.Short ≡ refusal_of (compares table one other)
  unfolding skims compares
  none-refused {q} {j} {p} {k} s t e f = go (check table) (sym s ∙ e) (sym t ∙ f)
    where
      go : (c : Checked) → run_answer (read_by false c table most_entries one) ≡ Done q j → run_answer (read_by false c table most_entries other) ≡ Done p k
          → answer.Short ≡ refusal_of (compare_by c table one other)
      go (Good l) h i = unfold compare_by compare_reads in rw ((done-said _ _ (sym (said one l) ∙ h)).1, (done-said _ _ (sym (said other l) ∙ i)).1) (unfold compare_runs refusal_of in refl)
      go (Err r) h k = unfold read_by read_answer in (let z : ◌≡◌ {A = ℕ} 0 1 = cc in absurd (omega arith))

  pub bad-compares : (list : List ℕ) {why : Refusal} {i : ℕ} → check table ≡ Bad why i → Compares (compares table one other) list (answer.Refused why i) list
  unfolding compares compare_by
  bad-compares list e = rw e (record { answered = unfold compare_answer in refl; listed = unfold list_after in refl })

-- ---- the answer and the list

pub apart-compares : {s st : List ℕ} {w : Answered} {v : Walked} (list : List ℕ) {a : CompareAnswer} → Told s v st w → v ≡ Apart → a ≡ refusal_of w → Compares w list a list
apart-compares list (done c l) e f = let z : ◌≡◌ {A = ℕ} 0 1 = cc in absurd (omega arith)
apart-compares list none e f = record { answered = unfold refusal_of compare_answer in f; listed = unfold list_after in refl }

no_room : (ps : List Pair) (list : List ℕ) → length list / 2 < length ps → has_room ps list ≡ false
unfolding has_room
no_room ps list h = lt-leb (length ps) (length list / 2) h

module _ {s st : List ℕ} {w : Answered} {v : Walked} {q q' m n c : ℕ} (told : Told s v st w) (e : v ≡ Both q q' m n c) where
  pub short-compares : (list : List ℕ) → length list / 2 < c → Compares w list answer.Short list
  short-compares list h = go told e
    where
      go : {w : Answered} {v : Walked} → Told s v st w → v ≡ Both q q' m n c → Compares w list answer.Short list
      go (done {ps = ps} k l) e =
          let (_, _, _, _, same) = same-both e in
          let no = no_room ps list (omega arith) in
          record { answered = unfold compare_answer in rw no (unfold pick in refl); listed = unfold list_after in rw no (unfold pick in refl) }
      go none e = let z : ◌≡◌ {A = ℕ} 0 1 = cc in absurd (omega arith)

  pub both-kept : Kept w c st
  both-kept = go told e
    where
      go : {w : Answered} {v : Walked} → Told s v st w → v ≡ Both q q' m n c → Kept w c st
      go (done {ps = ps} k l) e = let (_, _, _, _, same) = same-both e in record { them = ps; empty = s; answered = refl; counted = sym same ∙ k; listed = l }
      go none e = let z : ◌≡◌ {A = ℕ} 0 1 = cc in absurd (omega arith)

module _ {w : Answered} {c : ℕ} {words : List ℕ} (k : Kept w c words) (list : List ℕ) (room : c ≤ length list / 2) where
  has_room_lem : has_room k.them list ≡ true
  unfolding has_room
  has_room_lem = le-leb (length k.them) (length list / 2) (omega (arith, k.counted))

  list-so : list_after w list ≡ pair_words k.them ++ drop (2 * c) list
  unfolding list_after
  list-so = rw (k.answered, has_room_lem) (unfold pick in rw (length_pairs k.them, k.counted))

  pub done-compares : {last : List ℕ} → last ≡ list_after w list → Compares w list (answer.Done c) last
  done-compares h = record { answered = unfold compare_answer in rw (k.answered, has_room_lem) (unfold pick in ap answer.Done k.counted); listed = h }

  -- the pairs that were kept, if there was room for them
  pub few-listed : c ≤ length words / 2 → take (2 * c) words ++ drop (2 * c) list ≡ list_after w list
  few-listed h =
      let long : 2 * c ≡ length (pair_words k.them) = omega (arith, k.counted, length_pairs k.them) in
      let words_are : length words ≡ length k.empty = ap length k.listed ∙ length_from k.them 0 k.empty in
      let front : take (2 * c) words ≡ pair_words k.them
      = ap (take (2 * c)) (k.listed ∙ pairs-front k.them k.empty (omega (arith, k.counted, words_are, h))) ∙ rw long (take-append_seam (pair_words k.them) _) in
      rw (front, list-so)

  -- or those of another walk
  pub many-listed : {st : List ℕ} {v : Walked} → Told list v st w → st ≡ list_after w list
  many-listed told = go told k.answered
    where
      go : {v : Walked} {st : List ℕ} {w' : Answered} → Told list v st w' → w' ≡ pairs k.them → st ≡ list_after w list
      go (done {ps = ps} a b) e =
          let same : ps ≡ k.them = cc in
          b ∙ ap (λ ps. pairs_from ps 0 list) same ∙ pairs-front k.them list (omega (arith, k.counted)) ∙ rw (length_pairs k.them, ← k.counted) (sym list-so)
      go none e = let z : ◌≡◌ {A = ℕ} 0 1 = cc in absurd (omega arith)

-- ---- no choice

pub one-comparison : OneComparison
one-comparison w list x y f g = ap₂ (λ a s. (a, s)) (f.answered ∙ sym g.answered) (f.listed ∙ sym g.listed)
