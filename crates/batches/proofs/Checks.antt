-- What is written passes the check, and what passes it is searched as it is read.
-- Assumes nothing.
use mathlib.Core.Path.{◌≡◌, refl, sym, ap, ◌∙◌}
use mathlib.Core.Bool.{Bool, true, false}
use mathlib.Core.List.{List}
use Prim.Native.Nat.{ℕ, ◌*◌, ◌^◌, ◌<◌, ◌≤◌}
use native.Mathlib.Omega.{arith}
use lib.ListN.{length, drop}
use lib.Seq.{take_at}
use lib.Dec.{leb}
use borrow.Author.Tests.{ltb-true, leb-true}
use Rattle.desk.specs.declared.Fault.{Fault}
use Rattle.desk.specs.BatchChecked.{Good}
use Rattle.wire.specs.Tests.{pick}
use Rattle.laws.proofs.Splits.{both_left, both_right}
use Rattle.desk.specs.declared.Row.{Row}
use Rattle.desk.specs.Rows.{same_rows, sort}
use Rattle.desk.specs.Messages.{Keyed, is_keyed, Message, Split, whole, broken, split, joined, rows_of}
use Rattle.batches.specs.Reads.{Reads}
use Rattle.desk.specs.Batch.{Or, so, fault, after, tabled, keyed, in_room, batch_of, Parts, opened, whole_by, messages_of, split_by, offsets_fit, sized, writes, checks, finds_last, finds_from_front, checked_answer, written_answer, out_with, batch_check}
use Rattle.batches.specs.Good.{IsGood, CheckIsGood}
use Rattle.batches.specs.Laws.{WritingPasses, WrittenInFront, RowsFindLast}
use Rattle.batches.proofs.Order.{same-rows, rows-itself}
use Rattle.batches.proofs.Ends.{split-reads, reads-joined}
use Rattle.batches.specs.Fit.{RowsFit}
use Rattle.batches.proofs.Bytes.{length-sort, fit-sort, length-rows_of, parts-back}
use Rattle.batches.proofs.Keys.{rows_fit}
use Rattle.batches.proofs.Last.{found-last}

-- ---- a call that is not refused

pub not_so {ℓ} : {X : Type ℓ} {A : Type 0} {a : A} {e : Fault} → fault e ≡ so a → X
not_so q = let z : ◌≡◌ {A = ℕ} 0 1 = cc in absurd (omega arith)

pub of-after {ℓ} : {X : Type ℓ} {A B : Type 0} (x : Or A) (f : A → Or B) {b : B} → after x f ≡ so b → ((a : A) → x ≡ so a → f a ≡ so b → X) → X
unfolding after
of-after (so a) f e g = g a refl e
of-after (fault r) f e g = not_so e

pub of-so {ℓ} : {X : Type ℓ} {A : Type 0} (t : Bool) (x : A) (r : Fault) {y : A} → pick t (so x) (fault r) ≡ so y → (t ≡ true → x ≡ y → X) → X
unfolding pick
of-so true x r e f = f refl (cc)
of-so false x r e f = not_so e

whole_by_lem {ℓ} : {X : Type ℓ} (rows : List Row) (s : Split) {ms : List Message} → whole_by rows s ≡ so ms → (s ≡ whole ms → rows ≡ sort (rows_of 0 ms) → X) → X
unfolding whole_by
whole_by_lem rows (whole rs) e f = of-so (same_rows rows (sort (rows_of 0 rs))) rs _ e (λ t q. f (ap whole q) (same-rows _ _ t ∙ ap (λ ms. sort (rows_of 0 ms)) q))
whole_by_lem rows (broken r p) e f = not_so e

pub messages-pass {ℓ} : {X : Type ℓ} (b : Parts) {ms : List Message} → messages_of b ≡ so ms → (Reads b.keys b.front ms → b.rows ≡ sort (rows_of 0 ms) → X) → X
unfolding messages_of
messages-pass b e f = whole_by_lem b.rows (split b.keys b.front) e (λ s r. f ((split-reads _ _ _).0 s) r)

pub messages-of : (b : Parts) (ms : List Message) → Reads b.keys b.front ms → b.rows ≡ sort (rows_of 0 ms) → messages_of b ≡ so ms
unfolding messages_of whole_by pick
messages-of b ms r q = rw ((split-reads b.keys b.front ms).1 r, q, rows-itself (sort (rows_of 0 ms)))

pub passes_of : {table batch : List ℕ} → batch_check table batch ≡ Good → IsGood table batch
unfolding batch_check
passes_of {table} {batch} e = go (checks table batch) e refl
  where
    inside : (ms : List Message) → checks table batch ≡ so ms → IsGood table batch
    inside ms q =
        unfold checks in
        of-after (tabled table) _ q (λ t h r. of-after (opened t batch) _ r (λ b k s. messages-pass b s
        (λ u v. record { shape = t; parts = b; messages = ms; has_shape = h; has_parts = k; reads = u; rows = v })))

    go : (x : Or (List Message)) → checked_answer x ≡ Good → checks table batch ≡ x → IsGood table batch
    go (so ms) f q = inside ms q
    go (fault r) f q = unfold checked_answer in (let z : ◌≡◌ {A = ℕ} 0 1 = cc in absurd (omega arith))

pub passes-good : {table batch : List ℕ} → IsGood table batch → batch_check table batch ≡ Good
unfolding batch_check checks checked_answer after
passes-good p = rw (p.has_shape, p.has_parts, messages-of p.parts p.messages p.reads p.rows)

pub check-is-good : CheckIsGood
check-is-good table batch = (λ e. passes_of e, λ p. passes-good p)

-- ---- the two ways to find

pub rows-find-last : RowsFindLast
unfolding finds_last finds_from_front after split_by
rows-find-last table batch k e =
    let p = passes_of e in
    rw (p.has_shape, p.has_parts, (split-reads p.parts.keys p.parts.front p.messages).1 p.reads)
    (found-last p.parts.keys p.parts.front p.messages p.parts.rows p.reads p.rows k)

-- ---- a batch that is made

-- messages that fit make a batch of theirs
pub made-opened : (k : Keyed) (ms : List Message) → is_keyed k ≡ true → Reads k (joined ms) ms → offsets_fit (rows_of 0 ms) ≡ true → 16 * length ms < 2 ^ 32
    → opened k.shape (batch_of k ms) ≡ so (record { keys = k; front = joined ms; rows = sort (rows_of 0 ms) })
unfolding batch_of
made-opened k ms ok r o n =
    let rows = sort (rows_of 0 ms) in
    let many : length rows ≡ length ms = length-sort (rows_of 0 ms) ∙ length-rows_of 0 ms in
    let fit : RowsFit rows = fit-sort (rows_of 0 ms) (rows_fit 0 ok r o) in
    rw many at (parts-back k (joined ms) rows ok (omega arith) fit)

pub made-passes : (table : List ℕ) (k : Keyed) (ms : List Message) → tabled table ≡ so k.shape → is_keyed k ≡ true → Reads k (joined ms) ms
    → offsets_fit (rows_of 0 ms) ≡ true → 16 * length ms < 2 ^ 32 → IsGood table (batch_of k ms)
made-passes table k ms t ok r o n =
    record { shape = k.shape; parts = record { keys = k; front = joined ms; rows = sort (rows_of 0 ms) }; messages = ms; has_shape = t; has_parts = made-opened k ms ok r o n; reads = r; rows = refl }

pub of-keyed {ℓ} : {X : Type ℓ} (k : Keyed) {l : Keyed} → keyed k ≡ so l → (is_keyed k ≡ true → k ≡ l → X) → X
unfolding keyed
of-keyed k e f = of-so (is_keyed k) k _ e f

pub of_room {ℓ} : {X : Type ℓ} (room : ℕ) (s : List ℕ) {t : List ℕ} → in_room room s ≡ so t → (length s ≤ room → s ≡ t → X) → X
unfolding in_room
of_room room s e f = of-so (leb (length s) room) s _ e (λ t q. f (leb-true (length s) room t) q)

of-sized {ℓ} : {X : Type ℓ} (ms : List Message) {rs : List Message} → sized ms ≡ so rs → (offsets_fit (rows_of 0 ms) ≡ true → 16 * length ms < 2 ^ 32 → ms ≡ rs → X) → X
unfolding sized
of-sized ms e f = of-so _ ms _ e (λ t q. f (both_left _ _ t) (ltb-true (16 * length ms) (2 ^ 32) (both_right _ _ (both_right _ _ t))) q)

of-split : (x : Split) {ms : List Message} → split_by x ≡ so ms → x ≡ whole ms
unfolding split_by
of-split (whole rs) e = ap whole (cc)
of-split (broken r p) e = not_so e

pub writing-passes : WritingPasses
writing-passes table s f g room batch e = passes-good (written e)
  where
    made : (k : Keyed) (ms : List Message) → tabled table ≡ so k.shape → is_keyed k ≡ true → split k s ≡ whole ms → sized ms ≡ so ms → IsGood table (batch_of k ms)
    made k ms t ok q z =
        let r = (split-reads k s ms).0 q in
        of-sized ms z (λ o n _. made-passes table k ms t ok (rw (reads-joined r) r) o n)

    written : writes table s f g room ≡ so batch → IsGood table batch
    written e =
        unfold writes in
        of-after (tabled table) _ e (λ t h e. of-after (keyed (record { shape = t; store = f; product = g })) _ e
        (λ k q e. of-keyed (record { shape = t; store = f; product = g }) q
        (λ ok same. of-after (split_by (split k s)) _ e (λ ms v e. of-after (sized ms) _ e
        (λ rs z e. of_room room (batch_of k rs) e (λ l w. of-sized ms z (λ o n u.
        rw (← w, ← u) (made k ms (h ∙ ap (λ k. so k.shape) same) (rw same at ok) (of-split _ v) (z ∙ ap so (sym u))))))))))

pub written-in-front : WrittenInFront
unfolding written_answer out_with
written-in-front (so s) out n e =
    let q : length s ≡ n = cc in
    ap so (sym (take_at s (drop (length s) out) n q))
written-in-front (fault r) out n e = let z : ◌≡◌ {A = ℕ} 0 1 = cc in absurd (omega arith)
