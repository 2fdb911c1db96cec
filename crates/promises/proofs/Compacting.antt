-- What is promised of compaction follows from the laws of `batches`: an answer that is done names what was made, and the laws say what that is.
-- Assumes nothing.
use Rattle.std.specs.Prelude.{Ok}
use mathlib.Core.Path.{◌≡◌, refl, sym, ap, ◌∙◌}
use mathlib.Core.List.{List}
use mathlib.Core.Bool.{Bool, true, false}
use mathlib.Core.Option.{Option, none, some}
use Prim.Native.Nat.{ℕ, ◌+◌, ◌≤◌}
use native.Mathlib.Omega.{arith}
use lib.ListN.{length, take, drop}
use lib.Seq.{take_at, drop_at}
use lib.Dec.{leb}
use borrow.Author.Tests.{le-leb}
use Rattle.wire.specs.declared.Refusal.TheVariants.{Full}
use Rattle.wire.specs.Tests.{pick}
use Rattle.wire.specs.Shape.{Shape}
use Rattle.desk.specs.declared.Fault.{Fault}
use Rattle.desk.specs.declared.Fault.TheVariants.{Wire, Missing}
use Rattle.desk.specs.BatchWritten.{Done as Written, Refused as NotWritten}
use Rattle.desk.specs.BatchChecked.{Good, Bad}
use Rattle.desk.specs.BatchFound.{BatchFound}
use Rattle.desk.specs.BatchFound.{Part as Found, Refused as NotFound}
use Rattle.desk.specs.declared.Key.{Key}
use Rattle.desk.specs.Messages.{Message, Part, last_from}
use Rattle.desk.specs.Batch.{Or, so, fault, after, tabled, in_room, batch_of, Parts, opened, messages_of, checks, finds_last, or_missing, written_answer, out_with, checked_answer, found_answer, batch_check, batch_last, part_of}
use Rattle.desk.specs.Compact.{keep_last, compacts, batch_compact, batch_compact_out}
use Rattle.batches.specs.Good.{IsGood}
use Rattle.batches.specs.Laws.{found_bytes}
use Rattle.batches.specs.Search.{Searched}
use Rattle.batches.proofs.Checks.{not_so, of-after, of_room, messages-of, passes_of, written-in-front}
use Rattle.batches.proofs.Search.{searched-is-last}
use Rattle.batches.proofs.Opened.{opened-facts}
use Rattle.batches.proofs.Keeping.{occurs-keep}
use Rattle.batches.proofs.Compacting.{checks-of, finds_last-last, compaction-passes, compaction-keeps, compaction-holds, compaction-once, compaction-shorter, compaction-fits}
use Rattle.promises.specs.Compacting.{Compacted, CompactedPasses, CompactedKeeps, KeysStay, CompactedShorter, CompactedOnce, SameBytes, found, missing, CompactedAnswers, CompactRefuses, CompactFull, CompactFits, RefusalKeeps, Behind, CompactBehind}
use Rattle.promises.specs.Batches.{Lies}
use Rattle.promises.proofs.Batches.{found-lies, keeps}

-- ---- what was made

made_of : {table batch new : List ℕ} (c : Compacted table batch new) → compacts table batch (length c.out) ≡ so new
unfolding batch_compact batch_compact_out
made_of {table} {batch} {new} c =
    written-in-front (compacts table batch (length c.out)) c.out (length new) c.done ∙ ap so c.is

pub compacted-passes : CompactedPasses
compacted-passes table batch new c = compaction-passes table batch (length c.out) new c.bytes (made_of c)

pub compacted-keeps : CompactedKeeps
compacted-keeps table batch new c before after =
    let h = compaction-holds table batch (length c.out) new c.bytes (made_of c) in
    let a : so before.messages ≡ so h.messages = sym (checks-of table batch before) ∙ h.before in
    let b : so after.messages ≡ so (keep_last h.messages) = sym (checks-of table new after) ∙ h.after in
    let p : before.messages ≡ h.messages = cc in
    let q : after.messages ≡ keep_last h.messages = cc in
    q ∙ ap keep_last (sym p)

pub keys-stay : KeysStay
keys-stay = occurs-keep

pub compacted-shorter : CompactedShorter
compacted-shorter table batch new c = compaction-shorter table batch (length c.out) new (made_of c)

pub compacted-once : CompactedOnce
unfolding batch_compact batch_compact_out written_answer out_with
compacted-once table batch new out c l =
    let e = compaction-once table batch (length c.out) (length out) new c.bytes (made_of c) l in
    record { done = rw e; same = rw e (take_at new (drop (length new) out) (length new) refl) }

-- ---- the questions

-- an answer's bytes, or its fault
unfoldable bytes_of : List ℕ → BatchFound → Or (List ℕ)
bytes_of batch (Ok r) = so (take r.len (drop r.from batch))
bytes_of batch (NotFound why) = fault why

bytes-of : (batch : List ℕ) (o : Or Part) → bytes_of batch (found_answer o) ≡ found_bytes batch o
unfolding bytes_of found_answer found_bytes
bytes-of batch (so p) = refl
bytes-of batch (fault why) = refl

searched-bytes : (table batch : List ℕ) (k : Key) (answer : BatchFound) → batch_check table batch ≡ Good → Searched table batch k answer → bytes_of batch answer ≡ found_bytes batch (finds_last table batch k)
unfolding batch_last
searched-bytes table batch k answer g x = ap (bytes_of batch) (searched-is-last table batch k answer g x) ∙ bytes-of batch (finds_last table batch k)

-- a part that is found is handed back whole
part-is : {table batch : List ℕ} {from len : ℕ} → Lies table batch from len → part_of batch (Found from len) ≡ take len (drop from batch)
unfolding part_of pick
part-is {table} {batch} {from} {len} l =
    let size = (opened-facts l.shape batch l.parts l.has_parts).size in
    rw (le-leb (from + len) (length batch) (omega (arith, l.inside)))

of-missing : (o : Option Part) {why : Fault} → found_answer (or_missing o) ≡ NotFound why → why ≡ Missing
unfolding found_answer or_missing
of-missing (some p) e = let z : ◌≡◌ {A = ℕ} 0 1 = cc in absurd (omega arith)
of-missing none e = cc

-- what is not found in a good batch is missing
not_found : (table batch : List ℕ) (k : Key) {why : Fault} → batch_check table batch ≡ Good → Searched table batch k (NotFound why) → why ≡ Missing
unfolding batch_last
not_found table batch k {why} g x =
    let p = passes_of g in
    of-missing (last_from k 0 p.messages) (sym (searched-is-last table batch k (NotFound why) g x ∙ ap found_answer (finds_last-last table batch p k)))

same_bytes : (table batch new : List ℕ) (k : Key) (before after : BatchFound) → batch_check table batch ≡ Good → batch_check table new ≡ Good → Searched table batch k before → Searched table new k after
    → bytes_of new after ≡ bytes_of batch before → SameBytes batch new before after
unfolding bytes_of
same_bytes table batch new k (Ok r) (Ok it) g h x y e =
    let q : take it.len (drop it.from new) ≡ take r.len (drop r.from batch) = cc in
    found (part-is (found-lies table new k it.from it.len y) ∙ q ∙ sym (part-is (found-lies table batch k r.from r.len x)))
same_bytes table batch new k (NotFound why) (NotFound why') g h x y e =
    rw (not_found table batch k g x, not_found table new k h y) missing
same_bytes table batch new k (Ok r) (NotFound why') g h x y e = not_so e
same_bytes table batch new k (NotFound why) (Ok r) g h x y e = not_so (sym e)

is-good : (table batch : List ℕ) {ms : List Message} → checks table batch ≡ so ms → batch_check table batch ≡ Good
unfolding batch_check checked_answer
is-good table batch e = rw e

pub compacted-answers : CompactedAnswers
compacted-answers table batch new k before after c x y =
    let p = compaction-holds table batch (length c.out) new c.bytes (made_of c) in
    let g = is-good table batch p.before in
    let h = compacted-passes table batch new c in
    same_bytes table batch new k before after g h x y
    (searched-bytes table new k after h y ∙ compaction-keeps table batch (length c.out) new k c.bytes (made_of c) ∙ sym (searched-bytes table batch k before g x))

-- ---- refusals

refused-by : (x : Or Shape) (f : Shape → Or Parts) (g : Parts → List Message → Or (List ℕ)) (why : Fault) → after x (λ t. after (f t) (λ b. messages_of b)) ≡ fault why
    → after x (λ t. after (f t) (λ b. after (messages_of b) (g b))) ≡ fault why
unfolding after
refused-by (fault r) f g why e = ap fault (cc)
refused-by (so t) f g why e = parted (f t) e
  where
    told : (b : Parts) (y : Or (List Message)) → y ≡ fault why → after y (g b) ≡ fault why
    told b y e = unfold after in rw e

    parted : (y : Or Parts) → after y (λ b. messages_of b) ≡ fault why → after y (λ b. after (messages_of b) (g b)) ≡ fault why
    parted (fault r) e = unfold after in ap fault (cc)
    parted (so b) e = unfold after in told b (messages_of b) e

of-bad : (x : Or (List Message)) {why : Fault} → checked_answer x ≡ Bad why → x ≡ fault why
unfolding checked_answer
of-bad (so ms) e = let z : ◌≡◌ {A = ℕ} 0 1 = cc in absurd (omega arith)
of-bad (fault r) e = ap fault (cc)

pub compact-refuses : CompactRefuses
unfolding batch_compact batch_check checks compacts written_answer
compact-refuses table batch out why e =
    rw (refused-by (tabled table) (λ t. opened t batch) (λ b ms. in_room (length out) (batch_of b.keys (keep_last ms))) why (of-bad (checks table batch) e))

full-only : (room : ℕ) (s : List ℕ) {why : Fault} → written_answer (in_room room s) ≡ NotWritten why → why ≡ Wire Full 0
unfolding in_room
full-only room s {why} e = go (leb (length s) room) e
  where
    go : (t : Bool) → written_answer (pick t (so s) (fault (Wire Full 0))) ≡ NotWritten why → why ≡ Wire Full 0
    go true e = unfold pick written_answer in (let z : ◌≡◌ {A = ℕ} 0 1 = cc in absurd (omega arith))
    go false e = unfold pick written_answer in cc

pub compact-full : CompactFull
unfolding batch_compact
compact-full table batch out why g e =
    let p = passes_of g in
    full-only (length out) (batch_of p.parts.keys (keep_last p.messages)) (sym (ap written_answer (made p)) ∙ e)
  where
    made : (p : IsGood table batch) → compacts table batch (length out) ≡ in_room (length out) (batch_of p.parts.keys (keep_last p.messages))
    made p = unfold compacts after in rw (p.has_shape, p.has_parts, messages-of p.parts p.messages p.reads p.rows)

pub compact-fits : CompactFits
unfolding batch_compact written_answer
compact-fits table batch out g l =
    let c = compaction-fits table batch (length out) g l in
    record { size = length c.new; done = rw c.made }

-- ---- the output

pub refusal-keeps : RefusalKeeps
unfolding batch_compact batch_compact_out
refusal-keeps table batch out why e = keeps (compacts table batch (length out)) out why e

pub compact-behind : CompactBehind
unfolding batch_compact batch_compact_out
compact-behind table batch out n e = go (compacts table batch (length out)) refl e
  where
    fits : (s : List ℕ) → compacts table batch (length out) ≡ so s → length s ≤ length out
    fits s q = unfold compacts in
        of-after (tabled table) _ q (λ t h q. of-after (opened t batch) _ q (λ b i q. of-after (messages_of b) _ q (λ ms j q.
        of_room (length out) (batch_of b.keys (keep_last ms)) q (λ l w. rw w at l))))

    go : (x : Or (List ℕ)) → compacts table batch (length out) ≡ x → written_answer x ≡ Written n → Behind out (out_with x out) n
    go (so s) q e = unfold written_answer out_with in
        (let z : length s ≡ n = cc in record { room = rw z at (fits s q); behind = rw (← z) (drop_at s (drop (length s) out) (length s) refl) })
    go (fault why) q e = unfold written_answer in (let z : ◌≡◌ {A = ℕ} 0 1 = cc in absurd (omega arith))
