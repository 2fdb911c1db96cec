-- Counting messages: the offsets rise, so that they all fit if the last one does.
-- Assumes nothing.
use mathlib.Core.Path.{◌≡◌, refl, sym, ap, ◌∙◌, subst}
use mathlib.Core.Bool.{Bool, true, false}
use mathlib.Core.List.{List, [], ◌∷◌, ◌++◌}
use Prim.Native.Nat.{ℕ, ◌+◌, ◌-◌, ◌*◌, ◌^◌, ◌≤◌, ◌<◌}
use native.Mathlib.Nat.{zero-add}
use native.Mathlib.Omega.{arith}
use lib.ListN.{length, take, drop, length-drop}
use lib.Dec.{ltb, leb}
use borrow.Author.Tests.{lt-ltb, le-ltb, le-leb, lt-leb}
use Rattle.wire.specs.declared.Refusal.{Refusal}
use Rattle.wire.specs.Tests.{both}
use Rattle.laws.proofs.Splits.{by-test, by-lt}
use Rattle.laws.proofs.Parts.{tail}
use Rattle.desk.specs.declared.Key.{Key}
use Rattle.desk.specs.declared.Row.{Row}
use Rattle.desk.specs.Messages.{Keyed, is_keyed, Message, next_of, split, joined, rows_of}
use Rattle.desk.specs.Batch.{offsets_fit}
use Rattle.batches.proofs.Onward.{rows-one}
use Rattle.messages.specs.NextMessage.{NextMessage}
use Rattle.messages.specs.NextMessage.{Message as Is, Stops}
use Rattle.messages.specs.Steps.{next_answer}
use Rattle.messages.proofs.SoFar.{Told, told, stopped, SoFar, begin, step, step_less, step-inside, step-stops, step_end}
use Rattle.laying.specs.Counted.{All, Stopped}
use Rattle.laying.specs.Counts.{Counts, counts, breaks}
use Rattle.laying.proofs.Inside.{stops-inside}

-- ---- offsets

offsets-one : (rs : List Row) (r : Row) → offsets_fit (rs ++ (r ∷ [])) ≡ both (offsets_fit rs) (ltb r.offset (2 ^ 32))
unfolding offsets_fit
offsets-one [] r = true-right (ltb r.offset (2 ^ 32))
  where
    true-right : (b : Bool) → both b true ≡ both true b
    true-right true = unfold both in refl
    true-right false = unfold both in refl
offsets-one (x ∷ rs) r = rw (offsets-one rs r) (assoc (ltb x.offset (2 ^ 32)) (offsets_fit rs) (ltb r.offset (2 ^ 32)))
  where
    assoc : (a b c : Bool) → both a (both b c) ≡ both (both a b) c
    assoc true b c = unfold both in refl
    assoc false b c = unfold both in refl

-- of two offsets the later one decides
later-decides : (a b limit : ℕ) → a ≤ b → both (ltb a limit) (ltb b limit) ≡ ltb b limit
unfolding both
later-decides a b limit h = by-lt b limit (λ l. rw (lt-ltb a limit (omega arith))) (λ m. rw (le-ltb b limit m) (by-test (ltb a limit) (λ e. rw e) (λ e. rw e)))

-- ---- the loop

pub record Counting (k : Keyed) (s : List ℕ) (at many last : ℕ) : Type 0 where
  pub them : List Message
  pub so_far : SoFar k s at many them
  pub before : last ≤ at
  pub fits : offsets_fit (rows_of 0 them) ≡ ltb last (2 ^ 32)

pub counting-begin : (k : Keyed) (s : List ℕ) → Counting k s 0 0 0
unfolding rows_of offsets_fit
counting-begin k s = record { them = []; so_far = begin k s; before = omega arith; fits = sym (lt-ltb 0 (2 ^ 32) (omega arith)) }

module _ {k : Keyed} {s : List ℕ} {at many last : ℕ} (ok : is_keyed k ≡ true) (w : Counting k s at many last) (h : at < length s) {r : NextMessage}
    (n : r ≡ next_answer (next_of k (take (length s - at) (drop at s)))) where
  there : r ≡ next_answer (next_of k (drop at s))
  there = n ∙ ap (λ s. next_answer (next_of k s)) (tail s at)

  module _ {why : Refusal} {p : ℕ} (e : r ≡ Stops why p) where
    pub counting-inside : at + p ≤ length s
    counting-inside = omega (arith, stops-inside k (drop at s) (stopped k (drop at s) there e), length-drop at s)

    pub counting-stops : Counts (split k s) (Stopped why (at + p))
    counting-stops = subst (λ x. Counts x (Stopped why (at + p))) (sym (step-stops ok w.so_far h (stopped k (drop at s) there e))) breaks

  module _ {key : Key} {len : ℕ} (e : r ≡ Is key len) where
    tells : Told k (drop at s) key len
    tells = told k (drop at s) there e

    pub counting-next : Counting k s (at + len) (many + 1) at
    counting-next =
        record {
          them = w.them ++ (tells.message ∷ []);
          so_far = step ok w.so_far h tells;
          before = omega arith;
          fits = ap offsets_fit (rows-one 0 w.them tells.message) ∙ offsets-one (rows_of 0 w.them) _ ∙ rw (w.fits, zero-add (length (joined w.them)), w.so_far.behind) (later-decides last at (2 ^ 32) w.before);
        }

    pub counting-on : 0 < len
    counting-on = step_less ok w.so_far h tells

    pub counting_more : at + len ≤ length s
    counting_more = step-inside ok w.so_far h tells

pub counting-end : {k : Keyed} {s : List ℕ} {at many last : ℕ} → is_keyed k ≡ true → Counting k s at many last → length s ≤ at → Counts (split k s) (All many last)
counting-end {k} {s} {at} {many} {last} ok w h = subst (λ x. Counts x (All many last)) (sym (step_end ok w.so_far h)) (counts w.so_far.many w.fits)

-- ---- sizes

pub sizes-near : (count last : ℕ) → last ≤ 4294967295 → leb count 268435455 ≡ both (ltb last (2 ^ 32)) (both (ltb count (2 ^ 32)) (ltb (16 * count) (2 ^ 32)))
unfolding both
sizes-near count last h =
    rw (lt-ltb last (2 ^ 32) (omega arith))
    (by-lt count 268435456 (λ l. rw (le-leb count 268435455 (omega arith), lt-ltb count (2 ^ 32) (omega arith), lt-ltb (16 * count) (2 ^ 32) (omega arith)))
    (λ m. rw (lt-leb count 268435455 (omega arith), le-ltb (16 * count) (2 ^ 32) (omega arith)) (by-test (ltb count (2 ^ 32)) (λ e. rw e) (λ e. rw e))))

pub sizes-far : (count last : ℕ) → 4294967295 < last → false ≡ both (ltb last (2 ^ 32)) (both (ltb count (2 ^ 32)) (ltb (16 * count) (2 ^ 32)))
unfolding both
sizes-far count last h = rw (le-ltb last (2 ^ 32) (omega arith))
