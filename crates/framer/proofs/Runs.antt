-- A run goes on from what was passed of it, and it ends at a zero, at the 254th byte or at the message's end.
-- Assumes nothing.
use mathlib.Core.Path.{◌≡◌, refl, sym, ap, ◌∙◌}
use mathlib.Core.List.{List, [], ◌∷◌, ◌++◌, append_assoc, append-nil}
use mathlib.Core.Option.{none}
use Prim.Native.Nat.{ℕ, zero, suc, ◌+◌, ◌-◌, ◌≤◌, ◌<◌}
use native.Mathlib.Omega.{arith}
use lib.ListN.{length, get_or, set, drop, length-append, drop_of_length-le}
use lib.Seq.{sets, length-sets, drop-cons}
use Rattle.wire.specs.Frames.{to_zero}
use Rattle.laws.proofs.Parts.{sets-append}
use Rattle.laws.proofs.Splits.{by-lt}
use Rattle.framer.specs.Steps.{run, group_at, Most, Ran}

-- ---- what a run is

run_end : (most : ℕ) → run most [] ≡ []
unfolding run
run_end zero = refl
run_end (suc most) = refl

run-full : (s : List ℕ) → run 0 s ≡ []
unfolding run
run-full [] = refl
run-full (b ∷ s) = refl

run-zero : (most b : ℕ) (s : List ℕ) → b ≡ 0 → run most (b ∷ s) ≡ []
unfolding run
run-zero zero zero s is = refl
run-zero (suc most) zero s is = refl
run-zero most (suc b) s is = absurd (omega arith)

run_on : (most b : ℕ) (s : List ℕ) → (b ≡ 0 → ⊥) → run (suc most) (b ∷ s) ≡ b ∷ run most s
unfolding run
run_on most zero s byte = absurd (byte refl)
run_on most (suc b) s byte = refl

pub run_short : (most : ℕ) (s : List ℕ) → length (run most s) ≤ most
unfolding run
run_short zero [] = omega arith
run_short (suc most) [] = omega arith
run_short zero (b ∷ s) = omega arith
run_short (suc most) (zero ∷ s) = omega arith
run_short (suc most) (suc b ∷ s) = omega (arith, run_short most s)

pub run-clean : (most : ℕ) (s : List ℕ) → to_zero (run most s) ≡ none
unfolding run to_zero
run-clean zero [] = refl
run-clean (suc most) [] = refl
run-clean zero (b ∷ s) = refl
run-clean (suc most) (zero ∷ s) = refl
run-clean (suc most) (suc b ∷ s) = rw (run-clean most s)

-- what stands behind a run
pub run-front : (most : ℕ) (s : List ℕ) → run most s ++ drop (length (run most s)) s ≡ s
unfolding run
run-front zero [] = refl
run-front (suc most) [] = refl
run-front zero (b ∷ s) = refl
run-front (suc most) (zero ∷ s) = refl
run-front (suc most) (suc b ∷ s) = ap (λ (t : List ℕ). suc b ∷ t) (run-front most s)

-- a run that is not full, and has something behind it, ends at a zero
pub run-stops : (most : ℕ) (s : List ℕ) → length (run most s) < most → length (run most s) < length s → get_or s (length (run most s)) 0 ≡ 0
unfolding run
run-stops zero s few more = absurd (omega arith)
run-stops (suc most) [] few more = refl
run-stops (suc most) (zero ∷ s) few more = refl
run-stops (suc most) (suc b ∷ s) few more = run-stops most s (omega arith) (omega arith)

-- ---- the loop

-- some bytes of the group were put
pub record Running (message : List ℕ) (from : ℕ) (out₀ : List ℕ) (to most n : ℕ) (out : List ℕ) : Type 0 where
  pub front : List ℕ
  pub left : ℕ
  pub count : n ≡ length front
  pub more : n + left ≡ 254
  pub same : front ++ run left (drop (from + n) message) ≡ group_at message from
  pub stored : out ≡ sets out₀ to front
  pub up : n ≤ most
  pub within : from ≤ length message
  pub stops : Most (length message - from) most

pub running-begin : {message out : List ℕ} {from to most : ℕ} → from ≤ length message → Most (length message - from) most → Running message from out to most 0 out
running-begin {from = from} within s =
    let here : from + 0 ≡ from = omega arith in
    record {
      front = [];
      left = 254;
      count = refl;
      more = refl;
      same = rw here;
      stored = refl;
      up = omega arith;
      within = within;
      stops = s;
    }

module _ {message : List ℕ} {from : ℕ} {out₀ : List ℕ} {to most n : ℕ} {out : List ℕ} (h : Running message from out₀ to most n out) where
  pub running-long : length out ≡ length out₀
  running-long = rw h.stored (length-sets out₀ to h.front)

  -- nothing more is put
  module _ (none_left : run h.left (drop (from + n) message) ≡ []) where
    whole : h.front ≡ group_at message from
    whole = sym (append-nil h.front) ∙ ap (λ (s : List ℕ). h.front ++ s) (sym none_left) ∙ h.same

    stopped : Ran message from out₀ to n out
    stopped = record { many = h.count ∙ ap length whole; stored = h.stored ∙ ap (sets out₀ to) whole }

  pub running-end : most ≤ n → Ran message from out₀ to n out
  running-end hi =
      stopped (by-lt most (length message - from)
      (λ lo. let e : h.left ≡ 0 = omega (arith, h.more, h.stops.full lo, h.up) in rw e (run-full (drop (from + n) message)))
      (λ past. rw (drop_of_length-le message {i = from + n} (omega (arith, h.within))) (run_end h.left)))

  module _ (lo : n < most) where
    abbrev byte : ℕ
    byte = get_or message (from + n) 0

    pub running-inside : from + n < length message
    running-inside = omega (arith, h.stops.inside)

    turn : drop (from + n) message ≡ byte ∷ drop (from + (n + 1)) message
    turn = let behind : from + (n + 1) ≡ suc (from + n) = omega arith in rw behind (drop-cons message (from + n) 0 running-inside)

    pub running-zero : byte ≡ 0 → Ran message from out₀ to n out
    running-zero is = stopped (rw turn (run-zero h.left byte (drop (from + (n + 1)) message) is))

    some_left : 1 ≤ h.left
    some_left = omega (arith, h.more, h.stops.few)

    module _ (is : byte ≡ 0 → ⊥) where
      goes_on : run h.left (drop (from + n) message) ≡ byte ∷ run (h.left - 1) (drop (from + (n + 1)) message)
      goes_on =
          let e : h.left ≡ suc (h.left - 1) = omega (arith, some_left) in
          ap (λ (k : ℕ). run k (drop (from + n) message)) e ∙ rw turn (run_on (h.left - 1) byte (drop (from + (n + 1)) message) is)

      -- so the byte has its place
      pub running-room : to + length (group_at message from) ≤ length out₀ → to + n < length out
      running-room fits =
          let long : length h.front + suc (length (run (h.left - 1) (drop (from + (n + 1)) message))) ≡ length (group_at message from) =
          sym (length-append h.front (byte ∷ run (h.left - 1) (drop (from + (n + 1)) message))) ∙ ap length (ap (λ (s : List ℕ). h.front ++ s) (sym goes_on) ∙ h.same)
          in
          omega (arith, h.count, running-long)

      pub running-next : Running message from out₀ to most (n + 1) (set out (to + n) byte)
      running-next =
          record {
            front = h.front ++ (byte ∷ []);
            left = h.left - 1;
            count = omega (arith, h.count, length-append h.front (byte ∷ []));
            more = omega (arith, h.more, some_left);
            same = append_assoc h.front (byte ∷ []) (run (h.left - 1) (drop (from + (n + 1)) message)) ∙ ap (λ (s : List ℕ). h.front ++ s) (sym goes_on) ∙ h.same;
            stored = rw h.stored (ap (λ (k : ℕ). set (sets out₀ to h.front) (to + k) byte) h.count ∙ sets-append out₀ to h.front (byte ∷ []));
            up = omega arith;
            within = h.within;
            stops = h.stops;
          }
