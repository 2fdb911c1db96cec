-- Each part of an answer is an equation with the definition; what is consumed is as much as the rest leaves.
-- Assumes nothing.
use mathlib.Core.Path.{◌≡◌, sym, ◌∙◌, ap}
use mathlib.Core.List.{List}
use Prim.Native.Nat.{ℕ}
use native.Mathlib.Omega.{arith}
use lib.ListN.{length, length-drop}
use Rattle.accumulator.specs.declared.Step.{Step}
use Rattle.accumulator.specs.Feeding.{Lent, Feeds, OneStep, OneMarked, OneFed}

same-used : {f : Lent} {chunk a b a' b' : List ℕ} {r r' : Step} → Feeds f chunk a b r → Feeds f chunk a' b' r' → r.used ≡ r'.used
same-used h h' = omega (arith, simp length-drop at (ap length (h.rest ∙ sym h'.rest)))

pub one-step : OneStep
one-step f chunk a a' m m' r r' h h' = (
  λ i. record { answer = (h.answer ∙ sym h'.answer) i; idx = (h.idx ∙ sym h'.idx) i; len = (h.len ∙ sym h'.len) i; used = same-used h h' i },
  h.array ∙ sym h'.array,
  h.message ∙ sym h'.message,
)

pub one-marked : OneMarked
one-marked f chunk a a' m m' r r' h h' =
    let one = one-step f.lent chunk a a' m m' r.step r'.step h.step h'.step in
    (λ i. record { step = one.0 i; waiting = (h.waiting ∙ sym h'.waiting) i }, one.1, one.2)

pub one-fed : OneFed
one-fed m chunk r r' h h' =
    let s = h.step in
    let s' = h'.step in
    λ i. record {
      answer = (s.answer ∙ sym s'.answer) i;
      state = record { array = (s.array ∙ sym s'.array) i; idx = (s.idx ∙ sym s'.idx) i; waiting = (h.waiting ∙ sym h'.waiting) i };
      message = (s.message ∙ sym s'.message) i;
      len = (s.len ∙ sym s'.len) i;
      used = same-used s s' i;
    }
