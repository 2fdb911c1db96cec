-- The frame has room or not, and the answer says which; each part of it is an equation with the definition.
-- Assumes nothing.
use mathlib.Core.Path.{refl, sym, ap, ◌∙◌}
use mathlib.Core.List.{List, ◌++◌}
use Prim.Native.Nat.{ℕ, ◌≤◌, ◌<◌}
use native.Mathlib.Omega.{arith}
use native.Mathlib.Nat.{zero-add}
use lib.ListN.{length, drop}
use lib.Seq.{sets-eq}
use Rattle.wire.specs.declared.Refusal.TheVariants.{Full}
use Rattle.wire.specs.WriteAnswer.{WriteAnswer}
use Rattle.wire.specs.WriteAnswer.{Done, Refused}
use Rattle.wire.specs.Answers.{write_answer, out_with}
use Rattle.wire.specs.Sending.{frame, sends}
use Rattle.laws.specs.Answered.{Writes}
use Rattle.framing.proofs.Sizes.{sends-exactly}
use Rattle.framer.specs.Steps.{Put}
use Rattle.framer.specs.Promise.{OneSending}

pub sent : (m : List ℕ) {out left : List ℕ} {n : ℕ} → length (frame m) ≤ length out → Put (frame m) out n left → Writes (sends m (length out)) out (Done n) left
unfolding write_answer out_with
sent m {out} fits p =
    rw ((sends-exactly m (length out)).fits fits) (record {
      answered = ap Done p.many;
      stored = p.stored ∙ sets-eq (frame m) out 0 (omega arith) ∙ ap (λ (k : ℕ). frame m ++ drop k out) (zero-add (length (frame m)));
    })

pub refused : (m out : List ℕ) → length out < length (frame m) → Writes (sends m (length out)) out (Refused Full 0) out
unfolding write_answer out_with
refused m out over = rw ((sends-exactly m (length out)).over over) (record { answered = refl; stored = refl })

pub one-sending : OneSending
one-sending message out x y f g =
    ap (λ (a : WriteAnswer). (a, x.1)) (f.answered ∙ sym g.answered) ∙ ap (λ (s : List ℕ). (y.0, s)) (f.stored ∙ sym g.stored)
