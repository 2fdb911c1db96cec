-- A frame decodes to its message, so that any cut of it comes to that message.
-- Assumes nothing.
use mathlib.Core.Path.{◌≡◌, sym, ap, ◌∙◌}
use mathlib.Core.List.{List, [], ◌∷◌, ◌++◌, append_assoc}
use Prim.Native.Nat.{ℕ}
use native.Mathlib.Omega.{arith}
use lib.ListN.{length, take, drop, length-append}
use lib.Seq.{take_at}
use Rattle.wire.specs.WriteAnswer.{Done}
use Rattle.wire.specs.Answers.{form, write_answer, out_with}
use Rattle.wire.specs.Frames.{feed, feed_bridge}
use Rattle.wire.specs.Sending.{encode, frame, sends}
use Rattle.laws.specs.Answered.{Writes}
use Rattle.laws.proofs.Splits.{by_le}
use Rattle.accumulator.specs.Feeding.{Feeder}
use Rattle.streams.specs.Cuts.{AnyCut}
use Rattle.streams.proofs.Cuts.{any-cut, any-cut-bridge}
use Rattle.framing.specs.Fed.{SentAndFed, WroteAndFed}
use Rattle.framing.proofs.Encoding.{comes_back}
use Rattle.framing.proofs.Sizes.{sends-exactly}

cut-sent : (by : Feeder) → AnyCut by → SentAndFed by
unfolding frame
cut-sent by any array chunks m behind fits e =
    any array chunks (encode m) m behind (comes_back m) (omega (arith, length-append (encode m) (0 ∷ []))) (e ∙ append_assoc (encode m) (0 ∷ []) behind)

pub sent-and-fed : SentAndFed feed
sent-and-fed = cut-sent feed any-cut

pub sent-and-fed-bridge : SentAndFed feed_bridge
sent-and-fed-bridge = cut-sent feed_bridge any-cut-bridge

-- what was written, and how much
record Wrote (m left : List ℕ) (n : ℕ) : Type 0 where
  pub many : n ≡ length (frame m)
  pub bytes : take n left ≡ frame m

wrote-form : (m out left : List ℕ) (n : ℕ) → Writes (form (frame m)) out (Done n) left → Wrote m left n
unfolding write_answer out_with
wrote-form m out left n w =
    let many : n ≡ length (frame m) = (let e : Done n ≡ Done (length (frame m)) = w.answered in cc) in
    record { many = many; bytes = rw w.stored (take_at (frame m) (drop (length (frame m)) out) n (sym many)) }

wrote : (m out left : List ℕ) (n : ℕ) → Writes (sends m (length out)) out (Done n) left → Wrote m left n
unfolding write_answer
wrote m out left n w =
    by_le (length (frame m)) (length out)
    (λ lo. wrote-form m out left n (rw ((sends-exactly m (length out)).fits lo) at w))
    (λ hi. let e = rw ((sends-exactly m (length out)).over hi) at w.answered in let z : ◌≡◌ {A = ℕ} 0 1 = cc in absurd (omega arith))

cut-wrote : (by : Feeder) → SentAndFed by → WroteAndFed by
cut-wrote by sent m out left n w array chunks behind fits e =
    let h = wrote m out left n w in
    sent array chunks m behind (omega (arith, h.many)) (e ∙ ap (λ (s : List ℕ). s ++ behind) h.bytes)

pub wrote-and-fed : WroteAndFed feed
wrote-and-fed = cut-wrote feed sent-and-fed

pub wrote-and-fed-bridge : WroteAndFed feed_bridge
wrote-and-fed-bridge = cut-wrote feed_bridge sent-and-fed-bridge
