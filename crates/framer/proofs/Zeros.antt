-- A zero behind a zero is an empty group, for which its code, 01, is all that is put; so zeros side by side are put from those passed on.
-- Assumes nothing.
use mathlib.Core.Path.{◌≡◌, refl, sym, ap, ◌∙◌}
use mathlib.Core.List.{List, [], ◌∷◌, ◌++◌, append_assoc}
use Prim.Native.Nat.{ℕ, zero, suc, ◌+◌, ◌≤◌, ◌<◌}
use native.Mathlib.Omega.{arith}
use lib.ListN.{length, get_or, set, take, drop, replicate, length-drop, length-replicate, replicate-append-replicate, take-append-drop}
use lib.Seq.{sets, length-sets, drop-cons, drop-drop, length-take-le}
use Rattle.wire.specs.Numbers.{little}
use Rattle.wire.specs.Sending.{group, encode}
use Rattle.laws.proofs.Parts.{sets-append}
use Rattle.decoder.proofs.Search.{clean-none}
use Rattle.eights.proofs.Bytes.{all-zero}
use Rattle.framing.proofs.Groups.{by-groups}
use Rattle.framer.specs.Steps.{Filled}

-- ---- what is put for zeros

zero-group : (m : List ℕ) → encode (0 ∷ m) ≡ 1 ∷ encode m
unfolding group
zero-group m = (by-groups [] clean-none).ended m (omega arith)

pub zero-groups : (n : ℕ) (m : List ℕ) → encode (replicate n 0 ++ m) ≡ replicate n 1 ++ encode m
zero-groups zero m = refl
zero-groups (suc n) m = zero-group (replicate n 0 ++ m) ∙ ap (λ (s : List ℕ). 1 ∷ s) (zero-groups n m)

-- ---- the loops

pub filled_none : {message out : List ℕ} {from to : ℕ} → from ≤ length message → Filled message from out to 0 out
filled_none {from = from} within =
    let here : from + 0 ≡ from = omega arith in
    record { inside = omega arith; zeros = rw here; stored = refl }

module _ {message : List ℕ} {from : ℕ} {out₀ : List ℕ} {to n : ℕ} {out : List ℕ} (h : Filled message from out₀ to n out) where
  pub filled-long : length out ≡ length out₀
  filled-long = rw h.stored (length-sets out₀ to (replicate n 1))

  -- k zeros more
  filled_on : (k : ℕ) → from + (n + k) ≤ length message → drop (from + n) message ≡ replicate k 0 ++ drop (from + (n + k)) message → Filled message from out₀ to (n + k) (sets out (to + n) (replicate k 1))
  filled_on k inside more = record {
    inside = inside;
    zeros = h.zeros ∙ ap (λ (s : List ℕ). replicate n 0 ++ s) more ∙ sym (append_assoc (replicate n 0) (replicate k 0) (drop (from + (n + k)) message)) ∙ ap (λ (s : List ℕ). s ++ drop (from + (n + k)) message) (replicate-append-replicate n k 0);
    stored = rw h.stored (ap (λ (j : ℕ). sets (sets out₀ to (replicate n 1)) (to + j) (replicate k 1)) (sym (length-replicate n 1)) ∙ sets-append out₀ to (replicate n 1) (replicate k 1) ∙ ap (sets out₀ to) (replicate-append-replicate n k 1));
  }

  pub filled-one : from + n < length message → get_or message (from + n) 0 ≡ 0 → Filled message from out₀ to (n + 1) (set out (to + n) 1)
  filled-one lo is =
      let behind : from + (n + 1) ≡ suc (from + n) = omega arith in
      filled_on 1 (omega arith) (rw behind (drop-cons message (from + n) 0 lo ∙ ap (λ (b : ℕ). b ∷ drop (suc (from + n)) message) is))

  pub filled-eight : from + n + 8 ≤ length message → {x : ℕ} → x ≡ little (take 8 (drop (from + n) message)) → x ≡ 0 → Filled message from out₀ to (n + 8) (sets out (to + n) (replicate 8 1))
  filled-eight inside is none =
      let eight : List ℕ = take 8 (drop (from + n) message) in
      let many : length eight ≡ 8 = length-take-le 8 (drop (from + n) message) (simp length-drop (omega arith)) in
      let zeros : eight ≡ replicate 8 0 = all-zero eight (sym is ∙ none) ∙ ap (λ (k : ℕ). replicate k 0) many in
      let behind : from + (n + 8) ≡ from + n + 8 = omega arith in
      let parts : drop (from + n) message ≡ eight ++ drop (from + (n + 8)) message = rw (behind, ← drop-drop 8 (from + n) message) (sym (take-append-drop 8 (drop (from + n) message))) in
      filled_on 8 (omega arith) (parts ∙ ap (λ (s : List ℕ). s ++ drop (from + (n + 8)) message) zeros)

-- ---- eight stores, one behind the other

module _ (out : List ℕ) (at : ℕ) where
  one_more : {left : List ℕ} (k : ℕ) → left ≡ sets out at (replicate k 1) → set left (at + k) 1 ≡ sets out at (replicate (k + 1) 1)
  one_more k is =
      rw is (ap (λ (j : ℕ). set (sets out at (replicate k 1)) (at + j) 1) (sym (length-replicate k 1)) ∙ sets-append out at (replicate k 1) (1 ∷ []) ∙ ap (sets out at) (replicate-append-replicate k 1 1))

  pub eight-ones : set (set (set (set (set (set (set (set out at 1) (at + 1) 1) (at + 2) 1) (at + 3) 1) (at + 4) 1) (at + 5) 1) (at + 6) 1) (at + 7) 1 ≡ sets out at (replicate 8 1)
  eight-ones = one_more 7 (one_more 6 (one_more 5 (one_more 4 (one_more 3 (one_more 2 (one_more 1 refl))))))
