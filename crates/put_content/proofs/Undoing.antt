-- Content without its spelling, byte by byte; and that it is the content that was spelled.
-- Assumes nothing.
use mathlib.Core.Path.{◌≡◌, refl, sym, ap, ◌∙◌}
use mathlib.Core.Bool.{Bool, true, false}
use mathlib.Core.List.{List, [], ◌∷◌}
use Prim.Native.Nat.{ℕ, suc, ◌+◌, ◌-◌, ◌*◌, ◌^◌, ◌<◌, ◌≤◌}
use native.Mathlib.Omega.{arith}
use lib.Dec.{eqb}
use lib.ListN.{length, get_or, drop, set, length-set, length-drop}
use lib.Seq.{sets, drop-drop}
use borrow.Author.Tests.{eqb-true, eqb-false, eq-eqb, ne_eqb, lt-ltb, le-ltb}
use Rattle.wire.specs.Tests.{pick}
use Rattle.wire.specs.Numbers.{shortest}
use Rattle.wire.specs.Writing.{with_count}
use Rattle.laws.proofs.Parts.{next}
use Rattle.laws.proofs.Splits.{by-test}
use Rattle.output.specs.Bytes.{cap, Puts}
use Rattle.put_number.specs.Lays.{Lays}
use Rattle.put_number.proofs.Laying.{lays-puts, lays-both, lays-beyond, lays-inside}
use Rattle.desk.specs.Csv.{quote, doubled}
use Rattle.put_content.specs.Undone.{undoubled_from, undoubled, number_of, unhexed, Steps, two, one, IsHex, digit, letter}

-- ---- texts

skipped : (s : List ℕ) → undoubled_from true s ≡ undoubled_from false (drop 1 s)
unfolding undoubled_from
skipped [] = refl
skipped (b ∷ s) = refl

pub undoubled-none : undoubled [] ≡ []
unfolding undoubled undoubled_from
undoubled-none = refl

undoubled-one : (b : ℕ) (s : List ℕ) → (b ≡ quote → ⊥) → undoubled (b ∷ s) ≡ b ∷ undoubled s
unfolding undoubled undoubled_from pick
undoubled-one b s e = rw (ne_eqb b quote e)

undoubled-two : (b : ℕ) (s : List ℕ) → b ≡ quote → undoubled (b ∷ s) ≡ b ∷ undoubled (drop 1 s)
unfolding undoubled undoubled_from pick
undoubled-two b s e = rw (eq-eqb b quote e) (ap (λ t. b ∷ t) (skipped s))

pub undoubled-from : (s : List ℕ) (i k : ℕ) → i < length s → Steps (get_or s i 0) k → undoubled (drop i s) ≡ get_or s i 0 ∷ undoubled (drop (i + k) s)
undoubled-from s i k h (one e) = ap undoubled (next s i h) ∙ undoubled-one (get_or s i 0) (drop (i + 1) s) e
undoubled-from s i k h (two e) =
    let at : i + 1 + 1 ≡ i + 2 = omega arith in
    ap undoubled (next s i h) ∙ undoubled-two (get_or s i 0) (drop (i + 1) s) e ∙ ap (λ t. get_or s i 0 ∷ undoubled t) (drop-drop 1 (i + 1) s ∙ ap (λ j. drop j s) at)

from-short : (skip : Bool) (s : List ℕ) → length (undoubled_from skip s) ≤ length s
unfolding undoubled_from pick
from-short skip [] = omega arith
from-short true (b ∷ s) = let h = from-short false s in omega arith
from-short false (b ∷ s) =
    let h = from-short true s in
    let k = from-short false s in
    by-test (eqb b quote) (λ e. rw e (omega arith)) (λ e. rw e (omega arith))

skip-plain : (s : List ℕ) → length s ≡ length (undoubled_from true s) → undoubled_from true s ≡ s
unfolding undoubled_from
skip-plain [] e = refl
skip-plain (b ∷ s) e = absurd (omega (arith, from-short false s))

from-plain : (s : List ℕ) → length s ≡ length (undoubled_from false s) → undoubled_from false s ≡ s
unfolding undoubled_from pick
from-plain [] e = refl
from-plain (b ∷ s) e =
    by-test (eqb b quote) (λ h. rw h (ap (λ t. b ∷ t) (skip-plain s (omega (arith, rw h at e)))))
    (λ h. rw h (ap (λ t. b ∷ t) (from-plain s (omega (arith, rw h at e)))))

-- a byte that is passed over makes a text shorter, so of one that gets no shorter none is
undoubled-plain : (s : List ℕ) → length s ≡ length (undoubled s) → undoubled s ≡ s
unfolding undoubled
undoubled-plain s e = from-plain s e

pub plain-laid : (s : List ℕ) {u n : ℕ} {out after : List ℕ} → length s ≡ length (undoubled s) → Puts (with_count s) u out n after → Lays (with_count (undoubled s)) u out n after
plain-laid s e p = rw (undoubled-plain s e) (lays-puts p)

-- the bytes from i on are left, to be stored from `to` on
pub record Filling (f : List ℕ → List ℕ) (s : List ℕ) (from : ℕ) (before : List ℕ) (i to : ℕ) (out : List ℕ) : Type 0 where
  pub same : sets out to (f (drop i s)) ≡ sets before from (f s)
  pub room : to + length (f (drop i s)) ≤ length before
  pub long : length out ≡ length before

pub filling-begin : (f : List ℕ → List ℕ) (s : List ℕ) (from : ℕ) (out : List ℕ) → from + length (f s) ≤ length out → Filling f s from out 0 from out
filling-begin f s from out h = record { same = refl; room = h; long = refl }

pub filling-end : (f : List ℕ → List ℕ) → f [] ≡ [] → {s before out : List ℕ} {from i to : ℕ} → Filling f s from before i to out → drop i s ≡ [] → out ≡ sets before from (f s)
filling-end f n {out = out} {to = to} p e = sym (ap (sets out to) (ap f e ∙ n)) ∙ p.same

pub filling-room : (f : List ℕ → List ℕ) {s before out : List ℕ} {from i to : ℕ} → Filling f s from before i to out → (b : ℕ) (t : List ℕ) → f (drop i s) ≡ b ∷ t → to < length out
filling-room f p b t e = omega (arith, p.room, p.long, ap length e)

module _ (f : List ℕ → List ℕ) {s before out : List ℕ} {from i to : ℕ} (p : Filling f s from before i to out) (b j : ℕ) (e : f (drop i s) ≡ b ∷ f (drop j s)) where
  pub filling-next : Filling f s from before j (to + 1) (set out to b)
  filling-next =
      let at : to + 1 ≡ suc to = omega arith in
      record {
        same = rw at (ap (sets out to) (sym e) ∙ p.same);
        room = omega (arith, p.room, ap length e);
        long = length-set out to b ∙ p.long;
      }

pub steps-few : {b k : ℕ} → Steps b k → (1 ≤ k) × (k ≤ 2)
steps-few (one e) = (omega arith, omega arith)
steps-few (two e) = (omega arith, omega arith)

-- what was doubled is undone
pub undone : (t : List ℕ) → undoubled (doubled t) ≡ t
unfolding doubled pick
undone [] = undoubled-none
undone (b ∷ t) = let h = undone t in
    by-test (eqb b quote)
    (λ e. rw e (undoubled-two quote (quote ∷ doubled t) refl ∙ ap (λ s. quote ∷ s) h ∙ ap (λ c. c ∷ t) (sym (eqb-true b quote e))))
    (λ e. rw e (undoubled-one b (doubled t) (eqb-false b quote e) ∙ ap (λ s. b ∷ s) h))

-- ---- behind a count

module _ (s : List ℕ) (n : ℕ) (e : n ≡ length s) where
  pub counted-beyond : {u m end : ℕ} {out mid : List ℕ} → length out < 2 ^ 63 → Puts (shortest n) u out m mid → end ≡ cap (m + n) → length mid < end → Lays (with_count s) u out end mid
  unfolding with_count
  counted-beyond {mid = mid} small p f h =
      let q = lays-puts p in
      lays-both small (rw e at q) (lays-beyond (omega (arith, q.long)) e f h)

  pub counted-inside : {u m end : ℕ} {out mid after : List ℕ} → length out < 2 ^ 63 → Puts (shortest n) u out m mid → end ≡ cap (m + n) → after ≡ sets mid m s → Lays (with_count s) u out end after
  unfolding with_count
  counted-inside small p f g = lays-both small (rw e at (lays-puts p)) (lays-inside e f g)

-- ---- bytes

pub unhexed-none : unhexed [] ≡ []
unfolding unhexed
unhexed-none = refl

unhexed-one : (s : List ℕ) → length s ≤ 1 → unhexed s ≡ []
unfolding unhexed
unhexed-one [] h = refl
unhexed-one (a ∷ []) h = refl
unhexed-one (a ∷ b ∷ s) h = absurd (omega arith)

pub bytes-from : (s : List ℕ) (i : ℕ) → i + 1 < length s → unhexed (drop i s) ≡ (16 * number_of (get_or s i 0) + number_of (get_or s (i + 1) 0)) ∷ unhexed (drop (i + 2) s)
unfolding unhexed
bytes-from s i h =
    let at : i + 1 + 1 ≡ i + 2 = omega arith in
    ap unhexed (next s i (omega arith) ∙ ap (λ t. get_or s i 0 ∷ t) (next s (i + 1) h ∙ ap (λ j. get_or s (i + 1) 0 ∷ drop j s) at))

pub bytes-end : {s before out : List ℕ} {from i to : ℕ} → Filling unhexed s from before i to out → length s ≤ i + 1 → out ≡ sets before from (unhexed s)
bytes-end {s} {out = out} {i = i} {to = to} p h = sym (ap (sets out to) (unhexed-one (drop i s) (simp length-drop (omega arith)))) ∙ p.same

pub hex-low : {b : ℕ} → IsHex b → b < 97 → (48 ≤ b) × (b ≤ 57)
hex-low (digit h k) l = (h, k)
hex-low (letter h k) l = absurd (omega arith)

pub hex-high : {b : ℕ} → IsHex b → 97 ≤ b → b ≤ 102
hex-high (digit h k) l = absurd (omega arith)
hex-high (letter h k) l = k

pub number-low : (b : ℕ) → b < 97 → b - 48 ≡ number_of b
unfolding number_of pick
number-low b h = rw (lt-ltb b 97 h)

pub number-high : (b : ℕ) → 97 ≤ b → b - 87 ≡ number_of b
unfolding number_of pick
number-high b h = rw (le-ltb b 97 h)
