-- Bytes laid behind others: both are laid, and where all have room, all are stored.
-- Assumes nothing.
use mathlib.Core.Path.{◌≡◌, refl, ap, ◌∙◌}
use mathlib.Core.List.{List, [], ◌∷◌, ◌++◌}
use Prim.Native.Nat.{ℕ, suc, ◌+◌, ◌-◌, ◌^◌, ◌<◌, ◌≤◌}
use native.Mathlib.Omega.{arith}
use lib.ListN.{length, length-append, set}
use lib.Seq.{sets, length-sets, set_comm}
use borrow.Author.Tests.{le-leb, lt-leb}
use Rattle.wire.specs.Tests.{given}
use Rattle.laws.proofs.Parts.{sets-append}
use Rattle.output.specs.Bytes.{cap, Puts}
use Rattle.output.proofs.Counting.{cap-small, cap-twice, cap-within}
use Rattle.desk.specs.Csv.{quote, minus, decimal, spelled_word, quoted}
use Rattle.put_number.specs.Lays.{Lays}

pub lays-puts : {s : List ℕ} {u n : ℕ} {out after : List ℕ} → Puts s u out n after → Lays s u out n after
lays-puts {s = s} {u = u} {out = out} p = record { counted = p.counted; long = ap length p.stored ∙ length-sets out u s; stored = λ h. p.stored }

-- what has no room is only counted
pub lays-beyond : {s : List ℕ} {u k n : ℕ} {out : List ℕ} → length out < 2 ^ 63 → k ≡ length s → n ≡ cap (u + k) → length out < n → Lays s u out n out
lays-beyond {s = s} {u = u} {k = k} small e f h =
    let at : u + k ≡ u + length s = omega (arith, e) in
    record { counted = f ∙ ap cap at; long = refl; stored = λ r. absurd (omega (arith, at, f, cap-small (u + k) (omega (arith, at)))) }

-- what has room is counted exactly
pub exact : (u m : ℕ) {k n room : ℕ} → room < 2 ^ 63 → k ≡ m → n ≡ cap (u + k) → n ≤ room → u + m ≡ n
exact u m {k} {n} {room} small e f h = omega (arith, e, f, cap-within (u + k) room small (omega (arith, f)))

pub lays-inside : {s : List ℕ} {u k n : ℕ} {out after : List ℕ} → k ≡ length s → n ≡ cap (u + k) → after ≡ sets out u s → Lays s u out n after
lays-inside {s = s} {u = u} {k = k} {out = out} e f g =
    let at : u + k ≡ u + length s = omega (arith, e) in
    record { counted = f ∙ ap cap at; long = ap length g ∙ length-sets out u s; stored = λ r. g }

pub lays-both : {s t : List ℕ} {u n m : ℕ} {out mid end : List ℕ} → length out < 2 ^ 63 → Lays s u out n mid → Lays t n mid m end → Lays (s ++ t) u out m end
lays-both {s} {t} {u} {n} {m} {out} {mid} {end} small p q =
    let sum : u + length s + length t ≡ u + length (s ++ t) = simp length-append (omega arith) in
    record {
      counted = q.counted ∙ ap (λ k. cap (k + length t)) p.counted ∙ cap-twice (u + length s) (length t) ∙ ap cap sum;
      long = q.long ∙ p.long;
      stored =
          λ room.
          let at : n ≡ u + length s = p.counted ∙ cap-small (u + length s) (omega (arith, sum)) in
          q.stored (omega (arith, p.long, at, sum)) ∙ ap (λ k. sets mid k t) at
          ∙ ap (λ o. sets o (u + length s) t) (p.stored (omega (arith, sum))) ∙ sets-append out u s t;
    }

-- ---- stores in front of others

pub set_before : (vs l : List ℕ) (i j a : ℕ) → i < j → set (sets l j vs) i a ≡ sets (set l i a) j vs
set_before [] l i j a h = refl
set_before (v ∷ vs) l i j a h = set_before vs (set l j v) i (suc j) a (omega arith) ∙ ap (λ k. sets k (suc j) vs) (set_comm l j i v a (λ e. omega arith))

-- ---- what is quoted

-- a quote, bytes behind it, and a quote behind them
quoted-stored : (s : List ℕ) (u end : ℕ) (out mid : List ℕ) → u + length s + 2 ≡ end → mid ≡ sets (set out u quote) (u + 1) s → set mid (end - 1) quote ≡ sets out u (quoted s)
unfolding quoted
quoted-stored s u end out mid e m =
    let last : end - 1 ≡ suc u + length s = omega arith in
    let one : u + 1 ≡ suc u = omega arith in
    rw (last, m, one) (sets-append (set out u quote) (suc u) s (quote ∷ []))

length-quoted : (s : List ℕ) → length (quoted s) ≡ length s + 2
unfolding quoted
length-quoted s = simp length-append (omega arith)

-- the bytes between quotes are counted, and then the quotes
module _ (s : List ℕ) (u : ℕ) {k n end : ℕ} (e : k ≡ length s) (f : n ≡ cap (u + k)) (g : end ≡ cap (n + 2)) where
  quoted-counted : end ≡ cap (u + length (quoted s))
  quoted-counted =
      let sum : u + k + 2 ≡ u + length (quoted s) = omega (arith, length-quoted s, e) in
      g ∙ ap (λ n. cap (n + 2)) f ∙ cap-twice (u + k) 2 ∙ ap cap sum

  pub quoted-beyond : {out : List ℕ} → length out < 2 ^ 63 → length out < end → Lays (quoted s) u out end out
  quoted-beyond small h = lays-beyond small refl quoted-counted h

  pub quoted-fits : {room : ℕ} → room < 2 ^ 63 → end ≤ room → u + length s + 2 ≡ end
  quoted-fits small h = omega (arith, exact u (length (quoted s)) small refl quoted-counted h, length-quoted s)

  pub quoted-inside : {out mid : List ℕ} → length out < 2 ^ 63 → end ≤ length out → mid ≡ sets (set out u quote) (u + 1) s → Lays (quoted s) u out end (set mid (end - 1) quote)
  quoted-inside {out = out} {mid = mid} small h m = lays-inside refl quoted-counted (quoted-stored s u end out mid (quoted-fits small h) m)

-- ---- words

pub word_low : (above a : ℕ) → a ≤ above → spelled_word above a ≡ decimal a
unfolding spelled_word given
word_low above a h = rw (le-leb a above h)

pub word-high : (above a size : ℕ) → above < a → size ≡ 2 ^ 64 - a → spelled_word above a ≡ minus ∷ decimal size
unfolding spelled_word given
word-high above a size h e = rw (lt-leb a above h, e)
