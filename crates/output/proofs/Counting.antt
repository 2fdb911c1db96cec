-- A count that stops at the largest word is exact where it is compared with a length, and a byte that has no place is dropped:
-- so bytes put behind others are the bytes of both.
-- Assumes nothing.
use mathlib.Core.Path.{◌≡◌, refl, sym, ap, ◌∙◌}
use mathlib.Core.List.{List, [], ◌++◌}
use Prim.Native.Nat.{ℕ, suc, ◌+◌, ◌-◌, ◌^◌, ◌<◌, ◌≤◌}
use native.Mathlib.Omega.{arith}
use native.Mathlib.Nat.{add-zero}
use native.Mathlib.Numerals.{add-one}
use lib.ListN.{length, length-set, set, drop, get_or, drop_of_length-le, length-append}
use lib.Seq.{sets, length-sets, drop-cons}
use borrow.Author.Tests.{lt-ltb, le-ltb}
use Rattle.wire.specs.Tests.{pick}
use Rattle.laws.proofs.Splits.{by-lt}
use Rattle.laws.proofs.Parts.{sets-append, sets-out}
use Rattle.output.specs.Bytes.{cap, Places, Puts}

-- ---- counts

pub cap-small : (n : ℕ) → n < 2 ^ 64 → cap n ≡ n
unfolding cap pick
cap-small n h = rw (lt-ltb n (2 ^ 64) h)

pub cap-large : (n : ℕ) → 2 ^ 64 ≤ n → cap n ≡ 2 ^ 64 - 1
unfolding cap pick
cap-large n h = rw (le-ltb n (2 ^ 64) h)

pub cap-twice : (n m : ℕ) → cap (cap n + m) ≡ cap (n + m)
cap-twice n m =
    by-lt n (2 ^ 64) (λ h. rw (cap-small n h))
    (λ h.
    rw (cap-large n h, cap-large (n + m) (omega arith))
    (by-lt m 1 (λ z. cap-small (2 ^ 64 - 1 + m) (omega arith) ∙ omega arith) (λ z. cap-large (2 ^ 64 - 1 + m) (omega arith))))

-- compared with a slice's length
module _ (n room : ℕ) (s : room < 2 ^ 63) where
  pub cap-above : room < cap n → room < n
  cap-above h = by-lt n (2 ^ 64) (λ g. omega (arith, cap-small n g)) (λ g. omega arith)

  pub cap-within : cap n ≤ room → cap n ≡ n
  cap-within h = by-lt n (2 ^ 64) (λ g. cap-small n g) (λ g. absurd (omega (arith, cap-large n g)))

-- ---- bytes

sets-cap : (l : List ℕ) (i : ℕ) (s : List ℕ) → length l < 2 ^ 63 → sets l (cap i) s ≡ sets l i s
sets-cap l i s h =
    by-lt i (2 ^ 64) (λ g. ap (λ k. sets l k s) (cap-small i g))
    (λ g. sets-out s l (cap i) (omega (arith, cap-large i g)) ∙ sym (sets-out s l i (omega arith)))

pub puts_none : (u : ℕ) (out : List ℕ) → u < 2 ^ 64 → Puts [] u out u out
puts_none u out h = record { counted = sym (ap cap (add-zero u) ∙ cap-small u h); stored = refl }

pub puts-beyond : {s : List ℕ} {u k n : ℕ} {out : List ℕ} → length out ≤ u → k ≡ length s → n ≡ cap (u + k) → Puts s u out n out
puts-beyond {s} {u} {k} {n} {out} h e f = record { counted = f ∙ ap (λ j. cap (u + j)) e; stored = sym (sets-out s out u h) }

pub puts-both : {s t : List ℕ} {u n m : ℕ} {out mid end : List ℕ} → length out < 2 ^ 63 → Puts s u out n mid → Puts t n mid m end → Puts (s ++ t) u out m end
puts-both {s} {t} {u} {n} {m} {out} {mid} {end} h p q =
    let long : length mid ≡ length out = ap length p.stored ∙ length-sets out u s in
    let sum : u + length s + length t ≡ u + length (s ++ t) = simp length-append (omega arith) in
    record {
      counted = q.counted ∙ ap (λ k. cap (k + length t)) p.counted ∙ cap-twice (u + length s) (length t) ∙ ap cap sum;
      stored =
          q.stored ∙ ap (λ k. sets mid k t) p.counted ∙ sets-cap mid (u + length s) t (omega arith)
          ∙ ap (λ o. sets o (u + length s) t) p.stored ∙ sets-append out u s t;
    }

-- ---- a loop that puts bytes: those from i on are left, and `count` of all have a place

pub record Putting (bytes : List ℕ) (u : ℕ) (before : List ℕ) (count i : ℕ) (out : List ℕ) : Type 0 where
  pub same : sets out (u + i) (drop i bytes) ≡ sets before u bytes
  pub long : length out ≡ length before
  pub few : i ≤ count

pub putting-begin : (bytes : List ℕ) (u : ℕ) (out : List ℕ) (count : ℕ) → Putting bytes u out count 0 out
putting-begin bytes u out count = record { same = ap (λ k. sets out k bytes) (add-zero u); long = refl; few = omega arith }

module _ {bytes : List ℕ} {u : ℕ} {before : List ℕ} {count i : ℕ} {out : List ℕ} (p : Putting bytes u before count i out) (w : Places (length before) u (length bytes) count) where
  pub putting-next : (b : ℕ) → i < count → b ≡ get_or bytes i 0 → Putting bytes u before count (i + 1) (set out (u + i) b)
  putting-next b h e =
      let next : u + (i + 1) ≡ suc (u + i) = omega arith in
      record {
        same = rw (next, add-one i, e) (ap (sets out (u + i)) (sym (drop-cons bytes i 0 (omega (arith, w.few)))) ∙ p.same);
        long = length-set out (u + i) b ∙ p.long;
        few = omega arith;
      }

  -- all were put, or the others have no place
  pub putting-end : {r : ℕ} → r ≡ cap (u + length bytes) → count ≤ i → Puts bytes u before r out
  putting-end e h =
      record {
        counted = e;
        stored =
            by-lt i (length bytes)
            (λ l. sym (sets-out (drop i bytes) out (u + i) (omega (arith, p.long, p.few, w.all (omega (arith, p.few))))) ∙ p.same)
            (λ l. ap (sets out (u + i)) (sym (drop_of_length-le bytes {i = i} l)) ∙ p.same);
      }
