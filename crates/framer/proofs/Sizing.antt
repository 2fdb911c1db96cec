-- A frame's length is counted as far as the message was passed: what stands up to a zero takes as many bytes as it has, and a full group one more.
-- Assumes nothing.
use mathlib.Core.Path.{◌≡◌, refl, sym, ap, ◌∙◌}
use mathlib.Core.List.{List, [], ◌∷◌, ◌++◌}
use mathlib.Core.Option.{none}
use Prim.Native.Nat.{ℕ, zero, suc, ◌+◌, ◌-◌, ◌*◌, ◌≤◌, ◌<◌}
use native.Mathlib.Omega.{arith}
use borrow.Author.Tests.{eq-eqb, ne_eqb}
use lib.ListN.{length, get_or, take, drop, length-append, length-drop}
use lib.Seq.{drop-cons, drop-drop, get_or-drop, length-take-le, split_at, take-suc}
use Rattle.wire.specs.Tests.{pick}
use Rattle.wire.specs.Frames.{to_zero}
use Rattle.wire.specs.Sending.{encode, frame}
use Rattle.laws.proofs.Splits.{by-eq}
use Rattle.decoder.proofs.Search.{clean-both}
use Rattle.framing.proofs.Groups.{by-groups}
use Rattle.framing.proofs.Sizes.{length-group, size-through, size-to-end}
use Rattle.framer.specs.Steps.{through_zero}

-- ---- the last zero

through-at : (n : ℕ) (s : List ℕ) → get_or s n 0 ≡ 0 → through_zero (suc n) s ≡ suc n
unfolding through_zero pick
through-at n s is = rw (eq-eqb (get_or s n 0) 0 is)

through_before : (n : ℕ) (s : List ℕ) → (get_or s n 0 ≡ 0 → ⊥) → through_zero (suc n) s ≡ through_zero n s
unfolding through_zero pick
through_before n s ne = rw (ne_eqb (get_or s n 0) 0 ne)

through-none : (s : List ℕ) → through_zero 0 s ≡ 0
unfolding through_zero
through-none s = refl

-- the search: of the 254 bytes none is zero behind the first `left`
pub record Seeking (m : List ℕ) (from left : ℕ) : Type 0 where
  pub few : left ≤ 254
  pub same : through_zero left (drop from m) ≡ through_zero 254 (drop from m)

pub seeking-begin : (m : List ℕ) (from : ℕ) → Seeking m from 254
seeking-begin m from = record { few = omega arith; same = refl }

module _ {m : List ℕ} {from left : ℕ} (h : Seeking m from left) where
  pub seeking-at : 0 < left → get_or m (from + (left - 1)) 0 ≡ 0 → left ≡ through_zero 254 (drop from m)
  seeking-at some is =
      let e : left ≡ suc (left - 1) = omega arith in
      e ∙ sym (through-at (left - 1) (drop from m) (get_or-drop from m (left - 1) 0 ∙ is)) ∙ ap (λ (n : ℕ). through_zero n (drop from m)) (sym e) ∙ h.same

  pub seeking-next : 0 < left → (get_or m (from + (left - 1)) 0 ≡ 0 → ⊥) → Seeking m from (left - 1)
  seeking-next some ne =
      let e : left ≡ suc (left - 1) = omega arith in
      record {
        few = omega (arith, h.few);
        same = sym (through_before (left - 1) (drop from m) (λ is. ne (sym (get_or-drop from m (left - 1) 0) ∙ is))) ∙ ap (λ (n : ℕ). through_zero n (drop from m)) (sym e) ∙ h.same;
      }

  pub seeking-end : left ≤ 0 → 0 ≡ through_zero 254 (drop from m)
  seeking-end gone =
      let e : left ≡ 0 = omega arith in
      sym (through-none (drop from m)) ∙ ap (λ (n : ℕ). through_zero n (drop from m)) (sym e) ∙ h.same

-- what the count says: no zero among the first n, or one right in front of what is left
pub data Through (n : ℕ) (s : List ℕ) : ℕ → Type 0 where
  nowhere : to_zero (take n s) ≡ none → Through n s 0
  at : (j : ℕ) → j < n → get_or s j 0 ≡ 0 → Through n s (suc j)

clean-last : (b : ℕ) → (b ≡ 0 → ⊥) → to_zero (b ∷ []) ≡ none
unfolding to_zero
clean-last zero ne = absurd (ne refl)
clean-last (suc b) ne = refl

clean-nothing : (s : List ℕ) → to_zero (take 0 s) ≡ none
unfolding to_zero
clean-nothing s = refl

wider : {n k : ℕ} {s : List ℕ} → n < length s → (get_or s n 0 ≡ 0 → ⊥) → Through n s k → Through (suc n) s k
wider {n} {s = s} lo ne (nowhere clean) = nowhere (rw (take-suc s n 0 lo) (clean-both (take n s) (get_or s n 0 ∷ []) clean (clean-last (get_or s n 0) ne)))
wider lo ne (at j l is) = at j (omega arith) is

pub through : (n : ℕ) (s : List ℕ) → n ≤ length s → Through n s (through_zero n s)
through zero s le = rw (through-none s) (nowhere (clean-nothing s))
through (suc n) s le =
    by-eq (get_or s n 0) 0
    (λ is. rw (through-at n s is) (at n (omega arith) is))
    (λ ne. rw (through_before n s ne) (wider (omega arith) ne (through n s (omega arith))))

-- ---- the length

-- so far the message was passed, and so many full groups that are not the last one
pub record Sizing (m : List ℕ) (from more : ℕ) : Type 0 where
  pub within : from ≤ length m
  pub few : 254 * more ≤ from
  pub same : from + more + length (encode (drop from m)) ≡ length (encode m)

pub sizing-begin : (m : List ℕ) → Sizing m 0 0
sizing-begin m = record { within = omega arith; few = omega arith; same = omega arith }

module _ {m : List ℕ} {from more : ℕ} (h : Sizing m from more) where
  abbrev rest : List ℕ
  rest = drop from m

  rest-long : length rest ≡ length m - from
  rest-long = length-drop from m

  pub sizing-end : length m - from ≤ 254 → length m + more + 2 ≡ length (frame m)
  unfolding frame
  sizing-end short =
      omega (arith, h.within, h.same, rest-long, size-to-end rest (omega (arith, rest-long)), length-append (encode m) (0 ∷ []))

  module _ (long : 254 ≤ length m - from) where
    pub sizing-inside : from + 254 ≤ length m
    sizing-inside = omega arith

    passed : Through 254 rest (through_zero 254 rest)
    passed = through 254 rest (omega (arith, rest-long))

    pub sizing-less : through_zero 254 rest ≤ 254
    sizing-less = by passed
      where
        by : {k : ℕ} → Through 254 rest k → k ≤ 254
        by (nowhere clean) = omega arith
        by (at j l is) = omega arith

    -- no zero, and more behind: a full group
    pub sizing-full : 254 < length m - from → through_zero 254 rest ≡ 0 → Sizing m (from + 254) (more + 1)
    sizing-full longer is = by passed is
      where
        by : {k : ℕ} → Through 254 rest k → k ≡ 0 → Sizing m (from + 254) (more + 1)
        by (at j l zero-there) e = absurd (omega arith)
        by (nowhere clean) e =
            let s = take 254 rest in
            let s-long : length s ≡ 254 = length-take-le 254 rest (omega (arith, rest-long)) in
            let there : 254 < length rest = omega (arith, rest-long) in
            let cut : rest ≡ s ++ get_or rest 254 0 ∷ drop 255 rest = split_at rest 254 0 there in
            let full = (by-groups s clean).full (get_or rest 254 0) (drop 255 rest) s-long in
            let next : get_or rest 254 0 ∷ drop 255 rest ≡ drop (from + 254) m = sym (drop-cons rest 254 0 there) ∙ drop-drop 254 from m in
            let sum : length (encode rest) ≡ 255 + length (encode (drop (from + 254) m)) =
            ap (λ (t : List ℕ). length (encode t)) cut ∙ ap length full ∙ length-group s _ ∙ ap (λ (t : List ℕ). suc (length s) + length (encode t)) next ∙ ap (λ (n : ℕ). suc n + length (encode (drop (from + 254) m))) s-long
            in
            record { within = omega arith; few = omega (arith, h.few); same = omega (arith, h.same) }

    -- up to a zero
    pub sizing-through : (through_zero 254 rest ≡ 0 → ⊥) → Sizing m (from + through_zero 254 rest) more
    sizing-through ne = by passed ne
      where
        by : {k : ℕ} → Through 254 rest k → (k ≡ 0 → ⊥) → Sizing m (from + k) more
        by (nowhere clean) ne = absurd (ne refl)
        by (at j l is) ne =
            let there : j < length rest = omega (arith, rest-long) in
            let s-long : length (take j rest) ≡ j = length-take-le j rest (omega arith) in
            let cut : rest ≡ take j rest ++ 0 ∷ drop (suc j) rest = split_at rest j 0 there ∙ ap (λ (b : ℕ). take j rest ++ b ∷ drop (suc j) rest) is in
            let sum : length (encode rest) ≡ j + 1 + length (encode (drop (from + suc j) m)) =
            ap (λ (t : List ℕ). length (encode t)) cut ∙ size-through (take j rest) (drop (suc j) rest) (omega arith) ∙ rw (s-long, drop-drop (suc j) from m)
            in
            record { within = omega (arith, rest-long); few = omega (arith, h.few); same = omega (arith, h.same) }
