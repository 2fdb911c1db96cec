-- Where a list's first zero is: the search goes on from what was passed, and a list splits at its first zero.
-- Assumes nothing.
use mathlib.Core.Path.{◌≡◌, refl, sym, ap, subst, ◌∙◌}
use mathlib.Core.Bool.{true}
use mathlib.Core.List.{List, [], ◌∷◌, ◌++◌}
use mathlib.Core.Option.{Option, none, some, map}
use Prim.Native.Nat.{ℕ, zero, suc, ◌+◌, ◌≤◌, ◌<◌}
use native.Mathlib.Numerals.{add-one}
use native.Mathlib.Omega.{arith}
use lib.ListN.{length, take, drop, get_or, drop_of_length-le}
use lib.Seq.{drop-cons, drop-append-add}
use Rattle.wire.specs.Frames.{to_zero}
use Rattle.decoder.specs.Found.{At, Nothing}
use Rattle.decoder.specs.Parts.{found_of, nowhere, Seeks}

-- ---- the search

shift_none : (x : Option ℕ) → map (λ (n : ℕ). n + 0) x ≡ x
shift_none none = refl
shift_none (some n) = let e : n + 0 ≡ n = omega arith in ap some e

shift_one : (i : ℕ) (x : Option ℕ) → map (λ (n : ℕ). n + i) (map (λ (n : ℕ). n + 1) x) ≡ map (λ (n : ℕ). n + suc i) x
shift_one i none = refl
shift_one i (some n) = let e : n + 1 + i ≡ n + suc i = omega arith in ap some e

pass : (i b : ℕ) (s : List ℕ) → (b ≡ 0 → ⊥) → map (λ (n : ℕ). n + i) (to_zero (b ∷ s)) ≡ map (λ (n : ℕ). n + suc i) (to_zero s)
unfolding to_zero
pass i zero s byte = absurd (byte refl)
pass i (suc b) s byte = shift_one i (to_zero s)

stop : (i b : ℕ) (s : List ℕ) → b ≡ 0 → map (λ (n : ℕ). n + i) (to_zero (b ∷ s)) ≡ some i
unfolding to_zero
stop i zero s is = let e : 0 + i ≡ i = omega arith in ap some e
stop i (suc b) s is = absurd (omega arith)

none_left : (i : ℕ) (s : List ℕ) → length s ≤ i → map (λ (n : ℕ). n + i) (to_zero (drop i s)) ≡ none
unfolding to_zero
none_left i s hi = rw (drop_of_length-le s)

-- a list with no zero: its first byte, and what stands behind it
some-front : (b : ℕ) (s : List ℕ) → true ≡ nowhere (to_zero (b ∷ s)) → b ≡ 0 → ⊥
unfolding to_zero nowhere
some-front zero s e is = let z : ◌≡◌ {A = ℕ} 0 1 = cc in omega arith
some-front (suc b) s e is = omega arith

pub nowhere-later : (x : Option ℕ) → nowhere (map (λ (n : ℕ). n + 1) x) ≡ nowhere x
unfolding nowhere
nowhere-later none = refl
nowhere-later (some n) = refl

none-behind : (b : ℕ) (s : List ℕ) → true ≡ nowhere (to_zero (b ∷ s)) → true ≡ nowhere (to_zero s)
unfolding to_zero nowhere
none-behind zero s e = let z : ◌≡◌ {A = ℕ} 0 1 = cc in absurd (omega arith)
none-behind (suc b) s e = e ∙ nowhere-later (to_zero s)

pub seeks-none : (s : List ℕ) → Seeks s 0
seeks-none s = record { within = omega arith; same = shift_none (to_zero s) }

module _ {s : List ℕ} {i : ℕ} (h : Seeks s i) where
  pub seeks-more : i < length s → (get_or s i 0 ≡ 0 → ⊥) → Seeks s (i + 1)
  seeks-more lo byte = record {
    within = omega arith;
    same = rw add-one (sym (pass i (get_or s i 0) (drop (suc i) s) byte) ∙ (rw (drop-cons s i 0) at h.same));
  }

  pub seeks-at : i < length s → get_or s i 0 ≡ 0 → At i ≡ found_of (to_zero s)
  unfolding found_of
  seeks-at lo is = ap found_of (sym (stop i (get_or s i 0) (drop (suc i) s) is) ∙ (rw (drop-cons s i 0) at h.same))

  pub seeks-end : length s ≤ i → Nothing ≡ found_of (to_zero s)
  unfolding found_of
  seeks-end hi = ap found_of (sym (none_left i s hi) ∙ h.same)

-- past bytes that hold no zero
pub seeks-on : {s : List ℕ} (k i : ℕ) → Seeks s i → i + k ≤ length s → true ≡ nowhere (to_zero (take k (drop i s))) → Seeks s (i + k)
seeks-on {s} zero i h inside e = let same : i ≡ i + 0 = omega arith in subst (Seeks s) same h
seeks-on {s} (suc k) i h inside e =
    let one = rw (drop-cons s i 0 (omega arith)) at e in
    let same : i + 1 + k ≡ i + suc k = omega arith in
    subst (Seeks s) same (seeks-on k (i + 1) (seeks-more h (omega arith) (some-front (get_or s i 0) _ one)) (omega arith) (rw add-one (none-behind (get_or s i 0) _ one)))

pub found_at : {n : ℕ} (x : Option ℕ) → At n ≡ found_of x → x ≡ some n
unfolding found_of
found_at none e = let z : ◌≡◌ {A = ℕ} 0 1 = cc in absurd (omega arith)
found_at (some m) e = cc

pub found_none : (x : Option ℕ) → Nothing ≡ found_of x → x ≡ none
unfolding found_of
found_none none e = refl
found_none (some m) e = let z : ◌≡◌ {A = ℕ} 0 1 = cc in absurd (omega arith)

-- ---- lists without a zero

none-shift : (x : Option ℕ) → map (λ (n : ℕ). n + 1) x ≡ none → x ≡ none
none-shift none e = refl
none-shift (some n) e = let z : ◌≡◌ {A = ℕ} 0 1 = cc in absurd (omega arith)

pub clean-front : (s t : List ℕ) → to_zero (s ++ t) ≡ none → to_zero s ≡ none
unfolding to_zero
clean-front [] t e = refl
clean-front (zero ∷ s) t e = e
clean-front (suc b ∷ s) t e = rw (clean-front s t (none-shift _ e))

pub clean_back : (s t : List ℕ) → to_zero (s ++ t) ≡ none → to_zero t ≡ none
unfolding to_zero
clean_back [] t e = e
clean_back (zero ∷ s) t e = let z : ◌≡◌ {A = ℕ} 0 1 = cc in absurd (omega arith)
clean_back (suc b ∷ s) t e = clean_back s t (none-shift _ e)

pub clean-both : (s t : List ℕ) → to_zero s ≡ none → to_zero t ≡ none → to_zero (s ++ t) ≡ none
unfolding to_zero
clean-both [] t e f = f
clean-both (zero ∷ s) t e f = let z : ◌≡◌ {A = ℕ} 0 1 = cc in absurd (omega arith)
clean-both (suc b ∷ s) t e f = rw (clean-both s t (none-shift _ e) f)

pub clean-head : (b : ℕ) (s : List ℕ) → to_zero (b ∷ s) ≡ none → b ≡ 0 → ⊥
unfolding to_zero
clean-head zero s e is = let z : ◌≡◌ {A = ℕ} 0 1 = cc in omega arith
clean-head (suc b) s e is = omega arith

pub clean-none : to_zero [] ≡ none
unfolding to_zero
clean-none = refl

pub clean-one : (b : ℕ) → to_zero (suc b ∷ []) ≡ none
unfolding to_zero
clean-one b = refl

-- ---- lists with one

pub zero-behind : (s t : List ℕ) → to_zero s ≡ none → to_zero (s ++ 0 ∷ t) ≡ some (length s)
unfolding to_zero
zero-behind [] t e = refl
zero-behind (zero ∷ s) t e = let z : ◌≡◌ {A = ℕ} 0 1 = cc in absurd (omega arith)
zero-behind (suc b ∷ s) t e = let n : length s + 1 ≡ suc (length s) = omega arith in rw (zero-behind s t (none-shift _ e), n)

-- the first zero is in the list, and none is in front of it
pub record First (s : List ℕ) (n : ℕ) : Type 0 where
  pub within : n < length s
  pub clean : to_zero (take n s) ≡ none

first-later : (b n : ℕ) (s : List ℕ) (x : Option ℕ) → map (λ (m : ℕ). m + 1) x ≡ some n → ((m : ℕ) → x ≡ some m → First s m) → First (suc b ∷ s) n
unfolding to_zero
first-later b n s none e f = let z : ◌≡◌ {A = ℕ} 0 1 = cc in absurd (omega arith)
first-later b n s (some m) e f =
    let g = f m refl in
    let z : n ≡ suc m = (let i : m + 1 ≡ n = cc in omega arith) in
    rw z (record { within = omega arith; clean = rw g.clean })

pub first : (s : List ℕ) (n : ℕ) → to_zero s ≡ some n → First s n
unfolding to_zero
first [] n e = let z : ◌≡◌ {A = ℕ} 0 1 = cc in absurd (omega arith)
first (zero ∷ s) n e = let z : n ≡ 0 = cc in rw z (record { within = omega arith; clean = refl })
first (suc b ∷ s) n e = first-later b n s (to_zero s) e (λ m is. first s m is)

-- what stands in front of the first zero, and what behind it
pub record Parted (s : List ℕ) (n : ℕ) : Type 0 where
  pub front : List ℕ
  pub back : List ℕ
  pub is : s ≡ front ++ 0 ∷ back
  pub count : n ≡ length front
  pub clean : to_zero front ≡ none

pub parted-left : {s : List ℕ} {n : ℕ} (p : Parted s n) → drop (n + 1) s ≡ p.back
parted-left p = rw (p.count, p.is) (drop-append-add p.front (0 ∷ p.back) 1)

parted-later : (b n : ℕ) (s : List ℕ) (x : Option ℕ) → map (λ (m : ℕ). m + 1) x ≡ some n → ((m : ℕ) → x ≡ some m → Parted s m) → Parted (suc b ∷ s) n
unfolding to_zero
parted-later b n s none e f = let z : ◌≡◌ {A = ℕ} 0 1 = cc in absurd (omega arith)
parted-later b n s (some m) e f =
    let g = f m refl in
    let i : m + 1 ≡ n = cc in
    let c : m ≡ length g.front = g.count in
    record { front = suc b ∷ g.front; back = g.back; is = ap (λ (t : List ℕ). suc b ∷ t) g.is; count = omega arith; clean = rw g.clean }

pub parted : (s : List ℕ) (n : ℕ) → to_zero s ≡ some n → Parted s n
unfolding to_zero
parted [] n e = let z : ◌≡◌ {A = ℕ} 0 1 = cc in absurd (omega arith)
parted (zero ∷ s) n e = record { front = []; back = s; is = refl; count = cc; clean = refl }
parted (suc b ∷ s) n e = parted-later b n s (to_zero s) e (λ m is. parted s m is)
