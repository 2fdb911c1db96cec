-- A slice's bytes from a place on, as the code takes them and as a list, and stores that go on behind each other.
-- Assumes nothing.
use mathlib.Core.Path.{◌≡◌, refl, ap, sym, ◌∙◌}
use mathlib.Core.List.{List, [], ◌∷◌, ◌++◌}
use Prim.Native.Nat.{ℕ, suc, ◌+◌, ◌-◌, ◌<◌, ◌≤◌}
use native.Mathlib.Nat.{add-zero, add-suc, suc-add}
use native.Mathlib.Numerals.{add-one}
use native.Mathlib.Omega.{arith}
use lib.ListN.{length, get_or, take, drop, set, length-drop}
use lib.Seq.{take_all, drop-cons, drop-drop, drop-append_seam, set_out, sets}

-- ---- `&s[at..]`

pub tail : (s : List ℕ) (at : ℕ) → take (length s - at) (drop at s) ≡ drop at s
tail s at = take_all (length s - at) (drop at s) (simp length-drop (omega arith))

pub length-tail : (s : List ℕ) (at : ℕ) → length (take (length s - at) (drop at s)) ≡ length s - at
length-tail s at = rw (tail s at, length-drop at s)

-- the next byte, and the bytes behind it
pub next : (s : List ℕ) (at : ℕ) → at < length s → drop at s ≡ get_or s at 0 ∷ drop (at + 1) s
next s at h = rw (add-one, drop-cons s at 0)

-- where s stands at a place, what stands behind s stands at the place behind it
pub behind : (message s rest : List ℕ) (p : ℕ) → drop p message ≡ s ++ rest → drop (p + length s) message ≡ rest
behind message s rest p at = sym (drop-drop (length s) p message) ∙ ap (drop (length s)) at ∙ drop-append_seam s rest

-- ---- stores

-- one run of stores after another is the run of both: no bound is needed
pub sets-append : (l : List ℕ) (i : ℕ) (xs ys : List ℕ) → sets (sets l i xs) (i + length xs) ys ≡ sets l i (xs ++ ys)
sets-append l i [] ys = ap (λ (k : ℕ). sets l k ys) (add-zero i)
sets-append l i (x ∷ xs) ys =
    ap (λ (k : ℕ). sets (sets (set l i x) (suc i) xs) k ys) (add-suc i (length xs) ∙ sym (suc-add i (length xs)))
    ∙ sets-append (set l i x) (suc i) xs ys

-- a store behind the end is dropped
pub sets-out : (xs l : List ℕ) (i : ℕ) → length l ≤ i → sets l i xs ≡ l
sets-out [] l i h = refl
sets-out (x ∷ xs) l i h = ap (λ (k : List ℕ). sets k (suc i) xs) (set_out l i x h) ∙ sets-out xs l (suc i) (omega arith)
