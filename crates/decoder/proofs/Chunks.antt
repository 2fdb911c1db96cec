-- Parts of lists: one put whole into an array, two put there one behind the other.
-- Assumes nothing.
use mathlib.Core.Path.{◌≡◌, refl}
use mathlib.Core.List.{List, [], ◌∷◌, ◌++◌, append_assoc}
use Prim.Native.Nat.{ℕ, ◌+◌, ◌-◌, ◌<◌}
use native.Mathlib.Numerals.{add-one}
use native.Mathlib.Omega.{arith}
use lib.ListN.{length, take, drop, take-append-drop, length-append, set}
use lib.Seq.{paste, take-length, take_at, set_split}
use Rattle.decoder.specs.Parts.{with}

pub pasted : (array part : List ℕ) (at i : ℕ) → i ≡ length part → paste array at part i ≡ with array at part
pasted array part at i whole = rw (whole, take-length part, append_assoc (take at array) part (drop (at + length part) array))

pub with-one : (array : List ℕ) (at b : ℕ) → at < length array → with array at (b ∷ []) ≡ set array at b
with-one array at b lo = rw (set_split array at b lo, add-one)

pub with_none : (array : List ℕ) (at : ℕ) (part : List ℕ) → length part ≡ 0 → with array at part ≡ array
with_none array at [] is = let e : at + 0 ≡ at = omega arith in rw e (take-append-drop at array)
with_none array at (b ∷ part) is = absurd (omega arith)

pub no_front : (front back : List ℕ) → length front ≡ 0 → front ++ back ≡ back
no_front [] back is = refl
no_front (b ∷ front) back is = absurd (omega arith)

-- two parts, put into an array one behind the other
pub joined : (zeros front back : List ℕ) {array array' : List ℕ} → array ≡ with zeros 0 front → array' ≡ with array (length front) back → take (length front + length back) array' ≡ front ++ back
joined zeros front back first second =
    let so_far : take (length front) (front ++ drop (0 + length front) zeros) ≡ front = take_at front (drop (0 + length front) zeros) (length front) refl in
    rw (second, first, so_far, ← append_assoc front back) (take_at (front ++ back) _ (length front + length back) (length-append front back))
