-- A row is no shorter than a text or bytes in it.
-- Assumes nothing.
use mathlib.Core.Path.{◌≡◌, refl}
use mathlib.Core.Bool.{true}
use mathlib.Core.List.{List, [], ◌∷◌, ◌++◌}
use Prim.Native.Nat.{ℕ, ◌+◌, ◌<◌, ◌≤◌, ◌^◌}
use native.Mathlib.Omega.{arith}
use lib.Dec.{eqb}
use lib.ListN.{length, length-append}
use Rattle.wire.specs.Values.{Value, number, content}
use Rattle.laws.proofs.Splits.{of-pick, not-both, both_left, both_right}
use Rattle.desk.specs.Csv.{quote, Style, numeral, one_char, any_text, hex, may, hexes, hex_of, doubled, quoted, spelled, may_all, row, later}
use Rattle.spellings.proofs.Written.{Short}
use Rattle.spellings.proofs.Messages.{AllShort}

long-doubled : (s : List ℕ) → length s ≤ length (doubled s)
unfolding doubled
long-doubled [] = omega arith
long-doubled (b ∷ s) = let h = long-doubled s in of-pick (λ t. length (b ∷ s) ≤ length t) (eqb b quote) (quote ∷ quote ∷ doubled s) (b ∷ doubled s) (λ e. omega arith) (λ e. omega arith)

long-hexes : (s : List ℕ) → length s ≤ length (hexes s)
unfolding hexes hex_of
long-hexes [] = omega arith
long-hexes (b ∷ s) = let h = long-hexes s in omega arith

long-quoted : (s : List ℕ) → length s ≤ length (quoted s)
unfolding quoted
long-quoted s = omega (arith, length-append s (quote ∷ []))

short-value : (f : Style) (v : Value) → may f v ≡ true → length (spelled f v) < 2 ^ 64 → Short v
unfolding may spelled
short-value f (number a b) h k = tt
short-value (numeral below above) (content s) h k = not-both h refl
short-value one_char (content s) h k = not-both h refl
short-value any_text (content s) h k = omega (arith, k, long-doubled s, long-quoted (doubled s))
short-value hex (content s) h k = omega (arith, k, long-hexes s, long-quoted (hexes s))

short-later : (fs : List Style) (vs : List Value) → may_all fs vs ≡ true → length (later fs vs) < 2 ^ 64 → AllShort vs
unfolding may_all later
short-later [] [] h k = tt
short-later [] (v ∷ vs) h k = not-both h refl
short-later (f ∷ fs) [] h k = not-both h refl
short-later (f ∷ fs) (v ∷ vs) h k =
    let l : length (spelled f v ++ later fs vs) ≡ length (spelled f v) + length (later fs vs) = length-append (spelled f v) (later fs vs) in
    (short-value f v (both_left _ _ h) (omega (arith, k)), short-later fs vs (both_right (may f v) _ h) (omega (arith, k)))

pub short_row : (fs : List Style) (vs : List Value) → may_all fs vs ≡ true → length (row fs vs) < 2 ^ 64 → AllShort vs
unfolding may_all row
short_row [] [] h k = tt
short_row [] (v ∷ vs) h k = not-both h refl
short_row (f ∷ fs) [] h k = not-both h refl
short_row (f ∷ fs) (v ∷ vs) h k =
    let l : length (spelled f v ++ later fs vs) ≡ length (spelled f v) + length (later fs vs) = length-append (spelled f v) (later fs vs) in
    (short-value f v (both_left _ _ h) (omega (arith, k)), short-later fs vs (both_right (may f v) _ h) (omega (arith, k)))
