-- One test of a whole table, which antt computes row after row, says that each entry is its byte's width.
-- Assumes nothing.
use mathlib.Core.Path.{◌≡◌, subst}
use mathlib.Core.Bool.{Bool, true, ◌&&◌, and-eq-true_iff}
use mathlib.Core.List.{List, []}
use Prim.Native.Nat.{ℕ, ◌+◌, ◌*◌, ◌/◌, ◌%◌, ◌<◌}
use native.Mathlib.Omega.{arith}
use lib.Dec.{eqb}
use lib.ListN.{length, get_or}
use borrow.Author.Tests.{eqb-true}
use Rattle.wire.specs.Text.{width_of}
use Rattle.laws.proofs.Rule.{passes, at}
use Rattle.utf8.specs.Scan.{AreWidths}

abbrev right : (row place entry : ℕ) → Bool
right i j x = eqb x (width_of (i * 16 + j))

abbrev row-right : ℕ → List ℕ → Bool
row-right i r = eqb (length r) 16 && passes (right i) 0 r

-- sixteen rows of sixteen, each entry right
abbrev pub are-right : List (List ℕ) → Bool
are-right t = eqb (length t) 16 && passes row-right 0 t

pub tested : (t : List (List ℕ)) → are-right t ≡ true → AreWidths t
tested t e = record { entry = entry }
  where
    entry : (b : ℕ) → b < 256 → get_or (get_or t (b / 16) []) (b % 16) 0 ≡ width_of b
    entry b h =
        let rows = (and-eq-true_iff (eqb (length t) 16) (passes row-right 0 t)).0 e in
        let high : length t ≡ 16 = eqb-true (length t) 16 rows.0 in
        let r : List ℕ = get_or t (b / 16) [] in
        let row = (and-eq-true_iff (eqb (length r) 16) (passes (right (b / 16)) 0 r)).0 (at [] row-right t rows.1 (b / 16) (omega arith)) in
        let wide : length r ≡ 16 = eqb-true (length r) 16 row.0 in
        let place : b / 16 * 16 + b % 16 ≡ b = omega arith in
        subst (λ (p : ℕ). get_or r (b % 16) 0 ≡ width_of p) place (eqb-true _ _ (at 0 (right (b / 16)) r row.1 (b % 16) (omega arith)))
