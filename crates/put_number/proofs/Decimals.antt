-- A number's decimal digits: how many there are, and that they are made two at a time from the last to the first.
-- Assumes nothing.
use mathlib.Core.Path.{◌≡◌, refl, sym, ap, ◌∙◌}
use mathlib.Core.List.{List, [], ◌∷◌, ◌++◌, append_assoc, append-nil}
use Prim.Native.Nat.{ℕ, zero, suc, ◌+◌, ◌-◌, ◌*◌, ◌/◌, ◌%◌, ◌<◌, ◌≤◌, ◌^◌}
use native.Mathlib.Nat.{pow-suc}
use native.Mathlib.Omega.{arith}
use lib.ListN.{length, length-append, set}
use lib.Seq.{sets, length-sets}
use Rattle.laws.proofs.Splits.{by-lt}
use Rattle.desk.specs.Csv.{decimal}
use Rattle.spellings.proofs.Numerals.{decimal_digit, decimal-more}
use Rattle.put_number.proofs.Laying.{set_before}

decimal-last : (x : ℕ) → 10 ≤ x → decimal x ≡ decimal (x / 10) ++ (48 + x % 10) ∷ []
decimal-last x h =
    let whole : 10 * (x / 10) + x % 10 ≡ x = omega arith in
    rw whole at (decimal-more (x / 10) (x % 10) (omega arith) (omega arith))

-- ---- how many there are

pub few-digits : (x : ℕ) → x < 10 → length (decimal x) ≡ 1
few-digits x h = ap length (decimal_digit x h)

more-digits : (x : ℕ) → 10 ≤ x → length (decimal x) ≡ length (decimal (x / 10)) + 1
more-digits x h = ap length (decimal-last x h) ∙ length-append (decimal (x / 10)) ((48 + x % 10) ∷ [])

pub two_digits : (x : ℕ) → 10 ≤ x → x < 100 → length (decimal x) ≡ 2
two_digits x h k = more-digits x h ∙ ap (λ n. n + 1) (few-digits (x / 10) (omega arith))

pub three-digits : (x : ℕ) → 100 ≤ x → x < 1000 → length (decimal x) ≡ 3
three-digits x h k = more-digits x (omega arith) ∙ ap (λ n. n + 1) (two_digits (x / 10) (omega arith) (omega arith))

pub four-digits : (x : ℕ) → 1000 ≤ x → x < 10000 → length (decimal x) ≡ 4
four-digits x h k = more-digits x (omega arith) ∙ ap (λ n. n + 1) (three-digits (x / 10) (omega arith) (omega arith))

four-more : (x : ℕ) → 10000 ≤ x → length (decimal x) ≡ length (decimal (x / 10000)) + 4
four-more x h =
    let same : x / 10 / 10 / 10 / 10 ≡ x / 10000 = omega arith in
    let a = more-digits x (omega arith) in
    let b = more-digits (x / 10) (omega arith) in
    let c = more-digits (x / 10 / 10) (omega arith) in
    let d = more-digits (x / 10 / 10 / 10) (omega arith) in
    let all : length (decimal x) ≡ length (decimal (x / 10 / 10 / 10 / 10)) + 4 = omega (arith, a, b, c, d) in
    rw same at all

some-digit : (x : ℕ) → 1 ≤ length (decimal x)
some-digit x = by-lt x 10 (λ h. omega (arith, few-digits x h)) (λ h. omega (arith, more-digits x h))

most-digits : (k x : ℕ) → x < 10 ^ suc k → length (decimal x) ≤ suc k
most-digits zero x h = omega (arith, few-digits x (let ten : 10 ^ 1 ≡ 10 = refl in omega (arith, ten)))
most-digits (suc k) x h =
    by-lt x 10 (λ l. omega (arith, few-digits x l))
    (λ l. omega (arith, more-digits x l, most-digits k (x / 10) (omega (arith, pow-suc 10 (suc k)))))

-- n less one are counted, and those of `rest` are left
pub record Counting (x n rest : ℕ) : Type 0 where
  pub same : n + length (decimal rest) ≡ length (decimal x) + 1
  pub few : length (decimal x) ≤ 20

pub counting-begin : (x : ℕ) → x < 2 ^ 64 → Counting x 1 x
counting-begin x h = record { same = omega arith; few = most-digits 19 x (omega arith) }

pub counting_more : {x n rest : ℕ} → Counting x n rest → 10000 ≤ rest → Counting x (n + 4) (rest / 10000)
counting_more {rest = rest} c h = record { same = omega (arith, c.same, four-more rest h); few = c.few }

pub counting-few : {x n rest : ℕ} → Counting x n rest → n ≤ 20
counting-few {rest = rest} c = omega (arith, c.same, c.few, some-digit rest)

pub counting-end : {x n rest : ℕ} (k : ℕ) → Counting x n rest → length (decimal rest) ≡ k + 1 → n + k ≡ length (decimal x)
counting-end k c e = omega (arith, c.same, e)

-- ---- made from the last to the first

-- the digits that are made stand from `at` on, and those of `rest` are left
pub record Filling (x from end : ℕ) (before : List ℕ) (rest at : ℕ) (out : List ℕ) : Type 0 where
  pub made : List ℕ
  pub same : decimal rest ++ made ≡ decimal x
  pub stands : from + length (decimal rest) ≡ at
  pub below : at ≤ length before
  pub stored : out ≡ sets before at made

pub filling-begin : (x from end : ℕ) (out : List ℕ) → from + length (decimal x) ≡ end → end ≤ length out → Filling x from end out x end out
filling-begin x from end out e h = record { made = []; same = append-nil (decimal x); stands = e; below = h; stored = refl }

module _ {x from end rest at : ℕ} {before out : List ℕ} (f : Filling x from end before rest at out) where
  pub filling-long : length out ≡ length before
  filling-long = ap length f.stored ∙ length-sets before at f.made

  -- a digit more in front
  one : (d at' : ℕ) → suc at' ≡ at → set out at' d ≡ sets before at' (d ∷ f.made)
  one d at' e = ap (λ o. set o at' d) (f.stored ∙ ap (λ k. sets before k f.made) (sym e)) ∙ set_before f.made before at' (suc at') d (omega arith)

  pub filling-end : rest < 10 → set out (at - 1) (48 + rest) ≡ sets before from (decimal x)
  filling-end h =
      let e : suc from ≡ at = omega (arith, f.stands, few-digits rest h) in
      let here : at - 1 ≡ from = omega arith in
      rw here (one (48 + rest) from e ∙ ap (sets before from) (ap (λ s. s ++ f.made) (sym (decimal_digit rest h)) ∙ f.same))

  module _ (h : 10 ≤ rest) where
    long : length (decimal rest) ≡ length (decimal (rest / 10)) + 1
    long = more-digits rest h

    step : Filling x from end before (rest / 10) (at - 1) (set out (at - 1) (48 + rest % 10))
    step =
        record {
          made = (48 + rest % 10) ∷ f.made;
          same = sym (append_assoc (decimal (rest / 10)) ((48 + rest % 10) ∷ []) f.made) ∙ ap (λ s. s ++ f.made) (sym (decimal-last rest h)) ∙ f.same;
          stands = omega (arith, f.stands, long);
          below = omega (arith, f.below);
          stored = one (48 + rest % 10) (at - 1) (omega (arith, f.stands, long));
        }

  pub filling-room : 10 ≤ rest → 2 ≤ at
  filling-room h = omega (arith, f.stands, long h, some-digit (rest / 10))

  pub filling-room-1 : 1 ≤ at
  filling-room-1 = omega (arith, f.stands, some-digit rest)

module _ {x from end rest at : ℕ} {before out : List ℕ} (f : Filling x from end before rest at out) where
  two_steps : 100 ≤ rest → Filling x from end before (rest / 10 / 10) (at - 1 - 1) (set (set out (at - 1) (48 + rest % 10)) (at - 1 - 1) (48 + rest / 10 % 10))
  two_steps h = step (step f (omega arith)) (omega arith)

  pub filling-more : 100 ≤ rest → Filling x from end before (rest / 100) (at - 2) (set (set out (at - 1) (48 + rest % 100 % 10)) (at - 2) (48 + rest % 100 / 10))
  filling-more h =
      let a : rest / 10 / 10 ≡ rest / 100 = omega arith in
      let b : at - 1 - 1 ≡ at - 2 = omega arith in
      let c : rest % 10 ≡ rest % 100 % 10 = omega arith in
      let d : rest / 10 % 10 ≡ rest % 100 / 10 = omega arith in
      rw (← a, ← b, ← c, ← d) (two_steps h)

  pub filling-end-2 : 10 ≤ rest → rest < 100 → set (set out (at - 1) (48 + rest % 10)) (at - 2) (48 + rest / 10) ≡ sets before from (decimal x)
  filling-end-2 h k =
      let b : at - 1 - 1 ≡ at - 2 = omega arith in
      rw b at (filling-end (step f h) (omega arith))
