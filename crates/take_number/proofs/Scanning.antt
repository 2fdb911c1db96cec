-- How far an acceptor goes: a step and then the rest, or no step.
-- Assumes nothing.
use mathlib.Core.Path.{◌≡◌, refl, sym, ap, ◌∙◌}
use mathlib.Core.List.{List, [], ◌∷◌}
use mathlib.Core.Option.{none, some}
use Prim.Native.Nat.{ℕ, ◌+◌, ◌<◌, ◌≤◌}
use native.Mathlib.Omega.{arith}
use lib.ListN.{length, get_or, drop, drop_of_length-le}
use Rattle.laws.proofs.Parts.{next}
use Rattle.laws.proofs.Splits.{by-lt}
use Rattle.spellings.specs.Accept.{Acceptor, moved, scan_on, scan}
use Rattle.spellings.specs.Exact.{Beside}
use Rattle.spellings.proofs.Beside.{scans-alike}
use Rattle.take_number.specs.Scans.{Ends}

module _ (A : Acceptor) where
  scan-end : (x : A.State) → scan A x [] ≡ record { state = x; used = 0; left = [] }
  unfolding scan
  scan-end x = refl

  scan-none : (x : A.State) (b : ℕ) (t : List ℕ) → A.step x b ≡ none → scan A x (b ∷ t) ≡ record { state = x; used = 0; left = b ∷ t }
  unfolding scan scan_on
  scan-none x b t e = rw e

  scan-some : (x y : A.State) (b : ℕ) (t : List ℕ) → A.step x b ≡ some y → scan A x (b ∷ t) ≡ moved A (scan A y t)
  unfolding scan scan_on
  scan-some x y b t e = rw e

  -- no byte goes on
  pub ends-here : {x : A.State} (s : List ℕ) (i : ℕ) → i ≤ length s → (i < length s → A.step x (get_or s i 0) ≡ none) → Ends A x s i x i
  ends-here {x} s i h e =
      by-lt i (length s)
      (λ l. let r = ap (scan A x) (next s i l) ∙ scan-none x (get_or s i 0) (drop (i + 1) s) (e l) in
      record { state = ap (λ r. r.state) r; place = omega (arith, ap (λ r. r.used) r); left = ap (λ r. r.left) r ∙ sym (next s i l); inside = h })
      (λ l. let r = ap (scan A x) (drop_of_length-le s {i = i} l) ∙ scan-end x in
      record { state = ap (λ r. r.state) r; place = omega (arith, ap (λ r. r.used) r); left = ap (λ r. r.left) r ∙ sym (drop_of_length-le s {i = i} l); inside = h })

  -- a byte goes on
  pub ends_on : {x y z : A.State} (s : List ℕ) (i : ℕ) {j : ℕ} → i < length s → A.step x (get_or s i 0) ≡ some y → Ends A y s (i + 1) z j → Ends A x s i z j
  unfolding moved
  ends_on {x} {y} s i l e n =
      let r = ap (scan A x) (next s i l) ∙ scan-some x y (get_or s i 0) (drop (i + 1) s) e in
      record {
        state = ap (λ r. r.state) r ∙ n.state;
        place = omega (arith, ap (λ r. r.used) r, n.place);
        left = ap (λ r. r.left) r ∙ n.left;
        inside = n.inside;
      }

-- an acceptor whose states stand for another's goes equally far
pub ends_as : (A B : Acceptor) (g : A.State → B.State) → Beside A B (λ x z. z ≡ g x) → {x y : A.State} {s : List ℕ} {i j : ℕ} → Ends A x s i y j → Ends B (g x) s i (g y) j
ends_as A B g beside {x} {y} {s} {i} e =
    let a = scans-alike A B (λ x z. z ≡ g x) beside (drop i s) x (g x) refl in
    record { state = a.states ∙ ap g e.state; place = omega (arith, e.place, a.used); left = sym a.left ∙ e.left; inside = e.inside }
