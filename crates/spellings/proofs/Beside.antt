-- Two acceptors whose steps are alike go equally far: so code may keep less than a field's contents.
-- Assumes nothing.
use mathlib.Core.Path.{refl, ap}
use mathlib.Core.List.{List, [], ◌∷◌}
use mathlib.Core.Option.{Option, none, some}
use Prim.Native.Nat.{ℕ, ◌+◌}
use Rattle.spellings.specs.Accept.{Acceptor, Scanned, moved, scan_on, scan}
use Rattle.spellings.specs.Exact.{Next, neither, each, Beside, Alike}

pub scans-alike : (A B : Acceptor) (R : A.State → B.State → Type 0) → Beside A B R → (s : List ℕ) (x : A.State) (y : B.State) → R x y → Alike A B R (scan A x s) (scan B y s)
unfolding scan scan_on moved
scans-alike A B R beside [] x y h = record { states = h; used = refl; left = refl }
scans-alike A B R beside (b ∷ s) x y h = on (A.step x b) (B.step y b) (beside x y b h) (λ z. scan A z s) (λ z. scan B z s) (λ z w k. scans-alike A B R beside s z w k)
  where
    on : (o : Option A.State) (p : Option B.State) → Next R o p → (f : A.State → Scanned A) (g : B.State → Scanned B)
        → ((z : A.State) (w : B.State) → R z w → Alike A B R (f z) (g w)) → Alike A B R (scan_on A x b s o f) (scan_on B y b s p g)
    on none none neither f g k = record { states = h; used = refl; left = refl }
    on none (some w) x7 f g k = elim x7 [ ]
    on (some z) none x7 f g k = elim x7 [ ]
    on (some z) (some w) (each r) f g k = let a = k z w r in record { states = a.states; used = ap (λ n. 1 + n) a.used; left = a.left }
