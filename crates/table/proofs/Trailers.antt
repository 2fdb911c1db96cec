-- A trailer's test, by what the code finds: each test in turn, of which the last decides.
-- Assumes nothing.
use mathlib.Core.Path.{◌≡◌, refl, sym}
use mathlib.Core.Bool.{true, false}
use mathlib.Core.List.{List}
use Prim.Native.Nat.{ℕ, ◌≤◌}
use native.Mathlib.Omega.{arith}
use lib.Dec.{leb}
use lib.ListN.{length}
use borrow.Author.Tests.{eqb-true, eq-eqb, le-leb, lt-leb}
use Rattle.wire.specs.declared.Ending.{Ending}
use Rattle.wire.specs.Tests.{both}
use Rattle.wire.specs.Table.{TableForm, first, second, mark_of, most_nodes, most_bytes, layout_at, good_trailer}
use Rattle.laws.proofs.Splits.{by-test, by_le, both_left, both_right}
use Rattle.laws.proofs.Trailers.{Numbers, numbers, numbers-good}
use Rattle.table.specs.Parts.{Inside, fitting}

module _ (t : Ending) (mark nodes bytes end : ℕ) where
  abbrev Fits : Type 0
  Fits = (t.mark ≡ mark) × Numbers nodes bytes t.c t.d t.n t.root end

  fits : fitting t mark nodes bytes end ≡ true → Fits
  unfolding fitting
  fits e = (eqb-true _ _ (both_left _ _ e), numbers _ _ _ _ _ _ _ (both_right _ _ e))

  pub fits-no : (Fits → ⊥) → false ≡ fitting t mark nodes bytes end
  fits-no never = by-test (fitting t mark nodes bytes end) (λ e. absurd (never (fits e))) (λ e. sym e)

  pub fits_last : (t.d ≤ end → Fits) → leb t.d end ≡ fitting t mark nodes bytes end
  unfolding fitting both
  fits_last f =
      by_le t.d end
      (λ h. rw (le-leb t.d end h, eq-eqb t.mark mark (f h).0) (sym (numbers-good _ _ _ _ _ _ _ (f h).1)))
      (λ h. rw (lt-leb t.d end h) (fits-no (λ g. omega (arith, g.1.inside))))

module _ (t : Ending) (end : ℕ) where
  pub fits-first : fitting t 0x5053 256 2048 end ≡ good_trailer first t end
  unfolding fitting good_trailer mark_of most_nodes most_bytes
  fits-first = refl

  pub fits-second : fitting t 0x5057 4096 65536 end ≡ good_trailer second t end
  unfolding fitting good_trailer mark_of most_nodes most_bytes
  fits-second = refl

module _ (form : TableForm) (t : Ending) (end : ℕ) (e : good_trailer form t end ≡ true) where
  good : Numbers (most_nodes form) (most_bytes form) t.c t.d t.n t.root end
  unfolding good_trailer
  good = numbers _ _ _ _ _ _ _ (both_right _ _ e)

  pub inside : (t.c ≤ end) × (t.d ≤ end)
  inside = (omega (arith, good.apart, good.inside), good.inside)

  pub layout-inside : (s : List ℕ) → end ≤ length s → Inside s (layout_at t end)
  unfolding layout_at
  layout-inside s h = record { records = omega (arith, good.apart, good.inside); children = omega (arith, good.apart, good.inside) }

  pub layout-few : (layout_at t end).nodes ≤ most_nodes form
  unfolding layout_at
  layout-few = good.few-nodes
