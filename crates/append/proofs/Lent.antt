-- A work area whose first part is lent, and cleared: what is put back is that part, and what stands behind it is as before.
-- Assumes nothing.
use mathlib.Core.Path.{◌≡◌, ◌∙◌}
use mathlib.Core.List.{List, ◌++◌}
use Prim.Native.Nat.{ℕ, ◌≤◌}
use lib.ListN.{length, take, drop, replicate}
use lib.Seq.{length-take-le, take_at, drop_at}
use native.Mathlib.Nat.{le_refl}
use Rattle.wire.specs.Answers.{area_bytes, zeroed, area_after}
use Rattle.laws.proofs.Areas.{area-long}

module _ (n : ℕ) (area : List ℕ) (h : n ≤ length area) where
  pub part-cleared : {zeros : List ℕ} → zeros ≡ replicate (length (take n area)) 0 → zeros ++ drop n area ≡ zeroed n area
  unfolding zeroed
  part-cleared e = rw (e, length-take-le n area h)

  -- the whole work area
  module _ (all : area_bytes ≡ n) where
    pub long-enough : area_bytes ≤ length area
    long-enough = rw all h

    pub part-long : area_bytes ≤ length (take n area)
    part-long = rw (all, length-take-le n area h) (le_refl n)

    -- it was lent before, and what it was left with does not matter
    pub handed-back : (part : List ℕ) {zeros : List ℕ} → length part ≡ length (take n area)
        → zeros ≡ replicate (length (take n (part ++ drop n area))) 0 → zeros ++ drop n (part ++ drop n area) ≡ area_after area
    unfolding zeroed
    handed-back part same e =
        let long = same ∙ length-take-le n area h in
        rw (area-long area long-enough, all, e, take_at part (drop n area) n long, drop_at part (drop n area) n long, long)
