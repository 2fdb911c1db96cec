-- From a place to a later one: past a single byte the rest decides as before.
-- Assumes nothing.
use mathlib.Core.Path.{◌≡◌, refl, sym, subst, ◌∙◌}
use mathlib.Core.Bool.{true}
use mathlib.Core.List.{List, [], ◌∷◌}
use Prim.Native.Nat.{ℕ, ◌+◌, ◌<◌, ◌≤◌}
use native.Mathlib.Omega.{arith}
use lib.ListN.{length, get_or, drop, drop_of_length-le}
use Rattle.wire.specs.Tests.{both}
use Rattle.wire.specs.Text.{utf8_f, utf8}
use Rattle.laws.proofs.Parts.{next}
use Rattle.laws.proofs.Utf8.{width_one}
use Rattle.singles.specs.Passed.{Same}

-- between sequences there is no range
pub between : (lo hi : ℕ) (t : List ℕ) → utf8_f 0 lo hi t ≡ utf8 t
unfolding utf8_f utf8
between lo hi [] = refl
between lo hi (b ∷ t) = refl

pub here : (s : List ℕ) (i : ℕ) → i ≤ length s → Same s i i
here s i h = record { up = omega arith; inside = h; same = refl }

pub on : {s : List ℕ} {i j k : ℕ} → Same s i j → Same s j k → Same s i k
on p q = record { up = omega arith; inside = q.inside; same = q.same ∙ p.same }

-- past a single byte
pub single : {s : List ℕ} {from i : ℕ} (j : ℕ) → i + 1 ≡ j → i < length s → get_or s i 0 < 0x80 → Same s from i → Same s from j
unfolding utf8 utf8_f both
single {s} {from} {i} j e h b r =
    let past : utf8 (drop (i + 1) s) ≡ utf8 (drop i s) = rw (next s i h, width_one (get_or s i 0) b) (sym (between _ _ (drop (i + 1) s))) in
    on r (subst (Same s i) e (record { up = omega arith; inside = omega arith; same = past }))

-- past up to four of them
module _ {s : List ℕ} {from i : ℕ} (r : Same s from i) (h : i + 3 ≤ length s) (b0 : get_or s i 0 < 0x80) where
  pub one_on : Same s from (i + 1)
  one_on = single (i + 1) refl (omega arith) b0 r

  module _ (b1 : get_or s (i + 1) 0 < 0x80) where
    pub two-on : Same s from (i + 2)
    two-on = single (i + 2) (omega arith) (omega arith) b1 one_on

    module _ (b2 : get_or s (i + 2) 0 < 0x80) where
      pub three-on : Same s from (i + 3)
      three-on = single (i + 3) (omega arith) (omega arith) b2 two-on

      pub four-on : i + 4 ≤ length s → get_or s (i + 3) 0 < 0x80 → Same s from (i + 4)
      four-on h b3 = single (i + 4) (omega arith) (omega arith) b3 three-on

pub all_read : {s : List ℕ} {from i : ℕ} → Same s from i → length s ≤ i → true ≡ utf8 (drop from s)
unfolding utf8 utf8_f
all_read {s} r h = rw (drop_of_length-le s h) at r.same
