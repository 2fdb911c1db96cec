-- A trailer's numbers are good exactly if each of their tests holds.
-- Assumes nothing.
use mathlib.Core.Path.{◌≡◌}
use mathlib.Core.Bool.{true}
use Prim.Native.Nat.{ℕ, ◌+◌, ◌*◌, ◌%◌, ◌<◌, ◌≤◌}
use borrow.Author.Tests.{eqb-true, leb-true, ltb-true, eq-eqb, le-leb, lt-ltb}
use Rattle.wire.specs.Tests.{both}
use Rattle.wire.specs.Table.{good_numbers}
use Rattle.laws.proofs.Splits.{both_left, both_right}

pub record Numbers (nodes bytes c d n root end : ℕ) : Type 0 where
  pub some-nodes : 1 ≤ n
  pub few-nodes : n ≤ nodes
  pub rooted : root < n
  pub even : c % 2 ≡ 0
  pub few_bytes : c ≤ bytes
  pub apart : d ≡ 6 * n + c
  pub inside : d ≤ end

module _ (nodes bytes c d n root end : ℕ) where
  pub numbers : good_numbers nodes bytes c d n root end ≡ true → Numbers nodes bytes c d n root end
  unfolding good_numbers
  numbers e =
      let p = both_right _ _ e in
      let q = both_right _ _ p in
      let r = both_right _ _ q in
      record {
        some-nodes = leb-true _ _ (both_left _ _ (both_left _ _ e));
        few-nodes = leb-true _ _ (both_right _ _ (both_left _ _ e));
        rooted = ltb-true _ _ (both_left _ _ p);
        even = eqb-true _ _ (both_left _ _ (both_left _ _ q));
        few_bytes = leb-true _ _ (both_right _ _ (both_left _ _ q));
        apart = eqb-true _ _ (both_left _ _ r);
        inside = leb-true _ _ (both_right _ _ r);
      }

  pub numbers-good : Numbers nodes bytes c d n root end → good_numbers nodes bytes c d n root end ≡ true
  unfolding good_numbers both
  numbers-good t =
      rw (
        le-leb 1 n t.some-nodes,
        le-leb n nodes t.few-nodes,
        lt-ltb root n t.rooted,
        eq-eqb (c % 2) 0 t.even,
        le-leb c bytes t.few_bytes,
        eq-eqb d (6 * n + c) t.apart,
        le-leb d end t.inside,
      )
