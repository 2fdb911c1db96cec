-- A reading goes on only with a first word that the item's kind knows.
-- Assumes nothing.
use mathlib.Core.Path.{◌≡◌, refl}
use mathlib.Core.Bool.{Bool, true, false}
use mathlib.Core.List.{List}
use Prim.Native.Nat.{ℕ}
use lib.Dec.{ltb}
use Rattle.wire.specs.declared.Refusal.TheVariants.{Variant}
use Rattle.wire.specs.declared.Own.{Own}
use Rattle.wire.specs.Item.{Item}
use Rattle.wire.specs.Item.{Took, Refused}
use Rattle.wire.specs.Tests.{pick}
use Rattle.wire.specs.Shape.{w32, Kind, plain, pooled, option, sequence, map, struct, enum}
use Rattle.wire.specs.Numbers.{varint}
use Rattle.wire.specs.Walk.{following, is_known}
use Rattle.wire.specs.Reading.{known, head}

pub head-known : (k : Kind) (n p : ℕ) (s : List ℕ) {own : Own} → head k n p s ≡ Took own → is_known (following k own.first) n ≡ true
unfolding head known pick following is_known
head-known (plain l) n p s e = refl
head-known (pooled c) n p s e = refl
head-known option n p s e = refl
head-known sequence n p s e = refl
head-known map n p s e = refl
head-known struct n p s e = refl
head-known enum n p s {own} e = go (varint w32 s) e
  where
    test : (x : Bool) (got : Own) → ltb got.first n ≡ x → pick x (Took got) (Refused Variant) ≡ Took own → ltb own.first n ≡ true
    test true got t e = cc
    test false got t e = cc

    go : (i : Item) → known n i ≡ Took own → ltb own.first n ≡ true
    go (Took got) e = test (ltb got.first n) got refl e
    go (Refused r) e = cc
