-- A varint's bytes behind others: as `varint::put` stores them, and by a loop where all have a place.
-- Assumes nothing.
use mathlib.Core.Path.{◌≡◌, refl, sym, ap, ◌∙◌}
use mathlib.Core.List.{List}
use Prim.Native.Nat.{ℕ, ◌+◌, ◌-◌, ◌/◌, ◌%◌, ◌^◌, ◌<◌, ◌≤◌}
use native.Mathlib.Omega.{arith}
use lib.ListN.{length, set, length-set}
use Rattle.wire.specs.Numbers.{shortest}
use Rattle.varint.specs.Put.{Put}
use Rattle.varint.proofs.Writing.{Writing, begin, more, stop}
use Rattle.output.specs.Bytes.{cap, Puts}
use Rattle.output.proofs.Counting.{cap-small}

pub puts-varint : (x u : ℕ) {out after : List ℕ} {k n : ℕ} → Put out u x after k → n ≡ cap (u + k) → Puts (shortest x) u out n after
puts-varint x u p e = record { counted = e ∙ ap (λ k. cap (u + k)) p.size; stored = p.stored }

-- a loop that puts a varint's bytes where all have a place, at the place `at`: `rest` is left
pub record Inside (before : List ℕ) (u x : ℕ) (out : List ℕ) (at rest : ℕ) : Type 0 where
  pub up : u ≤ at
  pub few : at ≤ u + 9
  pub long : length out ≡ length before
  pub is : Writing before u x out (at - u) rest

pub inside-begin : (out : List ℕ) (u x : ℕ) → x < 2 ^ 64 → Inside out u x out u x
inside-begin out u x h = let e : u - u ≡ 0 = omega arith in record { up = omega arith; few = omega arith; long = refl; is = rw e (begin out u x h) }

module _ {before : List ℕ} {u x : ℕ} {out : List ℕ} {at rest : ℕ} (w : Inside before u x out at rest) where
  here : u + (at - u) ≡ at
  here = omega (arith, w.up)

  pub inside-more : 128 ≤ rest → Inside before u x (set out at (rest % 128 + 128)) (at + 1) (rest / 128)
  inside-more h =
      let m = more w.is h in
      let one : at - u + 1 ≡ at + 1 - u = omega (arith, w.up) in
      record { up = omega (arith, w.up); few = omega (arith, w.up, m.counting.few); long = length-set out at _ ∙ w.long; is = rw (here, one) at m }

  pub inside-stop : rest < 128 → u + 10 ≤ length before → length before < 2 ^ 63 → Puts (shortest x) u before (at + 1) (set out at rest)
  inside-stop h room small =
      let p = stop w.is h in
      let one : at + 1 ≡ u + (at - u + 1) = omega (arith, w.up) in
      record { counted = one ∙ ap (λ k. u + k) p.size ∙ sym (cap-small (u + length (shortest x)) (omega (arith, p.size, w.few, w.up))); stored = rw here at p.stored }
