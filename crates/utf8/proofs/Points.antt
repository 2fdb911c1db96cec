-- What the loop that puts a code point together knows at its head, and what one byte more makes of it.
-- Assumes nothing.
use mathlib.Core.Path.{◌≡◌, refl}
use mathlib.Core.List.{List, [], ◌∷◌}
use Prim.Native.Nat.{ℕ, zero, suc, ◌+◌, ◌-◌, ◌*◌, ◌<◌, ◌≤◌, ◌^◌}
use native.Mathlib.Numerals.{add-one}
use native.Mathlib.Omega.{arith}
use lib.ListN.{length, get_or, take, drop, drop_of_length-le}
use Rattle.wire.specs.Text.{width_of, lead_part, sixes, first_char}
use Rattle.laws.proofs.Parts.{next}
use Rattle.laws.proofs.Utf8.{width_one, width-none, width_two, width_three, width_four, width-high, width_few}
use Rattle.utf8.specs.Chars.{lead_of, over_of}

-- ---- a lead byte's part

pub lead-1 : (b : ℕ) → b < 0x80 → b ≡ lead_of b
unfolding lead_of lead_part
lead-1 b h = rw (width_one b h)

pub lead-2 : (b : ℕ) → 0xc2 ≤ b → b < 0xe0 → b - 0xc0 ≡ lead_of b
unfolding lead_of lead_part
lead-2 b l h = rw (width_two b l h)

pub lead-3 : (b : ℕ) → 0xe0 ≤ b → b < 0xf0 → b - 0xe0 ≡ lead_of b
unfolding lead_of lead_part
lead-3 b l h = rw (width_three b l h)

pub lead-4 : (b : ℕ) → 0xf0 ≤ b → b < 0xf5 → b - 0xf0 ≡ lead_of b
unfolding lead_of lead_part
lead-4 b l h = rw (width_four b l h)

pub lead-inner : (b : ℕ) → 0x80 ≤ b → b < 0xc2 → 0 ≡ lead_of b
unfolding lead_of lead_part
lead-inner b l h = rw (width-none b l h)

pub lead-over : (b : ℕ) → 0xf5 ≤ b → 0 ≡ lead_of b
unfolding lead_of lead_part
lead-over b l = rw (width-high b l)

pub lead-le : (b : ℕ) → lead_of b ≤ b
unfolding lead_of lead_part
lead-le b = go (width_of b)
  where
    go : (w : ℕ) → lead_part w b ≤ b
    go zero = omega arith
    go (suc zero) = omega arith
    go (suc (suc zero)) = omega arith
    go (suc (suc (suc zero))) = omega arith
    go (suc (suc (suc (suc k)))) = omega arith

-- ---- the loop

-- 256 to the i
abbrev pub room : ℕ → ℕ
room zero = 1
room (suc i) = 256 * room i

pub record Point (s : List ℕ) (w value i : ℕ) : Type 0 where
  pub most : w ≤ 4
  pub within : i ≤ 4
  pub small : value < room i
  pub same : sixes value (take (w - i) (drop i s)) ≡ first_char s

room-four : (i : ℕ) → i ≤ 4 → room i ≤ 2 ^ 32
room-four zero h = omega arith
room-four (suc zero) h = omega arith
room-four (suc (suc zero)) h = omega arith
room-four (suc (suc (suc zero))) h = omega arith
room-four (suc (suc (suc (suc zero)))) h = omega arith
room-four (suc (suc (suc (suc (suc i))))) h = absurd (omega arith)

pub begin : (s : List ℕ) → 0 < length s → get_or s 0 0 < 256 → {w value : ℕ} → w ≡ width_of (get_or s 0 0)
    → value ≡ lead_of (get_or s 0 0) → Point s w value 1
unfolding first_char lead_of
begin [] h v e l = absurd (omega arith)
begin (b ∷ s) h v e l =
    record { most = rw e (width_few b); within = omega arith; small = omega (arith, lead-le b); same = rw (e, l) }

pub none : (s : List ℕ) → length s ≡ 0 → 0 ≡ first_char s
unfolding first_char
none [] h = refl
none (b ∷ s) h = absurd (omega arith)

module _ {s : List ℕ} {w value i : ℕ} (r : Point s w value i) where
  pub fits : {x b : ℕ} → x ≡ over_of b → b < 256 → 64 * value + x < 2 ^ 64
  unfolding over_of
  fits e h = omega (arith, room-four i r.within)

  pub done : w ≤ i → value ≡ first_char s
  unfolding sixes
  done h = let z : w - i ≡ 0 = omega arith in rw z at r.same

  pub cut : length s ≤ i → value ≡ first_char s
  unfolding sixes
  cut h = go (w - i) (rw drop_of_length-le at r.same)
    where
      go : (n : ℕ) → sixes value (take n []) ≡ first_char s → value ≡ first_char s
      go zero e = e
      go (suc n) e = e

  pub again : i < w → i < length s → get_or s i 0 < 256 → Point s w (64 * value + over_of (get_or s i 0)) (i + 1)
  unfolding sixes over_of
  again h l o =
      let n : w - i ≡ suc (w - (i + 1)) = omega arith in
      record { most = r.most; within = omega arith; small = rw add-one (omega arith); same = rw (n, next s i l) at r.same }
