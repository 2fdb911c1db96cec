-- That every turn leaves less to do: of the open items, or of the room for entries, which outweighs any open item.
-- Assumes nothing.
use mathlib.Core.List.{List, ◌∷◌}
use Prim.Native.Nat.{ℕ, suc, ◌+◌, ◌-◌, ◌*◌, ◌^◌, ◌<◌, ◌≤◌}
use native.Mathlib.Nat.{suc-mul, mul-le-mul_left, mul-le-mul_right}
use native.Mathlib.Omega.{arith}
use Rattle.open.specs.declared.Held.{Held}
use Rattle.open.specs.Items.{leaving, weigh, big, load}

-- rounds of so many numbers weigh no more than an entry
below-square : (r w n : ℕ) → r < n → w < n → r * suc w + 1 ≤ n * n
below-square r w n h k = omega (arith, mul-le-mul_left r k, suc-mul r n, mul-le-mul_right n h)

rounds-small : (r w : ℕ) → r < 2 ^ 64 → w < 2 ^ 63 → r * suc w + 1 ≤ big
unfolding big
rounds-small r w h k = below-square r w (2 ^ 64) h (omega arith)

-- one of so many rounds less
round-less : (r w : ℕ) → 0 < r → (r - 1) * suc w + suc w ≤ r * suc w
round-less r w h = rw (← suc-mul (r - 1) (suc w)) (mul-le-mul_right (suc w) (omega arith))

module _ (room : ℕ) {m k : ℕ} (more : m ≤ k) where
  -- the room that is left weighs no more
  room-less : (room - k) * big ≤ (room - m) * big
  room-less = mul-le-mul_right big (omega arith)

  module _ (f : Held) (fs : List Held) where
    -- some of a row's numbers are read
    pub load_row : (left : ℕ) → left ≤ f.left → load room k (leaving f left f.rounds ∷ fs) ≤ load room m (f ∷ fs)
    unfolding load weigh
    load_row left h = omega (arith, room-less)

    -- an item is closed
    pub load-closed : load room k fs < load room m (f ∷ fs)
    unfolding load weigh
    load-closed = omega (arith, room-less)

    -- a round begins
    pub load-round : 0 < f.rounds → load room k (leaving f f.width (f.rounds - 1) ∷ fs) < load room m (f ∷ fs)
    unfolding load weigh
    load-round h = omega (arith, room-less, round-less f.rounds f.width h)

module _ (room m : ℕ) (some : m < room) (fs : List Held) where
  room-entry : (room - (m + 1)) * big + big ≤ (room - m) * big
  room-entry = rw (← suc-mul (room - (m + 1)) big) (mul-le-mul_right big (omega arith))

  -- an entry is made, and its item held or not
  pub load-entry : load room (m + 1) fs < suc (load room m fs)
  unfolding load
  load-entry = omega (arith, room-entry)

  pub load-held : (f : Held) → f.left ≤ 0 → f.rounds < 2 ^ 64 → f.width < 2 ^ 63 → load room (m + 1) (f ∷ fs) < suc (load room m fs)
  unfolding load weigh
  load-held f e r w = omega (arith, room-entry, rounds-small f.rounds f.width r w)

-- a child is taken off its row
pub load-child : (room m : ℕ) (f : Held) (fs : List Held) → 0 < f.left → suc (load room m (leaving f (f.left - 1) f.rounds ∷ fs)) ≤ load room m (f ∷ fs)
unfolding load weigh
load-child room m f fs h = omega arith
