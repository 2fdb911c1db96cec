-- An output has room for a batch exactly if it has for the trailer, then the rows, then the messages.
-- Assumes nothing.
use mathlib.Core.Path.{◌≡◌, sym, ◌∙◌}
use mathlib.Core.Bool.{false}
use Prim.Native.Nat.{ℕ, ◌+◌, ◌-◌, ◌*◌, ◌≤◌, ◌<◌}
use native.Mathlib.Omega.{arith}
use lib.Dec.{leb}
use borrow.Author.Tests.{le-leb, lt-leb}
use Rattle.laws.proofs.Splits.{by_le}

pub room-none : (room count len : ℕ) → room < 12 → false ≡ leb (len + (16 * count + 12)) room
room-none room count len h = sym (lt-leb (len + (16 * count + 12)) room (omega arith))

pub room-rows : (room count len : ℕ) → room - 12 < 16 * count → false ≡ leb (len + (16 * count + 12)) room
room-rows room count len h = sym (lt-leb (len + (16 * count + 12)) room (omega arith))

pub room-all : (room count len : ℕ) → 12 ≤ room → 16 * count ≤ room - 12 → leb len (room - 12 - 16 * count) ≡ leb (len + (16 * count + 12)) room
room-all room count len a b =
    by_le len (room - 12 - 16 * count) (λ h. le-leb len (room - 12 - 16 * count) h ∙ sym (le-leb (len + (16 * count + 12)) room (omega arith)))
    (λ h. lt-leb len (room - 12 - 16 * count) h ∙ sym (lt-leb (len + (16 * count + 12)) room (omega arith)))
