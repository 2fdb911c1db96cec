-- Where keys' last rows lead, as marks of a window of places.
-- Assumes nothing.
use Rattle.std.specs.Prelude.{◌≡◌, Bool, true, List, ◌⊎◌, ℕ, ◌+◌, ◌-◌, ◌/◌, ◌≤◌, ◌<◌, length}
use Rattle.std.proofs.Math.Option.{some}
use Rattle.desk.specs.declared.Key.{Key}
use Rattle.desk.specs.declared.Row.{Row}
use Rattle.desk.specs.Rows.{last_row}
use Rattle.bits.specs.Marks.{marked}

-- some key's last row leads there
pub record LastAt (rows : List Row) (o : ℕ) : Type 0 where
  pub key : Key
  pub is : last_row key rows ≡ some o

-- the marks of the places from `base` on, as far as there are bits, are where keys' last rows lead, and no others
pub record Lasts (rows : List Row) (base : ℕ) (area : List ℕ) : Type 0 where
  pub only : (p : ℕ) → marked area p ≡ true → LastAt rows (base + p)
  pub all : (k : Key) (o : ℕ) → last_row k rows ≡ some o → base ≤ o → (o - base) / 8 < length area → marked area (o - base) ≡ true

-- a window that begins at r and holds a place
pub record InWindow (rows : List Row) (at : ℕ) (area : List ℕ) (r : ℕ) : Type 0 where
  pub lasts : Lasts rows r area
  pub from : r ≤ at
  pub inside : (at - r) / 8 < length area

-- the marks as they were, and one for an offset, if a test holds and there is a bit for it
pub record MarksIf (ends : Bool) (base offset : ℕ) (before after : List ℕ) : Type 0 where
  pub only : (p : ℕ) → marked after p ≡ true → (marked before p ≡ true) ⊎ ((ends ≡ true) × (base + p ≡ offset))
  pub keeps : (p : ℕ) → marked before p ≡ true → marked after p ≡ true
  pub it : ends ≡ true → base ≤ offset → (offset - base) / 8 < length before → marked after (offset - base) ≡ true
  pub long : length after ≡ length before
