-- Open items: as words of a list, what they leave to be read, and that a chain of children bounds how many there are.
-- Letters: o a list's words, i an open item's number, f an open item, h a head, s a table, l its layout, x a spot.
-- Assumes nothing.
use Rattle.std.specs.Prelude.{Bool, List, [], ◌∷◌, ℕ, zero, suc, ◌+◌, ◌-◌, ◌*◌, ◌/◌, ◌%◌, ◌^◌, ◌<◌, ◌≤◌, get_or, eqb}
use Rattle.std.proofs.lemmas.List.Edits.{sets}
use Rattle.wire.specs.declared.Layout.{Layout}
use Rattle.wire.specs.Shape.{depth}
use Rattle.wire.specs.Table.{u16_at}
use Rattle.wire.specs.Reading.{Head, Spot, Run, read_nothing, read_then, reading}
use Rattle.wire.specs.Answers.{yes_number}
use Rattle.laws.specs.Tables.{node_shape}
use Rattle.table.specs.Parts.{Falls, row_step, rounds_step}
use Rattle.open.specs.declared.Held.{Held}

-- ---- as words

-- the second word: twice the width, and one where rounds are headed
unfoldable pub width_word : ℕ → Bool → ℕ
width_word width headed = 2 * width + yes_number headed

-- the open item of a number
unfoldable pub held_at : List ℕ → ℕ → Held
held_at o i =
    record { from = get_or o (4 * i) 0; width = get_or o (4 * i + 1) 0 / 2; headed = eqb (get_or o (4 * i + 1) 0 % 2) 1; left = get_or o (4 * i + 2) 0; rounds = get_or o (4 * i + 3) 0 }

-- the list with one in its place
unfoldable pub holding : List ℕ → ℕ → Held → List ℕ
holding o i f = sets o (4 * i) (f.from ∷ width_word f.width f.headed ∷ f.left ∷ f.rounds ∷ [])

-- the first so many, the last one in front
unfoldable pub helds_of : List ℕ → ℕ → List Held
helds_of o zero = []
helds_of o (suc n) = held_at o n ∷ helds_of o n

-- ---- what they leave to be read

-- an open item with so many numbers and rounds left
abbrev pub leaving : Held → (left rounds : ℕ) → Held
leaving f left rounds = record { from = f.from; width = f.width; headed = f.headed; left = left; rounds = rounds }

-- where the numbers begin that are unread in this round
abbrev pub unread : Held → ℕ
unread f = f.from + 2 * (f.width - f.left)

-- the rest of this round, the rounds that follow, and then what the items below leave
unfoldable pub pending : Head → List ℕ → Layout → List Held → Spot → Run
pending h s l [] x = read_nothing x
pending h s l (f ∷ fs) x =
    read_then (row_step (reading h) s l (unread f) f.left)
    (read_then (rounds_step (reading h) s l f.rounds f.headed f.from f.width) (pending h s l fs)) x

-- ---- how many there are

-- chains of the n nodes whose numbers stand from an offset on are at most so long
pub record Sinks (s : List ℕ) (l : Layout) (from n most : ℕ) : Type 0 where
  pub at : (c : ℕ) → c < n → depth (node_shape s l (u16_at s (from + 2 * c))) ≤ most

-- open items whose children's chains get shorter from each to the one above: an item with a chain of at most k may be opened above them
pub data Chain (s : List ℕ) (l : Layout) : (k : ℕ) → List Held → Type 0 where
  bottom : {k : ℕ} → k ≤ 257 → Chain s l k []
  over : {k most : ℕ} {f : Held} {fs : List Held} → k ≤ most → Falls s f.from f.width l.nodes → Sinks s l f.from f.width most
      → f.left ≤ f.width → Chain s l (suc most) fs → Chain s l k (f ∷ fs)

-- ---- that they are worked off

-- what is left to do of them, if nothing is opened
unfoldable pub weigh : List Held → ℕ
weigh [] = 0
weigh (f ∷ fs) = f.left + f.rounds * suc f.width + 1 + weigh fs

-- no more is left to do of one open item than this
unfoldable pub big : ℕ
big = 2 ^ 64 * 2 ^ 64

-- what is left to do with room for so many entries, of which m are made
unfoldable pub load : (room m : ℕ) → List Held → ℕ
load room m fs = (room - m) * big + weigh fs
