-- The entries' third words, where each item stood: neither the writer nor the values look at them, an old table tells the same ones, and in bytes that were written they are the items' places.
-- Assumes nothing.
use Rattle.std.specs.Prelude.{◌≡◌, true, List, [], ◌∷◌, ◌++◌, map, ℕ, ◌+◌, ◌*◌, ◌≤◌, length, take}
use Rattle.std.proofs.Math.Option.{some}
use Rattle.wire.specs.AskAnswer.{Says}
use Rattle.wire.specs.Shape.{Shape}
use Rattle.wire.specs.Values.{Entry, Tag, values}
use Rattle.wire.specs.Reading.{Spot, reached}
use Rattle.wire.specs.Writing.{head_bytes}
use Rattle.wire.specs.Answers.{words_per, entries_of, store_with, reads, writes, asks}

-- ---- the first two words alone

-- The first and the second words of a list's entries.
unfoldable pub first_two : List Entry → List (ℕ × ℕ)
first_two es = map (λ e. (e.first, e.second)) es

-- Two lists of as many words differ in the entries' third words only.
pub record SameWords (ws ws' : List ℕ) : Type 0 where
  pub long : length ws ≡ length ws'
  pub two : first_two (entries_of ws) ≡ first_two (entries_of ws')

-- The writer doesn't look at the third word: any third words, the same answer and bytes.
abbrev pub WriterIgnoresPlaces : Type 0
WriterIgnoresPlaces = (table ws ws' pool : List ℕ) (room : ℕ) → SameWords ws ws' → writes table ws pool room ≡ writes table ws' pool room

-- Same values still means the first two words: any third words, the same values.
abbrev pub ValuesIgnorePlaces : Type 0
ValuesIgnorePlaces = (t : Shape) (ws ws' pool : List ℕ) → SameWords ws ws' → values t pool (entries_of ws) ≡ values t pool (entries_of ws')

-- ---- both tables

-- The places of entries.
unfoldable pub places : List Entry → List ℕ
places es = map (λ e. e.place) es

-- The entries that one reading made are the first of another's, place by place, and so are their words in a store, third words too.
pub record SameFront (kept es : List Entry) (store : List ℕ) : Type 0 where
  pub fewer : length kept ≤ length es
  pub stood : places kept ≡ take (length kept) (places es)
  pub stored : take (words_per * length kept) (store_with kept store) ≡ take (words_per * length kept) (store_with es store)

-- Kept items have the same places under both tables: if the new table appends to the old one,
-- then of a message that the new one reads fully, the old one stores what the new one stores in front.
abbrev pub SamePlaces : Type 0
SamePlaces = (old new area : List ℕ) → asks old new area ≡ Says true → (message store : List ℕ) (es : List Entry) (end : Spot)
    → reads new message store ≡ record { made = es; ends = reached end } → SameFront (reads old message store).made es store

-- ---- in bytes that were written

-- Items one behind the other from the place p on: where each stands, and the own bytes of all.
pub data Stand (pool : List ℕ) : (p : ℕ) → List Tag → (places bytes : List ℕ) → Type 0 where
  stop : {p : ℕ} → Stand pool p [] [] []
  stands : {p : ℕ} (children : ℕ) {t : Tag} {ts : List Tag} {ps s r : List ℕ} → head_bytes t.kind children pool t.entry.first t.entry.second ≡ some s
      → Stand pool (p + length s) ts ps r → Stand pool p (t ∷ ts) (p ∷ ps) (s ++ r)
