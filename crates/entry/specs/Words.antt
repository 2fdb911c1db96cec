-- Where an entry's words stand in a value list or a store, by the entry's number.
-- Assumes nothing.
use Rattle.std.specs.Prelude.{List, ℕ, ◌+◌, ◌*◌, get_or, ltb}
use Rattle.std.proofs.lemmas.List.Edits.{sets}
use Rattle.wire.specs.Tests.{pick}
use Rattle.wire.specs.Values.{Entry}
use Rattle.wire.specs.Answers.{words_per, words_of, room_of}

-- the words of the entry i: the first, the second, and the place
unfoldable pub first_at : List ℕ → ℕ → ℕ
first_at ws i = get_or ws (words_per * i) 0

unfoldable pub second_at : List ℕ → ℕ → ℕ
second_at ws i = get_or ws (words_per * i + 1) 0

unfoldable pub place_at : List ℕ → ℕ → ℕ
place_at ws i = get_or ws (words_per * i + 2) 0

abbrev pub entry_at : List ℕ → ℕ → Entry
entry_at ws i = record { first = first_at ws i; second = second_at ws i; place = place_at ws i }

-- a store with an entry's words at the number m, where it has words for it
unfoldable pub put_at : List ℕ → (m : ℕ) → (ws : List ℕ) → List ℕ
put_at s m ws = pick (ltb m (room_of s)) (sets s (words_per * m) ws) s

-- a store with the entry of an item with the words a and b, which stands at the place p, at the number m
unfoldable pub with_entry : (a b p : ℕ) → (m : ℕ) → List ℕ → List ℕ
with_entry a b p m s = put_at s m (words_of (record { first = a; second = b; place = p }))
