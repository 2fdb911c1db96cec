-- An entry is put where a store has words for it, and the store stays as long as it was. A value list's words are its entries: from the i-th on there are none, or the i-th and those from the next on.
-- Assumes nothing.
use mathlib.Core.Path.{◌≡◌, refl}
use mathlib.Core.List.{List, [], ◌∷◌}
use Prim.Native.Nat.{ℕ, ◌+◌, ◌*◌, ◌<◌, ◌≤◌}
use native.Mathlib.Omega.{arith}
use lib.ListN.{length, drop, length-drop}
use lib.Dec.{ltb}
use lib.Seq.{sets, length-sets}
use borrow.Author.Tests.{lt-ltb, le-ltb}
use Rattle.wire.specs.Tests.{pick}
use Rattle.wire.specs.Values.{Entry}
use Rattle.wire.specs.Answers.{words_per, words_of, entries_of, room_of}
use Rattle.laws.proofs.Parts.{next}
use Rattle.laws.proofs.Splits.{of-pick}
use Rattle.entry.specs.Words.{first_at, second_at, place_at, entry_at, put_at}

module _ (s : List ℕ) (m : ℕ) (ws : List ℕ) where
  pub put-there : m < room_of s → put_at s m ws ≡ sets s (words_per * m) ws
  unfolding put_at pick
  put-there h = rw (lt-ltb m (room_of s) h)

  pub put-nowhere : room_of s ≤ m → put_at s m ws ≡ s
  unfolding put_at pick
  put-nowhere h = rw (le-ltb m (room_of s) h)

  -- stores do not change a store's room
  pub room-put : room_of (put_at s m ws) ≡ room_of s
  unfolding put_at room_of
  room-put = of-pick (λ t. room_of t ≡ room_of s) (ltb m (room_of s)) (sets s (words_per * m) ws) s (λ _. rw (length-sets s (words_per * m) ws)) (λ _. refl)

-- the next entry's words stand behind an entry's
pub next-words : (m : ℕ) (e : Entry) → words_per * (m + 1) ≡ words_per * m + length (words_of e)
unfolding words_of
next-words m e = omega arith

-- ---- the entries of words

too_few_lem : (s : List ℕ) → length s < words_per → entries_of s ≡ []
unfolding entries_of
too_few_lem [] h = refl
too_few_lem (a ∷ []) h = refl
too_few_lem (a ∷ b ∷ []) h = refl
too_few_lem (a ∷ b ∷ p ∷ s) h = absurd (omega arith)

pub entries-end : (ws : List ℕ) (i : ℕ) → room_of ws ≤ i → entries_of (drop (words_per * i) ws) ≡ []
unfolding room_of
entries-end ws i h = too_few_lem (drop (words_per * i) ws) (omega (arith, length-drop (words_per * i) ws))

pub entries_next : (ws : List ℕ) (i : ℕ) → i < room_of ws → entries_of (drop (words_per * i) ws) ≡ entry_at ws i ∷ entries_of (drop (words_per * (i + 1)) ws)
unfolding entries_of room_of first_at second_at place_at
entries_next ws i h =
    let third : words_per * i + 1 + 1 ≡ words_per * i + 2 = omega arith in
    let after : words_per * i + 2 + 1 ≡ words_per * (i + 1) = omega arith in
    rw (next ws (words_per * i) (omega arith), next ws (words_per * i + 1) (omega arith), third, next ws (words_per * i + 2) (omega arith), after)
