-- The words of entries: they are the entries again, as many as the words have room for, and stand in front of a store.
-- Assumes nothing.
use mathlib.Core.Path.{◌≡◌, refl, ◌∙◌}
use mathlib.Core.List.{List, [], ◌∷◌}
use Prim.Native.Nat.{ℕ, ◌*◌, ◌%◌}
use native.Mathlib.Omega.{arith}
use lib.ListN.{length, take, drop}
use lib.Seq.{take_at}
use Rattle.wire.specs.Values.{Entry}
use Rattle.wire.specs.Answers.{words_per, words, words_of, entries_of, store_with}

-- a list's words are its entries again
pub words-entries : (es : List Entry) → entries_of (words es) ≡ es
unfolding entries_of words words_of
words-entries [] = refl
words-entries (e ∷ es) = rw (words-entries es)

pub length-words : (es : List Entry) → length (words es) ≡ words_per * length es
unfolding words words_of
length-words [] = refl
length-words (e ∷ es) = let ih = length-words es in omega arith

pub length-entries : (ws : List ℕ) → length ws % words_per ≡ 0 → words_per * length (entries_of ws) ≡ length ws
unfolding entries_of
length-entries [] h = refl
length-entries (a ∷ []) h = absurd (omega arith)
length-entries (a ∷ b ∷ []) h = absurd (omega arith)
length-entries (a ∷ b ∷ p ∷ s) h = let ih = length-entries s (omega arith) in omega arith

-- the words in front of a store are those of the entries laid there
pub front-words : (es : List Entry) (n : ℕ) (store : List ℕ) → words_per * length es ≡ n → take n (store_with es store) ≡ words es
unfolding store_with
front-words es n store e = take_at (words es) (drop (length (words es)) store) n (length-words es ∙ e)
