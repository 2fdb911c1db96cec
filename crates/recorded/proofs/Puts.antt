-- A part goes into memory one by one: what is left of it, put where the loop stands, gives the whole.
-- Assumes nothing.
use mathlib.Core.Path.{◌≡◌, refl, sym, ◌∙◌}
use mathlib.Core.List.{List, [], ◌∷◌}
use Prim.Native.Nat.{ℕ, suc, ◌+◌, ◌/◌, ◌≤◌, ◌<◌}
use native.Mathlib.Numerals.{add-one}
use native.Mathlib.Omega.{arith}
use lib.ListN.{length, take, drop, get_or, set, drop_of_length-le, length-drop}
use lib.Seq.{drop-cons, sets, set_out}
use Rattle.recorded.specs.Fields.{number_of, words_from, words_of}

-- nothing is put beyond the end
sets-out : (l : List ℕ) (at : ℕ) (part : List ℕ) → length l ≤ at → sets l at part ≡ l
sets-out l at [] h = refl
sets-out l at (b ∷ s) h = rw (set_out l at b h) (sets-out l (suc at) s (omega arith))

pub record Puts (whole memory part : List ℕ) (at i : ℕ) : Type 0 where
  pub within : i ≤ length part
  pub same : sets memory at (drop i part) ≡ whole

module _ {whole memory part : List ℕ} {at i : ℕ} (h : Puts whole memory part at i) where
  pub puts-more : i < length part → Puts whole (set memory at (get_or part i 0)) part (at + 1) (i + 1)
  puts-more lo = record { within = omega arith; same = rw (add-one at, add-one i) (rw (drop-cons part i 0) at h.same) }

  pub puts-full : length memory ≤ at → memory ≡ whole
  puts-full hi = sym (sets-out memory at (drop i part) hi) ∙ h.same

  pub puts-all : length part ≤ i → memory ≡ whole
  puts-all hi = rw (drop_of_length-le part hi) at h.same

-- the same with words, of which those that are left stand in a rest of the bytes
pub record Lays (whole store rest : List ℕ) (i : ℕ) : Type 0 where
  pub same : sets store i (words_of rest) ≡ whole

module _ {whole store rest : List ℕ} {i : ℕ} (h : Lays whole store rest i) where
  pub lays_more : 8 ≤ length rest → {v : ℕ} → v ≡ number_of (take 8 rest) → Lays whole (set store i v) (drop 8 rest) (i + 1)
  unfolding words_of words_from
  lays_more long e =
      let k : length rest / 8 ≡ suc (length (drop 8 rest) / 8) = simp length-drop (omega arith) in
      record { same = rw (add-one, e) (rw k at h.same) }

  pub lays-full : length store ≤ i → store ≡ whole
  lays-full hi = sym (sets-out store i (words_of rest) hi) ∙ h.same

  pub lays_all : length rest < 8 → store ≡ whole
  unfolding words_of words_from
  lays_all short = let k : length rest / 8 ≡ 0 = omega arith in rw k at h.same
