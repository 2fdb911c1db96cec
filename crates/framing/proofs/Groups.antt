-- The paper's rule group by group: bytes without a zero go into the open group until it is full, or a zero or the message's end ends it.
-- Assumes nothing.
use mathlib.Core.Path.{◌≡◌, refl, ◌∙◌}
use mathlib.Core.List.{List, [], ◌∷◌, ◌++◌, append_assoc, append-nil}
use mathlib.Core.Option.{none}
use Prim.Native.Nat.{ℕ, zero, suc, ◌+◌, ◌-◌, ◌≤◌, ◌<◌}
use native.Mathlib.Omega.{arith}
use lib.ListN.{length, take, drop, length-drop, take-append-drop}
use lib.Seq.{length-take-le}
use Rattle.wire.specs.Frames.{to_zero}
use Rattle.wire.specs.Sending.{unfilled, groups_of, groups, group, coded, encode}
use Rattle.laws.proofs.Splits.{by-lt}
use Rattle.decoder.proofs.Search.{clean-front, clean_back, clean-head}
use Rattle.framing.specs.Sending.{GroupByGroup}

-- bytes that are not zero and leave the group unfilled
held_on : (held : List ℕ) (left : ℕ) (s t : List ℕ) → to_zero s ≡ none → (k : ℕ) → length s + k ≡ left → groups_of held left (s ++ t) ≡ groups_of (held ++ s) k t
unfolding groups_of
held_on held left [] t clean k is =
    let e : left ≡ k = omega arith in
    rw (append-nil held, e)
held_on held left (zero ∷ s) t clean k is = absurd (clean-head 0 s clean refl)
held_on held zero (suc b ∷ s) t clean k is = absurd (omega arith)
held_on held (suc left) (suc b ∷ s) t clean k is =
    held_on (held ++ (suc b ∷ [])) left s t (clean_back (suc b ∷ []) s clean) k (omega arith) ∙ rw (append_assoc held (suc b ∷ []) s)

-- the byte that fills a group, and more behind it or nothing
filled : (held : List ℕ) (s : List ℕ) (b : ℕ) (m : List ℕ) → to_zero s ≡ none → length s ≡ 1 → groups_of held 0 (s ++ b ∷ m) ≡ (held ++ s) ∷ groups_of [] unfilled (b ∷ m)
unfolding groups_of
filled held [] b m clean long = absurd (omega arith)
filled held (zero ∷ s) b m clean long = absurd (clean-head 0 s clean refl)
filled held (suc c ∷ []) b m clean long = refl
filled held (suc c ∷ d ∷ s) b m clean long = absurd (omega arith)

filled-last : (held : List ℕ) (s : List ℕ) → to_zero s ≡ none → length s ≡ 1 → groups_of held 0 s ≡ (held ++ s) ∷ []
unfolding groups_of
filled-last held [] clean long = absurd (omega arith)
filled-last held (zero ∷ s) clean long = absurd (clean-head 0 s clean refl)
filled-last held (suc c ∷ []) clean long = refl
filled-last held (suc c ∷ d ∷ s) clean long = absurd (omega arith)

-- what ends a group that is not full
ends-zero : (held : List ℕ) (left : ℕ) (m : List ℕ) → groups_of held left (0 ∷ m) ≡ held ∷ groups_of [] unfilled m
unfolding groups_of
ends-zero held left m = refl

ends_last : (held : List ℕ) (left : ℕ) → groups_of held left [] ≡ held ∷ []
unfolding groups_of
ends_last held left = refl

module _ (s : List ℕ) (clean : to_zero s ≡ none) where
  -- a full group's bytes but its last, and that one
  abbrev most-of : List ℕ
  most-of = take 253 s

  abbrev one_of : List ℕ
  one_of = drop 253 s

  clean-parts : to_zero (most-of ++ one_of) ≡ none
  clean-parts = rw (take-append-drop 253 s) clean

  up-to-one : (t : List ℕ) → length s ≡ 254 → groups_of [] 253 (s ++ t) ≡ groups_of most-of 0 (one_of ++ t)
  up-to-one t long =
      let e : length most-of ≡ 253 = length-take-le 253 s (omega arith) in
      rw (← append_assoc most-of one_of t, take-append-drop 253 s) at (held_on [] 253 most-of (one_of ++ t) (clean-front most-of one_of clean-parts) 0 (omega arith))

  one-long : length s ≡ 254 → length one_of ≡ 1
  one-long long = simp length-drop (omega arith)

  full-last : length s ≡ 254 → groups_of [] 253 s ≡ s ∷ []
  full-last long =
      let e : groups_of [] 253 (s ++ []) ≡ groups_of most-of 0 (one_of ++ []) = up-to-one [] long in
      let f : groups_of [] 253 s ≡ groups_of most-of 0 one_of = rw (append-nil s, append-nil one_of) at e in
      f ∙ filled-last most-of one_of (clean_back most-of one_of clean-parts) (one-long long) ∙ rw (take-append-drop 253 s)

  short-last : length s ≤ 253 → groups_of [] 253 s ≡ s ∷ []
  short-last few =
      let e : groups_of [] 253 (s ++ []) ≡ groups_of s (253 - length s) [] = held_on [] 253 s [] clean (253 - length s) (omega arith) in
      (rw (append-nil s) at e) ∙ ends_last s (253 - length s)

  last : length s ≤ 254 → groups_of [] 253 s ≡ s ∷ []
  last few = by-lt (length s) 254 (λ lo. short-last (omega arith)) (λ hi. full-last (omega arith))

  ended : (m : List ℕ) → length s < 254 → groups_of [] 253 (s ++ 0 ∷ m) ≡ s ∷ groups_of [] unfilled m
  ended m few = held_on [] 253 s (0 ∷ m) clean (253 - length s) (omega arith) ∙ ends-zero s (253 - length s) m

  full : (b : ℕ) (m : List ℕ) → length s ≡ 254 → groups_of [] 253 (s ++ b ∷ m) ≡ s ∷ groups_of [] unfilled (b ∷ m)
  full b m long =
      up-to-one (b ∷ m) long ∙ filled most-of one_of b m (clean_back most-of one_of clean-parts) (one-long long) ∙ rw (take-append-drop 253 s)

pub by-groups : GroupByGroup
unfolding encode groups unfilled coded
by-groups s clean = record {
  last = λ few. rw (last s clean few) (append-nil (group s));
  ended = λ m few. rw (ended s clean m few);
  full = λ b m long. rw (full s clean b m long);
}
