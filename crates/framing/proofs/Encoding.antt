-- A frame's groups, decoded one after the other, give the message back; so it has no zero, and no other message has it.
-- Assumes nothing.
use mathlib.Core.Path.{◌≡◌, sym, ap, ◌∙◌}
use mathlib.Core.List.{List, [], ◌∷◌, ◌++◌, append_assoc, append-nil, append_cancel_right}
use mathlib.Core.Option.{none, some, map}
use Prim.Native.Nat.{ℕ, zero, suc, ◌+◌, ◌≤◌}
use native.Mathlib.Omega.{arith}
use lib.ListN.{length, replicate}
use Rattle.wire.specs.Frames.{rule, gap_after, to_zero, groups_by, decode_by, decode}
use Rattle.wire.specs.Sending.{unfilled, groups_of, groups, group, coded, encode, frame}
use Rattle.decoder.proofs.Decoding.{gap-full, gap_other, glued, group-whole, decode-clean}
use Rattle.framing.specs.Sending.{ComesBack, OneZero, OneMessage}
use Rattle.framing.proofs.Held.{Holds, holds-none, clean-more, long-more, holds_more}

-- ---- one group in front of others

module _ (gap : ℕ) (held : List ℕ) (clean : to_zero held ≡ none) where
  in-front : (t : List ℕ) → groups_by rule gap 0 (group held ++ t) ≡ map (λ (m : List ℕ). (replicate gap 0 ++ held) ++ m) (groups_by rule (gap_after (suc (length held))) 0 t)
  unfolding group groups_by
  in-front t =
      let after = gap_after (suc (length held)) in
      rw (group-whole after held t clean) (glued (replicate gap 0) held (groups_by rule after 0 t))

  -- the last
  last : groups_by rule gap 0 (group held ++ []) ≡ some (replicate gap 0 ++ held)
  unfolding groups_by
  last = in-front [] ∙ rw (append-nil (replicate gap 0 ++ held))

  -- one that ends with a zero of the message
  ended : (t m : List ℕ) → length held ≤ 253 → groups_by rule 1 0 t ≡ some (0 ∷ m) → groups_by rule gap 0 (group held ++ t) ≡ some (replicate gap 0 ++ (held ++ (0 ∷ m)))
  ended t m short e =
      let g : 1 ≡ gap_after (suc (length held)) = gap_other (suc (length held)) (λ is. omega arith) in
      rw (in-front t, ← g, e, append_assoc (replicate gap 0) held (0 ∷ m))

  -- one that is full
  full : (t m : List ℕ) → length held ≡ 254 → groups_by rule 0 0 t ≡ some m → groups_by rule gap 0 (group held ++ t) ≡ some (replicate gap 0 ++ (held ++ m))
  full t m long e =
      let g : 0 ≡ gap_after (suc (length held)) = gap-full (suc (length held)) (omega arith) in
      rw (in-front t, ← g, e, append_assoc (replicate gap 0) held m)

-- ---- a message

back : (gap : ℕ) (held : List ℕ) (left : ℕ) (m : List ℕ) → Holds held left → groups_by rule gap 0 (coded (groups_of held left m)) ≡ some (replicate gap 0 ++ (held ++ m))
unfolding groups_of coded
back gap held left [] h = rw (append-nil held) (last gap held h.clean)
back gap held left (zero ∷ m) h =
    ended gap held h.clean (coded (groups_of [] unfilled m)) m (omega (arith, h.count)) (back 1 [] unfilled m holds-none)
back gap held (suc left) (suc b ∷ m) h =
    rw (back gap (held ++ (suc b ∷ [])) left m (holds_more b h), append_assoc held (suc b ∷ []) m)
back gap held zero (suc b ∷ []) h = last gap (held ++ (suc b ∷ [])) (clean-more b h)
back gap held zero (suc b ∷ c ∷ m) h =
    full gap (held ++ (suc b ∷ [])) (clean-more b h) (coded (groups_of [] unfilled (c ∷ m))) (c ∷ m) (omega (arith, long-more b h)) (back 0 [] unfilled (c ∷ m) holds-none)
    ∙ rw (append_assoc held (suc b ∷ []) (c ∷ m))

pub comes_back : ComesBack
unfolding decode_by encode groups
comes_back m = back 0 [] unfilled m holds-none

pub one-zero : OneZero
one-zero m = decode-clean (encode m) (comes_back m)

pub one-message : OneMessage
unfolding frame
one-message m m' e =
    let same : encode m ≡ encode m' = append_cancel_right (encode m) (encode m') (0 ∷ []) e in
    let there : some m ≡ some m' = sym (comes_back m) ∙ ap decode same ∙ comes_back m' in
    cc
