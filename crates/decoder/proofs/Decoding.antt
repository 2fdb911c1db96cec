-- A decoding goes group by group: what is made of the message, with what the rest of the frame makes, is always the whole message.
-- Assumes nothing.
use mathlib.Core.Path.{◌≡◌, refl, sym, ap, ◌∙◌}
use mathlib.Core.List.{List, [], ◌∷◌, ◌++◌, append_assoc, append-nil}
use mathlib.Core.Option.{Option, none, some, map}
use Prim.Native.Nat.{ℕ, zero, suc, ◌+◌, ◌-◌, ◌^◌, ◌≤◌, ◌<◌}
use native.Mathlib.Numerals.{add-one}
use native.Mathlib.Omega.{arith}
use borrow.Author.Tests.{eq-eqb, ne_eqb}
use lib.Dec.{eqb}
use mathlib.Core.Bool.{Bool, true, false}
use Rattle.wire.specs.Tests.{pick}
use lib.ListN.{length, take, drop, get_or, replicate, length-append, length-replicate, length-drop, replicate-append-replicate, drop_of_length-le, take-append-drop, set}
use lib.Seq.{drop-cons, take_at, drop-append-add, drop_at, drop-drop, length-take-le}
use Rattle.wire.specs.Frames.{gap_after, groups_by, decode, padded, room, to_zero, rule, decode_by}
use Rattle.decoder.specs.Parts.{Decodable, Holds, with}
use Rattle.decoder.proofs.Chunks.{with_none, with-one}
use Rattle.decoder.proofs.Search.{clean-front, clean_back, clean-head}

-- ---- the message and the zeros behind it

pub length-padded : (made : List ℕ) → length made ≤ room → length (padded made) ≡ room
unfolding padded
length-padded made fits = simp (length-append, length-replicate) (omega arith)

pub zeros-long : {message : List ℕ} → message ≡ padded [] → length message ≡ room
zeros-long is = rw is (length-padded [] (omega arith))

-- a slice of the room's length, all zeros
pub cleared : (n : ℕ) {message : List ℕ} → message ≡ replicate n 0 → n ≡ room → message ≡ padded []
unfolding padded
cleared n is long = let e : n ≡ room - 0 = omega arith in is ∙ rw e

drop-zeros : (n k : ℕ) → drop {A = ℕ} n (replicate (n + k) 0) ≡ replicate k 0
drop-zeros n k =
    rw (← replicate-append-replicate {A = ℕ} n k 0) (drop_at (replicate n 0) (replicate k 0) n (length-replicate n 0))

-- a part put behind the message, over its zeros
pad-part : (made part : List ℕ) → length made + length part ≤ room → with (padded made) (length made) part ≡ padded (made ++ part)
unfolding padded
pad-part made part fits =
    let left = room - (length made + length part) in
    let e : room - length made ≡ length part + left = omega arith in
    rw (take_at made (replicate (room - length made) 0) (length made) refl, drop-append-add made (replicate (room - length made) 0) (length part), e, drop-zeros (length part) left, length-append made part, append_assoc made part)

pad-gap : (made : List ℕ) (gap : ℕ) → length made + gap ≤ room → padded made ≡ padded (made ++ replicate gap 0)
unfolding padded
pad-gap made gap fits =
    let e : room - length made ≡ gap + (room - (length made + gap)) = omega arith in
    simp (length-append, length-replicate, append_assoc, replicate-append-replicate) (ap (λ (n : ℕ). made ++ replicate n 0) e)

-- ---- groups

gap-narrow : (c : ℕ) → gap_after c ≤ 1
unfolding gap_after pick
gap-narrow c = by (eqb c 255)
  where
    by : (t : Bool) → pick t 0 1 ≤ 1
    by true = omega arith
    by false = omega arith

pub gap-full : (c : ℕ) → c ≡ 255 → 0 ≡ gap_after c
unfolding gap_after pick
gap-full c is = rw (eq-eqb c 255 is)

pub gap_other : (c : ℕ) → (c ≡ 255 → ⊥) → 1 ≡ gap_after c
unfolding gap_after pick
gap_other c ne = rw (ne_eqb c 255 ne)

group-short : (gap k : ℕ) (s : List ℕ) → length s < k → groups_by rule gap k s ≡ none
unfolding groups_by
group-short gap zero s short = absurd (omega arith)
group-short gap (suc k) [] short = refl
group-short gap (suc k) (zero ∷ s) short = refl
group-short gap (suc k) (suc b ∷ s) short = rw (group-short gap k s (omega arith))

pub glued : (a b : List ℕ) (x : Option (List ℕ)) → map (λ (m : List ℕ). a ++ m) (map (λ (m : List ℕ). b ++ m) x) ≡ map (λ (m : List ℕ). (a ++ b) ++ m) x
glued a b none = refl
glued a b (some m) = ap some (sym (append_assoc a b m))

glued-none : (x : Option (List ℕ)) → map (λ (m : List ℕ). [] ++ m) x ≡ x
glued-none none = refl
glued-none (some m) = refl

pub group-whole : (gap : ℕ) (s t : List ℕ) → to_zero s ≡ none → groups_by rule gap (length s) (s ++ t) ≡ map (λ (m : List ℕ). s ++ m) (groups_by rule gap 0 t)
unfolding groups_by
group-whole gap [] t clean = sym (glued-none (groups_by rule gap 0 t))
group-whole gap (zero ∷ s) t clean = absurd (clean-head 0 s clean refl)
group-whole gap (suc b ∷ s) t clean =
    rw (group-whole gap s t (clean_back (suc b ∷ []) s clean)) (glued (suc b ∷ []) s (groups_by rule gap 0 t))

group-code : (gap c : ℕ) (s : List ℕ) → (c ≡ 0 → ⊥) → groups_by rule gap 0 (c ∷ s) ≡ map (λ (m : List ℕ). replicate gap 0 ++ m) (groups_by rule (gap_after c) (c - 1) s)
unfolding groups_by
group-code gap zero s byte = absurd (byte refl)
group-code gap (suc c) s byte = let e : suc c - 1 ≡ c = omega arith in rw e

-- a frame with a zero in it is bad
groups-zero : (gap k : ℕ) (s : List ℕ) → (to_zero s ≡ none → ⊥) → groups_by rule gap k s ≡ none
unfolding groups_by to_zero
groups-zero gap k [] dirty = absurd (dirty refl)
groups-zero gap zero (zero ∷ s) dirty = refl
groups-zero gap (suc k) (zero ∷ s) dirty = refl
groups-zero gap zero (suc c ∷ s) dirty = rw (groups-zero (gap_after (suc c)) c s (λ e. dirty (rw e)))
groups-zero gap (suc k) (suc b ∷ s) dirty = rw (groups-zero gap k s (λ e. dirty (rw e)))

decode-zero : (s : List ℕ) → (to_zero s ≡ none → ⊥) → decode s ≡ none
unfolding decode_by
decode-zero s dirty = groups-zero 0 0 s dirty

-- so a good one has none
pub decode-clean : {m : List ℕ} (s : List ℕ) → decode s ≡ some m → to_zero s ≡ none
decode-clean {m} s good = by (to_zero s) refl
  where
    by : (x : Option ℕ) → to_zero s ≡ x → to_zero s ≡ none
    by none is = is
    by (some n) is =
        let bad = decode-zero s (λ e. let z : ◌≡◌ {A = ℕ} 0 1 = cc in omega arith) in
        let z : ◌≡◌ {A = ℕ} 0 1 = cc in
        absurd (omega arith)

pub front-zero : {n : ℕ} (front back : List ℕ) → to_zero front ≡ some n → decode (front ++ back) ≡ none
front-zero front back is =
    decode-zero (front ++ back) (λ e. let f = clean-front front back e in let z : ◌≡◌ {A = ℕ} 0 1 = cc in omega arith)

-- ---- the loop

-- the message of a frame of which `made` is decoded and `s` is left
unfoldable pub told : ℕ → List ℕ → List ℕ → Option (List ℕ)
told gap made s = map (λ (m : List ℕ). made ++ m) (groups_by rule gap 0 s)

module _ (gap : ℕ) (made s : List ℕ) (c : ℕ) (byte : c ≡ 0 → ⊥) where
  told-group : to_zero s ≡ none → c - 1 ≤ length s → told gap made (c ∷ s) ≡ told (gap_after c) ((made ++ replicate gap 0) ++ take (c - 1) s) (drop (c - 1) s)
  unfolding told
  told-group clean fits =
      let part = take (c - 1) s in
      let back = drop (c - 1) s in
      let then = groups_by rule (gap_after c) 0 back in
      let whole = group-whole (gap_after c) part back (clean-front part back (rw (take-append-drop (c - 1) s) clean)) in
      let whole' : groups_by rule (gap_after c) (c - 1) s ≡ map (λ (m : List ℕ). part ++ m) then =
      rw (length-take-le (c - 1) s fits, take-append-drop (c - 1) s) at whole
      in
      rw (group-code gap c s byte, whole') (glued made (replicate gap 0) (map (λ (m : List ℕ). part ++ m) then) ∙ glued (made ++ replicate gap 0) part then)

  told-short : length s < c - 1 → told gap made (c ∷ s) ≡ none
  unfolding told
  told-short short = rw (group-code gap c s byte, group-short (gap_after c) (c - 1) s short)

pub record Decoding (frame : List ℕ) (gap len i : ℕ) (message : List ℕ) : Type 0 where
  pub made : List ℕ
  pub bytes : message ≡ padded made
  pub count : len ≡ length made
  pub within : i ≤ length frame
  pub fits : len + gap + length frame ≤ room + i
  pub clean : to_zero (drop i frame) ≡ none
  pub same : told gap made (drop i frame) ≡ decode frame

pub decoding-none : {frame message : List ℕ} → Decodable frame message → Decoding frame 0 0 0 message
unfolding told decode_by
decoding-none {frame} h = record { made = []; bytes = h.zeros; count = refl; within = omega arith; fits = omega (arith, h.fits); clean = h.clean; same = glued-none (groups_by rule 0 0 frame) }

module _ {frame message : List ℕ} {gap len i : ℕ} (h : Decoding frame gap len i message) where
  pub decoding-long : length message ≡ room
  decoding-long = rw h.bytes (length-padded h.made (omega arith))

  pub decoding-end : length frame ≤ i → Holds (decode frame) message len
  unfolding told groups_by
  decoding-end hi = record {
    made = h.made;
    is = sym h.same ∙ rw (drop_of_length-le frame hi, append-nil);
    bytes = h.bytes;
    count = h.count;
  }

  module _ (lo : i < length frame) where
    abbrev code : ℕ
    code = get_or frame i 0

    turn : drop i frame ≡ code ∷ drop (i + 1) frame
    turn = rw add-one (drop-cons frame i 0 lo)

    pub code-byte : code ≡ 0 → ⊥
    code-byte = clean-head code (drop (i + 1) frame) (rw turn at h.clean)

    pub some-code : 1 ≤ code
    some-code = omega (arith, code-byte)

    pub to-fits : len + gap < 2 ^ 64
    unfolding room
    to-fits = omega arith

    pub next-inside : i + 1 ≤ length frame
    next-inside = omega arith

    pub closer : length frame - (i + 1) < length frame - i
    closer = omega arith

    same_turn : told gap h.made (code ∷ drop (i + 1) frame) ≡ decode frame
    same_turn = rw turn at h.same

    pub decoding-short : length frame - (i + 1) < code - 1 → decode frame ≡ none
    decoding-short short =
        sym same_turn ∙ told-short gap h.made (drop (i + 1) frame) code code-byte (omega (arith, length-drop (i + 1) frame))

    module _ (fits : code - 1 ≤ length frame - (i + 1)) where
      pub end-inside : i + 1 + (code - 1) ≤ length frame
      end-inside = omega arith

      pub len-fits : len + gap + (code - 1) < 2 ^ 64
      unfolding room
      len-fits = omega arith

      pub group-closer : length frame - (i + 1 + (code - 1)) < length frame - i
      group-closer = omega arith

      -- the group's bytes, as the code takes them out
      abbrev part : List ℕ
      part = take (i + 1 + (code - 1) - (i + 1)) (drop (i + 1) frame)

      part-is : part ≡ take (code - 1) (drop (i + 1) frame)
      part-is = let e : i + 1 + (code - 1) - (i + 1) ≡ code - 1 = omega arith in rw e

      pub part-long : length part ≡ code - 1
      part-long = rw part-is (length-take-le (code - 1) (drop (i + 1) frame) (omega (arith, length-drop (i + 1) frame)))

      pub decoding-more : Decoding frame (gap_after code) (len + gap + (code - 1)) (i + 1 + (code - 1)) (with message (len + gap) part)
      decoding-more =
          let s = drop (i + 1) frame in
          let so_far = h.made ++ replicate gap 0 in
          let long : length so_far ≡ len + gap = simp (length-append, length-replicate) (omega arith) in
          let clean : to_zero s ≡ none = clean_back (code ∷ []) s (rw turn at h.clean) in
          record {
            made = so_far ++ part;
            bytes = rw (h.bytes, pad-gap h.made gap (omega arith), ← long) (pad-part so_far part (omega (arith, part-long)));
            count = omega (arith, length-append so_far part, part-long);
            within = omega arith;
            fits = omega (arith, gap-narrow code);
            clean = rw (← drop-drop) (clean_back (take (code - 1) s) (drop (code - 1) s) (rw (take-append-drop (code - 1) s) clean));
            same = rw (← drop-drop (code - 1) (i + 1) frame, part-is) (sym (told-group gap h.made s code code-byte clean (omega (arith, length-drop (i + 1) frame))) ∙ same_turn);
          }

    -- a group of no bytes
    pub decoding-empty : code ≡ 1 → Decoding frame (gap_after code) (len + gap) (i + 1) message
    decoding-empty is =
        let fits : code - 1 ≤ length frame - (i + 1) = omega arith in
        let same : with message (len + gap) (part fits) ≡ message = with_none message (len + gap) (part fits) (omega (arith, part-long fits)) in
        let place : i + 1 + (code - 1) ≡ i + 1 = omega arith in
        let made : len + gap + (code - 1) ≡ len + gap = omega arith in
        rw (same, place, made) at (decoding-more fits)

    -- a group of one byte
    pub decoding-one : code ≡ 2 → (i + 1 ≡ length frame → ⊥) → Decoding frame (gap_after code) (len + gap + 1) (i + 1 + 1) (set message (len + gap) (get_or frame (i + 1) 0))
    decoding-one is more =
        let fits : code - 1 ≤ length frame - (i + 1) = omega arith in
        let one : i + 1 + (code - 1) - (i + 1) ≡ 1 = omega arith in
        let byte : part fits ≡ get_or frame (i + 1) 0 ∷ [] = rw (one, drop-cons frame (i + 1) 0 (omega arith)) in
        let same : with message (len + gap) (part fits) ≡ set message (len + gap) (get_or frame (i + 1) 0) = rw byte (with-one message (len + gap) (get_or frame (i + 1) 0) (omega (arith, decoding-long))) in
        let place : i + 1 + (code - 1) ≡ i + 1 + 1 = omega arith in
        let made : len + gap + (code - 1) ≡ len + gap + 1 = omega arith in
        rw (same, place, made) at (decoding-more fits)

    pub decoding-cut : code ≡ 2 → i + 1 ≡ length frame → decode frame ≡ none
    decoding-cut is end = decoding-short (omega arith)

    pub one-fits : (i + 1 ≡ length frame → ⊥) → len + gap + 1 < 2 ^ 64
    unfolding room
    one-fits more = omega arith

    pub one_inside : (i + 1 ≡ length frame → ⊥) → len + gap < length message
    one_inside more = omega (arith, decoding-long)

    pub one-closer : (i + 1 ≡ length frame → ⊥) → length frame - (i + 1 + 1) < length frame - i
    one-closer more = omega arith
