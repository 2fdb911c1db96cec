-- How long a frame is, counted group by group, and that its bytes are bytes.
-- Assumes nothing.
use mathlib.Core.Path.{◌≡◌, refl}
use mathlib.Core.List.{List, [], ◌∷◌, ◌++◌}
use Prim.Native.Nat.{ℕ, zero, suc, ◌+◌, ◌*◌, ◌≤◌, ◌<◌}
use native.Mathlib.Omega.{arith}
use borrow.Author.Tests.{le-leb, lt-leb}
use lib.ListN.{length, length-append}
use Rattle.wire.specs.Tests.{pick}
use Rattle.wire.specs.Frames.{room}
use Rattle.wire.specs.Sending.{unfilled, groups_of, groups, group, coded, encode, frame, sends}
use Rattle.framing.specs.Sending.{zeros, EachSized, Fits, AreBytes, OfBytes, SendsExactly}
use Rattle.framing.proofs.Held.{Holds, holds-none, long-more, holds_more}

-- ---- its length

pub length-group : (s t : List ℕ) → length (group s ++ t) ≡ suc (length s) + length t
unfolding group
length-group s t = simp length-append (omega arith)

abbrev size : (held : List ℕ) (left : ℕ) (m : List ℕ) → ℕ
size held left m = length (coded (groups_of held left m))

exact : (held : List ℕ) (left : ℕ) (m : List ℕ) → size held left m + zeros m ≡ length held + length m + length (groups_of held left m)
unfolding groups_of coded zeros
exact held left [] = omega (arith, length-group held [])
exact held left (zero ∷ m) = omega (arith, length-group held (coded (groups_of [] unfilled m)), exact [] unfilled m)
exact held (suc left) (suc b ∷ m) = omega (arith, length-append held (suc b ∷ []), exact (held ++ (suc b ∷ [])) left m)
exact held zero (suc b ∷ []) = omega (arith, length-append held (suc b ∷ []), length-group (held ++ (suc b ∷ [])) [])
exact held zero (suc b ∷ c ∷ m) =
    omega (arith, length-append held (suc b ∷ []), length-group (held ++ (suc b ∷ [])) (coded (groups_of [] unfilled (c ∷ m))), exact [] unfilled (c ∷ m))

least : (held : List ℕ) (left : ℕ) (m : List ℕ) → length held + length m + 1 ≤ size held left m
unfolding groups_of coded
least held left [] = omega (arith, length-group held [])
least held left (zero ∷ m) = omega (arith, length-group held (coded (groups_of [] unfilled m)), least [] unfilled m)
least held (suc left) (suc b ∷ m) = omega (arith, length-append held (suc b ∷ []), least (held ++ (suc b ∷ [])) left m)
least held zero (suc b ∷ []) = omega (arith, length-append held (suc b ∷ []), length-group (held ++ (suc b ∷ [])) [])
least held zero (suc b ∷ c ∷ m) =
    omega (arith, length-append held (suc b ∷ []), length-group (held ++ (suc b ∷ [])) (coded (groups_of [] unfilled (c ∷ m))), least [] unfilled (c ∷ m))

most : (held : List ℕ) (left : ℕ) (m : List ℕ) → Holds held left → 254 * size held left m ≤ 255 * (length held + length m) + 254
unfolding groups_of coded
most held left [] h = omega (arith, length-group held [])
most held left (zero ∷ m) h = omega (arith, length-group held (coded (groups_of [] unfilled m)), most [] unfilled m holds-none)
most held (suc left) (suc b ∷ m) h =
    omega (arith, length-append held (suc b ∷ []), most (held ++ (suc b ∷ [])) left m (holds_more b h))
most held zero (suc b ∷ []) h = omega (arith, length-append held (suc b ∷ []), length-group (held ++ (suc b ∷ [])) [])
most held zero (suc b ∷ c ∷ m) h =
    omega (arith, h.count, length-append held (suc b ∷ []), length-group (held ++ (suc b ∷ [])) (coded (groups_of [] unfilled (c ∷ m))), most [] unfilled (c ∷ m) holds-none)

unfilled-is : unfilled ≡ 253
unfolding unfilled
unfilled-is = refl

-- up to a zero within 254 bytes every group takes as many bytes as the message has there, whatever zeros stand in front of that one
through : (held : List ℕ) (left : ℕ) (s m : List ℕ) → left ≤ 253 → length s ≤ left → size held left (s ++ 0 ∷ m) ≡ length held + length s + 1 + size [] unfilled m
unfolding groups_of coded
through held left [] m most few = omega (arith, length-group held (coded (groups_of [] unfilled m)))
through held left (zero ∷ s) m most few =
    omega (arith, length-group held (coded (groups_of [] unfilled (s ++ 0 ∷ m))), through [] unfilled s m (omega (arith, unfilled-is)) (omega (arith, unfilled-is)))
through held zero (suc b ∷ s) m most few = absurd (omega arith)
through held (suc left) (suc b ∷ s) m most few =
    omega (arith, length-append held (suc b ∷ []), through (held ++ (suc b ∷ [])) left s m (omega arith) (omega arith))

-- and so up to the end
to_end : (held : List ℕ) (left : ℕ) (s : List ℕ) → left ≤ 253 → length s ≤ left + 1 → size held left s ≡ length held + length s + 1
unfolding groups_of coded
to_end held left [] most few = omega (arith, length-group held [])
to_end held left (zero ∷ s) most few =
    omega (arith, length-group held (coded (groups_of [] unfilled s)), to_end [] unfilled s (omega (arith, unfilled-is)) (omega (arith, unfilled-is)))
to_end held (suc left) (suc b ∷ s) most few =
    omega (arith, length-append held (suc b ∷ []), to_end (held ++ (suc b ∷ [])) left s (omega arith) (omega arith))
to_end held zero (suc b ∷ []) most few = omega (arith, length-append held (suc b ∷ []), length-group (held ++ (suc b ∷ [])) [])
to_end held zero (suc b ∷ c ∷ s) most few = absurd (omega arith)

pub size-through : (s m : List ℕ) → length s < 254 → length (encode (s ++ 0 ∷ m)) ≡ length s + 1 + length (encode m)
unfolding encode groups
size-through s m few = omega (arith, through [] unfilled s m (omega (arith, unfilled-is)) (omega (arith, unfilled-is)))

pub size-to-end : (s : List ℕ) → length s ≤ 254 → length (encode s) ≡ length s + 1
unfolding encode groups
size-to-end s few = omega (arith, to_end [] unfilled s (omega (arith, unfilled-is)) (omega (arith, unfilled-is)))

pub sized : EachSized
unfolding frame encode groups
sized m =
    let closed = length-append (coded (groups_of [] unfilled m)) (0 ∷ []) in
    record {
      exact = omega (arith, closed, exact [] unfilled m);
      least = omega (arith, closed, least [] unfilled m);
      most = omega (arith, closed, most [] unfilled m holds-none);
    }

pub fits : Fits
unfolding room
fits m short = omega (arith, (sized m).most)

-- ---- bytes

bytes-cons : (b : ℕ) (s : List ℕ) → b < 256 → AreBytes s → AreBytes (b ∷ s)
bytes-cons b s l h zero = l
bytes-cons b s l h (suc i) = h i

bytes-both : (s t : List ℕ) → AreBytes s → AreBytes t → AreBytes (s ++ t)
bytes-both [] t h k i = k i
bytes-both (b ∷ s) t h k zero = h 0
bytes-both (b ∷ s) t h k (suc i) = bytes-both s t (λ j. h (suc j)) k i

bytes-none : AreBytes []
bytes-none zero = omega arith
bytes-none (suc i) = omega arith

-- a group in front of others
bytes-group : (s t : List ℕ) → length s ≤ 254 → AreBytes s → AreBytes t → AreBytes (group s ++ t)
unfolding group
bytes-group s t few h k = bytes-both (suc (length s) ∷ s) t (bytes-cons (suc (length s)) s (omega arith) h) k

bytes-of : (held : List ℕ) (left : ℕ) (m : List ℕ) → Holds held left → AreBytes held → AreBytes m → AreBytes (coded (groups_of held left m))
unfolding groups_of coded
bytes-of held left [] h k l = bytes-group held [] (omega (arith, h.count)) k bytes-none
bytes-of held left (zero ∷ m) h k l =
    bytes-group held (coded (groups_of [] unfilled m)) (omega (arith, h.count)) k (bytes-of [] unfilled m holds-none bytes-none (λ i. l (suc i)))
bytes-of held (suc left) (suc b ∷ m) h k l =
    bytes-of (held ++ (suc b ∷ [])) left m (holds_more b h) (bytes-both held (suc b ∷ []) k (bytes-cons (suc b) [] (l 0) bytes-none)) (λ i. l (suc i))
bytes-of held zero (suc b ∷ []) h k l =
    bytes-group (held ++ (suc b ∷ [])) [] (omega (arith, long-more b h)) (bytes-both held (suc b ∷ []) k (bytes-cons (suc b) [] (l 0) bytes-none)) bytes-none
bytes-of held zero (suc b ∷ c ∷ m) h k l =
    bytes-group (held ++ (suc b ∷ [])) (coded (groups_of [] unfilled (c ∷ m))) (omega (arith, long-more b h)) (bytes-both held (suc b ∷ []) k (bytes-cons (suc b) [] (l 0) bytes-none)) (bytes-of [] unfilled (c ∷ m) holds-none bytes-none (λ i. l (suc i)))

pub of-bytes : OfBytes
unfolding frame encode groups
of-bytes m h = bytes-both (coded (groups_of [] unfilled m)) (0 ∷ []) (bytes-of [] unfilled m holds-none bytes-none h) (bytes-cons 0 [] (omega arith) bytes-none)

-- ---- the answer

pub sends-exactly : SendsExactly
unfolding sends pick
sends-exactly m limit = record {
  fits = λ le. rw (le-leb (length (frame m)) limit le);
  over = λ lt. rw (lt-leb (length (frame m)) limit lt);
}
