-- What stands behind a count is read back, whatever follows it: a text, bytes or a char.
-- Assumes nothing.
use mathlib.Core.Path.{◌≡◌, refl, ◌∙◌}
use mathlib.Core.Bool.{true}
use mathlib.Core.List.{List, ◌++◌, append_assoc}
use Prim.Native.Nat.{ℕ, ◌+◌, ◌≤◌, ◌<◌, ◌^◌}
use native.Mathlib.Omega.{arith}
use lib.ListN.{length, drop, length-append, length-take}
use lib.Seq.{drop-append_seam, take-append_seam}
use borrow.Author.Tests.{lt-ltb, le-ltb, eq-eqb}
use Rattle.wire.specs.declared.Own.{Own}
use Rattle.wire.specs.Item.{Item}
use Rattle.wire.specs.Tests.{pick, both}
use Rattle.wire.specs.Shape.{w64, bits, Content}
use Rattle.wire.specs.Values.{part}
use Rattle.wire.specs.Numbers.{varint, shortest, took}
use Rattle.wire.specs.Text.{char_bytes}
use Rattle.wire.specs.Reading.{counted, char_of, is_content, content_of}
use Rattle.wire.specs.Writing.{with_count}
use Rattle.laws.proofs.Parts.{behind}
use Rattle.laws.proofs.Varints.{varint-back}
use Rattle.laws.proofs.Utf8.{IsText}

pub length_part : (pool : List ℕ) (a b : ℕ) → length (part pool a b) ≤ b
unfolding part
length_part pool a b = simp length-take (omega arith)

pub length-with_count : (t : List ℕ) → length (with_count t) ≡ length (shortest (length t)) + length t
unfolding with_count
length-with_count t = length-append (shortest (length t)) t

-- the count of bytes, in its shortest form
abbrev pub count_of : List ℕ → Own
count_of t = record { first = length t; second = 0; used = length (shortest (length t)); shortest = true }

-- a count is read back, and the bytes behind it are given on
pub count-back : (f : Own → List ℕ → Item) (t rest : List ℕ) → length t < 2 ^ 64
    → counted (varint w64 (with_count t ++ rest)) (λ c. f c (drop c.used (with_count t ++ rest))) ≡ f (count_of t) (t ++ rest)
unfolding counted with_count bits
count-back f t rest h =
    rw (append_assoc (shortest (length t)) t rest, varint-back w64 (length t) (t ++ rest) h, drop-append_seam (shortest (length t)) (t ++ rest))

-- the part of a message that stands behind its count
pub part-back : (message t rest : List ℕ) (p : ℕ) → drop p message ≡ with_count t ++ rest → part message (p + length (shortest (length t))) (length t) ≡ t
unfolding part with_count
part-back message t rest p at =
    rw (behind message (shortest (length t)) (t ++ rest) p (at ∙ append_assoc (shortest (length t)) t rest)) (take-append_seam t rest)

pub content-back : (k : Content) (p : ℕ) (t rest : List ℕ) → is_content k t ≡ true
    → content_of k p (count_of t) (t ++ rest) ≡ took (p + length (shortest (length t))) (length t) (length (with_count t))
unfolding content_of pick
content-back k p t rest h =
    rw (le-ltb (length (t ++ rest)) (length t) (simp length-append (omega arith)), take-append_seam t rest, h, length-with_count t)

-- a char's own bytes
pub char-back : (c : ℕ) (rest : List ℕ) → IsText c (char_bytes c) → char_of (count_of (char_bytes c)) (char_bytes c ++ rest) ≡ took c 0 (length (with_count (char_bytes c)))
unfolding char_of pick both
char-back c rest h =
    let t : List ℕ = char_bytes c in
    rw (le-ltb 4 (length t) h.few_bytes, le-ltb (length (t ++ rest)) (length t) (simp length-append (omega arith)), take-append_seam t rest, lt-ltb 0 (length t) h.some_bytes, h.valid, h.first_char_is, eq-eqb (length t) (length t) refl, length-with_count t)
