-- Writing a value list of a shape: the bytes, or the first entry that no value could have there.
-- Letters: s bytes, k a kind and n how many children it has, a and b an entry's words, e an entry and i its number,
-- x what is left of a list, f and g steps from there, t a shape.
-- Assumes nothing.
use Rattle.std.specs.Prelude.{Bool, true, false, List, [], ◌∷◌, ◌++◌, ℕ, ◌+◌, length, ltb, leb, eqb}
use Rattle.std.proofs.Math.Option.{Option, none, some}
use Rattle.wire.specs.Tests.{both}
use Rattle.wire.specs.Shape.{bits, size, signed, unsigned, Plain, bool, i8, u8, f32, f64, char, unit, int, fixed, Kind, plain, pooled, option, sequence, map, struct, enum, Shape}
use Rattle.wire.specs.Walk.{Walk, walk}
use Rattle.wire.specs.Values.{Entry, part}
use Rattle.wire.specs.Numbers.{shortest, zigzagged, is_word, little_bytes, in_order}
use Rattle.wire.specs.Text.{is_char, char_bytes}
use Rattle.wire.specs.Reading.{is_content}

-- ---- an item's own bytes

unfoldable pub when : Bool → List ℕ → Option (List ℕ)
when true s = some s
when false s = none

-- an entry that is a number has 0 for its second word
unfoldable pub single : Bool → ℕ → List ℕ → Option (List ℕ)
single ok b s = when (both ok (eqb b 0)) s

-- bytes behind their count
unfoldable pub with_count : List ℕ → List ℕ
with_count s = shortest (length s) ++ s

-- the bytes of a leaf whose entry has the words a and b, where some value has them
unfoldable pub plain_bytes : Plain → ℕ → ℕ → Option (List ℕ)
plain_bytes bool a b = single (leb a 1) b (a ∷ [])
plain_bytes i8 a b = single (is_word signed 8 a) b (little_bytes 1 a)
plain_bytes u8 a b = single (is_word unsigned 8 a) b (little_bytes 1 a)
plain_bytes f32 a b = single (is_word unsigned 32 a) b (little_bytes 4 a)
plain_bytes f64 a b = single (is_word unsigned 64 a) b (little_bytes 8 a)
plain_bytes char a b = single (is_char a) b (with_count (char_bytes a))
plain_bytes unit a b = single (eqb a 0) b []
plain_bytes (int sign width) a b = single (is_word sign (bits width) a) b (shortest (zigzagged sign a))
plain_bytes (fixed order sign width) a b = single (is_word sign (bits width) a) b (in_order order (little_bytes (size width) a))

-- the own bytes of an item with n children
unfoldable pub head_bytes : Kind → ℕ → List ℕ → ℕ → ℕ → Option (List ℕ)
head_bytes (plain leaf) n pool a b = plain_bytes leaf a b
head_bytes (pooled content) n pool a b = when (both (leb (a + b) (length pool)) (is_content content (part pool a b))) (with_count (part pool a b))
head_bytes option n pool a b = single (leb a 1) b (a ∷ [])
head_bytes sequence n pool a b = single (is_word unsigned 64 a) b (shortest a)
head_bytes map n pool a b = single (is_word unsigned 64 a) b (shortest a)
head_bytes struct n pool a b = single (eqb a 0) b []
head_bytes enum n pool a b = single (both (ltb a n) (is_word unsigned 32 a)) b (shortest a)

-- ---- a value list

-- the entries that are left, and the number of the first of them
pub record Left : Type 0 where
  pub at : ℕ
  pub entries : List Entry

-- the bytes, and what is left; or the entry that does not fit
pub data Wrote : Type 0 where
  wrote : List ℕ → Left → Wrote
  misfit : ℕ → Wrote

unfoldable pub wrote_after : List ℕ → Wrote → Wrote
wrote_after s (wrote behind x) = wrote (s ++ behind) x
wrote_after s (misfit i) = misfit i

unfoldable pub write_nothing : Left → Wrote
write_nothing x = wrote [] x

unfoldable pub write_on : Wrote → (Left → Wrote) → Wrote
write_on (wrote s x) g = wrote_after s (g x)
write_on (misfit i) g = misfit i

unfoldable pub write_then : (Left → Wrote) → (Left → Wrote) → Left → Wrote
write_then f g x = write_on (f x) g

-- an entry's bytes, and then its children's
unfoldable pub spell : Option (List ℕ) → ℕ → (ℕ → Left → Wrote) → ℕ → List Entry → Wrote
spell none a next i es = misfit i
spell (some s) a next i es = wrote_after s (next a (record { at = i + 1; entries = es }))

unfoldable pub write_entry : Kind → ℕ → List ℕ → (ℕ → Left → Wrote) → ℕ → List Entry → Wrote
write_entry k n pool next i [] = misfit i
write_entry k n pool next i (e ∷ es) = spell (head_bytes k n pool e.first e.second) e.first next i es

unfoldable pub write_item : List ℕ → Kind → ℕ → (ℕ → Left → Wrote) → Left → Wrote
write_item pool k n next x = write_entry k n pool next x.at x.entries

abbrev pub writing : List ℕ → Walk
writing pool = record { From = Left; To = Wrote; nothing = write_nothing; then = write_then; item = write_item pool }

unfoldable pub write : Shape → List ℕ → Left → Wrote
write t pool x = walk (writing pool) t x
