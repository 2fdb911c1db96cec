-- Varints, zigzag and fixed-size integers: how a number stands in bytes, and how its word stands for it.
-- Letters: s bytes, b a byte, x a number, a a word and b the one behind it, z its zigzag, n how many bits, w a width, f a change of a word.
-- Assumes nothing.
use Rattle.std.specs.Prelude.{Bool, true, List, [], ◌∷◌, reverse, ℕ, zero, suc, ◌+◌, ◌-◌, ◌*◌, ◌/◌, ◌%◌, ◌^◌, length, take, ltb, leb, eqb}
use Rattle.wire.specs.declared.Refusal.TheVariants.{End, BadVarint}
use Rattle.wire.specs.Item.{Item}
use Rattle.wire.specs.Item.{Took, Refused}
use Rattle.wire.specs.Tests.{pick}
use Rattle.wire.specs.Shape.{Width, w16, w32, w64, Order, le, be, Sign, signed, unsigned}

-- ---- varints

-- the most bytes of a varint, and the largest byte that may stand last there
unfoldable pub most : Width → ℕ
most w16 = 3
most w32 = 5
most w64 = 10

unfoldable pub last : Width → ℕ
last w16 = 3
last w32 = 15
last w64 = 1

-- the shortest varint, of at most so many bytes
unfoldable pub shortest_f : ℕ → ℕ → List ℕ
shortest_f zero x = []
shortest_f (suc count) x = pick (ltb x 128) (x ∷ []) ((x % 128 + 128) ∷ shortest_f count (x / 128))

unfoldable pub shortest : ℕ → List ℕ
shortest x = shortest_f (most w64) x

-- a number read of so many bytes: they are its shortest form if that has as many
abbrev pub spelled : (x used : ℕ) → Item
spelled x used = Took (record { first = x; second = 0; used = used; shortest = eqb used (length (shortest x)) })

-- a byte whose high bit is set, in front of a varint: its low seven bits come lowest
unfoldable pub low : ℕ → Item → Item
low b (Took own) = spelled (b % 128 + 128 * own.first) (own.used + 1)
low b (Refused why) = Refused why

-- a varint of at most so many bytes, of which the last allowed is at most `top`
unfoldable pub varint_f : ℕ → ℕ → List ℕ → Item
varint_f zero top s = Refused BadVarint
varint_f (suc count) top [] = Refused End
varint_f (suc zero) top (b ∷ s) = pick (leb b top) (spelled b 1) (Refused BadVarint)
varint_f (suc (suc count)) top (b ∷ s) = pick (ltb b 128) (spelled b 1) (low b (varint_f (suc count) top s))

unfoldable pub varint : Width → List ℕ → Item
varint w s = varint_f (most w) (last w) s

-- ---- words of signed numbers

-- n bits as a word: x, or 2^64 + x below zero
unfoldable pub signed_word : ℕ → ℕ → ℕ
signed_word n x = pick (ltb x (2 ^ (n - 1))) x (2 ^ 64 - 2 ^ n + x)

-- a word stands for a signed number of n bits
unfoldable pub is_signed_word : ℕ → ℕ → Bool
is_signed_word n a = pick (ltb a (2 ^ (n - 1))) true (leb (2 ^ 64 - 2 ^ (n - 1)) a)

-- 2x for x at least 0, and -2x - 1 below
unfoldable pub zigzag : ℕ → ℕ
zigzag a = pick (ltb a (2 ^ 63)) (2 * a) (2 * (2 ^ 64 - a) - 1)

unfoldable pub unzigzag : ℕ → ℕ
unzigzag z = pick (eqb (z % 2) 0) (z / 2) (2 ^ 64 - (z + 1) / 2)

-- a word of n bits, signed or not
unfoldable pub word : Sign → ℕ → ℕ → ℕ
word signed n x = signed_word n x
word unsigned n x = x

unfoldable pub is_word : Sign → ℕ → ℕ → Bool
is_word signed n a = is_signed_word n a
is_word unsigned n a = ltb a (2 ^ n)

-- a word as a varint's number, and back
unfoldable pub zigzagged : Sign → ℕ → ℕ
zigzagged signed a = zigzag a
zigzagged unsigned a = a

unfoldable pub unzigzagged : Sign → ℕ → ℕ
unzigzagged signed z = unzigzag z
unzigzagged unsigned z = z

unfoldable pub on_first : (ℕ → ℕ) → Item → Item
on_first f (Took own) = Took (record { first = f own.first; second = own.second; used = own.used; shortest = own.shortest })
on_first f (Refused why) = Refused why

-- ---- numbers of one form

-- words read of so many bytes that are their only form, and so the shortest
abbrev pub took : (a b used : ℕ) → Item
took a b used = Took (record { first = a; second = b; used = used; shortest = true })

unfoldable pub little : List ℕ → ℕ
little [] = 0
little (b ∷ s) = b + 256 * little s

unfoldable pub little_bytes : ℕ → ℕ → List ℕ
little_bytes zero x = []
little_bytes (suc count) x = x % 256 ∷ little_bytes count (x / 256)

unfoldable pub in_order : Order → List ℕ → List ℕ
in_order le s = s
in_order be s = reverse s

-- so many bytes, and the word that is made of them
unfoldable pub word_of : ℕ → (List ℕ → ℕ) → List ℕ → Item
word_of count made s = pick (leb count (length s)) (took (made (take count s)) 0 count) (Refused End)
