-- Reading a message of a shape: the entries that are made, and where it ends or why it is refused.
-- Letters: s bytes, p a place, k a kind and n how many children it has, a and b an entry's words, e an entry,
-- x a spot, r a run, f and g steps from a spot to a run, h a head, t a shape.
-- Assumes nothing.
use Rattle.std.specs.Prelude.{Bool, true, false, List, [], ◌∷◌, ◌++◌, ℕ, zero, suc, ◌+◌, length, take, drop, ltb, leb, eqb}
use Rattle.wire.specs.declared.Refusal.{Refusal}
use Rattle.wire.specs.declared.Refusal.TheVariants.{End, BadBool, BadChar, BadUtf8, BadOption, Variant, Room, NotShortest}
use Rattle.wire.specs.declared.Own.{Own}
use Rattle.wire.specs.Item.{Item}
use Rattle.wire.specs.Item.{Took, Refused}
use Rattle.wire.specs.Tests.{pick, both}
use Rattle.wire.specs.Shape.{bits, size, w32, w64, signed, Plain, bool, i8, u8, f32, f64, char, unit, int, fixed, Content, text, raw, Kind, plain, pooled, option, sequence, map, struct, enum, Shape}
use Rattle.wire.specs.Walk.{Walk, walk}
use Rattle.wire.specs.Values.{Entry}
use Rattle.wire.specs.Numbers.{varint, word, unzigzagged, on_first, took, little, in_order, word_of}
use Rattle.wire.specs.Text.{utf8, first_char, char_bytes}

-- ---- an item's own bytes

-- one byte that is 0 or 1
unfoldable pub flag : Refusal → List ℕ → Item
flag why [] = Refused End
flag why (byte ∷ s) = pick (leb byte 1) (took byte 0 1) (Refused why)

-- a count as it was read, and what stands behind it
unfoldable pub counted : Item → (Own → Item) → Item
counted (Took count) behind = behind count
counted (Refused why) behind = Refused why

-- the char that bytes behind their count start with: the shortest form if the count is in its own and there are no more than the char's
abbrev pub char_in : Own → List ℕ → Own
char_in count s =
    record { first = first_char s; second = 0; used = count.used + count.first; shortest = both count.shortest (eqb count.first (length (char_bytes (first_char s)))) }

-- as many bytes as their count says: at most four, then there, then UTF-8 with a char
unfoldable pub char_of : Own → List ℕ → Item
char_of count s =
    pick (ltb 4 count.first) (Refused BadChar)
    (pick (ltb (length s) count.first) (Refused End)
    (pick (both (ltb 0 count.first) (utf8 (take count.first s))) (Took (char_in count (take count.first s))) (Refused BadChar)))

unfoldable pub is_content : Content → List ℕ → Bool
is_content text s = utf8 s
is_content raw s = true

-- where the bytes behind a count at the place p stand: the shortest form if the count is
abbrev pub content_in : (p : ℕ) → Own → Own
content_in p count = record { first = p + count.used; second = count.first; used = count.used + count.first; shortest = count.shortest }

-- as many bytes as their count says, which stands at the place p
unfoldable pub content_of : Content → ℕ → Own → List ℕ → Item
content_of content p count s =
    pick (ltb (length s) count.first) (Refused End) (pick (is_content content (take count.first s)) (Took (content_in p count)) (Refused BadUtf8))

unfoldable pub read_plain : Plain → List ℕ → Item
read_plain bool s = flag BadBool s
read_plain i8 s = word_of 1 (λ own. word signed 8 (little own)) s
read_plain u8 s = word_of 1 little s
read_plain f32 s = word_of 4 little s
read_plain f64 s = word_of 8 little s
read_plain char s = counted (varint w64 s) (λ count. char_of count (drop count.used s))
read_plain unit s = took 0 0 0
read_plain (int sign width) s = on_first (unzigzagged sign) (varint width s)
read_plain (fixed order sign width) s = word_of (size width) (λ own. word sign (bits width) (little (in_order order own))) s

unfoldable pub known : ℕ → Item → Item
known n (Took own) = pick (ltb own.first n) (Took own) (Refused Variant)
known n (Refused why) = Refused why

-- the own bytes of an item of a kind with n children, which stands at the place p, where the bytes s are
abbrev pub Head : Type 0
Head = Kind → (n p : ℕ) → List ℕ → Item

unfoldable pub head : Head
head (plain leaf) n p s = read_plain leaf s
head (pooled content) n p s = counted (varint w64 s) (λ count. content_of content p count (drop count.used s))
head option n p s = flag BadOption s
head sequence n p s = varint w64 s
head map n p s = varint w64 s
head struct n p s = took 0 0 0
head enum n p s = known n (varint w32 s)

-- a form that is not the shortest is refused, after every other refusal of the item
unfoldable pub strictly : Item → Item
strictly (Took own) = pick own.shortest (Took own) (Refused NotShortest)
strictly (Refused why) = Refused why

-- an item as a strict reading takes it, or as the plain one does
unfoldable pub judged : (strict : Bool) → Item → Item
judged true i = strictly i
judged false i = i

unfoldable pub head_by : (strict : Bool) → Head
head_by strict = λ k n p s. judged strict (head k n p s)

-- ---- a message

-- where a reading stands: the bytes from there on, and the place of the first of them
pub record Spot : Type 0 where
  pub bytes : List ℕ
  pub place : ℕ

-- a message's own front
abbrev pub front : List ℕ → Spot
front message = record { bytes = message; place = 0 }

-- how a run ends: at the spot behind its last item, or refused at an item's place
pub data Outcome : Type 0 where
  reached : Spot → Outcome
  refused : Refusal → ℕ → Outcome

-- the entries that were made, and the end
pub record Run : Type 0 where
  pub made : List Entry
  pub ends : Outcome

-- entries, and then a run
unfoldable pub run_after : List Entry → Run → Run
run_after es r = record { made = es ++ r.made; ends = r.ends }

unfoldable pub read_nothing : Spot → Run
read_nothing x = record { made = []; ends = reached x }

-- a refusal is handed up unchanged
unfoldable pub read_on : List Entry → Outcome → (Spot → Run) → Run
read_on es (reached x) g = run_after es (g x)
read_on es (refused why p) g = record { made = es; ends = refused why p }

unfoldable pub read_then : (Spot → Run) → (Spot → Run) → Spot → Run
read_then f g x = read_on (f x).made (f x).ends g

unfoldable pub past : ℕ → Spot → Spot
past used x = record { bytes = drop used x.bytes; place = x.place + used }

-- the entry of an item at a spot
abbrev pub entry_of : Own → Spot → Entry
entry_of own x = record { first = own.first; second = own.second; place = x.place }

-- an item's entry, and then its children
unfoldable pub enter : Item → (ℕ → Spot → Run) → Spot → Run
enter (Refused why) next x = record { made = []; ends = refused why x.place }
enter (Took own) next x = run_after (entry_of own x ∷ []) (next own.first (past own.used x))

unfoldable pub read_item : Head → Kind → ℕ → (ℕ → Spot → Run) → Spot → Run
read_item h k n next x = enter (h k n x.place x.bytes) next x

abbrev pub reading : Head → Walk
reading h = record { From = Spot; To = Run; nothing = read_nothing; then = read_then; item = read_item h }

-- the rules of the wire, for any number of entries
unfoldable pub read : Shape → Spot → Run
read t x = walk (reading head) t x

-- the same, for items that are all in their shortest forms
unfoldable pub read_strict : Shape → Spot → Run
read_strict t x = walk (reading (head_by true)) t x

-- ---- a store

-- room for so many entries: each item, one that is refused too, wants room before its bytes are looked at
unfoldable pub within : ℕ → List Entry → Outcome → Run
within room [] (reached x) = record { made = []; ends = reached x }
within zero [] (refused why p) = record { made = []; ends = refused Room p }
within (suc room) [] (refused why p) = record { made = []; ends = refused why p }
within zero (e ∷ es) end = record { made = []; ends = refused Room e.place }
within (suc room) (e ∷ es) end = run_after (e ∷ []) (within room es end)

unfoldable pub fit : ℕ → Run → Run
fit room r = within room r.made r.ends
