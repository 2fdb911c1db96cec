-- A plain refusal has a number below 16: of each item, of a run of items, of a store's room and of a table.
-- Assumes nothing.
use Rattle.std.specs.Prelude.{Err}
use mathlib.Core.Path.{subst}
use mathlib.Core.Bool.{false}
use mathlib.Core.List.{List, [], ◌∷◌}
use Prim.Native.Nat.{ℕ, zero, suc, ◌+◌, ◌-◌, ◌<◌}
use native.Mathlib.Omega.{arith}
use lib.Dec.{ltb, leb}
use lib.ListN.{length, take, drop}
use Rattle.wire.specs.declared.Refusal.{Refusal}
use Rattle.wire.specs.declared.Refusal.TheVariants.{NotShortest}
use Rattle.wire.specs.declared.Layout.{Layout}
use Rattle.wire.specs.Checked.{Checked}
use Rattle.wire.specs.Checked.{Good, Bad}
use Rattle.wire.specs.declared.Own.{Own}
use Rattle.wire.specs.Item.{Item}
use Rattle.wire.specs.Item.{Took, Refused}
use Rattle.wire.specs.Tests.{both}
use Rattle.wire.specs.Shape.{Width, w32, w64, Plain, bool, i8, u8, f32, f64, char, unit, int, fixed, Content, Kind, plain, pooled, option, sequence, map, struct, enum}
use Rattle.wire.specs.Table.{TableForm, size_of, table_form, ending_at, good_trailer, good_in, check_from, check_at, check_as, check, shape_of}
use Rattle.wire.specs.Numbers.{most, last, low, varint_f, varint, on_first, word_of}
use Rattle.wire.specs.Text.{utf8}
use Rattle.wire.specs.Values.{Entry}
use Rattle.wire.specs.Reading.{flag, counted, char_of, is_content, content_of, read_plain, known, head, Spot, front, Outcome, reached, refused, Run, run_after, read_nothing, read_on, read_then, enter, read_item, reading, read, within, fit}
use Rattle.wire.specs.Answers.{refusal_number, room_of, read_by, reads}
use Rattle.laws.specs.Steps.{Every}
use Rattle.laws.proofs.Splits.{of-pick, of-given}
use Rattle.laws.proofs.Walks.{every}
use Rattle.laws.proofs.ReadBy.{reads_plain}
use Rattle.promises.specs.Strict.{StrictOnly}

-- ---- an item

abbrev Below : Item → Type 0
Below (Took own) = Unit {0}
Below (Refused why) = refusal_number why < 16

below-flag : (why : Refusal) (s : List ℕ) → refusal_number why < 16 → Below (flag why s)
unfolding flag
below-flag why [] h = omega arith
below-flag why (b ∷ s) h = of-pick Below (leb b 1) _ _ (λ _. tt) (λ _. h)

below_word : (n : ℕ) (f : List ℕ → ℕ) (s : List ℕ) → Below (word_of n f s)
unfolding word_of
below_word n f s = of-pick Below (leb n (length s)) _ _ (λ _. tt) (λ _. omega arith)

below-low : (b : ℕ) (i : Item) → Below i → Below (low b i)
unfolding low
below-low b (Took own) h = tt
below-low b (Refused why) h = h

below-varint_f : (k top : ℕ) (s : List ℕ) → Below (varint_f k top s)
unfolding varint_f
below-varint_f zero top s = omega arith
below-varint_f (suc k) top [] = omega arith
below-varint_f (suc zero) top (b ∷ s) = of-pick Below (leb b top) _ _ (λ _. tt) (λ _. omega arith)
below-varint_f (suc (suc k)) top (b ∷ s) = of-pick Below (ltb b 128) _ _ (λ _. tt) (λ _. below-low b _ (below-varint_f (suc k) top s))

below-varint : (w : Width) (s : List ℕ) → Below (varint w s)
unfolding varint
below-varint w s = below-varint_f (most w) (last w) s

below-first : (f : ℕ → ℕ) (i : Item) → Below i → Below (on_first f i)
unfolding on_first
below-first f (Took own) h = tt
below-first f (Refused why) h = h

below-known : (n : ℕ) (i : Item) → Below i → Below (known n i)
unfolding known
below-known n (Took own) h = of-pick Below (ltb own.first n) _ _ (λ _. tt) (λ _. omega arith)
below-known n (Refused why) h = h

below-counted : (f : Own → Item) (i : Item) → Below i → ((count : Own) → Below (f count)) → Below (counted i f)
unfolding counted
below-counted f (Took own) h k = k own
below-counted f (Refused why) h k = h

below-char : (count : Own) (s : List ℕ) → Below (char_of count s)
unfolding char_of
below-char count s =
    of-pick Below (ltb 4 count.first) _ _ (λ _. omega arith)
    (λ _.
    of-pick Below (ltb (length s) count.first) _ _ (λ _. omega arith)
    (λ _. of-pick Below (both (ltb 0 count.first) (utf8 (take count.first s))) _ _ (λ _. tt) (λ _. omega arith)))

below-content : (c : Content) (p : ℕ) (count : Own) (s : List ℕ) → Below (content_of c p count s)
unfolding content_of
below-content c p count s =
    of-pick Below (ltb (length s) count.first) _ _ (λ _. omega arith)
    (λ _. of-pick Below (is_content c (take count.first s)) _ _ (λ _. tt) (λ _. omega arith))

below_plain : (l : Plain) (s : List ℕ) → Below (read_plain l s)
unfolding read_plain
below_plain bool s = below-flag _ s (omega arith)
below_plain i8 s = below_word _ _ s
below_plain u8 s = below_word _ _ s
below_plain f32 s = below_word _ _ s
below_plain f64 s = below_word _ _ s
below_plain char s = below-counted _ (varint w64 s) (below-varint w64 s) (λ count. below-char count (drop count.used s))
below_plain unit s = tt
below_plain (int sign width) s = below-first _ (varint width s) (below-varint width s)
below_plain (fixed order sign width) s = below_word _ _ s

below-head : (k : Kind) (n p : ℕ) (s : List ℕ) → Below (head k n p s)
unfolding head
below-head (plain l) n p s = below_plain l s
below-head (pooled c) n p s = below-counted _ (varint w64 s) (below-varint w64 s) (λ count. below-content c p count (drop count.used s))
below-head option n p s = below-flag _ s (omega arith)
below-head sequence n p s = below-varint w64 s
below-head map n p s = below-varint w64 s
below-head struct n p s = tt
below-head enum n p s = below-known n (varint w32 s) (below-varint w32 s)

-- ---- a run

abbrev Ends : Outcome → Type 0
Ends (reached x) = Unit {0}
Ends (refused why p) = refusal_number why < 16

record Plainly (f : Spot → Run) : Type 0 where
  ends : (x : Spot) → Ends (f x).ends

plainly-nothing : Plainly read_nothing
unfolding read_nothing
plainly-nothing = record { ends = λ x. tt }

plainly-then : {f g : Spot → Run} → Plainly f → Plainly g → Plainly (read_then f g)
unfolding read_then read_on run_after
plainly-then {f} {g} a b = record { ends = λ x. go (f x).made (f x).ends (a.ends x) }
  where
    go : (es : List Entry) (o : Outcome) → Ends o → Ends (read_on es o g).ends
    go es (reached y) h = b.ends y
    go es (refused why p) h = h

plainly-item : {f : ℕ → Spot → Run} (k : Kind) (n : ℕ) → ((a : ℕ) → Plainly (f a)) → Plainly (read_item head k n f)
unfolding read_item enter run_after
plainly-item {f} k n h = record { ends = λ x. go x (head k n x.place x.bytes) (below-head k n x.place x.bytes) }
  where
    go : (x : Spot) (i : Item) → Below i → Ends (enter i f x).ends
    go x (Took own) b = (h own.first).ends _
    go x (Refused why) b = b

plainly : Every (λ (i : Unit {0}). reading head) (λ f. Plainly (f tt))
plainly = record { none = plainly-nothing; both = plainly-then; made = λ f k n. plainly-item k n }

within-ends : (room : ℕ) (es : List Entry) (o : Outcome) → Ends o → Ends (within room es o).ends
unfolding within run_after
within-ends room [] (reached x) h = tt
within-ends zero [] (refused why p) h = omega arith
within-ends (suc room) [] (refused why p) h = h
within-ends zero (e ∷ es) o h = omega arith
within-ends (suc room) (e ∷ es) o h = within-ends room es o h

-- ---- a table

abbrev Tabled : Checked → Type 0
Tabled (Good l) = Unit {0}
Tabled (Err r) = refusal_number r.why < 16

tabled-from : (form : TableForm) (s : List ℕ) (l : Layout) (i left : ℕ) → Tabled (check_from form s l i left)
unfolding check_from
tabled-from form s l i zero = tt
tabled-from form s l i (suc left) = of-given Tabled (good_in form s l i) _ _ (λ _. tabled-from form s l (i + 1) left) (λ _. omega arith)

tabled-as : (form : TableForm) (s : List ℕ) → Tabled (check_as form s)
unfolding check_as check_at
tabled-as form s =
    of-given Tabled (leb (size_of form) (length s)) _ _
    (λ _. of-given Tabled (good_trailer form (ending_at form s (length s - size_of form)) (length s - size_of form)) _ _ (λ _. tabled-from form s _ 0 _) (λ _. omega arith)) (λ _. omega arith)

tabled : (s : List ℕ) → Tabled (check s)
unfolding check
tabled s = tabled-as (table_form s) s

reads-below : (table message store : List ℕ) → Ends (reads table message store).ends
unfolding reads
reads-below table message store = go (check table) (tabled table)
  where
    go : (c : Checked) → Tabled c → Ends (read_by false c table (room_of store) message).ends
    go (Good l) h = rw (reads_plain l table (room_of store) message) (unfold fit read in within-ends (room_of store) _ _ ((every plainly (shape_of table l)).ends (front message)))
    go (Err r) h = unfold read_by in h

pub strict-only : StrictOnly
strict-only table message store p e = let h : refusal_number NotShortest < 16 = subst Ends e (reads-below table message store) in omega arith
