-- What is known of an item that was read in a message: a number's second word is 0, and the content of a text or of bytes is the part of
-- the message that its words name.
-- Assumes nothing.
use mathlib.Core.Path.{◌≡◌, refl, sym, ap, ap₂, ◌∙◌}
use mathlib.Core.Bool.{Bool, true, false}
use mathlib.Core.List.{List, [], ◌∷◌, ◌++◌}
use Prim.Native.Nat.{ℕ, ◌+◌, ◌-◌, ◌≤◌}
use native.Mathlib.Omega.{arith}
use lib.ListN.{length, take, drop, length-drop}
use lib.Seq.{drop-drop, drop-append-le, take-append-le}
use lib.Dec.{ltb, leb, eqb}
use borrow.Author.Tests.{eq-eqb}
use Rattle.wire.specs.declared.Refusal.{Refusal}
use Rattle.wire.specs.declared.Own.{Own}
use Rattle.wire.specs.Item.{Item}
use Rattle.wire.specs.Item.{Took, Refused}
use Rattle.wire.specs.Tests.{pick, both}
use Rattle.wire.specs.Numbers.{varint, on_first, word_of}
use Rattle.wire.specs.Text.{utf8}
use Rattle.wire.specs.Shape.{Width, w32, w64, Plain, bool, i8, u8, f32, f64, char, unit, int, fixed, Content, Kind, plain, pooled, option, sequence, map, struct, enum}
use Rattle.wire.specs.Values.{Entry, part, number, content, is_pooled, value_of}
use Rattle.wire.specs.Reading.{flag, counted, char_of, is_content, content_in, content_of, read_plain, known, head, Spot, front, past, entry_of}
use Rattle.laws.specs.Bounds.{Fits, takes}
use Rattle.laws.proofs.Bounds.{head-fits}
use Rattle.laws.proofs.Splits.{of-pick, not-both}
use Rattle.laws.proofs.Varints.{took_in}
use Rattle.desk.specs.Differ.{same_bytes, same_value, same_item}
use Rattle.beside.specs.Meeting.{content_at, same_own}

-- ---- a number's second word is 0

abbrev Single : Item → Type 0
Single (Took own) = own.second ≡ 0
Single (Refused why) = Unit {0}

single-pick : (b : Bool) (i j : Item) → Single i → Single j → Single (pick b i j)
single-pick b i j h k = of-pick Single b i j (λ _. h) (λ _. k)

single-varint : (w : Width) (s : List ℕ) → Single (varint w s)
single-varint w s = go (varint w s) refl
  where
    go : (i : Item) → varint w s ≡ i → Single i
    go (Took own) e = (took_in w s e).single
    go (Refused why) e = tt

single-first : (i : Item) (f : ℕ → ℕ) → Single i → Single (on_first f i)
unfolding on_first
single-first (Took own) f h = h
single-first (Refused why) f h = tt

single-known : (i : Item) (n : ℕ) → Single i → Single (known n i)
unfolding known
single-known (Took own) n h = single-pick (ltb own.first n) _ _ h tt
single-known (Refused why) n h = tt

single-word : (n : ℕ) (f : List ℕ → ℕ) (s : List ℕ) → Single (word_of n f s)
unfolding word_of
single-word n f s = single-pick (leb n (length s)) _ _ refl tt

single-flag : (why : Refusal) (s : List ℕ) → Single (flag why s)
unfolding flag
single-flag why [] = tt
single-flag why (b ∷ s) = single-pick (leb b 1) _ _ refl tt

single-char : (i : Item) (s : List ℕ) → Single (counted i (λ c. char_of c (drop c.used s)))
unfolding counted char_of
single-char (Took c) s =
    single-pick (ltb 4 c.first) _ _ tt (single-pick (ltb (length (drop c.used s)) c.first) _ _ tt (single-pick (both (ltb 0 c.first) (utf8 (take c.first (drop c.used s)))) _ _ refl tt))
single-char (Refused why) s = tt

single-leaf : (l : Plain) (s : List ℕ) → Single (read_plain l s)
unfolding read_plain
single-leaf bool s = single-flag _ s
single-leaf i8 s = single-word 1 _ s
single-leaf u8 s = single-word 1 _ s
single-leaf f32 s = single-word 4 _ s
single-leaf f64 s = single-word 8 _ s
single-leaf char s = single-char (varint w64 s) s
single-leaf unit s = refl
single-leaf (int g w) s = single-first (varint w s) _ (single-varint w s)
single-leaf (fixed o g w) s = single-word _ _ s

single-head : (k : Kind) (n p : ℕ) (s : List ℕ) → is_pooled k ≡ false → Single (head k n p s)
unfolding head is_pooled
single-head (plain l) n p s h = single-leaf l s
single-head (pooled k) n p s h = not-both refl h
single-head option n p s h = single-flag _ s
single-head sequence n p s h = single-varint w64 s
single-head map n p s h = single-varint w64 s
single-head struct n p s h = refl
single-head enum n p s h = single-known (varint w32 s) n (single-varint w32 s)

-- ---- a content stands behind its count

data Lies (p : ℕ) : Item → Type 0 where
  lies : (c : Own) → Lies p (Took (content_in p c))
  refuses : {why : Refusal} → Lies p (Refused why)

content-lies : (k : Content) (p : ℕ) (i : Item) (s : List ℕ) → Lies p (counted i (λ c. content_of k p c (drop c.used s)))
unfolding counted content_of
content-lies k p (Took c) s =
    of-pick (Lies p) (ltb (length (drop c.used s)) c.first) _ _ (λ _. refuses)
    (λ _. of-pick (Lies p) (is_content k (take c.first (drop c.used s))) _ _ (λ _. lies c) (λ _. refuses))
content-lies k p (Refused why) s = refuses

head-lies : (k : Kind) (n p : ℕ) (s : List ℕ) → is_pooled k ≡ true → Lies p (head k n p s)
unfolding head is_pooled
head-lies (plain l) n p s h = not-both h refl
head-lies (pooled k) n p s h = content-lies k p (varint w64 s) s
head-lies option n p s h = not-both h refl
head-lies sequence n p s h = not-both h refl
head-lies map n p s h = not-both h refl
head-lies struct n p s h = not-both h refl
head-lies enum n p s h = not-both h refl

pub head-content : (k : Kind) (n p : ℕ) (s : List ℕ) {own : Own} → head k n p s ≡ Took own → is_pooled k ≡ true → own.second ≤ own.used
head-content k n p s {own} e q = go refl (rw e at (head-lies k n p s q))
  where
    go : {i : Item} → i ≡ Took own → Lies p i → own.second ≤ own.used
    go q (lies c) = let same : content_in p c ≡ own = cc in rw (← same) (omega arith)
    go q refuses = let z : ◌≡◌ {A = ℕ} 0 1 = cc in absurd (omega arith)

-- ---- in a message

-- a spot in a message
pub record Stands (m : List ℕ) (x : Spot) : Type 0 where
  pub here : drop x.place m ≡ x.bytes
  pub within : x.place ≤ length m

pub stands-front : (m : List ℕ) → Stands m (front m)
stands-front m = record { here = refl; within = omega arith }

took-fits : {s : List ℕ} {own : Own} → Fits s (Took own) → own.used ≤ length s
took-fits (takes h) = h

pub head-used : (k : Kind) (n : ℕ) (x : Spot) {own : Own} → head k n x.place x.bytes ≡ Took own → own.used ≤ length x.bytes
head-used k n x e = took-fits (rw e at (head-fits k n x.place x.bytes))

bytes_left : (m : List ℕ) (x : Spot) → Stands m x → length x.bytes ≡ length m - x.place
bytes_left m x h = ap length (sym h.here) ∙ length-drop x.place m

pub stands-past : (m : List ℕ) (x : Spot) (u : ℕ) → u ≤ length x.bytes → Stands m x → Stands m (past u x)
unfolding past
stands-past m x u l h =
    let e = bytes_left m x h in
    let w = h.within in
    record { here = sym (drop-drop u x.place m) ∙ ap (drop u) h.here; within = omega arith }

-- what is known of an item that was read at a spot of a message
pub record Fine (m : List ℕ) (k : Kind) (x : Spot) (own : Own) : Type 0 where
  pub single : is_pooled k ≡ false → own.second ≡ 0
  pub named : is_pooled k ≡ true → content_at own x.bytes ≡ part m own.first own.second
  pub inside : is_pooled k ≡ true → own.first + own.second ≤ length m

pub fine-item : (m : List ℕ) (k : Kind) (n : ℕ) (x : Spot) (own : Own) → head k n x.place x.bytes ≡ Took own → Stands m x → Fine m k x own
unfolding content_at part
fine-item m k n x own e h =
    record {
      single = λ q. rw e at (single-head k n x.place x.bytes q);
      named = λ q. there refl (rw e at (head-lies k n x.place x.bytes q));
      inside = λ q. ends refl (rw e at (head-lies k n x.place x.bytes q)) (head-used k n x e);
    }
  where
    there : {i : Item} → i ≡ Took own → Lies x.place i → content_at own x.bytes ≡ part m own.first own.second
    there q (lies c) =
        let same : content_in x.place c ≡ own = cc in
        let back : c.used + c.first - c.first ≡ c.used = omega arith in
        rw (← same, back, ← h.here, drop-drop c.used x.place m)
    there q refuses = let z : ◌≡◌ {A = ℕ} 0 1 = cc in absurd (omega arith)

    ends : {i : Item} → i ≡ Took own → Lies x.place i → own.used ≤ length x.bytes → own.first + own.second ≤ length m
    ends q (lies c) l =
        let same : content_in x.place c ≡ own = cc in
        let b = bytes_left m x h in
        let w = h.within in
        let u : c.used + c.first ≤ length x.bytes = rw (← same) at l in
        rw (← same) (omega arith)
    ends q refuses l = let z : ◌≡◌ {A = ℕ} 0 1 = cc in absurd (omega arith)

-- ---- the same own bytes are the same items

-- each with a pool that has what its words name
pub own-item : (pool pool' : List ℕ) (k : Kind) (x y : Spot) (a b : Own)
    → (is_pooled k ≡ true → content_at a x.bytes ≡ part pool a.first a.second) → (is_pooled k ≡ true → content_at b y.bytes ≡ part pool' b.first b.second)
    → (is_pooled k ≡ false → (a.second ≡ 0) × (b.second ≡ 0))
    → same_own k a x.bytes b y.bytes ≡ same_item pool pool' k (entry_of a x) (entry_of b y)
unfolding same_own same_item value_of
own-item pool pool' k x y a b here there alone = go (is_pooled k) refl
  where
    right-true : (t : Bool) → t ≡ both t true
    right-true true = unfold both in refl
    right-true false = unfold both in refl

    go : (p : Bool) → is_pooled k ≡ p
        → pick p (same_bytes (content_at a x.bytes) (content_at b y.bytes)) (eqb a.first b.first)
        ≡ same_value (pick p (content (part pool a.first a.second)) (number a.first a.second)) (pick p (content (part pool' b.first b.second)) (number b.first b.second))
    go true q = unfold pick same_value in ap₂ same_bytes (here q) (there q)
    go false q = unfold pick same_value in rw (eq-eqb a.second b.second ((alone q).0 ∙ sym (alone q).1)) (right-true (eqb a.first b.first))

part-longer : (m extra : List ℕ) (a b : ℕ) → a + b ≤ length m → part (m ++ extra) a b ≡ part m a b
unfolding part
part-longer m extra a b h =
    let l : a ≤ length m = omega arith in
    rw (drop-append-le a m extra l) (take-append-le b (drop a m) extra (rw (length-drop a m) (omega arith)))

-- a test of entries that says of what was read in two messages what their own bytes say
abbrev pub Agrees : (one other : List ℕ) → (Kind → Entry → Entry → Bool) → Type 0
Agrees one other same = (k : Kind) (x y : Spot) (a b : Own) → Fine one k x a → Fine other k y b → same_own k a x.bytes b y.bytes ≡ same k (entry_of a x) (entry_of b y)

-- with the messages as pools
pub own-agrees : (one other : List ℕ) → Agrees one other (same_item one other)
own-agrees one other k x y a b f g = own-item one other k x y a b f.named g.named (λ q. (f.single q, g.single q))

-- with a longer pool behind the first side
pub rest-agrees : (one extra other : List ℕ) → Agrees one other (same_item (one ++ extra) other)
rest-agrees one extra other k x y a b f g =
    own-item (one ++ extra) other k x y a b (λ q. f.named q ∙ sym (part-longer one extra a.first a.second (f.inside q))) g.named (λ q. (f.single q, g.single q))
