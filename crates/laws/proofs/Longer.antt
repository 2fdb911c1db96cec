-- Bytes behind what is read change nothing.
-- Assumes nothing.
use mathlib.Core.Path.{◌≡◌, refl}
use mathlib.Core.Bool.{Bool, true, false}
use mathlib.Core.List.{List, [], ◌∷◌, ◌++◌, append-nil}
use Prim.Native.Nat.{ℕ, zero, suc, ◌+◌, ◌≤◌, ◌<◌}
use native.Mathlib.Omega.{arith}
use lib.ListN.{length, take, drop, length-append, length-drop}
use lib.Seq.{take-append-le, drop-append-le}
use lib.Dec.{leb, ltb}
use borrow.Author.Tests.{leb-true, leb-false, le-leb, ltb-true, ltb-false, le-ltb}
use Rattle.wire.specs.declared.Refusal.{Refusal}
use Rattle.wire.specs.declared.Refusal.TheVariants.{End, BadChar, BadUtf8}
use Rattle.wire.specs.declared.Own.{Own}
use Rattle.wire.specs.Item.{Item}
use Rattle.wire.specs.Item.{Took, Refused}
use Rattle.wire.specs.Tests.{pick, both}
use Rattle.wire.specs.Numbers.{most, last, low, varint_f, varint, on_first, took, word_of}
use Rattle.wire.specs.Text.{utf8}
use Rattle.wire.specs.Shape.{Width, w32, w64, Plain, bool, i8, u8, f32, f64, char, unit, int, fixed, Content, Kind, plain, pooled, option, sequence, map, struct, enum, Shape}
use Rattle.wire.specs.Values.{Entry}
use Rattle.wire.specs.Reading.{Spot, Run, Outcome, reached, refused, flag, counted, char_in, char_of, is_content, content_in, content_of, read_plain, known, head, past, read}
use Rattle.laws.specs.Bounds.{Fits, takes}
use Rattle.laws.specs.Beside.{Sides, Each, Runs, ended, parted, Items, alike, refuse, part, ItemsAlike}
use Rattle.laws.specs.Beside as beside
use Rattle.laws.specs.Longer.{longer, FrontItem, LongerReads, LongerRefuses}
use Rattle.laws.proofs.Splits.{of-pick}
use Rattle.laws.proofs.Known.{head-known}
use Rattle.laws.proofs.Bounds.{fits-varint, head-fits}
use Rattle.laws.proofs.Beside.{itself-alike}

-- refused, or more than n bytes were taken
data Past (n : ℕ) : Item → Type 0 where
  took_more : {own : Own} → n < own.used → Past n (Took own)
  refuses : {e : Refusal} → Past n (Refused e)

-- an item of n bytes, and of those with others behind: the same, unless they were too few, and what is taken then is more of them
data Long (n : ℕ) : Item → Item → Type 0 where
  same : {i : Item} → Long n i i
  short : {j : Item} → Past n j → Long n (Refused End) j

past-pick : {n : ℕ} {i j : Item} (b : Bool) → Past n i → Past n j → Past n (pick b i j)
past-pick b h k = of-pick (Past _) b _ _ (λ _. h) (λ _. k)

past-low : {n : ℕ} {i : Item} (b : ℕ) → Past n i → Past (suc n) (low b i)
unfolding low
past-low {n} b (took_more {own} h) = let l : suc n < own.used + 1 = omega arith in took_more l
past-low b refuses = refuses

-- a varint takes a byte
past-varint_f : (k top : ℕ) (s : List ℕ) → Past 0 (varint_f k top s)
unfolding varint_f
past-varint_f zero top s = refuses
past-varint_f (suc k) top [] = refuses
past-varint_f (suc zero) top (b ∷ s) = let l : 0 < 1 = omega arith in past-pick (leb b top) (took_more l) refuses
past-varint_f (suc (suc k)) top (b ∷ s) = let l : 0 < 1 = omega arith in past-pick (ltb b 128) (took_more l) (less (past-low b (past-varint_f (suc k) top s)))
  where
    less : {i : Item} → Past 1 i → Past 0 i
    less (took_more {own} h) = let l : 0 < own.used = omega arith in took_more l
    less refuses = refuses

module _ (extra : List ℕ) where
  long-low : {n : ℕ} {i j : Item} (b : ℕ) → Long n i j → Long (suc n) (low b i) (low b j)
  long-low b same = same
  long-low b (short h) = unfold low in short (past-low b h)

  long-pick : {n : ℕ} {i i' j j' : Item} (b : Bool) → Long n i i' → Long n j j' → Long n (pick b i j) (pick b i' j')
  unfolding pick
  long-pick true h k = h
  long-pick false h k = k

  long-varint_f : (k top : ℕ) (s : List ℕ) → Long (length s) (varint_f k top s) (varint_f k top (s ++ extra))
  unfolding varint_f
  long-varint_f zero top s = same
  long-varint_f (suc k) top [] = short (past-varint_f (suc k) top extra)
  long-varint_f (suc zero) top (b ∷ s) = same
  long-varint_f (suc (suc k)) top (b ∷ s) = long-pick (ltb b 128) same (long-low b (long-varint_f (suc k) top s))

  long-varint : (w : Width) (s : List ℕ) → Long (length s) (varint w s) (varint w (s ++ extra))
  unfolding varint
  long-varint w s = long-varint_f (most w) (last w) s

  long-on_first : {n : ℕ} {i j : Item} (f : ℕ → ℕ) → Long n i j → Long n (on_first f i) (on_first f j)
  long-on_first f same = same
  long-on_first {n} f (short h) = unfold on_first in short (go h)
    where
      go : {j : Item} → Past n j → Past n (on_first f j)
      go (took_more l) = unfold on_first in took_more l
      go refuses = unfold on_first in refuses

  long-known : {n : ℕ} {i j : Item} (m : ℕ) → Long n i j → Long n (known m i) (known m j)
  long-known m same = same
  long-known {n} m (short h) = unfold known in short (go h)
    where
      go : {j : Item} → Past n j → Past n (known m j)
      go (took_more {own} l) = unfold known in past-pick (ltb own.first m) (took_more l) refuses
      go refuses = unfold known in refuses

  long-word : (n : ℕ) (f : List ℕ → ℕ) (s : List ℕ) → Long (length s) (word_of n f s) (word_of n f (s ++ extra))
  unfolding word_of pick
  long-word n f s = go (leb n (length s)) refl
    where
      go : (x : Bool) → leb n (length s) ≡ x
          → Long (length s) (pick x (took (f (take n s)) 0 n) (Refused End)) (pick (leb n (length (s ++ extra))) (took (f (take n (s ++ extra))) 0 n) (Refused End))
      go false e = let h : length s < n = leb-false n (length s) e in short (past-pick (leb n (length (s ++ extra))) (took_more h) refuses)
      go true e =
          let h : n ≤ length s = leb-true n (length s) e in
          rw (le-leb n (length (s ++ extra)) (simp length-append (omega arith)), take-append-le n s extra h) same

  long-flag : (e : Refusal) (s : List ℕ) → Long (length s) (flag e s) (flag e (s ++ extra))
  unfolding flag
  long-flag e [] = short (none extra)
    where
      none : (s : List ℕ) → Past 0 (flag e s)
      none [] = refuses
      none (b ∷ s) = let l : 0 < 1 = omega arith in past-pick (leb b 1) (took_more l) refuses
  long-flag e (b ∷ s) = same

  -- what is made of the bytes behind a count: as many as it says, if they are there and pass a test
  abbrev behind : (c : Own) (own : List ℕ → Own) (test : List ℕ → Bool) → Refusal → List ℕ → Item
  behind c own test e s = pick (ltb (length s) c.first) (Refused End) (pick (test (take c.first s)) (Took (own (take c.first s))) (Refused e))

  module _ (c : Own) (own : List ℕ → Own) (test : List ℕ → Bool) (e : Refusal) (takes_all : (s : List ℕ) → (own s).used ≡ c.used + c.first) where
    past-behind : (m : ℕ) (s : List ℕ) → m < c.used + c.first → Past m (behind c own test e s)
    past-behind m s h =
        let l : m < (own (take c.first s)).used = omega (arith, takes_all (take c.first s)) in
        past-pick (ltb (length s) c.first) refuses (past-pick (test (take c.first s)) (took_more l) refuses)

    long-behind : (s : List ℕ) → Long (c.used + length s) (behind c own test e s) (behind c own test e (s ++ extra))
    unfolding pick
    long-behind s = go (ltb (length s) c.first) refl
      where
        go : (x : Bool) → ltb (length s) c.first ≡ x
            → Long (c.used + length s) (pick x (Refused End) (pick (test (take c.first s)) (Took (own (take c.first s))) (Refused e))) (behind c own test e (s ++ extra))
        go true q = let l = ltb-true (length s) c.first q in short (past-behind (c.used + length s) (s ++ extra) (omega arith))
        go false q =
            let l : c.first ≤ length s = ltb-false (length s) c.first q in
            rw (le-ltb (length (s ++ extra)) c.first (simp length-append (omega arith)), take-append-le c.first s extra l) same

  -- a count, and what is made of the bytes behind it
  record Counted (g : Own → List ℕ → Item) : Type 0 where
    far : (m : ℕ) (c : Own) (s : List ℕ) → m < c.used + c.first → Past m (g c s)
    near : (c : Own) (s : List ℕ) → Long (c.used + length s) (g c s) (g c (s ++ extra))

  long-counted : (s : List ℕ) (g : Own → List ℕ → Item) → Counted g → {i j : Item} → Fits s i → Long (length s) i j
      → Long (length s) (counted i (λ c. g c (drop c.used s))) (counted j (λ c. g c (drop c.used (s ++ extra))))
  unfolding counted
  long-counted s g h f (short (took_more {own} l)) = short (h.far (length s) own _ (omega arith))
  long-counted s g h f (short refuses) = short refuses
  long-counted s g h Fits.refuses same = same
  long-counted s g h (takes {own} l) same =
      let e : own.used + length (drop own.used s) ≡ length s = omega (arith, length-drop own.used s) in
      rw (drop-append-le own.used s extra l) (rw e at (h.near own (drop own.used s)))

  char-counted : Counted char_of
  unfolding char_of
  char-counted =
      record {
        far = λ m c s h. past-pick (ltb 4 c.first) refuses (past-behind c (char_in c) (λ t. both (ltb 0 c.first) (utf8 t)) BadChar (λ t. refl) m s h);
        near = λ c s. long-pick (ltb 4 c.first) same (long-behind c (char_in c) (λ t. both (ltb 0 c.first) (utf8 t)) BadChar (λ t. refl) s);
      }

  content-counted : (k : Content) (p : ℕ) → Counted (content_of k p)
  unfolding content_of
  content-counted k p =
      record {
        far = λ m c s h. past-behind c (λ t. content_in p c) (is_content k) BadUtf8 (λ t. refl) m s h;
        near = λ c s. long-behind c (λ t. content_in p c) (is_content k) BadUtf8 (λ t. refl) s;
      }

  long-leaf : (l : Plain) (s : List ℕ) → Long (length s) (read_plain l s) (read_plain l (s ++ extra))
  unfolding read_plain
  long-leaf bool s = long-flag _ s
  long-leaf i8 s = long-word 1 _ s
  long-leaf u8 s = long-word 1 _ s
  long-leaf f32 s = long-word 4 _ s
  long-leaf f64 s = long-word 8 _ s
  long-leaf char s = long-counted s char_of char-counted (fits-varint w64 s) (long-varint w64 s)
  long-leaf unit s = same
  long-leaf (int g w) s = long-on_first _ (long-varint w s)
  long-leaf (fixed o g w) s = long-word _ _ s

  long-head : (k : Kind) (n p : ℕ) (s : List ℕ) → Long (length s) (head k n p s) (head k n p (s ++ extra))
  unfolding head
  long-head (plain l) n p s = long-leaf l s
  long-head (pooled k) n p s = long-counted s (content_of k p) (content-counted k p) (fits-varint w64 s) (long-varint w64 s)
  long-head option n p s = long-flag _ s
  long-head sequence n p s = long-varint w64 s
  long-head map n p s = long-varint w64 s
  long-head struct n p s = same
  long-head enum n p s = long-known n (long-varint w32 s)

pub front-item : FrontItem
front-item k n p s r r' own e h = longer (shorter (rw e at (long-head r k n p s))) (long-head r' k n p s)
  where
    shorter : {i : Item} → Long (length s) i (Took own) → i ≡ Took own
    shorter same = refl
    shorter (short (took_more l)) = absurd (omega arith)

    longer : {i j : Item} → i ≡ Took own → Long (length s) i j → j ≡ Took own
    longer q same = q
    longer q (short l) = let z : ◌≡◌ {A = ℕ} 0 1 = cc in absurd (omega arith)

-- ---- readings

-- the same refusal; or the message ended, and nothing is said
data Cut : Refusal → ℕ → List Entry → Outcome → Type 0 where
  whole : {e : Refusal} {p : ℕ} → Cut e p [] (refused e p)
  cut : {p : ℕ} {rest : List Entry} {o : Outcome} → Cut End p rest o

module _ (extra : List ℕ) where
  abbrev lengthened : Sides
  lengthened = record { Spots = λ x y. y ≡ longer extra x; Entries = λ d e. d ≡ e; Parts = Cut; later = still }
    where
      still : {e : Refusal} {p : ℕ} {rest : List Entry} {y : Spot} → Cut e p rest (reached y) → (more : List Entry) (o : Outcome) → Cut e p (rest ++ more) o
      still cut more o = cut

  items : (n : ℕ) → ItemsAlike lengthened head head n n
  unfolding longer past
  items n k x y e =
      rw e (go (head k n x.place x.bytes) refl (head-fits k n x.place x.bytes) (long-head extra k n x.place x.bytes))
    where
      go : (i : Item) {j : Item} → head k n x.place x.bytes ≡ i → Fits x.bytes i → Long (length x.bytes) i j → Items lengthened k n x (longer extra x) i j
      go (Refused r) q f same = refuse whole
      go (Refused r) {j = Refused r'} q f (short h) = refuse cut
      go (Refused r) {j = Took own} q f (short h) = part (λ rest o. cut)
      go (Took own) q (takes l) same = alike {o = own} {q = own} (head-known k n _ _ q) refl refl (rw (drop-append-le own.used x.bytes extra l))

  reads-longer : (t : Shape) (x : Spot) → Runs lengthened (read t x).made (read t x).ends (read t (longer extra x)).made (read t (longer extra x)).ends
  unfolding read
  reads-longer t x = itself-alike lengthened head head items t x (longer extra x) refl

each_same : {ds es : List Entry} → Each (λ d e. d ≡ e) ds es → ds ≡ es
each_same beside.none = refl
each_same (beside.also e h) = rw (e, each_same h)

pub longer-reads : LongerReads
longer-reads t x z extra es e = go (rw e at (reads-longer extra t x))
  where
    go : {fs : List Entry} {o : Outcome} → Runs (lengthened extra) es (reached z) fs o → ◌≡◌ {A = Run} (record { made = fs; ends = o }) (record { made = es; ends = reached (longer extra z) })
    go (ended h s) = rw (each_same h, s)

pub longer-refuses : LongerRefuses
longer-refuses t x extra es f p e no_end = go (rw e at (reads-longer extra t x))
  where
    same_end : {fs gs rest : List Entry} {f : Refusal} {o : Outcome} → (f ≡ End → ⊥) → fs ≡ gs ++ rest → es ≡ gs → Cut f p rest o → ◌≡◌ {A = Run} (record { made = fs; ends = o }) (record { made = es; ends = refused f p })
    same_end {gs} n q h whole = rw (q, h, append-nil gs)
    same_end n q h cut = absurd (n refl)

    go : {fs : List Entry} {o : Outcome} → Runs (lengthened extra) es (refused f p) fs o → ◌≡◌ {A = Run} (record { made = fs; ends = o }) (record { made = es; ends = refused f p })
    go (parted q h c) = same_end no_end q (each_same h) c
