-- A reading by any sound way to read items stays inside its bytes, and wire's own is sound.
-- Assumes nothing.
use mathlib.Core.Path.{◌≡◌, refl, ap, ◌∙◌}
use mathlib.Core.Bool.{Bool, true, false, not}
use mathlib.Core.List.{List, [], ◌∷◌, ◌++◌}
use Prim.Native.Nat.{ℕ, ◌+◌, ◌-◌, ◌≤◌}
use native.Mathlib.Nat.{add_assoc, add-zero}
use native.Mathlib.Omega.{arith}
use lib.ListN.{length, drop, length-drop}
use lib.Seq.{drop-drop}
use lib.Dec.{T, leb, ltb, leb→le, nltb→le}
use Rattle.wire.specs.declared.Refusal.{Refusal}
use Rattle.wire.specs.declared.Own.{Own}
use Rattle.wire.specs.Item.{Item}
use Rattle.wire.specs.Item.{Took, Refused}
use Rattle.wire.specs.Tests.{pick}
use Rattle.wire.specs.Numbers.{most, last, varint_f, varint, on_first, took, word_of}
use Rattle.wire.specs.Shape.{Width, w32, w64, Plain, bool, i8, u8, f32, f64, char, unit, int, fixed, Kind, plain, pooled, option, sequence, map, struct, enum, Shapes}
use Rattle.wire.specs.Walk.{walk}
use Rattle.wire.specs.Values.{Entry}
use Rattle.wire.specs.Reading.{Spot, Run, Outcome, reached, flag, counted, char_of, content_of, read_plain, known, Head, head, strictly, judged, head_by, run_after, read_nothing, read_on, read_then, past, entry_of, enter, read_item, reading}
use Rattle.laws.specs.Steps.{Every, row}
use Rattle.laws.specs.Range.{span, InRange}
use Rattle.laws.proofs.Varints.{in-range}
use Rattle.laws.proofs.Known.{head-known}
use Rattle.laws.proofs.Splits.{of-pick}
use Rattle.laws.specs.Heads.{Sound}
use Rattle.laws.specs.Bounds.{start, Fits, takes, Stays, reaches, ReadsInside, PlacesKept}
use Rattle.laws.proofs.Walks.{every, every-row}

-- ---- an item

fits-pick : {s : List ℕ} {i j : Item} (b : Bool) → (T b → Fits s i) → (T (not b) → Fits s j) → Fits s (pick b i j)
unfolding pick
fits-pick true h k = h tt
fits-pick false h k = k tt

fits-range : (limit : ℕ) (s : List ℕ) (i : Item) → InRange limit s i → Fits s i
fits-range limit s (Took own) h = takes h.within
fits-range limit s (Refused e) h = Fits.refuses

pub fits-varint : (w : Width) (s : List ℕ) → Fits s (varint w s)
unfolding varint
fits-varint w s = fits-range (span (most w) (last w)) s (varint_f (most w) (last w) s) (in-range (most w) (last w) s)

fits-on_first : {s : List ℕ} {i : Item} (f : ℕ → ℕ) → Fits s i → Fits s (on_first f i)
unfolding on_first
fits-on_first f (takes h) = takes h
fits-on_first f Fits.refuses = Fits.refuses

fits_word : (n : ℕ) (f : List ℕ → ℕ) (s : List ℕ) → Fits s (word_of n f s)
unfolding word_of
fits_word n f s = fits-pick (leb n (length s)) (λ h. takes (leb→le n (length s) h)) (λ h. Fits.refuses)

fits-flag : (e : Refusal) (s : List ℕ) → Fits s (flag e s)
unfolding flag
fits-flag e [] = Fits.refuses
fits-flag e (b ∷ s) = fits-pick (leb b 1) (λ h. takes (omega arith)) (λ h. Fits.refuses)

-- what stands behind a count is inside, if it is inside what the count left
fits-counted : {s : List ℕ} {i : Item} (f : Own → Item) → Fits s i → ((own : Own) → own.used ≤ length s → Fits s (f own)) → Fits s (counted i f)
unfolding counted
fits-counted f (takes {own} h) k = k own h
fits-counted f Fits.refuses k = Fits.refuses

-- so many bytes behind a count, if they are there and pass a test
fits-part : (c n : ℕ) (own : Own) (e f : Refusal) (test : Bool) (s : List ℕ) → own.used ≡ n + c → n ≤ length s
    → Fits s (pick (ltb (length (drop n s)) c) (Refused e) (pick test (Took own) (Refused f)))
fits-part c n own e f test s is h =
    fits-pick (ltb (length (drop n s)) c) (λ _. Fits.refuses)
    (λ l. fits-pick test (λ _. takes (omega (arith, is, length-drop n s, nltb→le (length (drop n s)) c l))) (λ _. Fits.refuses))

fits-none : (s : List ℕ) → Fits s (took 0 0 0)
fits-none s = let h : 0 ≤ length s = omega arith in takes h

fits-leaf : (l : Plain) (s : List ℕ) → Fits s (read_plain l s)
unfolding read_plain char_of
fits-leaf bool s = fits-flag _ s
fits-leaf i8 s = fits_word 1 _ s
fits-leaf u8 s = fits_word 1 _ s
fits-leaf f32 s = fits_word 4 _ s
fits-leaf f64 s = fits_word 8 _ s
fits-leaf char s =
    fits-counted _ (fits-varint w64 s) (λ c h. fits-pick (ltb 4 c.first) (λ _. Fits.refuses) (λ _. fits-part c.first c.used _ _ _ _ s refl h))
fits-leaf unit s = fits-none s
fits-leaf (int g w) s = fits-on_first _ (fits-varint w s)
fits-leaf (fixed o g w) s = fits_word _ _ s

fits-known : (n : ℕ) {s : List ℕ} {i : Item} → Fits s i → Fits s (known n i)
unfolding known
fits-known n (takes {own} h) = fits-pick (ltb own.first n) (λ _. takes h) (λ _. Fits.refuses)
fits-known n Fits.refuses = Fits.refuses

pub head-fits : (k : Kind) (n p : ℕ) (s : List ℕ) → Fits s (head k n p s)
unfolding head content_of
head-fits (plain l) n p s = fits-leaf l s
head-fits (pooled k) n p s = fits-counted _ (fits-varint w64 s) (λ c h. fits-part c.first c.used _ _ _ _ s refl h)
head-fits option n p s = fits-flag _ s
head-fits sequence n p s = fits-varint w64 s
head-fits map n p s = fits-varint w64 s
head-fits struct n p s = fits-none s
head-fits enum n p s = fits-known n (fits-varint w32 s)

-- a strict reading's way refuses more, and changes nothing
fits-judged : (strict : Bool) {s : List ℕ} {i : Item} → Fits s i → Fits s (judged strict i)
unfolding judged strictly
fits-judged true (takes {own} h) = fits-pick own.shortest (λ _. takes h) (λ _. Fits.refuses)
fits-judged true Fits.refuses = Fits.refuses
fits-judged false h = h

-- what is taken strictly is taken
pub judged-took : (strict : Bool) (i : Item) {own : Own} → judged strict i ≡ Took own → i ≡ Took own
unfolding judged strictly
judged-took true (Took got) {own} e = of-pick (λ j. j ≡ Took own → Took got ≡ Took own) got.shortest _ _ (λ _ q. q) (λ _ q. cc) e
judged-took true (Refused why) e = cc
judged-took false i e = e

pub head-sound : Sound head
unfolding head
head-sound = record { inside = head-fits; knows = head-known; bare = λ n p s. refl }

pub head-by-sound : (strict : Bool) → Sound (head_by strict)
unfolding head_by head
head-by-sound strict =
    record {
      inside = λ k n p s. fits-judged strict (head-fits k n p s);
      knows = λ k n p s e. head-known k n p s (judged-took strict (head k n p s) e);
      bare = λ n p s. bare strict;
    }
  where
    bare : (strict : Bool) → judged strict (took 0 0 0) ≡ took 0 0 0
    bare true = unfold judged strictly pick in refl
    bare false = unfold judged in refl

-- ---- a run

pub start-append : (es fs : List Entry) (end : ℕ) → start (es ++ fs) end ≡ start es (start fs end)
unfolding start
start-append [] fs end = refl
start-append (e ∷ es) fs end = refl

pub past-past : (n m : ℕ) (x : Spot) → past m (past n x) ≡ past (n + m) x
unfolding past
past-past n m x = rw (drop-drop m n x.bytes, add_assoc x.place n m)

-- a run behind so many bytes, and behind entries that begin where those do
stays-behind : {x z : Spot} (es : List Entry) {fs : List Entry} {o : Outcome} (n : ℕ)
    → n ≤ length x.bytes → z ≡ past n x → start es z.place ≡ x.place → Stays z fs o → Stays x (es ++ fs) o
stays-behind {x} {z} es {fs} n h e s r = go (ap (λ y. length y.bytes) e ∙ (unfold past in length-drop n x.bytes)) (unfold past in ap (λ y. y.place) e) r
  where
    go : {o : Outcome} → length z.bytes ≡ length x.bytes - n → z.place ≡ x.place + n → Stays z fs o → Stays x (es ++ fs) o
    go b p (reaches {z = y} m k f t) = reaches (n + m) (omega arith) (f ∙ ap (past m) e ∙ past-past n m x) (start-append es fs y.place ∙ ap (start es) t ∙ s)
    go b p (Stays.refuses {p = q} k f t) = Stays.refuses {p = q} (omega arith) (omega arith) (start-append es fs q ∙ ap (start es) t ∙ s)

record Steady (f : Spot → Run) : Type 0 where
  stays : (x : Spot) → Stays x (f x).made (f x).ends

steady-nothing : Steady read_nothing
unfolding read_nothing start past
steady-nothing = record { stays = λ x. reaches {z = x} 0 (omega arith) (rw (add-zero x.place)) refl }

steady_then : {f g : Spot → Run} → Steady f → Steady g → Steady (read_then f g)
unfolding read_then read_on run_after
steady_then {f} {g} h k = record { stays = λ x. go x (h.stays x) }
  where
    go : (x : Spot) {es : List Entry} {o : Outcome} → Stays x es o → Stays x (read_on es o g).made (read_on es o g).ends
    go x {es} (reaches {z} n l e s) = stays-behind es n l e s (k.stays z)
    go x (Stays.refuses l e s) = Stays.refuses l e s

module _ {h : Head} (sound : Sound h) where
  steady-item : {f : ℕ → Spot → Run} (k : Kind) (n : ℕ) → ((a : ℕ) → Steady (f a)) → Steady (read_item h k n f)
  unfolding read_item enter run_after start
  steady-item {f} k n r = record { stays = λ x. go x (sound.inside k n x.place x.bytes) }
    where
      go : (x : Spot) {i : Item} → Fits x.bytes i → Stays x (enter i f x).made (enter i f x).ends
      go x Fits.refuses = Stays.refuses {p = x.place} (omega arith) (omega arith) refl
      go x (takes {own} l) = stays-behind (entry_of own x ∷ []) own.used l refl refl ((r own.first).stays (past own.used x))

  steady : Every (λ (i : Unit {0}). reading h) (λ f. Steady (f tt))
  steady = record { none = steady-nothing; both = steady_then; made = λ f k n. steady-item k n }

  pub read_stays : ReadsInside h
  read_stays t = (every steady t).stays

  pub row_stays : (ts : Shapes) (x : Spot) → Stays x (row (reading h) ts x).made (row (reading h) ts x).ends
  row_stays ts = (every-row steady ts).stays

  pub places-kept : PlacesKept h
  places-kept t x z e = go (rw e at (read_stays t x))
    where
      go : Stays x (walk (reading h) t x).made (reached z) → z.place + length z.bytes ≡ x.place + length x.bytes
      go (reaches n l q s) = rw q (unfold past in omega (arith, length-drop n x.bytes))
