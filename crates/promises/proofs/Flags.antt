-- An item's flag is made of its varint's, which says what the varint's bytes say; what is written of the item has as many bytes only where they are the same.
-- Assumes nothing.
use mathlib.Core.Logic.{◌↔◌}
use mathlib.Core.Path.{◌≡◌, refl, sym, ap, ap₂, ◌∙◌}
use mathlib.Core.Bool.{Bool, true}
use mathlib.Core.List.{List, [], ◌∷◌}
use mathlib.Core.Option.{some}
use Prim.Native.Nat.{ℕ}
use lib.Dec.{ltb, leb}
use lib.ListN.{length, take, drop}
use lib.Seq.{length-take-le}
use Rattle.wire.specs.declared.Refusal.{Refusal}
use Rattle.wire.specs.Item.{Item}
use Rattle.wire.specs.Item.{Took, Refused}
use Rattle.wire.specs.Tests.{both}
use Rattle.wire.specs.Shape.{Width, w32, w64, Plain, bool, i8, u8, f32, f64, char, unit, int, fixed, Content, Kind, plain, pooled, option, sequence, map, struct, enum}
use Rattle.wire.specs.Numbers.{varint, unzigzagged, on_first, word_of}
use Rattle.wire.specs.Text.{utf8}
use Rattle.wire.specs.Reading.{flag, counted, char_of, is_content, content_of, read_plain, known, head}
use Rattle.wire.specs.Writing.{head_bytes}
use Rattle.laws.proofs.Splits.{of-pick}
use Rattle.laws.proofs.Varints.{took_in}
use Rattle.laws.proofs.Bytes.{below-drop}
use Rattle.laws.proofs.HeadsAgain.{ItemAgain, head-again}
use Rattle.promises.specs.Strict.{is_least, is_one_char, is_shortest_plain, is_shortest, FlagSays, ShortestIsWritten}

-- the flag of what was taken
abbrev Says : Bool → Item → Type 0
Says b (Took own) = own.shortest ≡ b
Says b (Refused why) = Unit {0}

says-flag : (why : Refusal) (s : List ℕ) → Says true (flag why s)
unfolding flag
says-flag why [] = tt
says-flag why (byte ∷ s) = of-pick (Says true) (leb byte 1) _ _ (λ _. refl) (λ _. tt)

says-word : (n : ℕ) (f : List ℕ → ℕ) (s : List ℕ) → Says true (word_of n f s)
unfolding word_of
says-word n f s = of-pick (Says true) (leb n (length s)) _ _ (λ _. refl) (λ _. tt)

says-varint : (w : Width) (s : List ℕ) → Says (is_least (varint w s)) (varint w s)
unfolding is_least
says-varint w s = go (varint w s) refl
  where
    go : (i : Item) → varint w s ≡ i → Says (is_least i) i
    go (Took own) e = (took_in w s e).form
    go (Refused why) e = tt

-- ---- what is made of a varint

module _ (b : Bool) where
  says_first : (f : ℕ → ℕ) (i : Item) → Says b i → Says b (on_first f i)
  unfolding on_first
  says_first f (Took own) h = h
  says_first f (Refused why) h = tt

  says-known : (n : ℕ) (i : Item) → Says b i → Says b (known n i)
  unfolding known
  says-known n (Took own) h = of-pick (Says b) (ltb own.first n) _ _ (λ _. h) (λ _. tt)
  says-known n (Refused why) h = tt

  says-content : (c : Content) (p : ℕ) (s : List ℕ) (i : Item) → Says b i → Says b (counted i (λ count. content_of c p count (drop count.used s)))
  unfolding counted content_of
  says-content c p s (Took count) h =
      of-pick (Says b) (ltb (length (drop count.used s)) count.first) _ _ (λ _. tt)
      (λ _. of-pick (Says b) (is_content c (take count.first (drop count.used s))) _ _ (λ _. h) (λ _. tt))
  says-content c p s (Refused why) h = tt

  says-char : (s : List ℕ) (i : Item) → Says b i → Says (both b (is_one_char s i)) (counted i (λ count. char_of count (drop count.used s)))
  unfolding counted char_of is_one_char
  says-char s (Took count) h =
      let one = is_one_char s (Took count) in
      of-pick (Says (both b one)) (ltb 4 count.first) _ _ (λ _. tt)
      (λ _.
      of-pick (Says (both b one)) (ltb (length (drop count.used s)) count.first) _ _ (λ _. tt)
      (λ _.
      of-pick (Says (both b one)) (both (ltb 0 count.first) (utf8 (take count.first (drop count.used s)))) _ _ (λ _. ap₂ both h refl)
      (λ _. tt)))
  says-char s (Refused why) h = tt

-- ---- any item

says_plain : (l : Plain) (s : List ℕ) → Says (is_shortest_plain l s) (read_plain l s)
unfolding read_plain is_shortest_plain
says_plain bool s = says-flag _ s
says_plain i8 s = says-word _ _ s
says_plain u8 s = says-word _ _ s
says_plain f32 s = says-word _ _ s
says_plain f64 s = says-word _ _ s
says_plain char s = says-char _ s (varint w64 s) (says-varint w64 s)
says_plain unit s = refl
says_plain (int sign width) s = says_first _ (unzigzagged sign) (varint width s) (says-varint width s)
says_plain (fixed order sign width) s = says-word _ _ s

says : (k : Kind) (n p : ℕ) (s : List ℕ) → Says (is_shortest k s) (head k n p s)
unfolding head is_shortest
says (plain l) n p s = says_plain l s
says (pooled c) n p s = says-content _ c p s (varint w64 s) (says-varint w64 s)
says option n p s = says-flag _ s
says sequence n p s = says-varint w64 s
says map n p s = says-varint w64 s
says struct n p s = refl
says enum n p s = says-known _ n (varint w32 s) (says-varint w32 s)

pub flag-says : FlagSays
flag-says k n p s own e = rw e at (says k n p s)

pub shortest-is-written : ShortestIsWritten
shortest-is-written k n p message own bs e = go (rw e at (head-again n message p (drop p message) refl (below-drop 256 p message bs) k))
  where
    same_some : {s t : List ℕ} → some s ≡ some t → s ≡ t
    same_some e = cc

    go : ItemAgain k n message (drop p message) own
        → (own.shortest ≡ true) ↔ (head_bytes k n message own.first own.second ≡ some (take own.used (drop p message)))
    go i = (
      λ h. i.writes ∙ ap some (i.then_same h),
      λ w. i.then-shortest (ap length (same_some (sym i.writes ∙ w)) ∙ length-take-le own.used (drop p message) i.there),
    )
