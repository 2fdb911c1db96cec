-- A number that was taken is one that its kind has, and its bytes are those of its word.
-- Assumes nothing.
use mathlib.Core.Path.{◌≡◌, refl, sym, ap, ◌∙◌}
use mathlib.Core.Path as paths
use mathlib.Core.Bool.{Bool, true, false}
use mathlib.Core.List.{List, ◌++◌}
use mathlib.Core.Option.{Option, none, some, some-injective, none-ne-some}
use Prim.Native.Nat.{ℕ, ◌+◌, ◌-◌, ◌<◌, ◌≤◌, ◌^◌}
use native.Mathlib.Omega.{arith}
use lib.ListN.{length, drop}
use Rattle.wire.specs.Tests.{pick}
use Rattle.wire.specs.Shape.{bits, Kind, plain, pooled, option, sequence, map, struct, enum, text, raw}
use Rattle.wire.specs.Table.{kinds, kind_of}
use Rattle.wire.specs.Values.{number, value_of, is_pooled}
use Rattle.wire.specs.Writing.{head_bytes}
use Rattle.laws.specs.KindRanges.{IsLeaf}
use Rattle.laws.proofs.Splits.{not-both}
use Rattle.laws.proofs.EachKind.{end, ◌&◌, in-kinds}
use Rattle.desk.specs.Csv.{Style, numeral, one_char, any_text, hex, integers, style_of_plain, style_of_content, style_of, may, value_bytes}
use Rattle.spellings.specs.Accept.{Acceptor, acceptor, Figure, nothing, figure_value, numbers}
use Rattle.spellings.specs.Exact.{Goes, styled}
use Rattle.spellings.proofs.Scheme.{scans}
use Rattle.spellings.proofs.Tables.{style-exact}
use Rattle.spellings.proofs.Written.{kind-written}
use Rattle.columns.specs.Columns.{is_some}
use Rattle.columns.proofs.Styled.{by-style}
use Rattle.write_item.specs.Own.{Fits, SpellsEntry}
use Rattle.put_number.proofs.Laying.{lays-puts}
use Rattle.put_field.specs.Fields.{Largest, IsNumber, low, high}
use Rattle.take_number.specs.Number as number
use Rattle.take_number.specs.Scans.{Ends, TakesNumber}
use Rattle.take_number.specs.Scans as scans
use Rattle.take_field.specs.Field.{Took, Stops}
use Rattle.take_field.specs.Taking.{Takes, took, stops, TakesKind}

-- ---- how far an acceptor went

pub record Gone (A : Acceptor) (x : A.State) (s : List ℕ) (i : ℕ) (y : A.State) (j : ℕ) : Type 0 where
  pub front : List ℕ
  pub goes : Goes A x front y
  pub split : drop i s ≡ front ++ drop j s
  pub long : i + length front ≡ j

pub gone : (A : Acceptor) {x y : A.State} {s : List ℕ} {i j : ℕ} → Ends A x s i y j → Gone A x s i y j
gone A {x} {y} {s} {i} {j} e =
    let r = scans A (drop i s) x in
    record {
      front = r.front;
      goes = paths.subst (λ z. Goes A x r.front z) e.state r.goes;
      split = r.split ∙ ap (λ t. r.front ++ t) e.left;
      long = omega (arith, e.place, r.long);
    }

-- ---- the smallest numbers

abbrev above : Option Style → ℕ
above none = 0
above (some (numeral b a)) = a
above (some one_char) = 0
above (some any_text) = 0
above (some hex) = 0

abbrev IsSigned : Kind → Type 0
IsSigned k = (a : ℕ) → Largest k a → (style_of k ≡ some (numeral (a + 1) a)) × (a + 1 < 2 ^ 64)

abbrev IsUnsigned : Kind → Type 0
IsUnsigned k = (a : ℕ) → Largest k a → style_of k ≡ some (numeral 0 a)

signed_is : (k : Kind) (b c : ℕ) → style_of k ≡ some (numeral b c) → b ≡ c + 1 → c + 1 < 2 ^ 64 → IsSigned k
signed_is k b c e f h a l =
    let same : c ≡ a = ap above (sym e ∙ l.is) in
    (e ∙ ap (λ b. some (numeral b c)) f ∙ ap (λ c. some (numeral (c + 1) c)) same, rw same at h)

unsigned_is : (k : Kind) (b c : ℕ) → style_of k ≡ some (numeral b c) → b ≡ 0 → IsUnsigned k
unsigned_is k b c e f a l =
    let same : c ≡ a = ap above (sym e ∙ l.is) in
    e ∙ ap (λ b. some (numeral b c)) f ∙ ap (λ c. some (numeral 0 c)) same

module _ (n : ℕ) where
  pub signed_low : 1 ≤ n → n ≤ 4 → IsSigned (kind_of n)
  unfolding style_of style_of_plain integers bits kinds
  signed_low l h =
      in-kinds IsSigned 1 4 refl (signed_is _ 128 127 refl refl (omega arith) & signed_is _ 32768 32767 refl refl (omega arith) & signed_is _ 2147483648 2147483647 refl refl (omega arith) & signed_is _ 9223372036854775808 9223372036854775807 refl refl (omega arith) & end) n l (omega arith)

  pub signed-little : 20 ≤ n → n ≤ 22 → IsSigned (kind_of n)
  unfolding style_of style_of_plain integers bits kinds
  signed-little l h = in-kinds IsSigned 20 3 refl (signed_is _ 32768 32767 refl refl (omega arith) & signed_is _ 2147483648 2147483647 refl refl (omega arith) & signed_is _ 9223372036854775808 9223372036854775807 refl refl (omega arith) & end) n l (omega arith)

  pub signed-big : 26 ≤ n → n ≤ 28 → IsSigned (kind_of n)
  unfolding style_of style_of_plain integers bits kinds
  signed-big l h = in-kinds IsSigned 26 3 refl (signed_is _ 32768 32767 refl refl (omega arith) & signed_is _ 2147483648 2147483647 refl refl (omega arith) & signed_is _ 9223372036854775808 9223372036854775807 refl refl (omega arith) & end) n l (omega arith)

  pub unsigned-0 : n ≤ 0 → IsUnsigned (kind_of n)
  unfolding style_of style_of_plain integers bits kinds
  unsigned-0 h = in-kinds IsUnsigned 0 1 refl (unsigned_is _ _ _ refl refl & end) n (omega arith) (omega arith)

  pub unsigned-low : 5 ≤ n → n ≤ 10 → IsUnsigned (kind_of n)
  unfolding style_of style_of_plain integers bits kinds
  unsigned-low l h =
      in-kinds IsUnsigned 5 6 refl
      (unsigned_is _ _ _ refl refl & unsigned_is _ _ _ refl refl & unsigned_is _ _ _ refl refl & unsigned_is _ _ _ refl refl & unsigned_is _ _ _ refl refl & unsigned_is _ _ _ refl refl & end) n l
      (omega arith)

  pub unsigned-little : 23 ≤ n → n ≤ 25 → IsUnsigned (kind_of n)
  unfolding style_of style_of_plain integers bits kinds
  unsigned-little l h = in-kinds IsUnsigned 23 3 refl (unsigned_is _ _ _ refl refl & unsigned_is _ _ _ refl refl & unsigned_is _ _ _ refl refl & end) n l (omega arith)

  pub unsigned-big : 29 ≤ n → n ≤ 31 → IsUnsigned (kind_of n)
  unfolding style_of style_of_plain integers bits kinds
  unsigned-big l h = in-kinds IsUnsigned 29 3 refl (unsigned_is _ _ _ refl refl & unsigned_is _ _ _ refl refl & unsigned_is _ _ _ refl refl & end) n l (omega arith)

-- ---- a number's bytes

is_numeral : Option Style → Bool
is_numeral none = false
is_numeral (some (numeral b a)) = true
is_numeral (some one_char) = false
is_numeral (some any_text) = false
is_numeral (some hex) = false

-- a kind of numbers has its bytes by its word, whatever the pool is
number-bytes : (k : Kind) {b a : ℕ} (w : ℕ) → style_of k ≡ some (numeral b a) → may (numeral b a) (number w 0) ≡ true → (pool : List ℕ) → head_bytes k 0 pool w 0 ≡ some (value_bytes k (number w 0))
unfolding value_of is_pooled pick head_bytes style_of style_of_content is_numeral
number-bytes (plain l) {b} {a} w e h pool =
    let x = kind-written (plain l) (numeral b a) (number w 0) e h tt in
    let same : number x.first x.second ≡ number w 0 = x.same 0 in
    let one : x.first ≡ w = cc in
    let two : x.second ≡ 0 = cc in
    rw (one, two) at x.writes
number-bytes (pooled text) w e h pool = not-both (ap is_numeral e) refl
number-bytes (pooled raw) w e h pool = not-both (ap is_numeral e) refl
number-bytes option w e h pool = absurd (none-ne-some _ e)
number-bytes sequence w e h pool = absurd (none-ne-some _ e)
number-bytes map w e h pool = absurd (none-ne-some _ e)
number-bytes struct w e h pool = absurd (none-ne-some _ e)
number-bytes enum w e h pool = absurd (none-ne-some _ e)

module _ (k : Kind) {b a : ℕ} (e : style_of k ≡ some (numeral b a)) (s : List ℕ) (i : ℕ) where
  as-style : (P : Style → Type 0) → P (numeral b a) → (f : Style) → style_of k ≡ some f → P f
  as-style P p f g = paths.subst P (some-injective _ f (sym e ∙ g)) p

  taken-may : {y : Figure} {w j : ℕ} → Ends (numbers b a) nothing s i y j → figure_value y ≡ some (number w 0) → may (numeral b a) (number w 0) ≡ true
  unfolding acceptor styled
  taken-may {y} {w} n v = let g = gone (numbers b a) n in ((style-exact k e).whole g.goes v).0

  pub number_fits : {w j : ℕ} → TakesNumber b a s i (number.Is w j) → (pool : List ℕ) → Fits k pool w 0
  number_fits {w} (scans.takes n v) pool = record { children = 0; bytes = value_bytes k (number w 0); is = number-bytes k w e (taken-may n v) pool }

  pub number-took : {w j u n : ℕ} {out pool after : List ℕ} → TakesNumber b a s i (number.Is w j) → SpellsEntry k pool w 0 u out n after
      → TakesKind k s i u out (Took j n) after
  unfolding acceptor
  number-took {w} {j} {u} {n} {out} {pool} {after} (scans.takes m v) p =
      record { of = as-style (λ f. Takes f k s i u out (Took j n) after) (took m v (lays-puts (p.puts 0 (number-bytes k w e (taken-may m v) pool)))) }

  pub number-stops : {j u : ℕ} {out : List ℕ} → TakesNumber b a s i (number.Stops j) → TakesKind k s i u out (Stops j) out
  unfolding acceptor
  number-stops {j} {u} {out} (scans.stops m v) = record { of = as-style (λ f. Takes f k s i u out (Stops j) out) (stops m v refl) }

-- the number of a kind of numbers is a leaf's
pub number-leaf : {n : ℕ} → IsNumber n → IsLeaf n
number-leaf (low h) = record { small = omega arith; outer = λ i. omega (arith, i.0) }
number-leaf (high h k) = record { small = omega arith; outer = λ i. omega (arith, i.1) }

-- a kind that has a style and is neither of those between quotes is one of numbers
pub other-number : {n : ℕ} → is_some (style_of (kind_of n)) ≡ true → (n ≡ 11 → ⊥) → (n ≡ 12 → ⊥) → (n ≡ 13 → ⊥) → IsNumber n
other-number {n} e p q r = by-style n e (λ h. low (omega arith)) (λ l h. high l h)
