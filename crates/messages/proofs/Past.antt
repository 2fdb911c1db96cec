-- What is gone past: a varint byte by byte, a row of integers one after the other, and so both key fields.
-- Assumes nothing.
use mathlib.Core.Path.{◌≡◌, refl, sym, ap, ◌∙◌}
use mathlib.Core.Bool.{Bool, true, false, not}
use mathlib.Core.List.{List, [], ◌∷◌}
use mathlib.Core.Logic.{◌⊎◌, ⊎_elim}
use Prim.Native.Nat.{ℕ, suc, ◌+◌, ◌-◌, ◌*◌, ◌%◌, ◌≤◌, ◌<◌}
use native.Mathlib.Nat.{add-zero, zero-add, mod-eq_of_lt}
use native.Mathlib.Omega.{arith}
use lib.ListN.{length, get_or, take, drop, length-drop}
use lib.Seq.{drop-drop}
use lib.Dec.{leb}
use borrow.Author.Tests.{ne_eqb, le-leb}
use Rattle.wire.specs.declared.Layout.{Layout}
use Rattle.wire.specs.declared.Own.{Own}
use Rattle.wire.specs.declared.Refusal.{Refusal}
use Rattle.wire.specs.declared.Refusal.TheVariants.{BadVarint}
use Rattle.std.specs.Prelude.{Option, Some, Ok}
use Rattle.wire.specs.Item.{Item}
use Rattle.wire.specs.Item.{Took as Read, Refused as NotRead}
use Rattle.wire.specs.Tests.{pick}
use Rattle.wire.specs.Shape.{w16, w32, w64, signed, unsigned, i8, u8, int}
use Rattle.wire.specs.Table.{kinds, kind_of, u16_at, node_at, record_of, shapes_at}
use Rattle.wire.specs.Numbers.{most, last, spelled, low, varint_f, varint, on_first, word_of}
use Rattle.wire.specs.Reading.{Spot, Run, head, read_plain, read_nothing, front, past, reading, within, fit}
use Rattle.wire.specs.Walk.{all, walks}
use Rattle.wire.specs.Answers.{read_answer}
use Rattle.laws.specs.Tables.{GoodTable}
use Rattle.laws.proofs.Parts.{next, tail, length-tail}
use Rattle.laws.proofs.Varints.{varints, varint-small, varint-more, took_in}
use Rattle.table.specs.Parts.{Falls, row_step}
use Rattle.desk.specs.Path.{most_entries}
use Rattle.read_item.specs.Steps.{spot}
use Rattle.reader.specs.Steps.{answer_behind}
use Rattle.desk.specs.declared.Key.{Key}
use Rattle.desk.specs.Rows.{same_key}
use Rattle.desk.specs.Messages.{Keyed, next_of}
use Rattle.messages.specs.declared.Fields.{Fields}
use Rattle.messages.specs.declared.Taken.{Taken}
use Rattle.messages.specs.declared.Begun.{Begun}
use Rattle.messages.specs.declared.Longest.{Longest}
use Rattle.messages.specs.Word.{Took}
use Rattle.messages.specs.NextMessage.{Message}
use Rattle.messages.specs.Fields.{field_count, keys_of, key_width, key_by, HasKey, KeyedBy}
use Rattle.messages.specs.Steps.{skimmed, Goes, Words, Begins, next_answer}
use Rattle.messages.specs.Past.{Uses, IsVarint, LongestOf, is, PastVarint, passed, PastRow, PastInts, gone, Reads, PastKey, reads, PastKeys, keyed}
use Rattle.messages.proofs.Steps.{goes-as, goes_then, row-split}
use Rattle.messages.proofs.Words.{leaf-goes, word-took, falls-fewer}
use Rattle.messages.proofs.Keyed.{first-falls, second-falls, third-falls, finish-message}

-- ---- integers as varints

uses-none : {e : Refusal} {n : ℕ} {X : Type 0} → Uses (NotRead e) n → X
uses-none u = let z : ◌≡◌ {A = ℕ} 0 1 = (let q = u.is in cc) in absurd (omega arith)

-- a byte is a varint of one
byte_fits : (f : List ℕ → ℕ) (s : List ℕ) {n : ℕ} → Uses (varint_f 1 255 s) n → Uses (word_of 1 f s) n
unfolding varints word_of
byte_fits f [] u = uses-none u
byte_fits f (b ∷ s) {n} u = go (leb b 255) u
  where
    go : (t : Bool) → Uses (pick t (spelled b 1) (NotRead BadVarint)) n → Uses (word_of 1 f (b ∷ s)) n
    go true u = unfold word_of pick in rw (le-leb 1 (length (b ∷ s)) (omega arith)) (record { own = _; is = refl; used = (let q = u.is in cc) ∙ u.used })
    go false u = uses-none u

-- a number that is made of a varint's is as long
int-fits : (f : ℕ → ℕ) (i : Item) {n : ℕ} → Uses i n → Uses (on_first f i) n
unfolding on_first
int-fits f (Read own) u = record { own = _; is = refl; used = (let q = u.is in cc) ∙ u.used }
int-fits f (NotRead e) u = uses-none u

-- the kinds by their numbers
pub longest-is : {i j k : ℕ} {v : Longest} → IsVarint i v → IsVarint j v → (k ≡ i) ⊎ (k ≡ j) → LongestOf k (Some v)
longest-is a b e = ⊎_elim (λ q. rw q (is a)) (λ q. rw q (is b)) e

pub is-i8 : IsVarint 1 (record { most = 1; last = 255 })
unfolding kind_of kinds read_plain
is-i8 = record { some = omega arith; leaf = i8; kind = refl; fits = λ s u. byte_fits _ s u }

pub is-u8 : IsVarint 5 (record { most = 1; last = 255 })
unfolding kind_of kinds read_plain
is-u8 = record { some = omega arith; leaf = u8; kind = refl; fits = λ s u. byte_fits _ s u }

pub is-i16 : IsVarint 2 (record { most = 3; last = 3 })
unfolding kind_of kinds read_plain varint most last
is-i16 = record { some = omega arith; leaf = int signed w16; kind = refl; fits = λ s u. int-fits _ _ u }

pub is-u16 : IsVarint 6 (record { most = 3; last = 3 })
unfolding kind_of kinds read_plain varint most last
is-u16 = record { some = omega arith; leaf = int unsigned w16; kind = refl; fits = λ s u. int-fits _ _ u }

pub is-i32 : IsVarint 3 (record { most = 5; last = 15 })
unfolding kind_of kinds read_plain varint most last
is-i32 = record { some = omega arith; leaf = int signed w32; kind = refl; fits = λ s u. int-fits _ _ u }

pub is-u32 : IsVarint 7 (record { most = 5; last = 15 })
unfolding kind_of kinds read_plain varint most last
is-u32 = record { some = omega arith; leaf = int unsigned w32; kind = refl; fits = λ s u. int-fits _ _ u }

pub is-i64 : IsVarint 4 (record { most = 10; last = 1 })
unfolding kind_of kinds read_plain varint most last
is-i64 = record { some = omega arith; leaf = int signed w64; kind = refl; fits = λ s u. int-fits _ _ u }

pub is-u64 : IsVarint 8 (record { most = 10; last = 1 })
unfolding kind_of kinds read_plain varint most last
is-u64 = record { some = omega arith; leaf = int unsigned w64; kind = refl; fits = λ s u. int-fits _ _ u }

-- ---- where a step stood

goes_at : {g : Spot → Run} {m n c : ℕ} {x y : Spot} → x ≡ y → Goes g m x n c → Goes g m y n c
goes_at e a = rw e at a

-- a step that went, as an answer
done_at : {g : Spot → Run} {m n c p q : ℕ} {bs : List ℕ} → p + n ≡ q → Goes g m (spot bs p) n c → Ok (record { place = q; count = c }) ≡ skimmed (answer_behind m (fit (most_entries - m) (g (spot bs p))))
unfolding answer_behind skimmed
done_at {g} {m} {n} {c} {p} {q} {bs} e a = sym (ap (λ r. skimmed (read_answer r.ends (m + length r.made))) a.ran ∙ (unfold read_answer past in rw (e, a.many)))

-- ---- a varint, byte by byte

-- at the loop's head: i is reached, so many bytes are still allowed, and where the rest is one the whole is
pub record Passing (s : List ℕ) (v : Longest) (at i left : ℕ) : Type 0 where
  pub some : 1 ≤ left
  pub onward : at ≤ i
  pub so_far : {n : ℕ} → Uses (varint_f left v.last (drop i s)) n → Uses (varint_f v.most v.last (drop at s)) (i - at + n)

pub passing : (s : List ℕ) (v : Longest) (at : ℕ) → 1 ≤ v.most → Passing s v at at v.most
passing s v at h = record { some = h; onward = omega arith; so_far = λ {n} u. let e : at - at + n ≡ n = omega arith in rw e u }

uses-spelled : {i : Item} {x n : ℕ} → i ≡ spelled x n → Uses i n
uses-spelled e = record { own = _; is = e; used = refl }

module _ {s : List ℕ} {v : Longest} {at i left : ℕ} (w : Passing s v at i left) (h : i < length s) where
  passed_here : Uses (varint_f left v.last (drop i s)) 1 → PastVarint v s at (Some (i + 1))
  passed_here u = let e : at + (i - at + 1) ≡ i + 1 = omega (arith, w.onward) in passed (w.so_far u) e (omega arith)

  pub at_last : left ≡ 1 → get_or s i 0 ≤ v.last → PastVarint v s at (Some (i + 1))
  unfolding varints
  at_last e b =
      passed_here (rw (next s i h, e) (uses-spelled {x = get_or s i 0} (rw (le-leb (get_or s i 0) v.last b))))

  two-left : (left ≡ 1 → ⊥) → left ≡ suc (suc (left - 2))
  two-left ne = omega (arith, w.some)

  pub at-short : (left ≡ 1 → ⊥) → get_or s i 0 < 128 → PastVarint v s at (Some (i + 1))
  at-short ne b =
      let e = two-left ne in
      passed_here (rw (next s i h, e) (uses-spelled (varint-small (left - 2) v.last (get_or s i 0) (drop (i + 1) s) b)))

  pub go_on : (left ≡ 1 → ⊥) → 128 ≤ get_or s i 0 → Passing s v at (i + 1) (left - 1)
  go_on ne b =
      record {
        some = omega (arith, w.some);
        onward = omega (arith, w.onward);
        so_far = λ {n} u.
            let d : left - 1 ≡ suc (left - 2) = omega (arith, w.some) in
            let k : i - at + suc n ≡ i + 1 - at + n = omega (arith, w.onward) in
            rw k at (w.so_far (more (rw d at u)));
      }
    where
      on : (r : Item) {n : ℕ} → Uses r n → Uses (low (get_or s i 0) r) (suc n)
      on (Read own) u = unfold low in record { own = _; is = refl; used = (let q = u.is in let z : own.used ≡ u.own.used = cc in omega (arith, u.used)) }
      on (NotRead e) u = uses-none u

      more : {n : ℕ} → Uses (varint_f (suc (left - 2)) v.last (drop (i + 1) s)) n → Uses (varint_f left v.last (drop i s)) (suc n)
      more u =
          let e = two-left ne in
          rw (next s i h, e, varint-more (left - 2) v.last (get_or s i 0) (drop (i + 1) s) b) (on _ u)

-- ---- a row of integers

-- so many are gone past
pub record Along (s : List ℕ) (l : Layout) (from : ℕ) (bs : List ℕ) (at gone to : ℕ) : Type 0 where
  pub onward : at ≤ to
  pub inside : to ≤ length bs
  pub so_far : (m : ℕ) → m + gone ≤ most_entries → PastRow s l from gone bs at to m

module _ {s : List ℕ} {l : Layout} (g : GoodTable s l) (from width : ℕ) (f : Falls s from width l.nodes) (bs : List ℕ) (at : ℕ) where
  abbrev row_of : ℕ → ℕ → Spot → Run
  row_of from n = row_step (reading head) s l from n

  bytes-there : {to : ℕ} → at ≤ to → (past (to - at) (past at (front bs))).bytes ≡ drop to bs
  unfolding past
  bytes-there {to} h = let k : at + (to - at) ≡ to = omega arith in drop-drop (to - at) at bs ∙ ap (λ i. drop i bs) k

  none-goes : (m : ℕ) (x : Spot) → Goes (row_of from 0) m x 0 (m + 0)
  unfolding row_step shapes_at all walks read_nothing fit within past
  none-goes m x = record { made = []; ran = rw (add-zero x.place); many = refl; inside = omega arith }

  pub set_out : at ≤ length bs → Along s l from bs at 0 at
  set_out h =
      record {
        onward = omega arith;
        inside = h;
        so_far = λ m _. record { onward = omega arith; goes = goes-as refl (omega arith) (none-goes m (past at (front bs))) };
      }

  module _ {i to : ℕ} (w : Along s l from bs at i to) (some : i < width) where
    its-fall : Falls s (from + 2 * i) 1 l.nodes
    its-fall =
        record {
          inside = omega (arith, f.inside);
          below = λ c h. let e : from + 2 * i ≡ from + 2 * i + 2 * c = omega arith in rw e at (f.below i some);
        }

    pub child-inside : from + 2 * i + 2 ≤ length s
    child-inside = omega (arith, its-fall.inside)

    pub child-below : u16_at s (from + 2 * i) < l.nodes
    child-below = rw (add-zero (from + 2 * i)) at (its-fall.below 0 (omega arith))

    one_more : {number : ℕ} {v : Longest} {n r : ℕ} → number ≡ (node_at s (record_of l (u16_at s (from + 2 * i)))).number → IsVarint number v → Uses (varint_f v.most v.last (drop to bs)) n → to + n ≡ r → r ≤ length bs
        → (m : ℕ) → m + (i + 1) ≤ most_entries → PastRow s l from (i + 1) bs at r m
    one_more {number} {v} {n} {r} e k u q few m room =
        let a = w.so_far m (omega arith) in
        let x = past at (front bs) in
        let d = bytes-there a.onward in
        let b = leaf-goes g (from + 2 * i) its-fall (ap kind_of (sym e) ∙ k.kind) {m = m + i} {n = n} (past (to - at) x) (omega arith) (rw (d, length-drop to bs) (omega arith)) (rw d (k.fits (drop to bs) u)) in
        let c = goes_then (row_of from i) (row_of (from + 2 * i) 1) m x a.goes b in
        let size : to - at + n ≡ r - at = (let h = a.onward in omega arith) in
        record {
          onward = (let h = a.onward in omega arith);
          goes = rw (← many m) (goes-as (row-split s l i 1 from x) size c);
        }
      where
        many : (m : ℕ) → m + i + 1 ≡ m + (i + 1)
        many m = omega arith

    pub go-along : {number r : ℕ} {v : Longest} {o : Option Longest} {p : Option ℕ} → number ≡ (node_at s (record_of l (u16_at s (from + 2 * i)))).number → LongestOf number o → o ≡ Some v → PastVarint v bs to p → p ≡ Some r
        → Along s l from bs at (i + 1) r
    go-along {number} {r} {v} e a some-v b some-r = go (rw some-v at a) (rw some-r at b)
      where
        go : LongestOf number (Some v) → PastVarint v bs to (Some r) → Along s l from bs at (i + 1) r
        go (is k) (passed u q few) =
            record {
              onward = omega (arith, w.onward);
              inside = few;
              so_far = λ m room. one_more e k u q few m room;
            }

  pub all-gone : {i to : ℕ} → Along s l from bs at i to → i ≡ width → PastInts s l from width bs at (Some to)
  all-gone {i} w e = gone w.inside (rw e at w.so_far)

pub some_byte : {number : ℕ} {v : Longest} {o : Option Longest} → LongestOf number o → o ≡ Some v → 1 ≤ v.most
some_byte {number} {v} w e = go (rw e at w)
  where
    go : LongestOf number (Some v) → 1 ≤ v.most
    go (is k) = k.some

-- the kind of a node whose number is a child's
pub of-child : (s : List ℕ) (l : Layout) (at : ℕ) {i number : ℕ} → i ≡ u16_at s at → number ≡ (node_at s (record_of l i)).number → number ≡ (node_at s (record_of l (u16_at s at))).number
of-child s l at e k = k ∙ ap (λ i. (node_at s (record_of l i)).number) e

-- ---- a key field of at most four bytes

module _ (k top : ℕ) (s : List ℕ) (at : ℕ) (h : at < length s) where
  ends-here : get_or s at 0 < 128 → varint_f (suc (suc k)) top (drop at s) ≡ spelled (get_or s at 0) 1
  ends-here b = rw (next s at h) (varint-small k top (get_or s at 0) (drop (at + 1) s) b)

  ends-behind : {x n : ℕ} → 128 ≤ get_or s at 0 → varint_f (suc k) top (drop (at + 1) s) ≡ spelled x n → varint_f (suc (suc k)) top (drop at s) ≡ spelled (get_or s at 0 % 128 + 128 * x) (n + 1)
  ends-behind b e = rw (next s at h) (varint-more k top (get_or s at 0) (drop (at + 1) s) b ∙ ap (low (get_or s at 0)) e ∙ (unfold low in refl))

module _ (narrow : Bool) (s : List ℕ) (at : ℕ) (h : at + 4 ≤ length s) where
  read-so : {x n word behind : ℕ} → ((k top : ℕ) → varint_f (suc (suc (suc (suc (suc k))))) top (drop at s) ≡ spelled x n) → x ≡ word → at + n ≡ behind → behind ≤ length s
      → PastKey narrow s at (Some (record { word = word; behind = behind }))
  read-so {x} {n} f e q few = reads (record { own = _; taken = go narrow; word = e; behind = q; inside = few })
    where
      go : (b : Bool) → varint (key_width b) (drop at s) ≡ spelled x n
      go true = unfold varint key_width most last in f 0 15
      go false = unfold varint key_width most last in f 5 1

  pub in_one : get_or s at 0 < 128 → PastKey narrow s at (Some (record { word = get_or s at 0; behind = at + 1 }))
  in_one a = read-so (λ k top. ends-here (suc (suc (suc k))) top s at (omega arith) a) refl refl (omega arith)

  pub in_two : 128 ≤ get_or s at 0 → get_or s (at + 1) 0 < 128 → PastKey narrow s at (Some (record { word = get_or s at 0 % 128 + 128 * (get_or s (at + 1) 0 % 128); behind = at + 2 }))
  in_two a b =
      read-so (λ k top. ends-behind (suc (suc (suc k))) top s at (omega arith) a (ends-here (suc (suc k)) top s (at + 1) (omega arith) b))
      (rw (mod-eq_of_lt b)) refl (omega arith)

  pub in_three : 128 ≤ get_or s at 0 → 128 ≤ get_or s (at + 1) 0 → get_or s (at + 2) 0 < 128
      → PastKey narrow s at (Some (record { word = get_or s at 0 % 128 + 128 * (get_or s (at + 1) 0 % 128) + 16384 * (get_or s (at + 2) 0 % 128); behind = at + 3 }))
  in_three a b c =
      read-so (λ k top. ends-behind (suc (suc (suc k))) top s at (omega arith) a (ends-behind (suc (suc k)) top s (at + 1) (omega arith) b (third k top)))
      (rw (mod-eq_of_lt c) (omega arith)) refl (omega arith)
    where
      third : (k top : ℕ) → varint_f (suc (suc (suc k))) top (drop (at + 1 + 1) s) ≡ spelled (get_or s (at + 2) 0) 1
      third k top = let e : at + 1 + 1 ≡ at + 2 = omega arith in rw e (ends-here (suc k) top s (at + 2) (omega arith) c)

  pub in_four : 128 ≤ get_or s at 0 → 128 ≤ get_or s (at + 1) 0 → 128 ≤ get_or s (at + 2) 0 → get_or s (at + 3) 0 < 128
      → PastKey narrow s at
      (Some (record { word = get_or s at 0 % 128 + 128 * (get_or s (at + 1) 0 % 128) + 16384 * (get_or s (at + 2) 0 % 128) + 2097152 * (get_or s (at + 3) 0 % 128); behind = at + 4 }))
  in_four a b c d =
      read-so (λ k top. ends-behind (suc (suc (suc k))) top s at (omega arith) a (ends-behind (suc (suc k)) top s (at + 1) (omega arith) b (third k top)))
      (rw (mod-eq_of_lt d) (omega arith)) refl (omega arith)
    where
      fourth : (k top : ℕ) → varint_f (suc (suc k)) top (drop (at + 2 + 1) s) ≡ spelled (get_or s (at + 3) 0) 1
      fourth k top = let e : at + 2 + 1 ≡ at + 3 = omega arith in rw e (ends-here k top s (at + 3) (omega arith) d)

      third : (k top : ℕ) → varint_f (suc (suc (suc k))) top (drop (at + 1 + 1) s) ≡ spelled (get_or s (at + 2) 0 % 128 + 128 * get_or s (at + 3) 0) 2
      third k top = let e : at + 1 + 1 ≡ at + 2 = omega arith in rw e (ends-behind (suc k) top s (at + 2) (omega arith) c (fourth k top))

-- any other
module _ (narrow : Bool) (s : List ℕ) (at : ℕ) where
  pub more-inside : {own : Own} → at ≤ length s → varint (key_width narrow) (take (length s - at) (drop at s)) ≡ Read own → at + own.used ≤ length s
  more-inside h e = omega (arith, (took_in (key_width narrow) _ e).within, length-tail s at)

  pub in-more : {own : Own} → at ≤ length s → varint (key_width narrow) (take (length s - at) (drop at s)) ≡ Read own → PastKey narrow s at (Some (record { word = own.first; behind = at + own.used }))
  in-more {own} h e = reads (record { own = own; taken = ap (varint (key_width narrow)) (sym (tail s at)) ∙ e; word = refl; behind = refl; inside = more-inside h e })

-- ---- both key fields, and the fields behind them

ints-gone : {s : List ℕ} {l : Layout} {from width : ℕ} {bs : List ℕ} {at r : ℕ} {o : Option ℕ} → PastInts s l from width bs at o → o ≡ Some r → (r ≤ length bs) × ((m : ℕ) → m + width ≤ most_entries → PastRow s l from width bs at r m)
ints-gone {s} {l} {from} {width} {bs} {at} {r} w e = go (rw e at w)
  where
    go : PastInts s l from width bs at (Some r) → (r ≤ length bs) × ((m : ℕ) → m + width ≤ most_entries → PastRow s l from width bs at r m)
    go (gone few rows) = (few, rows)

pub ints-inside : {s : List ℕ} {l : Layout} {from width : ℕ} {bs : List ℕ} {at r : ℕ} {o : Option ℕ} → PastInts s l from width bs at o → o ≡ Some r → r ≤ length bs
ints-inside w e = (ints-gone w e).0

pub key-read : {narrow : Bool} {s : List ℕ} {at : ℕ} {t : Taken} {o : Option Taken} → PastKey narrow s at o → o ≡ Some t → Reads narrow s at t
key-read {narrow} {s} {at} {t} w e = go (rw e at w)
  where
    go : PastKey narrow s at (Some t) → Reads narrow s at t
    go (reads r) = r

module _ (s : List ℕ) (l : Layout) (f : Fields) (bs : List ℕ) (kb : KeyedBy s l f) where
  abbrev from₂ : ℕ
  from₂ = f.from + 2 * (f.before + 1)

  -- where the bytes stand behind a place
  stands : (p : ℕ) → past p (front bs) ≡ spot (take (length bs - p) (drop p bs)) p
  unfolding past
  stands p = rw (tail bs p, zero-add p)

  at_front : past 0 (front bs) ≡ front bs
  unfolding past
  at_front = refl

  module _ {first second : ℕ} {one other : Taken} {o₁ o₂ : Option ℕ} {t₁ t₂ : Option Taken} (a : PastInts s l f.from f.before bs 0 o₁) (ha : o₁ ≡ Some first) (j : PastKey f.ahead bs first t₁) (hj : t₁ ≡ Some one)
      (b : PastInts s l from₂ f.between bs one.behind o₂) (hb : o₂ ≡ Some second) (k : PastKey (not f.ahead) bs second t₂) (hk : t₂ ≡ Some other) where
    first-words : 1 + f.before < most_entries → Words s l f.from f.before 1 (front bs) (Took one.word one.behind (1 + f.before + 1))
    first-words room =
        let r = key-read j hj in
        let n : first - 0 ≡ first = omega arith in
        let g = goes_at at_front (goes-as refl n ((ints-gone a ha).1 1 (omega arith)).goes) in
        rw (r.word, r.behind) at (word-took kb.good f.from f.before 1 (front bs) f.ahead (first-falls s l f kb) kb.first {n = first} g room (zero-add first) r.taken)

    second-words : 1 + f.before + 1 + f.between < most_entries → Words s l from₂ f.between (1 + f.before + 1) (spot (take (length bs - one.behind) (drop one.behind bs)) one.behind) (Took other.word other.behind (f.before + f.between + 3))
    second-words room =
        let r = key-read k hk in
        let g = (ints-gone b hb).1 (1 + f.before + 1) (omega arith) in
        let n : one.behind + (second - one.behind) ≡ second = (let h = g.onward in omega arith) in
        let q : drop (second - one.behind) (take (length bs - one.behind) (drop one.behind bs)) ≡ drop second bs = ap (drop (second - one.behind)) (tail bs one.behind) ∙ drop-drop (second - one.behind) one.behind bs ∙ ap (λ i. drop i bs) n in
        let c : 1 + f.before + 1 + f.between + 1 ≡ f.before + f.between + 3 = omega arith in
        rw (r.word, r.behind, c) at (word-took kb.good from₂ f.between (1 + f.before + 1) _ (not f.ahead) (second-falls s l f kb) kb.second (goes_at (stands one.behind) g.goes) room n (ap (varint (key_width (not f.ahead))) q ∙ r.taken))

    pub both-past : {key : Key} → key ≡ key_by f.ahead one.word other.word → PastKeys s l f bs (Some (record { key = key; place = other.behind; count = f.before + f.between + 3 }))
    both-past e =
        keyed (key-read k hk).inside refl (λ room. record {
          one = one.word;
          other = other.word;
          place = one.behind;
          count = 1 + f.before + 1;
          first = first-words (omega arith);
          second = second-words (omega arith);
          its_key = e;
        })

  -- what is begun by them
  module _ {o : Option Begun} {b : Begun} (k : PastKeys s l f bs o) (is : o ≡ Some b) where
    pub keys-inside : b.place ≤ length bs
    keys-inside = go (rw is at k)
      where
        go : PastKeys s l f bs (Some b) → b.place ≤ length bs
        go (keyed few many w) = few

    keys-many : b.count ≡ f.before + f.between + 3
    keys-many = go (rw is at k)
      where
        go : PastKeys s l f bs (Some b) → b.count ≡ f.before + f.between + 3
        go (keyed few many w) = many

    pub keys-begin : f.before + f.between + 2 < most_entries → Begins s l f bs b
    keys-begin room = go (rw is at k)
      where
        go : PastKeys s l f bs (Some b) → Begins s l f bs b
        go (keyed few many w) = w room

    pub all_past : f.before + f.between + 3 + f.behind ≤ most_entries → {p : Option ℕ} {end : ℕ} → PastInts s l (f.from + 2 * (f.before + f.between + 2)) f.behind bs b.place p → p ≡ Some end
        → Message b.key end ≡ next_answer (next_of (keys_of s l f) bs)
    all_past room {end = end} a e =
        let c = keys-many in
        let w = (ints-gone a e).1 b.count (omega arith) in
        let n : b.place + (end - b.place) ≡ end = (let o = w.onward in omega arith) in
        finish-message s l f bs kb (keys-begin (omega arith)) (done_at n (goes_at (stands b.place) w.goes))

-- ---- what the code requires

module _ (s : List ℕ) (l : Layout) (f : Fields) (kb : KeyedBy s l f) where
  pub before_falls : Falls s f.from f.before l.nodes
  before_falls = falls-fewer kb.good (first-falls s l f kb)

  pub between-falls : Falls s (f.from + 2 * (f.before + 1)) f.between l.nodes
  between-falls = falls-fewer kb.good (second-falls s l f kb)

  pub behind-falls : Falls s (f.from + 2 * (f.before + f.between + 2)) f.behind l.nodes
  behind-falls = let e : f.from + 2 * (f.before + f.between + 2) ≡ f.from + 2 * (f.before + 1) + 2 * (f.between + 1) = omega arith in rw e (third-falls s l f kb)

  pub few-fields : f.from + 2 * (f.before + f.between + f.behind + 2) ≤ length s
  few-fields = unfold field_count in omega (arith, kb.falls.inside)
