-- A message that has the key fields has bytes, so that each is one step of `split`, and the steps from the front are all of it.
-- Assumes nothing.
use mathlib.Core.Path.{◌≡◌, refl, sym, ap, ◌∙◌, subst}
use mathlib.Core.Bool.{true, false}
use mathlib.Core.List.{List, [], ◌∷◌, ◌++◌, append_assoc, append-nil}
use Prim.Native.Nat.{ℕ, zero, suc, ◌+◌, ◌<◌, ◌≤◌}
use native.Mathlib.Nat.{add_assoc, zero-add}
use native.Mathlib.Omega.{arith}
use lib.ListN.{length, length-append}
use lib.Seq.{length-take-le}
use Rattle.wire.specs.declared.Refusal.{Refusal}
use Rattle.wire.specs.Item.{Took}
use Rattle.wire.specs.Tests.{pick}
use Rattle.wire.specs.Shape.{Width, w32, unsigned, int, plain, struct, same_kind, Shape, node, Shapes}
use Rattle.wire.specs.Shape as shapes
use Rattle.wire.specs.Walk.{following, all, times, along, walk, walks}
use Rattle.wire.specs.Numbers.{varint}
use Rattle.wire.specs.Values.{Entry}
use Rattle.wire.specs.Reading.{Spot, front, reached, head, read_plain, read_nothing, past, reading, read}
use Rattle.laws.specs.Steps.{row}
use Rattle.laws.proofs.Splits.{by-test, both_left, both_right, not-both}
use Rattle.laws.proofs.Items.{on-unsigned}
use Rattle.laws.proofs.Varints.{took_in}
use Rattle.laws.proofs.Runs.{then-read, item-read, same_spot}
use Rattle.laws.proofs.Shorter.{read-shortens, row-shortens}
use Rattle.desk.specs.Messages.{fields_of, is_of, has_field, Keyed, is_keyed, Message, Cut, next, stops, next_of, Split, whole, broken, onto, split_on, unless_ended, split_f, split, joined, rows_of}
use Rattle.laws.proofs.Numbering.{same_kind_lem}
use Rattle.batches.proofs.Ends.{next-length}
use Rattle.batches.proofs.Recut.{next-ran, fields_read}

-- ---- a message has bytes

module _ (w : Width) where
  field-goes : (us : Shapes) (x y : Spot) (es : List Entry) → read (node (plain (int unsigned w)) us) x ≡ record { made = es; ends = reached y } → x.place < y.place
  unfolding read walk head read_plain following along times read_nothing past
  field-goes us x y es e =
      let r = item-read head (plain (int unsigned w)) _ _ x es y e in
      let is : varint w x.bytes ≡ Took r.own = sym (on-unsigned (varint w x.bytes)) ∙ r.took in
      let took = took_in w x.bytes is in
      let ends : past r.own.used x ≡ y = same_spot (ap (λ r. r.ends) r.inside) in
      let at : x.place + r.own.used ≡ y.place = ap (λ (z : Spot). z.place) ends in
      omega (arith, took.some)

  is_of-goes : (t : Shape) (x y : Spot) (es : List Entry) → is_of (plain (int unsigned w)) t ≡ true → read t x ≡ record { made = es; ends = reached y } → x.place < y.place
  unfolding is_of
  is_of-goes (node l us) x y es q = subst (λ k. read (node k us) x ≡ record { made = es; ends = reached y } → x.place < y.place) (same_kind_lem (plain (int unsigned w)) l q) (field-goes us x y es)

  row_goes : (ts : Shapes) (i : ℕ) (x z : Spot) (es : List Entry) → has_field (plain (int unsigned w)) ts i ≡ true → row (reading head) ts x ≡ record { made = es; ends = reached z } → x.place < z.place
  unfolding has_field all walks read
  row_goes shapes.none i x z es q e = not-both q refl
  row_goes (shapes.more t ts) zero x z es q e =
      let r = then-read (read t) (row (reading head) ts) x es z e in
      omega (arith, is_of-goes t x r.between _ q r.first, (row-shortens ts).on r.between z _ r.second)
  row_goes (shapes.more t ts) (suc i) x z es q e =
      let r = then-read (read t) (row (reading head) ts) x es z e in
      omega (arith, (read-shortens t).on x r.between _ r.first, row_goes ts i r.between z _ q r.second)

root-goes : (t : Shape) (i : ℕ) (s : List ℕ) (es : List Entry) (z : Spot) → has_field (plain (int unsigned w32)) (fields_of t) i ≡ true → read t (front s) ≡ record { made = es; ends = reached z } → 0 < z.place
unfolding fields_of
root-goes (node k ts) i s es z h e = by-test (same_kind k struct) (λ q. yes-struct q) (λ q. no-struct q)
  where
    no-struct : same_kind k struct ≡ false → 0 < z.place
    no-struct q = unfold pick has_field in not-both (rw q at h) refl

    yes-struct : same_kind k struct ≡ true → 0 < z.place
    yes-struct q = row_goes w32 ts i (front s) z _ (unfold pick in (rw q at h)) (fields_read ts s (rw (same_kind_lem k struct q) at e))

pub next-some : (k : Keyed) (s : List ℕ) {m : Message} {rest : List ℕ} → is_keyed k ≡ true → next_of k s ≡ next m rest → 0 < length m.bytes
unfolding is_keyed
next-some k s {m} ok e =
    let r = next-ran k s e in
    let go = root-goes k.shape k.store s r.es r.x (both_right _ _ (both_left _ _ ok)) r.ran in
    let kept = (read-shortens k.shape).keeps (front s) r.x r.es r.ran in
    let size : length m.bytes ≡ r.x.place = ap length (sym r.own) ∙ length-take-le r.x.place s (omega arith) in
    omega arith

-- ---- one step

module _ (k : Keyed) (ok : is_keyed k ≡ true) where
  -- any count that is no less than the bytes will do
  enough : (n n' : ℕ) (s : List ℕ) → length s ≤ n → length s ≤ n' → split_f n k s ≡ split_f n' k s
  unfolding split_f unless_ended
  enough zero zero s h h' = refl
  enough zero (suc n') [] h h' = refl
  enough zero (suc n') (b ∷ s) h h' = absurd (omega arith)
  enough (suc n) zero [] h h' = refl
  enough (suc n) zero (b ∷ s) h h' = absurd (omega arith)
  enough (suc n) (suc n') [] h h' = refl
  enough (suc n) (suc n') (b ∷ s) h h' = go (next_of k (b ∷ s)) refl (λ rest a c. enough n n' rest a c)
    where
      go : (c : Cut) → next_of k (b ∷ s) ≡ c → ((rest : List ℕ) → length rest ≤ n → length rest ≤ n' → split_f n k rest ≡ split_f n' k rest)
          → split_on c (λ rest. split_f n k rest) ≡ split_on c (λ rest. split_f n' k rest)
      go (stops e p) q ih = unfold split_on in refl
      go (next m rest) q ih = unfold split_on in ap (onto m) (ih rest (fewer n h) (fewer n' h'))
        where
          fewer : (n : ℕ) → length (b ∷ s) ≤ suc n → length rest ≤ n
          fewer n h = omega (arith, next-some k (b ∷ s) ok q, next-length k (b ∷ s) q)

  pub split-on : (s : List ℕ) → 0 < length s → split k s ≡ split_on (next_of k s) (λ rest. split k rest)
  unfolding split
  split-on [] h = absurd (omega arith)
  split-on (b ∷ s) h = go (next_of k (b ∷ s)) refl
    where
      first : split_f (length (b ∷ s)) k (b ∷ s) ≡ split_on (next_of k (b ∷ s)) (λ rest. split_f (length s) k rest)
      first = unfold split_f unless_ended in refl

      go : (c : Cut) → next_of k (b ∷ s) ≡ c → split_f (length (b ∷ s)) k (b ∷ s) ≡ split_on (next_of k (b ∷ s)) (λ rest. split_f (length rest) k rest)
      go (stops e p) q = first ∙ rw q (unfold split_on in refl)
      go (next m rest) q = first ∙ rw q (unfold split_on in ap (onto m) (enough (length s) (length rest) rest (omega (arith, next-some k (b ∷ s) ok q, next-length k (b ∷ s) q)) (omega arith)))

pub split-none : (k : Keyed) (s : List ℕ) → length s ≤ 0 → split k s ≡ whole []
unfolding split split_f unless_ended
split-none k [] h = refl
split-none k (b ∷ s) h = absurd (omega arith)

-- ---- steps from the front

-- messages, and then what is split behind them
unfoldable pub ontos : List Message → Split → Split
ontos [] x = x
ontos (m ∷ ms) x = onto m (ontos ms x)

pub ontos-one : (ms : List Message) (m : Message) (x : Split) → ontos (ms ++ (m ∷ [])) x ≡ ontos ms (onto m x)
unfolding ontos
ontos-one [] m x = refl
ontos-one (n ∷ ms) m x = ap (onto n) (ontos-one ms m x)

pub ontos-whole : (ms rs : List Message) → ontos ms (whole rs) ≡ whole (ms ++ rs)
unfolding ontos onto
ontos-whole [] rs = refl
ontos-whole (m ∷ ms) rs = rw (ontos-whole ms rs)

pub ontos-broken : (ms : List Message) (e : Refusal) (p : ℕ) → ontos ms (broken e p) ≡ broken e (length (joined ms) + p)
unfolding ontos onto joined
ontos-broken [] e p = ap (broken e) (sym (zero-add p))
ontos-broken (m ∷ ms) e p = rw (ontos-broken ms e p, length-append m.bytes (joined ms), add_assoc (length m.bytes) (length (joined ms)) p)

pub joined-one : (ms : List Message) (m : Message) → joined (ms ++ (m ∷ [])) ≡ joined ms ++ m.bytes
unfolding joined
joined-one [] m = append-nil m.bytes
joined-one (n ∷ ms) m = rw (joined-one ms m, append_assoc n.bytes (joined ms) m.bytes)

-- the row of one more message
pub rows-one : (at : ℕ) (ms : List Message) (m : Message) → rows_of at (ms ++ (m ∷ [])) ≡ rows_of at ms ++ (record { key = m.key; offset = at + length (joined ms) } ∷ [])
unfolding rows_of joined
rows-one at [] m = let e : at ≡ at + 0 = omega arith in ap (λ o. record { key = m.key; offset = o } ∷ []) e
rows-one at (n ∷ ms) m =
    rw (rows-one (at + length n.bytes) ms m, length-append n.bytes (joined ms), add_assoc at (length n.bytes) (length (joined ms)))
