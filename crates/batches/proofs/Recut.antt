-- A message is the same message, whatever stands behind it.
-- Assumes nothing.
use mathlib.Core.Path.{◌≡◌, refl, sym, ap, ◌∙◌}
use mathlib.Core.Bool.{true, false}
use mathlib.Core.List.{List, ◌++◌}
use Prim.Native.Nat.{ℕ, zero, suc, ◌+◌, ◌≤◌}
use native.Mathlib.Omega.{arith}
use lib.ListN.{length, take, drop}
use lib.Seq.{take_at, drop_at, length-take-le}
use Rattle.wire.specs.Tests.{pick}
use Rattle.wire.specs.Shape.{struct, same_kind, Shape, node, Shapes}
use Rattle.wire.specs.Shape as shapes
use Rattle.wire.specs.Walk.{following, all, times, along, walk, walks}
use Rattle.wire.specs.Values.{Entry}
use Rattle.wire.specs.Reading.{Spot, front, Outcome, reached, refused, head, run_after, read_then, past, enter, read_item, reading, read, fit}
use Rattle.laws.specs.Steps.{row}
use Rattle.laws.specs.Longer.{longer}
use Rattle.laws.proofs.Splits.{by-test}
use Rattle.laws.proofs.Runs.{fit-reached, within-reached, then-nothing, then-read}
use Rattle.laws.proofs.Longer.{longer-reads}
use Rattle.laws.proofs.Shorter.{read-shortens, row-shortens}
use Rattle.laws.specs.Shorter.{Back}
use Rattle.desk.specs.Path.{most_entries}
use Rattle.desk.specs.Messages.{fields_of, Keyed, first_word, onward, word_at, key_of, skim, Message, next, next_by, next_of}
use Rattle.laws.proofs.Numbering.{same_kind_lem}
use Rattle.batches.proofs.Ends.{next-joins}

-- ---- the words of fields

-- the first of some fields, without what stands behind them all, and the others
record First (t : Shape) (ts : Shapes) (x : Spot) (extra : List ℕ) (z : Spot) : Type 0 where
  y : Spot
  ran : read t x ≡ record { made = (read t (longer extra x)).made; ends = reached y }
  long : (read t (longer extra x)).ends ≡ reached (longer extra y)
  rest : row (reading head) ts (longer extra y) ≡ record { made = (row (reading head) ts (longer extra y)).made; ends = reached z }
  left : z.place ≤ y.place + length y.bytes

first_back : (t : Shape) (ts : Shapes) (x : Spot) (extra : List ℕ) (es : List Entry) (z : Spot) → row (reading head) (shapes.more t ts) (longer extra x) ≡ record { made = es; ends = reached z }
    → z.place ≤ x.place + length x.bytes → First t ts x extra z
unfolding all walks read_then read
first_back t ts x extra es z e l =
    let two = then-read (read t) (row (reading head) ts) (longer extra x) es z e in
    let y = two.between in
    let on = (row-shortens ts).on y z _ two.second in
    let b = (read-shortens t).back x extra y _ two.first (omega arith) in
    let kept = (read-shortens t).keeps x b.y _ b.ran in
    let kept' = (row-shortens ts).keeps y z _ two.second in
    record {
      y = b.y;
      ran = b.ran ∙ ap (λ es. record { made = es; ends = reached b.y }) (ap (λ r. r.made) (sym two.first));
      long = ap (λ r. r.ends) two.first ∙ ap reached b.end;
      rest = rw b.end at (second y two.second);
      left = omega arith;
    }
  where
    second : (y : Spot) {fs : List Entry} → row (reading head) ts y ≡ record { made = fs; ends = reached z } → row (reading head) ts y ≡ record { made = (row (reading head) ts y).made; ends = reached z }
    second y q = ap (λ o. record { made = (row (reading head) ts y).made; ends = o }) (ap (λ r. r.ends) q)

words_back : (ts : Shapes) (i : ℕ) (x : Spot) (extra : List ℕ) (es : List Entry) (z : Spot) → row (reading head) ts (longer extra x) ≡ record { made = es; ends = reached z }
    → z.place ≤ x.place + length x.bytes → word_at ts i (longer extra x) ≡ word_at ts i x
unfolding word_at onward
words_back shapes.none i x extra es z e l = refl
words_back (shapes.more t ts) zero x extra es z e l = let f = first_back t ts x extra es z e l in ap first_word (ap (λ r. r.made) (sym f.ran))
words_back (shapes.more t ts) (suc i) x extra es z e l =
    let f = first_back t ts x extra es z e l in
    rw (f.long, ap (λ r. r.ends) f.ran) (words_back ts i f.y extra _ z f.rest f.left)

-- a struct's fields are read where it is
pub fields_read : (ts : Shapes) (s : List ℕ) {es : List Entry} {z : Spot} → read (node struct ts) (front s) ≡ record { made = es; ends = reached z }
    → row (reading head) ts (front s) ≡ record { made = (row (reading head) ts (front s)).made; ends = reached z }
unfolding read walk read_item head enter run_after following along times past
fields_read ts s e = ap (λ o. record { made = (row (reading head) ts (front s)).made; ends = o }) (ap (λ r. r.ends) (sym (then-nothing (row (reading head) ts) (front s))) ∙ ap (λ r. r.ends) e)

-- the key of a message is its own bytes'
module _ (extra b : List ℕ) (es : List Entry) (z : Spot) (whole : z.place ≤ length b) where
  field_back : (t : Shape) (i : ℕ) → read t (front (b ++ extra)) ≡ record { made = es; ends = reached z }
      → word_at (fields_of t) i (front (b ++ extra)) ≡ word_at (fields_of t) i (front b)
  unfolding fields_of
  field_back (node k ts) i e = by-test (same_kind k struct) (λ q. yes-struct q) (λ q. no-struct q)
    where
      no-struct : same_kind k struct ≡ false → word_at (pick (same_kind k struct) ts shapes.none) i (front (b ++ extra)) ≡ word_at (pick (same_kind k struct) ts shapes.none) i (front b)
      no-struct q = unfold pick word_at in rw q

      yes-struct : same_kind k struct ≡ true → word_at (pick (same_kind k struct) ts shapes.none) i (front (b ++ extra)) ≡ word_at (pick (same_kind k struct) ts shapes.none) i (front b)
      yes-struct q =
          unfold pick longer in
          rw q (words_back ts i (front b) extra _ z (fields_read ts (b ++ extra) (rw (same_kind_lem k struct q) at e)) (omega arith))

  key_back : (k : Keyed) → read k.shape (front (b ++ extra)) ≡ record { made = es; ends = reached z } → key_of k (b ++ extra) ≡ key_of k b
  unfolding key_of
  key_back k e = rw (field_back k.shape k.store e, field_back k.shape k.product e)

-- ---- messages

-- what the next message was read as
pub record Ran (k : Keyed) (s : List ℕ) (m : Message) (rest : List ℕ) : Type 0 where
  pub es : List Entry
  pub x : Spot
  pub ran : read k.shape (front s) ≡ record { made = es; ends = reached x }
  pub few : length es ≤ most_entries
  pub own : take x.place s ≡ m.bytes
  pub behind : drop x.place s ≡ rest
  pub key : key_of k s ≡ m.key

pub next-ran : (k : Keyed) (s : List ℕ) {m : Message} {rest : List ℕ} → next_of k s ≡ next m rest → Ran k s m rest
unfolding next_of skim next_by
next-ran k s e = go (skim k.shape s).ends refl e
  where
    go : (o : Outcome) {m : Message} {rest : List ℕ} → (skim k.shape s).ends ≡ o → next_by k s o ≡ next m rest → Ran k s m rest
    go (refused r p) q e = let z : ◌≡◌ {A = ℕ} 0 1 = cc in absurd (omega arith)
    go (reached x) q e =
        let r : fit most_entries (read k.shape (front s)) ≡ record { made = (fit most_entries (read k.shape (front s))).made; ends = reached x } = ap (λ o. record { made = (fit most_entries (read k.shape (front s))).made; ends = o }) q in
        let f = fit-reached most_entries (read k.shape (front s)) _ x r in
        record { es = (fit most_entries (read k.shape (front s))).made; x = x; ran = f.1; few = f.0; own = cc; behind = cc; key = cc }

pub ran-next : (k : Keyed) (s : List ℕ) (es : List Entry) (x : Spot) → read k.shape (front s) ≡ record { made = es; ends = reached x } → length es ≤ most_entries
    → next_of k s ≡ next (record { key = key_of k s; bytes = take x.place s }) (drop x.place s)
unfolding next_of next_by skim fit
ran-next k s es x e l = rw (e, within-reached most_entries es x l)

-- whatever else stands behind it
module _ (k : Keyed) (s : List ℕ) (m : Message) (rest other : List ℕ) (joins : m.bytes ++ rest ≡ s) (a : Ran k s m rest) where
  kept : a.x.place + length a.x.bytes ≡ length s
  kept = let h = (read-shortens k.shape).keeps (front s) a.x a.es a.ran in omega arith

  size : length m.bytes ≡ a.x.place
  size = ap length (sym a.own) ∙ length-take-le a.x.place s (let h = kept in omega arith)

  short : Back (read k.shape) (front m.bytes) rest a.es a.x
  short = (read-shortens k.shape).back (front m.bytes) rest a.x a.es long (let h = size in omega arith)
    where
      long : read k.shape (longer rest (front m.bytes)) ≡ record { made = a.es; ends = reached a.x }
      long = unfold longer in rw joins a.ran

  long : read k.shape (front (m.bytes ++ other)) ≡ record { made = a.es; ends = reached (longer other short.y) }
  long = unfold longer in longer-reads k.shape (front m.bytes) short.y other a.es short.ran

  size-y : length m.bytes ≡ (longer other short.y).place
  size-y = unfold longer in (size ∙ ap (λ (x : Spot). x.place) short.end)

  same_key_lem : key_of k (m.bytes ++ other) ≡ m.key
  same_key_lem =
      key_back other m.bytes a.es (longer other short.y) (let h = size-y in omega arith) k long
      ∙ sym (key_back rest m.bytes a.es a.x (let h = size in omega arith) k (rw joins a.ran)) ∙ (rw joins a.key)

  ran-behind : next_of k (m.bytes ++ other) ≡ next m other
  ran-behind =
      ran-next k (m.bytes ++ other) a.es (longer other short.y) long a.few
      ∙ rw (take_at m.bytes other _ size-y, drop_at m.bytes other _ size-y, same_key_lem)

pub next-behind : (k : Keyed) (s : List ℕ) {m : Message} {rest : List ℕ} (other : List ℕ) → next_of k s ≡ next m rest → next_of k (m.bytes ++ other) ≡ next m other
next-behind k s {m} {rest} other e = ran-behind k s m rest other (next-joins k s e) (next-ran k s e)
