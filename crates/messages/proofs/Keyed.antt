-- The next message: up to its first key field, up to its second, and the others behind it.
-- Assumes nothing.
use mathlib.Core.Path.{◌≡◌, refl, sym, ap, ◌∙◌}
use mathlib.Core.Bool.{Bool, true, false}
use mathlib.Core.List.{List}
use Prim.Native.Nat.{ℕ, suc, ◌+◌, ◌-◌, ◌*◌, ◌≤◌, ◌<◌}
use native.Mathlib.Nat.{zero-add}
use native.Mathlib.Omega.{arith}
use lib.ListN.{length, take, drop}
use lib.Seq.{length-take-le}
use lib.Dec.{eqb}
use borrow.Author.Tests.{eq-eqb, ne_eqb}
use Rattle.wire.specs.declared.Layout.{Layout}
use Rattle.std.specs.Prelude.{Result, Ok, Err}
use Rattle.wire.specs.declared.Reached.{Reached}
use Rattle.wire.specs.declared.Refusal.{Refusal}
use Rattle.wire.specs.declared.RefusedAt.{RefusedAt}
use Rattle.wire.specs.Tests.{pick, both, decided}
use Rattle.wire.specs.Shape.{struct, same_kind, node, Shapes, count}
use Rattle.wire.specs.Walk.{following, times, along, walk, walks}
use Rattle.wire.specs.Table.{shapes_at, shape_of}
use Rattle.wire.specs.Reading.{Spot, front, reached, refused, Run, head, run_after, read_then, past, enter, read_item, reading, read, fit}
use Rattle.laws.specs.Steps.{row}
use Rattle.laws.specs.Tables.{node_shape}
use Rattle.laws.proofs.Runs.{fit-item, then-nothing}
use Rattle.laws.proofs.Parts.{tail, length-tail}
use Rattle.table.specs.Parts.{Falls, row_step}
use Rattle.read_item.specs.Steps.{spot}
use Rattle.reader.specs.Steps.{answer_behind}
use Rattle.desk.specs.declared.Key.{Key}
use Rattle.desk.specs.Path.{most_entries}
use Rattle.desk.specs.Rows.{same_key}
use Rattle.desk.specs.Messages.{Keyed, Message as Sent, fields_of, word_at, key_of, skim, next, next_by, next_of}
use Rattle.batches.proofs.Keys.{next-key}
use Rattle.messages.specs.declared.Fields.{Fields}
use Rattle.messages.specs.Word.{Word}
use Rattle.messages.specs.Word.{Took}
use Rattle.messages.specs.declared.Begun.{Begun}
use Rattle.messages.specs.NextMessage.{Message, Stops}
use Rattle.messages.specs.Fields.{field_count, first_place, second_place, keys_of, key_by, HasKey, KeyedBy}
use Rattle.messages.specs.Steps.{skimmed, Goes, Words, took, not_taken, next_answer, Begins, BeginsOr, begins, refuses}
use Rattle.messages.proofs.Steps.{goes-as, goes_then, first-refused, then-refused, goes-read, row-split, skim-goes, skim-refused}
use Rattle.messages.proofs.Words.{words-behind}

-- ---- the root

fields-struct : (ts : Shapes) → fields_of (node struct ts) ≡ ts
unfolding fields_of same_kind decided pick
fields-struct ts = refl

-- the root's entry is the first, and then its fields are read
root-skim : (ts : Shapes) (bs : List ℕ) → (skim (node struct ts) bs).ends ≡ (fit (most_entries - 1) (row (reading head) ts (front bs))).ends
unfolding skim read walk
root-skim ts bs =
    ap (λ r. r.ends) (fit-item head struct (count ts) (λ a. along (reading head) (following struct a) (walks (reading head) ts)) (front bs) (most_entries - 1))
    ∙ (unfold read_item head enter run_after following along times past in ap (λ r. (fit (most_entries - 1) r).ends) (then-nothing (row (reading head) ts) (front bs)))

module _ (s : List ℕ) (l : Layout) (f : Fields) (bs : List ℕ) (kb : KeyedBy s l f) where
  abbrev row_of : ℕ → ℕ → Spot → Run
  row_of from n = row_step (reading head) s l from n

  -- where the fields behind the first key field, and those behind the second, have their numbers
  abbrev from₂ : ℕ
  from₂ = f.from + 2 * (f.before + 1)

  abbrev from₃ : ℕ
  from₃ = from₂ + 2 * (f.between + 1)

  all-skim : (skim (keys_of s l f).shape bs).ends ≡ (fit (most_entries - 1) (row_of f.from (field_count f) (front bs))).ends
  unfolding keys_of
  all-skim = ap (λ t. (skim t bs).ends) kb.root ∙ (unfold row_step in root-skim (shapes_at (node_shape s l) s f.from (field_count f)) bs)

  first-split : (x : Spot) → row_of f.from (field_count f) x ≡ read_then (row_of f.from (f.before + 1)) (row_of from₂ (f.between + 1 + f.behind)) x
  unfolding field_count
  first-split x = row-split s l (f.before + 1) (f.between + 1 + f.behind) f.from x

  second-split : (x : Spot) → row_of from₂ (f.between + 1 + f.behind) x ≡ read_then (row_of from₂ (f.between + 1)) (row_of from₃ f.behind) x
  second-split x = row-split s l (f.between + 1) f.behind from₂ x

  stopped : {e : Refusal} {p : ℕ} → (fit (most_entries - 1) (row_of f.from (field_count f) (front bs))).ends ≡ refused e p → Stops e p ≡ next_answer (next_of (keys_of s l f) bs)
  unfolding next_of next_by next_answer
  stopped q = rw (all-skim ∙ q)

  -- ---- the first key field

  refused-first : {e : RefusedAt} → Words s l f.from f.before 1 (front bs) (Err e) → Err e ≡ next_answer (next_of (keys_of s l f) bs)
  refused-first (not_taken q) =
      stopped (ap (λ r. (fit (most_entries - 1) r).ends) (first-split (front bs)) ∙ first-refused (row_of f.from (f.before + 1)) (row_of from₂ (f.between + 1 + f.behind)) 1 (front bs) q)

  pub first_stops : {r : Word} {e : RefusedAt} → Words s l f.from f.before 1 (front bs) r → r ≡ Err e → Err e ≡ next_answer (next_of (keys_of s l f) bs)
  first_stops w q = refused-first (rw q at w)

  record First (word p c : ℕ) : Type 0 where
    goes : Goes (row_of f.from (f.before + 1)) 1 (front bs) p c
    is : (more : ℕ) → word_at (shapes_at (node_shape s l) s f.from (f.before + suc more)) f.before (front bs) ≡ word

  first_of : {word p c : ℕ} → Words s l f.from f.before 1 (front bs) (Took word p c) → First word p c
  first_of (took {n} a e w) = let q : n ≡ _ = sym (zero-add n) ∙ e in record { goes = goes-as refl q a; is = w }

  pub first-inside : {r : Word} {word p c : ℕ} → Words s l f.from f.before 1 (front bs) r → r ≡ Took word p c → p ≤ length bs
  first-inside w e = (first_of (rw e at w)).goes.inside

  -- ---- the second

  module _ {r : Word} {word p c : ℕ} (words : Words s l f.from f.before 1 (front bs) r) (is_one : r ≡ Took word p c) where
    one : Words s l f.from f.before 1 (front bs) (Took word p c)
    one = rw is_one at words

    abbrev rest : List ℕ
    rest = take (length bs - p) (drop p bs)

    there : past p (front bs) ≡ spot rest p
    unfolding past
    there = rw (tail bs p, zero-add p)

    second-goes : {m n d : ℕ} (g : Spot → Run) → Goes g m (spot rest p) n d → Goes g m (past p (front bs)) n d
    second-goes g a = rw there a

    refused-second : {e : RefusedAt} → Words s l from₂ f.between c (spot rest p) (Err e) → Err e ≡ next_answer (next_of (keys_of s l f) bs)
    refused-second (not_taken q) =
        stopped
        (ap (λ r. (fit (most_entries - 1) r).ends) (first-split (front bs))
        ∙ then-refused (row_of f.from (f.before + 1)) (row_of from₂ (f.between + 1 + f.behind)) 1 (front bs) (first_of one).goes
        (rw there (ap (λ r. (fit (most_entries - c) r).ends) (second-split (spot rest p)) ∙ first-refused (row_of from₂ (f.between + 1)) (row_of from₃ f.behind) c (spot rest p) q)))

    pub second-stops : {r : Word} {e : RefusedAt} → Words s l from₂ f.between c (spot rest p) r → r ≡ Err e → Err e ≡ next_answer (next_of (keys_of s l f) bs)
    second-stops w e = refused-second (rw e at w)

    record Second (word₂ q d : ℕ) : Type 0 where
      used : ℕ
      goes : Goes (row_of from₂ (f.between + 1)) c (spot rest p) used d
      at : p + used ≡ q
      is : word_at (shapes_at (node_shape s l) s from₂ (f.between + suc f.behind)) f.between (spot rest p) ≡ word₂

    second-of : {word₂ q d : ℕ} → Words s l from₂ f.between c (spot rest p) (Took word₂ q d) → Second word₂ q d
    second-of (took {n} a e w) = record { used = n; goes = a; at = e; is = w f.behind }

    module _ {r₂ : Word} {word₂ q d : ℕ} (words₂ : Words s l from₂ f.between c (spot rest p) r₂) (is-two : r₂ ≡ Took word₂ q d) where
      two : Words s l from₂ f.between c (spot rest p) (Took word₂ q d)
      two = rw is-two at words₂

      pub second-inside : q ≤ length bs
      second-inside = omega (arith, (second-of two).at, (second-of two).goes.inside, length-tail bs p, (first_of one).goes.inside)

      abbrev rest₂ : List ℕ
      rest₂ = take (length bs - q) (drop q bs)

      both-goes : Goes (read_then (row_of f.from (f.before + 1)) (row_of from₂ (f.between + 1))) 1 (front bs) q d
      both-goes = goes-as refl (second-of two).at (goes_then (row_of f.from (f.before + 1)) (row_of from₂ (f.between + 1)) 1 (front bs) (first_of one).goes (second-goes _ (second-of two).goes))

      there₂ : past q (front bs) ≡ spot rest₂ q
      unfolding past
      there₂ = rw (tail bs q, zero-add q)

      all_split : row_of f.from (field_count f) (front bs) ≡ read_then (read_then (row_of f.from (f.before + 1)) (row_of from₂ (f.between + 1))) (row_of from₃ f.behind) (front bs)
      all_split =
          let n : field_count f ≡ f.before + 1 + (f.between + 1) + f.behind = unfold field_count in omega arith in
          let at : f.from + 2 * (f.before + 1 + (f.between + 1)) ≡ from₃ = omega arith in
          ap (λ n. row_of f.from n (front bs)) n
          ∙ row-split s l (f.before + 1 + (f.between + 1)) f.behind f.from (front bs)
          ∙ both-as (row_of f.from (f.before + 1 + (f.between + 1))) (read_then (row_of f.from (f.before + 1)) (row_of from₂ (f.between + 1))) (row-split s l (f.before + 1) (f.between + 1) f.from (front bs)) at
        where
          both-as : (g h : Spot → Run) {a b : ℕ} → g (front bs) ≡ h (front bs) → a ≡ b → read_then g (row_of a f.behind) (front bs) ≡ read_then h (row_of b f.behind) (front bs)
          both-as g h e at = unfold read_then in rw (e, at)

      pub third-stops : {e : RefusedAt} → Err e ≡ skimmed (answer_behind d (fit (most_entries - d) (row_of from₃ f.behind (spot rest₂ q)))) → Err e ≡ next_answer (next_of (keys_of s l f) bs)
      third-stops a =
          stopped (ap (λ r. (fit (most_entries - 1) r).ends) all_split ∙ then-refused (read_then (row_of f.from (f.before + 1)) (row_of from₂ (f.between + 1))) (row_of from₃ f.behind) 1 (front bs) both-goes (rw there₂ (skim-refused s l from₃ f.behind d (spot rest₂ q) a)))

      first-word : word_at (fields_of (shape_of s l)) (first_place f) (front bs) ≡ word
      unfolding first_place field_count
      first-word =
          let n : field_count f ≡ f.before + suc (f.between + 1 + f.behind) = omega arith in
          (ap (λ t. word_at (fields_of t) f.before (front bs)) kb.root ∙ rw (fields-struct (shapes_at (node_shape s l) s f.from (field_count f)), n) ((first_of one).is (f.between + 1 + f.behind)))

      second_word : word_at (fields_of (shape_of s l)) (second_place f) (front bs) ≡ word₂
      unfolding second_place field_count
      second_word =
          let n : f.between + 1 + f.behind ≡ f.between + suc f.behind = omega arith in
          (ap (λ t. word_at (fields_of t) (f.before + 1 + f.between) (front bs)) kb.root
          ∙ rw (fields-struct (shapes_at (node_shape s l) s f.from (f.before + 1 + (f.between + 1 + f.behind))))
          (words-behind kb.good (f.before + 1) (f.between + 1 + f.behind) f.between f.from (front bs) (past p (front bs)) _ (goes-read (first_of one).goes) ∙ rw (there, n) (second-of two).is))

      its-key : key_of (keys_of s l f) bs ≡ key_by f.ahead word word₂
      unfolding key_of keys_of
      its-key = go f.ahead
        where
          go : (b : Bool) → record { store = word_at (fields_of (shape_of s l)) (pick b (first_place f) (second_place f)) (front bs); product = word_at (fields_of (shape_of s l)) (pick b (second_place f) (first_place f)) (front bs) } ≡ key_by b word word₂
          go true = unfold pick key_by in rw (first-word, second_word)
          go false = unfold pick key_by in rw (first-word, second_word)

      pub key-is : {own key : Key} {t : Bool} → own ≡ key_by f.ahead word word₂ → t ≡ same_key own key → HasKey (keys_of s l f) bs key t
      key-is {own} {key} e h = record { is = λ q. h ∙ ap (λ x. same_key x key) (e ∙ sym its-key ∙ next-key (keys_of s l f) bs q) }

      pub message-is : {r : Reached} {key : Key} → Ok r ≡ skimmed (answer_behind d (fit (most_entries - d) (row_of from₃ f.behind (spot rest₂ q)))) → key ≡ key_by f.ahead word word₂
          → Message key r.place ≡ next_answer (next_of (keys_of s l f) bs)
      message-is {r} {key} a e =
          let g = skim-goes s l from₃ f.behind d (spot rest₂ q) a in
          let third : Goes (row_of from₃ f.behind) d (past q (front bs)) (r.place - q) r.count = rw there₂ g.2 in
          let w = goes_then (read_then (row_of f.from (f.before + 1)) (row_of from₂ (f.between + 1))) (row_of from₃ f.behind) 1 (front bs) both-goes third in
          let n : q + (r.place - q) ≡ r.place = (let h = g.0 in omega arith) in
          ended (ap (λ r. r.ends) (ap (fit (most_entries - 1)) all_split ∙ w.ran) ∙ ap (λ n. reached (past n (front bs))) n) (rw n at w.inside)
        where
          ended : (fit (most_entries - 1) (row_of f.from (field_count f) (front bs))).ends ≡ reached (past r.place (front bs)) → r.place ≤ length bs → Message key r.place ≡ next_answer (next_of (keys_of s l f) bs)
          ended h few = unfold next_of next_by next_answer past in rw (all-skim ∙ h, its-key, e, zero-add r.place, length-take-le r.place bs few)

      pub begun-both : {key : Key} → key ≡ key_by f.ahead word word₂ → Begins s l f bs (record { key = key; place = q; count = d })
      begun-both e = record { one = word; other = word₂; place = p; count = c; first = one; second = two; its_key = e }

  -- ---- as the code goes

  pub begun-or : {r : Result Begun RefusedAt} {b : Begun} → BeginsOr s l f bs r → r ≡ Ok b → Begins s l f bs b
  begun-or {b} w e = go (rw e at w)
    where
      go : BeginsOr s l f bs (Ok b) → Begins s l f bs b
      go (begins k) = k

  pub stops-or : {r : Result Begun RefusedAt} {e : RefusedAt} → BeginsOr s l f bs r → r ≡ Err e → Err e ≡ next_answer (next_of (keys_of s l f) bs)
  stops-or {e} w q = go (rw q at w)
    where
      go : BeginsOr s l f bs (Err e) → Err e ≡ next_answer (next_of (keys_of s l f) bs)
      go (refuses k) = k

  module _ {b : Begun} (k : Begins s l f bs b) where
    pub begun-inside : b.place ≤ length bs
    begun-inside = second-inside k.first refl k.second refl

    pub begun-key : {key : Key} {t : Bool} → t ≡ same_key b.key key → HasKey (keys_of s l f) bs key t
    begun-key e = key-is k.first refl k.second refl k.its_key e

    abbrev rest-answer : Result Reached RefusedAt
    rest-answer = skimmed (answer_behind b.count (fit (most_entries - b.count) (row_of (f.from + 2 * (f.before + f.between + 2)) f.behind (spot (take (length bs - b.place) (drop b.place bs)) b.place))))

    from-same : f.from + 2 * (f.before + f.between + 2) ≡ from₃
    from-same = omega arith

    pub finish-stops : {e : RefusedAt} → Err e ≡ rest-answer → Err e ≡ next_answer (next_of (keys_of s l f) bs)
    finish-stops a = third-stops k.first refl k.second refl (rw from-same at a)

    pub finish-message : {r : Reached} → Ok r ≡ rest-answer → Message b.key r.place ≡ next_answer (next_of (keys_of s l f) bs)
    finish-message a = message-is k.first refl k.second refl (rw from-same at a) k.its_key

-- ---- the same key

pub key-same : (a b : Key) → a.store ≡ b.store → eqb a.product b.product ≡ same_key a b
unfolding same_key both
key-same a b e = rw (eq-eqb a.store b.store e)

pub key-other : (a b : Key) → (a.store ≡ b.store → ⊥) → false ≡ same_key a b
unfolding same_key both
key-other a b ne = rw (ne_eqb a.store b.store ne)

-- nothing is said where no message is read
pub unread : (k : Keyed) (s : List ℕ) {key : Key} {t : Bool} {e : RefusedAt} → Err e ≡ next_answer (next_of k s) → HasKey k s key t
unread k s {e = r} a = record { is = λ {m} {rest} e. absurd (clash m rest e) }
  where
    clash : (m : Sent) (rest : List ℕ) → next_of k s ≡ next m rest → ⊥
    clash m rest e = unfold next_answer in (let z : Err r ≡ Message m.key (length m.bytes) = a ∙ ap next_answer e in let y : ◌≡◌ {A = ℕ} 0 1 = cc in omega arith)

-- ---- what the code requires

module _ (s : List ℕ) (l : Layout) (f : Fields) (kb : KeyedBy s l f) where
  pub first-falls : Falls s f.from (f.before + 1) l.nodes
  unfolding field_count
  first-falls = record { inside = omega (arith, kb.falls.inside); below = λ c h. kb.falls.below c (omega arith) }

  part_falls : (a n : ℕ) → a + n ≤ field_count f → {at : ℕ} → f.from + 2 * a ≡ at → Falls s at n l.nodes
  part_falls a n h {at} e =
      record {
        inside = omega (arith, kb.falls.inside);
        below = λ c b. let q : f.from + 2 * (a + c) ≡ at + 2 * c = omega arith in rw q at (kb.falls.below (a + c) (omega arith));
      }

  pub second-falls : Falls s (f.from + 2 * (f.before + 1)) (f.between + 1) l.nodes
  unfolding field_count
  second-falls = part_falls (f.before + 1) (f.between + 1) (omega arith) refl

  pub third-falls : Falls s (f.from + 2 * (f.before + 1) + 2 * (f.between + 1)) f.behind l.nodes
  unfolding field_count
  third-falls = part_falls (f.before + 1 + (f.between + 1)) f.behind (omega arith) (omega arith)

pub rest-bound : (bs : List ℕ) {p limit : ℕ} → p ≤ length bs → length bs < limit → p + length (take (length bs - p) (drop p bs)) < limit
rest-bound bs {p} h l = omega (arith, length-tail bs p)
