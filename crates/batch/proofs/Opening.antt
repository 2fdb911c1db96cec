-- A batch is taken apart by its trailer, and a message is found from its rows.
-- Assumes nothing.
use mathlib.Core.Path.{◌≡◌, refl, sym, ap, ◌∙◌, subst}
use mathlib.Core.Bool.{Bool, true, false, not}
use mathlib.Core.List.{List, [], ◌∷◌}
use Prim.Native.Nat.{ℕ, zero, suc, ◌+◌, ◌-◌, ◌*◌, ◌/◌, ◌≤◌, ◌<◌}
use native.Mathlib.Nat.{sub-zero}
use native.Mathlib.Omega.{arith}
use lib.ListN.{length, take, drop, length-drop}
use lib.Seq.{drop-cons, take-nil, take-take, length-take-le}
use borrow.Author.Tests.{lt-leb, le-leb, lt-ltb, le-ltb, eq-eqb, ne_eqb}
use Rattle.wire.specs.declared.Refusal.{Refusal}
use Rattle.wire.specs.declared.Layout.{Layout}
use Rattle.wire.specs.Checked.{Checked}
use Rattle.wire.specs.Checked.{Good as GoodTable, Bad}
use Rattle.wire.specs.Tests.{pick, given, both}
use Rattle.wire.specs.Numbers.{little}
use Rattle.wire.specs.Table.{u16_at, shape_of, check}
use Rattle.laws.specs.Range.{AreBytes}
use Rattle.desk.specs.declared.Key.{Key}
use Rattle.desk.specs.declared.Row.{Row}
use Rattle.desk.specs.declared.Fault.{Fault}
use Rattle.desk.specs.declared.Fault.TheVariants.{Wire, Fields as BadFields, Batch as BadBatch, Missing}
use Rattle.desk.specs.BatchFound.{BatchFound}
use Rattle.desk.specs.BatchFound.{Part, Refused as NotFound}
use Rattle.desk.specs.Rows.{same_key, some_if, number_at, row_at, rows_at}
use Rattle.desk.specs.Messages.{Keyed, is_keyed, Cut, next, stops, next_of}
use Rattle.desk.specs.Batch.{so, fault, after, shape_by, tabled, keyed, Parts, good_trailer, parts_at, open_at, opened, part_by, found_in, found_answer}
use Rattle.wire.specs.Shape.{Shape}
use Rattle.batches.specs.Search.{no_row, Turns, row_before, Searched}
use Rattle.batches.proofs.Opened.{number_lt}
use Rattle.row.specs.Ranks.{row_count, rows_in, Loaded}
use Rattle.row.proofs.Bytes.{rows_get, length-rows_in}
use Rattle.messages.specs.declared.Fields.{Fields}
use Rattle.messages.specs.Found.{Found}
use Rattle.messages.specs.Found.{At, Unfit}
use Rattle.messages.specs.declared.Message as message
use Rattle.messages.specs.NextMessage.{NextMessage}
use Rattle.messages.specs.NextMessage.{Message, Stops}
use Rattle.messages.specs.Fields.{keys_of, KeyedBy, Finds as FindsFields, found, unfit}
use Rattle.messages.specs.Steps.{next_answer}
use Rattle.batch.specs.Taking.{Opened}
use Rattle.batch.specs.Taking.{Parts as Apart, Refused}
use Rattle.batch.specs.Opened.{row_bytes_of, parts_of, Parted, Opens, parts, refuses, Finds}

-- messages that are told alike are as long
same-length : {key key' : Key} {len len' : ℕ} → Message key len ≡ Message key' len' → len ≡ len'
same-length {key} {key'} {len} {len'} z =
    let same : ◌≡◌ {A = message.Message} (record { key = key; len = len }) (record { key = key'; len = len' }) = cc in
    ap (λ (r : message.Message). r.len) same

-- ---- numbers of the trailer

two_bytes : (s : List ℕ) (at : ℕ) → at + 2 ≤ length s → u16_at s at ≡ number_at 2 at s
unfolding u16_at number_at little
two_bytes s at h =
    let e : at + 1 ≡ suc at = omega arith in
    rw (drop-cons s at 0 (omega arith), drop-cons s (suc at) 0 (omega arith), e) (omega arith)

-- ---- answers turned round

pub not-true : {b : Bool} → not b ≡ true → b ≡ false
not-true {b} = go b
  where
    go : (b : Bool) → not b ≡ true → b ≡ false
    go true q = sym q
    go false q = refl

pub not-false : {b : Bool} → not b ≡ false → b ≡ true
not-false {b} = go b
  where
    go : (b : Bool) → not b ≡ false → b ≡ true
    go true q = refl
    go false q = sym q

-- ---- rows of a part

pub drop-take : (m n : ℕ) (s : List ℕ) → drop m (take n s) ≡ take (n - m) (drop m s)
drop-take zero n s = rw (sub-zero n)
drop-take (suc m) zero s = let e : 0 - suc m ≡ 0 = omega arith in rw e
drop-take (suc m) (suc n) [] = rw (take-nil (suc n - suc m))
drop-take (suc m) (suc n) (b ∷ s) = let e : suc n - suc m ≡ n - m = omega arith in rw e (drop-take m n s)

number-take : (n at k : ℕ) (t : List ℕ) → at + n ≤ k → number_at n at (take k t) ≡ number_at n at t
unfolding number_at
number-take n at k t h = rw (drop-take at k t, take-take n (k - at) (drop at t) (omega arith))

rows_take : (n k : ℕ) (t : List ℕ) → 16 * n ≤ k → rows_at n (take k t) ≡ rows_at n t
unfolding rows_at row_at
rows_take zero k t h = refl
rows_take (suc n) k t h =
    rw (number-take 4 0 k t (omega arith), number-take 8 4 k t (omega arith), number-take 4 12 k t (omega arith), drop-take 16 k t, rows_take n (k - 16) (drop 16 t) (omega arith))

-- ---- the trailer

module _ (table : List ℕ) (l : Layout) (batch : List ℕ) where
  abbrev keys_at : ℕ → Keyed
  keys_at end = record { shape = shape_of table l; store = number_at 2 (end + 8) batch; product = number_at 2 (end + 10) batch }

  pub too_short_lem : length batch < 12 → Opens table l batch (Refused BadBatch)
  too_short_lem h = refuses {why = BadBatch} (unfold opened given in rw (lt-leb 12 (length batch) h))

  module _ (end : ℕ) (whole : end + 12 ≡ length batch) where
    open-there : opened (shape_of table l) batch ≡ open_at (shape_of table l) batch end
    unfolding opened given
    open-there =
        let e : length batch - 12 ≡ end = omega arith in
        rw (le-leb 12 (length batch) (omega arith), e)

    module _ (store product : ℕ) (es : store ≡ u16_at batch (end + 8)) (ep : product ≡ u16_at batch (end + 10)) where
      same_keys : record { shape = shape_of table l; store = store; product = product } ≡ keys_at end
      same_keys = rw (es ∙ two_bytes batch (end + 8) (omega arith), ep ∙ two_bytes batch (end + 10) (omega arith))

      not-keyed : is_keyed (record { shape = shape_of table l; store = store; product = product }) ≡ false → opened (shape_of table l) batch ≡ fault BadFields
      not-keyed e = open-there ∙ (unfold open_at keyed pick after in rw (← same_keys, e))

      pub bad-fields : {r : Found} → FindsFields table l store product r → r ≡ Unfit → Opens table l batch (Refused BadFields)
      bad-fields (unfit e) q = refuses {why = BadFields} (not-keyed e)
      bad-fields (found a b) q = let z : ◌≡◌ {A = ℕ} 0 1 = cc in absurd (omega arith)

      record Fit (f : Fields) : Type 0 where
        by : KeyedBy table l f
        is : keys_of table l f ≡ keys_at end

      fit_of : {r : Found} {f : Fields} → FindsFields table l store product r → r ≡ At f → Fit f
      fit_of {f} (found {f = g} a b) q = let e : g ≡ f = cc in subst Fit e (record { by = a; is = b ∙ same_keys })
      fit_of (unfit e) q = let z : ◌≡◌ {A = ℕ} 0 1 = cc in absurd (omega arith)

      module _ {r : Found} {f : Fields} (finds : FindsFields table l store product r) (is_at : r ≡ At f) {count distance : ℕ}
          (ec : count ≡ number_at 4 end batch) (ed : distance ≡ number_at 4 (end + 4) batch) where
        judged : open_at (shape_of table l) batch end
            ≡ given (good_trailer end count distance) (λ _. so (parts_at batch (end - distance) count (keys_of table l f))) (fault BadBatch)
        judged =
            let g = fit_of finds is_at in
            unfold open_at keyed pick after in
            rw (← g.is, g.by.fits, ec, ed)

        pub bad-distance : (distance ≡ 16 * count → ⊥) → Opens table l batch (Refused BadBatch)
        bad-distance ne = refuses {why = BadBatch} (open-there ∙ judged ∙ (unfold good_trailer both given in rw (ne_eqb distance (16 * count) ne)))

        pub bad-start : distance ≡ 16 * count → end < distance → Opens table l batch (Refused BadBatch)
        bad-start e h = refuses {why = BadBatch} (open-there ∙ judged ∙ (unfold good_trailer both given in rw (eq-eqb distance (16 * count) e, lt-leb distance end h)))

        pub good-parts : distance ≡ 16 * count → distance ≤ end → Opens table l batch (Apart f (end - distance) end)
        good-parts e h =
            parts {start = end - distance}
            (record {
              keyed = (fit_of finds is_at).by;
              ends = whole;
              starts = omega arith;
              is = open-there ∙ judged ∙ (unfold good_trailer both given parts_at in rw (eq-eqb distance (16 * count) e, le-leb distance end h) (ap (λ rs. so (record { keys = keys_of table l f; front = take (end - distance) batch; rows = rs })) same-rows));
            })
          where
            same-rows : rows_at count (drop (end - distance) batch) ≡ rows_in (row_bytes_of batch (end - distance) end)
            same-rows =
                let back : end - (end - distance) ≡ 16 * count = omega arith in
                let size : length (take (end - (end - distance)) (drop (end - distance) batch)) ≡ 16 * count = length-take-le (end - (end - distance)) (drop (end - distance) batch) (omega (arith, length-drop (end - distance) batch)) ∙ back in
                let many : length (take (end - (end - distance)) (drop (end - distance) batch)) / 16 ≡ count = omega arith in
                sym (rows_of many ∙ rows_take count (end - (end - distance)) (drop (end - distance) batch) (omega arith))
              where
                rows_of : length (take (end - (end - distance)) (drop (end - distance) batch)) / 16 ≡ count → rows_in (row_bytes_of batch (end - distance) end) ≡ rows_at count (take (end - (end - distance)) (drop (end - distance) batch))
                rows_of many = unfold rows_in row_count in rw many

pub count-bound : (s : List ℕ) (at : ℕ) {count : ℕ} → AreBytes s → count ≡ number_at 4 at s → count < 4294967296
count-bound s at h e = rw e (number_lt 4 at s h)

-- ---- the row in front of a turn

module _ {table : List ℕ} {lay : Layout} {batch : List ℕ} {f : Fields} {start end : ℕ} (k : Key) (p : Parted table lay batch f start end) where
  abbrev rows : List ℕ
  rows = row_bytes_of batch start end

  pub found_none : {u : ℕ} → Turns k (rows_in rows) u → u ≡ 0 → Finds table lay batch f start end k (NotFound Missing)
  found_none {u} t e = record { turn = u; turns = t; said = unfold row_before found_in found_answer in rw e }

  pub before-turn : {u : ℕ} → Turns k (rows_in rows) u → (u ≡ 0 → ⊥) → u - 1 < row_count rows
  before-turn t ne = omega (arith, t.inside, length-rows_in rows, ne)

  module _ {u : ℕ} (t : Turns k (rows_in rows) u) (ne : u ≡ 0 → ⊥) {last : Row} (l : Loaded rows (u - 1) last) where
    before-row : row_before k (rows_in rows) u ≡ some_if (same_key k last.key) last.offset
    before-row =
        let e : u ≡ suc (u - 1) = omega (arith, ne) in
        ap (row_before k (rows_in rows)) e ∙ (unfold row_before in rw (rows_get rows (u - 1) no_row (before-turn t ne), ← l.row))

    said-by : {answer : BatchFound} → answer ≡ found_answer (found_in (parts_of table lay batch f start end) (some_if (same_key k last.key) last.offset)) → Finds table lay batch f start end k answer
    said-by q = record { turn = u; turns = t; said = q ∙ ap (λ o. found_answer (found_in (parts_of table lay batch f start end) o)) (sym before-row) }

    pub found-other : {b : Bool} → b ≡ same_key k last.key → b ≡ false → Finds table lay batch f start end k (NotFound Missing)
    found-other e q = said-by (unfold some_if found_in found_answer in rw (sym e ∙ q))

    module _ {b : Bool} (e : b ≡ same_key k last.key) (q : b ≡ true) where
      front-size : length (take start batch) ≡ start
      front-size = length-take-le start batch (omega (arith, p.starts, p.ends))

      pub found-beyond : start ≤ last.offset → Finds table lay batch f start end k (NotFound BadBatch)
      found-beyond h = said-by (unfold some_if found_in given found_answer in rw (sym e ∙ q, front-size, le-ltb last.offset start h))

      module _ (h : last.offset < start) {r : NextMessage} (n : r ≡ next_answer (next_of (keys_of table lay f) (take (start - last.offset) (drop last.offset batch)))) where
        by_next : {answer : BatchFound} → answer ≡ found_answer (part_by last.offset (next_of (keys_of table lay f) (drop last.offset (take start batch)))) → Finds table lay batch f start end k answer
        by_next a = said-by (unfold some_if found_in given in rw (sym e ∙ q, front-size, lt-ltb last.offset start h) a)

        its-next : r ≡ next_answer (next_of (keys_of table lay f) (drop last.offset (take start batch)))
        its-next = n ∙ ap (λ s. next_answer (next_of (keys_of table lay f) s)) (sym (drop-take last.offset start batch))

        pub found-message : {key : Key} {len : ℕ} → r ≡ Message key len → Finds table lay batch f start end k (Part last.offset len)
        found-message {key} {len} a = by_next (go (next_of (keys_of table lay f) (drop last.offset (take start batch))) (sym a ∙ its-next))
          where
            go : (c : Cut) → Message key len ≡ next_answer c → Part last.offset len ≡ found_answer (part_by last.offset c)
            go (next m rest) z = unfold next_answer in (unfold part_by found_answer in ap (Part last.offset) (same-length z))
            go (stops w x) z = unfold next_answer in (let z : ◌≡◌ {A = ℕ} 0 1 = cc in absurd (omega arith))

        pub found-unread : {why : Refusal} {at : ℕ} → r ≡ Stops why at → Finds table lay batch f start end k (NotFound BadBatch)
        found-unread {why} {at} a = by_next (go (next_of (keys_of table lay f) (drop last.offset (take start batch))) (sym a ∙ its-next))
          where
            go : (c : Cut) → Stops why at ≡ next_answer c → NotFound BadBatch ≡ found_answer (part_by last.offset c)
            go (next m rest) z = unfold next_answer in (let z : ◌≡◌ {A = ℕ} 0 1 = cc in absurd (omega arith))
            go (stops w x) z = unfold part_by found_answer in refl

-- ---- the whole search

module _ (table batch : List ℕ) (k : Key) where
  pub searched-table : {c : Checked} {why : Refusal} {i : ℕ} → c ≡ check table → c ≡ Bad why i → Searched table batch k (NotFound (Wire why i))
  searched-table e q = record { u = 0; turns = λ t b x y. none_so x; said = unfold tabled shape_by after found_answer in rw (sym e ∙ q) }
    where
      none_so : {A : Type 0} {t : Shape} → tabled table ≡ so t → A
      none_so x = unfold tabled shape_by in (let z = rw (sym e ∙ q) at x in let y : ◌≡◌ {A = ℕ} 0 1 = cc in absurd (omega arith))

  module _ {l : Layout} {c : Checked} (e : c ≡ check table) (q : c ≡ GoodTable l) where
    its_shape : tabled table ≡ so (shape_of table l)
    unfolding tabled shape_by
    its_shape = rw (sym e ∙ q)

    pub searched-fault : {r : Opened} {why : Fault} → Opens table l batch r → r ≡ Refused why → Searched table batch k (NotFound why)
    searched-fault {why} o a = go (rw a at o)
      where
        go : Opens table l batch (Refused why) → Searched table batch k (NotFound why)
        go (refuses z) =
            record {
              u = 0;
              turns = λ t b x y. none_so z x y;
              said = unfold after found_answer in rw (its_shape, z);
            }
          where
            none_so : {A : Type 0} {t : Shape} {b : Parts} → opened (shape_of table l) batch ≡ fault why → tabled table ≡ so t → opened t batch ≡ so b → A
            none_so z x y =
                let same : so (shape_of table l) ≡ so _ = sym its_shape ∙ x in
                let y' : ◌≡◌ {A = ℕ} 0 1 = cc in
                absurd (omega arith)

    pub searched-found : {f : Fields} {start end : ℕ} {answer : BatchFound} → Parted table l batch f start end → Finds table l batch f start end k answer → Searched table batch k answer
    searched-found {f} {start} {end} {answer} p r =
        record {
          u = r.turn;
          turns = λ t b x y. subst (λ b. Turns k b.rows r.turn) (same_parts t b x y) r.turns;
          said = r.said ∙ (unfold after in rw (its_shape, p.is));
        }
      where
        same_parts : (t : Shape) (b : Parts) → tabled table ≡ so t → opened t batch ≡ so b → parts_of table l batch f start end ≡ b
        same_parts t b x y =
            let s : shape_of table l ≡ t = cc (sym its_shape ∙ x) in
            let z : so (parts_of table l batch f start end) ≡ so b = sym p.is ∙ ap (λ t. opened t batch) s ∙ y in
            cc

pub parted-of : {table : List ℕ} {l : Layout} {batch : List ℕ} {f : Fields} {start end : ℕ} {r : Opened} → Opens table l batch r → r ≡ Apart f start end → Parted table l batch f start end
parted-of {table} {l} {batch} {f} {start} {end} o a = go (rw a at o)
  where
    go : Opens table l batch (Apart f start end) → Parted table l batch f start end
    go (parts p) = p
