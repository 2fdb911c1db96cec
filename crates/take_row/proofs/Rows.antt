-- A row taken field by field: what is laid and what is left to take are all of it.
-- Assumes nothing.
use Rattle.std.specs.Prelude.{Ok, Err}
use mathlib.Core.Path.{◌≡◌, refl, sym, ap, ◌∙◌}
use mathlib.Core.Bool.{Bool, true, false}
use mathlib.Core.List.{List, [], ◌∷◌, ◌++◌, append_assoc}
use mathlib.Core.Option.{none, some, some-injective}
use Prim.Native.Nat.{ℕ, zero, suc, ◌+◌, ◌-◌, ◌*◌, ◌<◌, ◌≤◌, ◌^◌}
use native.Mathlib.Omega.{arith}
use lib.Dec.{eqb}
use lib.ListN.{length, get_or, drop, drop_of_length-le}
use borrow.Author.Tests.{eq-eqb, ne_eqb}
use Rattle.wire.specs.declared.Layout.{Layout}
use Rattle.wire.specs.Tests.{given}
use Rattle.wire.specs.Table.{u16_at, kind_of, node_at, record_of, shapes_at}
use Rattle.wire.specs.Values.{Value}
use Rattle.laws.specs.Tables.{GoodTable}
use Rattle.laws.proofs.Parts.{next}
use Rattle.laws.proofs.Splits.{by-lt}
use Rattle.table.proofs.Stretches.{falls-first}
use Rattle.desk.specs.Csv.{comma, Style, style_of, Column, columns, styles_of, value_bytes, message_of}
use Rattle.spellings.specs.Accept.{scan, acceptor, Parsed, took, stopped, past, with_value, must, finished, field_then, parse_field, parse_later, parse}
use Rattle.columns.specs.Columns.{field_shapes, Rowed}
use Rattle.spellings.proofs.Tables.{Column-more, column-more}
use Rattle.columns.proofs.Rows.{columned}
use Rattle.columns.proofs.Styled.{node-kind, rowed-next, at_first, at_next}
use Rattle.put_number.specs.Lays.{Lays}
use Rattle.put_number.proofs.Laying.{lays-puts, lays-both}
use Rattle.output.specs.Bytes.{cap}
use Rattle.output.proofs.Counting.{cap-small, cap-large, puts_none}
use Rattle.take_number.specs.declared.Stop.{Stop}
use Rattle.take_number.specs.Scans.{is_at, Ends}
use Rattle.take_number.proofs.Figures.{at_there, at_test}
use Rattle.take_field.specs.Field as field
use Rattle.take_field.specs.Taking.{Takes, TakesKind}
use Rattle.take_field.specs.Taking as taking
use Rattle.take_row.specs.Messages.{Taken, gives, stops_at, taken_of, taken_by, LaysMessage, laid, refused, Separated, begins, behind_comma, no_comma, Ended, ends, no_return, no_feed, goes_on}

-- ---- what is taken, from a place on

unfoldable pub shifted : ℕ → Taken → Taken
shifted i (gives s) = gives s
shifted i (stops_at p) = stops_at (i + p)

unfoldable pub after : List ℕ → Taken → Taken
after s (gives t) = gives (s ++ t)
after s (stops_at p) = stops_at p

after-after : (s t : List ℕ) (x : Taken) → after s (after t x) ≡ after (s ++ t) x
unfolding after
after-after s t (gives u) = ap gives (sym (append_assoc s t u))
after-after s t (stops_at p) = refl

after_none : (x : Taken) → x ≡ after [] x
unfolding after
after_none (gives s) = refl
after_none (stops_at p) = refl

shifted-zero : (x : Taken) → shifted 0 x ≡ x
unfolding shifted
shifted-zero (gives s) = refl
shifted-zero (stops_at p) = ap stops_at (omega arith)

-- the fields that are left, with a comma in front of the first of them or not
unfoldable pub parse_from : (first : Bool) → List Style → List ℕ → Parsed
parse_from true fs s = parse fs s
parse_from false fs s = parse_later fs s

abbrev pub rest : (first : Bool) → List Column → List ℕ → ℕ → Taken
rest first cs s i = shifted i (taken_of cs (parse_from first (styles_of cs) (drop i s)))

-- one field, from the place where it begins
unfoldable pub field_from : Column → List Column → List ℕ → ℕ → Taken
field_from c cs s i = shifted i (taken_of (c ∷ cs) (parse_field (acceptor c.style) (scan (acceptor c.style) (acceptor c.style).start (drop i s)) (parse_later (styles_of cs))))

-- a byte that must stand there
must-step : (b : ℕ) (f : List ℕ → Parsed) (s : List ℕ) (i : ℕ) → is_at s i b ≡ true → must b f (drop i s) ≡ past 1 (f (drop (i + 1) s))
unfolding must given
must-step b f s i h = let l = at_there s i b h in ap (must b f) (next s i l.0) ∙ (rw (eq-eqb (get_or s i 0) b l.1))

must-stop : (b : ℕ) (f : List ℕ → Parsed) (s : List ℕ) (i : ℕ) → is_at s i b ≡ false → must b f (drop i s) ≡ stopped 0
unfolding must given
must-stop b f s i h =
    by-lt i (length s) (λ l. ap (must b f) (next s i l) ∙ (rw (at_test s i b l ∙ h))) (λ l. rw (drop_of_length-le s {i = i} l))

past-shifted : (cs : List Column) (i n : ℕ) (p : Parsed) → shifted i (taken_of cs (past n p)) ≡ shifted (i + n) (taken_of cs p)
unfolding shifted taken_of past
past-shifted cs i n (took vs) = refl
past-shifted cs i n (stopped p) = ap stops_at (omega arith)

-- a field that is whole, and then the others
field-whole : (c : Column) (cs : List Column) (s : List ℕ) {i j : ℕ} {y : (acceptor c.style).State} {v : Value} → Ends (acceptor c.style) (acceptor c.style).start s i y j → (acceptor c.style).value y ≡ some v
    → field_from c cs s i ≡ after (value_bytes c.kind v) (rest false cs s j)
unfolding field_from parse_field field_then parse_from
field-whole c cs s {i} {j} {y} {v} e w =
    rw (e.state, w, e.left) (past-shifted (c ∷ cs) i _ (with_value v (parse_later (styles_of cs) (drop j s))) ∙ ap (λ k. shifted k (taken_of (c ∷ cs) (with_value v (parse_later (styles_of cs) (drop j s))))) e.place ∙ with (parse_later (styles_of cs) (drop j s)))
  where
    with : (p : Parsed) → shifted j (taken_of (c ∷ cs) (with_value v p)) ≡ after (value_bytes c.kind v) (shifted j (taken_of cs p))
    with (took vs) = unfold taken_of with_value shifted after message_of in refl
    with (stopped p) = unfold taken_of with_value shifted after in refl

field-part : (c : Column) (cs : List Column) (s : List ℕ) {i j : ℕ} {y : (acceptor c.style).State} → Ends (acceptor c.style) (acceptor c.style).start s i y j → (acceptor c.style).value y ≡ none
    → field_from c cs s i ≡ stops_at j
unfolding field_from parse_field field_then taken_of shifted
field-part c cs s e w = rw (e.state, w) (ap stops_at e.place)

-- the first field begins at once, another one behind its comma
first_field : (c : Column) (cs : List Column) (s : List ℕ) (i : ℕ) → rest true (c ∷ cs) s i ≡ field_from c cs s i
unfolding parse_from parse styles_of field_from
first_field c cs s i = refl

later-field : (c : Column) (cs : List Column) (s : List ℕ) (i : ℕ) → is_at s i comma ≡ true → rest false (c ∷ cs) s i ≡ field_from c cs s (i + 1)
unfolding parse_from parse_later styles_of field_from
later-field c cs s i h = ap (λ p. shifted i (taken_of (c ∷ cs) p)) (must-step comma _ s i h) ∙ past-shifted (c ∷ cs) i 1 _

no_field : (c : Column) (cs : List Column) (s : List ℕ) (i : ℕ) → is_at s i comma ≡ false → rest false (c ∷ cs) s i ≡ stops_at i
unfolding parse_from parse_later styles_of taken_of shifted
no_field c cs s i h = ap (λ p. shifted i (taken_of (c ∷ cs) p)) (must-stop comma _ s i h) ∙ ap stops_at (omega arith)

-- the end of a row
row-end : (first : Bool) (s : List ℕ) (i : ℕ) → rest first [] s i ≡ shifted i (taken_of [] (must 13 (must 10 finished) (drop i s)))
unfolding parse_from parse parse_later styles_of
row-end true s i = refl
row-end false s i = refl

module _ (s : List ℕ) (i : ℕ) where
  stopped-end : {r : Stop} → Ended s i (Err r) → shifted i (taken_of [] (must 13 (must 10 finished) (drop i s))) ≡ stops_at r.at
  unfolding taken_of shifted finished
  stopped-end (no_return h) = ap (λ p. shifted i (taken_of [] p)) (must-stop 13 _ s i h) ∙ ap stops_at (omega arith)
  stopped-end (no_feed h k) = ap (λ p. shifted i (taken_of [] p)) (must-step 13 _ s i h ∙ ap (past 1) (must-stop 10 _ s (i + 1) k)) ∙ past-shifted [] i 1 (stopped 0) ∙ ap stops_at (omega arith)
  stopped-end (goes_on h k m) =
      ap (λ p. shifted i (taken_of [] p)) (must-step 13 _ s i h ∙ ap (past 1) (must-step 10 _ s (i + 1) k ∙ ap (λ r. past 1 (finished r)) (next s (i + 1 + 1) (omega arith))))
      ∙ past-shifted [] i 1 (past 1 (stopped 0)) ∙ past-shifted [] (i + 1) 1 (stopped 0) ∙ ap stops_at (omega arith)

  whole-end : {u : Unit {0}} → Ended s i (Ok u) → shifted i (taken_of [] (must 13 (must 10 finished) (drop i s))) ≡ gives []
  unfolding taken_of shifted message_of finished
  whole-end (ends h k m) =
      ap (λ p. shifted i (taken_of [] p)) (must-step 13 _ s i h ∙ ap (past 1) (must-step 10 _ s (i + 1) k ∙ ap (λ r. past 1 (finished r)) (drop_of_length-le s {i = i + 1 + 1} (omega arith))))
      ∙ past-shifted [] i 1 (past 1 (took [])) ∙ past-shifted [] (i + 1) 1 (took [])

cap-below : (n : ℕ) → cap n < 2 ^ 64
cap-below n = by-lt n (2 ^ 64) (λ h. omega (arith, cap-small n h)) (λ h. omega (arith, cap-large n h))

-- ---- all fields

-- `done` is laid, and the columns from `child` on are left
pub record Going (s input : List ℕ) (l : Layout) (from width : ℕ) (before : List ℕ) (first : Bool) (child left at to : ℕ) (out : List ℕ) : Type 0 where
  pub small : length before < 2 ^ 63
  pub rowed : Rowed s l child left
  pub inside : at ≤ length input
  pub cs : List Column
  pub are : columns (field_shapes s l child left) ≡ some cs
  pub done : List ℕ
  pub same : taken_by (columns (field_shapes s l from width)) input ≡ after done (rest first cs input at)
  pub lays : Lays done 0 before to out

pub going-begin : {s : List ℕ} (input : List ℕ) {l : Layout} {from width : ℕ} (out : List ℕ) → length out < 2 ^ 63 → Rowed s l from width → Going s input l from width out true from width 0 0 out
unfolding taken_by parse_from
going-begin {s} input {l} {from} {width} out small r =
    let c = columned (field_shapes s l from width) r.styled in
    record {
      small = small;
      rowed = r;
      inside = omega arith;
      cs = c.cs;
      are = c.are;
      done = [];
      same = ap (λ o. taken_by o input) c.are ∙ sym (shifted-zero (taken_of c.cs (parse (styles_of c.cs) input))) ∙ after_none _;
      lays = lays-puts (puts_none 0 out (omega arith));
    }

-- the first column and the others
split-columns : (s : List ℕ) (l : Layout) (child left n : ℕ) (cs : List Column) → GoodTable s l → 0 < left → u16_at s child < l.nodes → n ≡ (node_at s (record_of l (u16_at s child))).number
    → columns (field_shapes s l child left) ≡ some cs → Column-more (kind_of n) (style_of (kind_of n)) (columns (field_shapes s l (child + 2) (left - 1))) cs
unfolding columns shapes_at
split-columns s l child zero n cs g h b e a = absurd (omega arith)
split-columns s l child (suc left) n cs g h b e a =
    let less : suc left - 1 ≡ left = omega arith in
    rw less (column-more (kind_of n) (style_of (kind_of n)) (columns (field_shapes s l (child + 2) left)) cs (rw (node-kind g (u16_at s child) b, ← e) at a))

no-columns : (s : List ℕ) (l : Layout) (child left : ℕ) (cs : List Column) → left ≤ 0 → columns (field_shapes s l child left) ≡ some cs → cs ≡ []
unfolding columns shapes_at
no-columns s l child zero cs h a = sym (some-injective _ cs a)
no-columns s l child (suc left) cs h a = absurd (omega arith)

module _ {s input : List ℕ} {l : Layout} {from width : ℕ} {before : List ℕ} {first : Bool} {child left at to : ℕ} {out : List ℕ} (g : Going s input l from width before first child left at to out) where
  abbrev whole : Taken
  whole = taken_by (columns (field_shapes s l from width)) input

  module _ (h : left ≤ 0) where
    at-end : rest first g.cs input at ≡ shifted at (taken_of [] (must 13 (must 10 finished) (drop at input)))
    at-end = ap (λ cs. rest first cs input at) (no-columns s l child left g.cs h g.are) ∙ row-end first input at

    pub going-cut : {r : Stop} → Ended input at (Err r) → LaysMessage whole 0 before (Err r) out
    unfolding after
    going-cut e = refused (g.same ∙ ap (after g.done) (at-end ∙ stopped-end input at e)) g.lays.long

    pub going_end : {u : Unit {0}} → Ended input at (Ok u) → LaysMessage whole 0 before (Ok to) out
    unfolding after
    going_end e = laid (g.same ∙ ap (after g.done) (at-end ∙ whole-end input at e)) (lays-both g.small g.lays (lays-puts (puts_none to out fits)))
      where
        fits : to < 2 ^ 64
        fits = omega (arith, g.lays.counted, cap-below (0 + length g.done))

  module _ (h : 0 < left) {c n : ℕ} (e : c ≡ u16_at s child) (f : n ≡ (node_at s (record_of l c)).number) where
    pub split : Column-more (kind_of n) (style_of (kind_of n)) (columns (field_shapes s l (child + 2) (left - 1))) g.cs
    split = split-columns s l child left n g.cs g.rowed.good h (falls-first g.rowed.falls h) (f ∙ ap (λ i. (node_at s (record_of l i)).number) e) g.are

    abbrev pub column : Column
    column = record { kind = kind_of n; style = split.style }

    as-column : rest first g.cs input at ≡ rest first (column ∷ split.rest) input at
    as-column = ap (λ cs. rest first cs input at) split.all

    pub going-no-comma : {r : Stop} → Separated first input at (Err r) → LaysMessage whole 0 before (Err r) out
    unfolding after
    going-no-comma (no_comma w k) =
        let told : whole ≡ stops_at at
        = g.same ∙ ap (after g.done) (as-column ∙ ap (λ b. rest b (column ∷ split.rest) input at) w ∙ no_field column split.rest input at k) in
        refused told g.lays.long

    pub record Begun (start : ℕ) : Type 0 where
      pub is : rest first g.cs input at ≡ field_from column split.rest input start
      pub inside : start ≤ length input

    pub going-begun : {start : ℕ} → Separated first input at (Ok start) → Begun start
    going-begun (begins w) = record { is = as-column ∙ ap (λ b. rest b (column ∷ split.rest) input at) w ∙ first_field column split.rest input at; inside = g.inside }
    going-begun (behind_comma w i) =
        record { is = as-column ∙ ap (λ b. rest b (column ∷ split.rest) input at) w ∙ later-field column split.rest input at i; inside = omega (arith, (at_there input at comma i).0) }

    module _ {start : ℕ} (b : Begun start) {now : List ℕ} where
      pub going-stops : {r : Stop} → TakesKind (kind_of n) input start to out (Err r) now → LaysMessage whole 0 before (Err r) now
      unfolding after
      going-stops {r} t = go (t.of split.style split.is)
        where
          go : Takes split.style (kind_of n) input start to out (Err r) now → LaysMessage whole 0 before (Err r) now
          go (taking.stops y v k) = refused (g.same ∙ ap (after g.done) (b.is ∙ field-part column split.rest input y v)) (k ∙ g.lays.long)

      pub going_next : {j len : ℕ} → TakesKind (kind_of n) input start to out (field.Took j len) now → Going s input l from width before false (child + 2) (left - 1) j len now
      going_next {j} {len} t = go (t.of split.style split.is)
        where
          go : Takes split.style (kind_of n) input start to out (field.Took j len) now → Going s input l from width before false (child + 2) (left - 1) j len now
          go (taking.took {v = v} y w k) =
              record {
                small = g.small;
                rowed = rowed-next g.rowed h;
                inside = y.inside;
                cs = split.rest;
                are = split.others;
                done = g.done ++ value_bytes (kind_of n) v;
                same = g.same ∙ ap (after g.done) (b.is ∙ field-whole column split.rest input y w) ∙ after-after g.done (value_bytes (kind_of n) v) _;
                lays = lays-both g.small g.lays k;
              }

-- the same in front of the i-th field
module _ (s input : List ℕ) (l : Layout) (from width : ℕ) (before : List ℕ) where
  abbrev pub GoingAt : (i at to : ℕ) → List ℕ → Type 0
  GoingAt i at to out = Going s input l from width before (eqb i 0) (from + 2 * i) (width - i) at to out

  pub going-at-first : {out : List ℕ} → Going s input l from width before true from width 0 0 out → GoingAt 0 0 0 out
  going-at-first {out} g = at_first (λ child left. Going s input l from width before (eqb 0 0) child left 0 0 out) from width g

  pub going-at-next : (i : ℕ) {at to : ℕ} {out : List ℕ} → Going s input l from width before false (from + 2 * i + 2) (width - i - 1) at to out → GoingAt (i + 1) at to out
  going-at-next i {at} {to} {out} g =
      rw (ne_eqb (i + 1) 0 (λ e. omega arith)) (at_next (λ child left. Going s input l from width before false child left at to out) from width i g)
