-- A row told field by field: what is laid and what is left to tell are all of it.
-- Assumes nothing.
use mathlib.Core.Path.{◌≡◌, refl, sym, ap, ◌∙◌}
use mathlib.Core.Bool.{Bool, true, false}
use mathlib.Core.List.{List, [], ◌∷◌, ◌++◌, append-nil, append_assoc}
use Prim.Native.Nat.{ℕ, zero, suc, ◌+◌, ◌-◌, ◌*◌, ◌≤◌, ◌<◌, ◌^◌}
use native.Mathlib.Omega.{arith}
use lib.Dec.{eqb}
use borrow.Author.Tests.{ne_eqb}
use lib.ListN.{length, drop}
use Rattle.wire.specs.declared.Refusal.{Refusal}
use Rattle.wire.specs.declared.Own.{Own}
use Rattle.wire.specs.Item.{Item}
use Rattle.wire.specs.Item.{Took, Refused as NotTaken}
use Rattle.wire.specs.declared.Layout.{Layout}
use Rattle.wire.specs.Shape.{Kind}
use Rattle.wire.specs.Table.{u16_at, kind_of, node_at, record_of, shapes_at}
use Rattle.wire.specs.Reading.{head}
use Rattle.laws.specs.Tables.{GoodTable}
use Rattle.table.proofs.Stretches.{falls-first}
use Rattle.output.proofs.Counting.{puts_none}
use Rattle.desk.specs.Csv.{comma, line_end}
use Rattle.columns.specs.Columns.{field_shapes, Rowed}
use Rattle.columns.proofs.Styled.{node-kind, rowed-next, at_first, at_next}
use Rattle.put_number.specs.Lays.{Lays}
use Rattle.put_number.proofs.Laying.{lays-puts, lays-both}
use Rattle.put_field.specs.Fields.{field_of}
use Rattle.put_row.specs.Row.{Row}
use Rattle.put_row.specs.Row.{Laid, Refused}
use Rattle.put_row.specs.Rows.{Told, spells, stops, after, separator, field_then, one_field, fields_from, LaysRow, laid, refused}
use Rattle.put_row.proofs.Items.{behind}

-- ---- what is told

abbrev bytes_of : Told → List ℕ
bytes_of (spells s p) = s
bytes_of (stops e p) = []

abbrev place_of : Told → ℕ
place_of (spells s p) = p
place_of (stops e p) = p

apart {ℓ} : {X : Type ℓ} {s : List ℕ} {p q : ℕ} {e : Refusal} → spells s p ≡ stops e q → X
apart h = let z : ◌≡◌ {A = ℕ} 0 1 = cc in absurd (omega arith)

after-after : (s t : List ℕ) (x : Told) → after s (after t x) ≡ after (s ++ t) x
unfolding after
after-after s t (spells u p) = ap (λ v. spells v p) (sym (append_assoc s t u))
after-after s t (stops e p) = refl

-- the answer in a known case
module _ {t : Told} {u : ℕ} {out : List ℕ} {r : Row} {now : List ℕ} (l : LaysRow t u out r now) where
  pub record IsLaid (p n : ℕ) : Type 0 where
    pub bytes : List ℕ
    pub is : t ≡ spells bytes p
    pub lays : Lays bytes u out n now

  pub is-laid : {p n : ℕ} → r ≡ Laid p n → IsLaid p n
  is-laid {p} {n} e = go (rw e at l)
    where
      go : LaysRow t u out (Laid p n) now → IsLaid p n
      go (laid {s = s} f h) = record { bytes = s; is = f; lays = h }

  pub record IsRefused (e : Refusal) (p : ℕ) : Type 0 where
    pub is : t ≡ stops e p
    pub long : length now ≡ length out

  pub is-refused : {e : Refusal} {p : ℕ} → r ≡ Refused e p → IsRefused e p
  is-refused {e} {p} q = go (rw q at l)
    where
      go : LaysRow t u out (Refused e p) now → IsRefused e p
      go (refused f h) = record { is = f; long = h }

-- ---- separators

pub no-separator : (first : Bool) → first ≡ true → separator first ≡ []
unfolding separator
no-separator first e = rw e

pub a-separator : (first : Bool) → first ≡ false → separator first ≡ comma ∷ []
unfolding separator
a-separator first e = rw e

pub nothing-more : (u : ℕ) (out : List ℕ) → u < 2 ^ 64 → Lays [] u out u out
nothing-more u out h = lays-puts (puts_none u out h)

-- ---- one field

module _ (first : Bool) (message : List ℕ) (k : Kind) (p : ℕ) where
  -- a field that is told alone is told with what follows it
  then-spells : (i : Item) {s : List ℕ} {q : ℕ} → field_then first message k p i (λ q. spells [] q) ≡ spells s q → (next : ℕ → Told) → field_then first message k p i next ≡ after s (next q)
  unfolding field_then after
  then-spells (Took own) {s} {q} e next =
      let x : List ℕ = separator first ++ field_of k message own.first own.second in
      ap (λ t. after t (next (p + own.used))) (sym (append-nil x) ∙ ap bytes_of e) ∙ ap (λ q. after s (next q)) (ap place_of e)
  then-spells (NotTaken r) e next = apart (sym e)

  then-stops : (i : Item) {r : Refusal} {q : ℕ} → field_then first message k p i (λ q. spells [] q) ≡ stops r q → (next : ℕ → Told) → field_then first message k p i next ≡ stops r q
  unfolding field_then after
  then-stops (Took own) e next = apart e
  then-stops (NotTaken r) e next = e

-- what the code leaves of one field
module _ (first : Bool) (message : List ℕ) (n p u : ℕ) (out : List ℕ) where
  pub one-refused : {e : Refusal} → head (kind_of n) 0 p (drop p message) ≡ NotTaken e → LaysRow (one_field first message (kind_of n) p) u out (Refused e p) out
  unfolding one_field field_then
  one-refused {e = r} e = let told : one_field first message (kind_of n) p ≡ stops r p = rw e in refused told refl

  pub one-laid : {own : Own} {mid now : List ℕ} {m len : ℕ} → length out < 2 ^ 63 → head (kind_of n) 0 p (drop p message) ≡ Took own
      → Lays (separator first) u out m mid → Lays (field_of (kind_of n) message own.first own.second) m mid len now
      → LaysRow (one_field first message (kind_of n) p) u out (Laid (p + own.used) len) now
  unfolding one_field field_then after
  one-laid {own} small e a b =
      let x : List ℕ = separator first ++ field_of (kind_of n) message own.first own.second in
      let told : one_field first message (kind_of n) p ≡ spells x (p + own.used) = rw e (ap (λ t. spells t (p + own.used)) (append-nil x)) in
      laid told (lays-both small a b)

-- ---- all fields

module _ (s message : List ℕ) (l : Layout) where
  abbrev rest : Bool → ℕ → ℕ → ℕ → Told
  rest first child left p = fields_from message first (field_shapes s l child left) p

  none_left : (first : Bool) (child left p : ℕ) → left ≤ 0 → rest first child left p ≡ spells line_end p
  unfolding fields_from shapes_at
  none_left first child zero p h = refl
  none_left first child (suc n) p h = absurd (omega arith)

  one_left : (first : Bool) (child left p n : ℕ) → 0 < left → GoodTable s l → u16_at s child < l.nodes → n ≡ (node_at s (record_of l (u16_at s child))).number
      → rest first child left p ≡ field_then first message (kind_of n) p (head (kind_of n) 0 p (drop p message)) (λ q. rest false (child + 2) (left - 1) q)
  unfolding fields_from shapes_at
  one_left first child zero p n h g b e = absurd (omega arith)
  one_left first child (suc left) p n h g b e =
      let less : suc left - 1 ≡ left = omega arith in
      rw (node-kind g (u16_at s child) b, ← e, less)

-- `done` is laid, and the fields from `child` on are left, the next at the place `at`
pub record Going (s message : List ℕ) (l : Layout) (from width : ℕ) (before : List ℕ) (first : Bool) (child left at to : ℕ) (out : List ℕ) : Type 0 where
  pub rowed : Rowed s l child left
  pub inside : at ≤ length message
  pub done : List ℕ
  pub same : fields_from message true (field_shapes s l from width) 0 ≡ after done (fields_from message first (field_shapes s l child left) at)
  pub lays : Lays done 0 before to out

after_none : (t : Told) → t ≡ after [] t
unfolding after
after_none (spells s p) = refl
after_none (stops e p) = refl

pub going-begin : {s : List ℕ} (message : List ℕ) {l : Layout} {from width : ℕ} (out : List ℕ) → Rowed s l from width → Going s message l from width out true from width 0 0 out
going-begin message out r = record { rowed = r; inside = omega arith; done = []; same = after_none _; lays = nothing-more 0 out (omega arith) }

module _ {s message : List ℕ} {l : Layout} {from width : ℕ} {before : List ℕ} {first : Bool} {child left at to : ℕ} {out : List ℕ} (g : Going s message l from width before first child left at to out) where
  pub going_end : {n : ℕ} {now : List ℕ} → length before < 2 ^ 63 → left ≤ 0 → Lays line_end to out n now
      → LaysRow (fields_from message true (field_shapes s l from width) 0) 0 before (Laid at n) now
  unfolding after
  going_end small h e = laid (g.same ∙ ap (after g.done) (none_left s message l first child left at h)) (lays-both small g.lays e)

  module _ (h : 0 < left) {c n : ℕ} (e : c ≡ u16_at s child) (f : n ≡ (node_at s (record_of l c)).number) where
    split : fields_from message true (field_shapes s l from width) 0
        ≡ after g.done (field_then first message (kind_of n) at (head (kind_of n) 0 at (drop at message)) (λ q. fields_from message false (field_shapes s l (child + 2) (left - 1)) q))
    split =
        g.same
        ∙ ap (after g.done) (one_left s message l first child left at n h g.rowed.good (falls-first g.rowed.falls h) (f ∙ ap (λ i. (node_at s (record_of l i)).number) e))

    pub going-stops : {r : Refusal} {q : ℕ} {now : List ℕ} → length now ≡ length out → one_field first message (kind_of n) at ≡ stops r q
        → LaysRow (fields_from message true (field_shapes s l from width) 0) 0 before (Refused r q) now
    unfolding one_field after
    going-stops k o = refused (split ∙ ap (after g.done) (then-stops first message (kind_of n) at (head (kind_of n) 0 at (drop at message)) o _)) (k ∙ g.lays.long)

    pub going_next : {p len : ℕ} {now : List ℕ} → length before < 2 ^ 63 → (x : List ℕ) → one_field first message (kind_of n) at ≡ spells x p → p ≤ length message → Lays x to out len now
        → Going s message l from width before false (child + 2) (left - 1) p len now
    unfolding one_field
    going_next small x o q a =
        record {
          rowed = rowed-next g.rowed h;
          inside = q;
          done = g.done ++ x;
          same = split ∙ ap (after g.done) (then-spells first message (kind_of n) at (head (kind_of n) 0 at (drop at message)) o _) ∙ after-after g.done x _;
          lays = lays-both small g.lays a;
        }

-- a field that is told ends in the message
pub one_inside : (first : Bool) (message : List ℕ) (n p : ℕ) → p ≤ length message → {s : List ℕ} {q : ℕ} → one_field first message (kind_of n) p ≡ spells s q → q ≤ length message
unfolding one_field field_then after
one_inside first message n p h {s} {q} e = go (head (kind_of n) 0 p (drop p message)) refl e
  where
    go : (i : Item) → head (kind_of n) 0 p (drop p message) ≡ i → field_then first message (kind_of n) p i (λ q. spells [] q) ≡ spells s q → q ≤ length message
    go (Took own) t e = rw (← (ap place_of e)) (behind n message p h t)
    go (NotTaken r) t e = apart (sym e)

-- the same in front of the i-th field
module _ (s message : List ℕ) (l : Layout) (from width : ℕ) (before : List ℕ) where
  abbrev pub GoingAt : (i at to : ℕ) → List ℕ → Type 0
  GoingAt i at to out = Going s message l from width before (eqb i 0) (from + 2 * i) (width - i) at to out

  pub going-at-first : {out : List ℕ} → Going s message l from width before true from width 0 0 out → GoingAt 0 0 0 out
  going-at-first {out} g = at_first (λ child left. Going s message l from width before (eqb 0 0) child left 0 0 out) from width g

  pub going-at-next : (i : ℕ) {at to : ℕ} {out : List ℕ} → Going s message l from width before false (from + 2 * i + 2) (width - i - 1) at to out → GoingAt (i + 1) at to out
  going-at-next i {at} {to} {out} g =
      rw (ne_eqb (i + 1) 0 (λ e. omega arith)) (at_next (λ child left. Going s message l from width before false child left at to out) from width i g)
