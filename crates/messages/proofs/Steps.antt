-- A reading with room goes step by step: what one step took is behind it, and the next has the room that is left.
-- Assumes nothing.
use mathlib.Core.Path.{◌≡◌, refl, sym, ap, ◌∙◌, fun_ext}
use mathlib.Core.Bool.{Bool, true, false}
use mathlib.Core.List.{List, ◌++◌}
use Prim.Native.Nat.{ℕ, zero, suc, ◌+◌, ◌-◌, ◌*◌, ◌≤◌}
use native.Mathlib.Nat.{add-zero, zero-add}
use native.Mathlib.Omega.{arith}
use lib.ListN.{length, length-append, length-drop}
use Rattle.wire.specs.declared.Layout.{Layout}
use Rattle.std.specs.Prelude.{Result, Ok, Err}
use Rattle.std.specs.Result.{MatchResult, IsErrAnd}
use Rattle.std.proofs.lemmas.Result.{err_from_is_err_and}
use Rattle.wire.specs.declared.Reached.{Reached}
use Rattle.wire.specs.declared.Refusal.{Refusal}
use Rattle.wire.specs.declared.RefusedAt.{RefusedAt}
use Rattle.wire.specs.declared.Stopped.{Stopped}
use Rattle.wire.specs.ReadAnswer.{ReadAnswer}
use Rattle.wire.specs.Item.{Item}
use Rattle.wire.specs.Shape.{w32, w64}
use Rattle.wire.specs.Walk.{all, walk, walks}
use Rattle.wire.specs.Table.{u16_at, shapes_at}
use Rattle.wire.specs.Numbers.{most, last, varint}
use Rattle.wire.specs.Values.{Entry}
use Rattle.wire.specs.Reading.{Spot, Outcome, reached, refused, Run, head, run_after, read_nothing, read_on, read_then, past, reading, within, fit}
use Rattle.wire.specs.Answers.{read_answer}
use Rattle.laws.specs.Steps.{row}
use Rattle.laws.specs.Bounds.{Stays, reaches}
use Rattle.laws.specs.Tables.{node_shape}
use Rattle.laws.proofs.Bounds.{head-sound, row_stays, past-past}
use Rattle.laws.proofs.Runs.{fit_then, fit-reached, then-then}
use Rattle.table.specs.Parts.{row_step}
use Rattle.reader.specs.Steps.{answer_behind}
use Rattle.desk.specs.Path.{most_entries}
use Rattle.varint.specs.Takes.{takes}
use Rattle.varint.proofs.Reading.{at_width}
use Rattle.messages.specs.Fields.{key_width, key_by}
use Rattle.messages.specs.Steps.{skimmed, Goes}

-- ---- one step and another

past-left : (n : ℕ) (x : Spot) → length (past n x).bytes ≡ length x.bytes - n
unfolding past
past-left n x = length-drop n x.bytes

-- the same step, and as many bytes
pub goes-as : {f g : Spot → Run} {m : ℕ} {x : Spot} {n k c : ℕ} → g x ≡ f x → n ≡ k → Goes f m x n c → Goes g m x k c
goes-as {f} {g} {m} {x} e q a =
    record {
      made = a.made;
      ran = ap (fit (most_entries - m)) e ∙ a.ran ∙ ap (λ n. record { made = a.made; ends = reached (past n x) }) q;
      many = a.many;
      inside = rw (← q) a.inside;
    }

module _ (f g : Spot → Run) (m : ℕ) (x : Spot) where
  pub goes_then : {n c k d : ℕ} → Goes f m x n c → Goes g c (past n x) k d → Goes (read_then f g) m x (n + k) d
  unfolding read_on run_after
  goes_then {n} {c} {k} a b =
      let left : most_entries - m - length a.made ≡ most_entries - c = omega (arith, a.many) in
      record {
        made = a.made ++ b.made;
        ran = fit_then (most_entries - m) f g x ∙ rw (a.ran, left, b.ran, past-past n k x);
        many = rw (length-append a.made b.made) (omega (arith, a.many, b.many));
        inside = omega (arith, a.inside, b.inside, past-left n x);
      }

  -- a refusal of either is the whole's
  pub first-refused : {e : Refusal} {p : ℕ} → (fit (most_entries - m) (f x)).ends ≡ refused e p → (fit (most_entries - m) (read_then f g x)).ends ≡ refused e p
  unfolding read_on
  first-refused q = ap (λ r. r.ends) (fit_then (most_entries - m) f g x) ∙ rw q

  pub then-refused : {n c p : ℕ} {e : Refusal} → Goes f m x n c → (fit (most_entries - c) (g (past n x))).ends ≡ refused e p
      → (fit (most_entries - m) (read_then f g x)).ends ≡ refused e p
  unfolding read_on run_after
  then-refused {n} {c} a q =
      let left : most_entries - m - length a.made ≡ most_entries - c = omega (arith, a.many) in
      ap (λ r. r.ends) (fit_then (most_entries - m) f g x) ∙ rw (a.ran, left) q

-- what went, went without a bound too
pub goes-read : {f : Spot → Run} {m n c : ℕ} {x : Spot} (a : Goes f m x n c) → f x ≡ record { made = a.made; ends = reached (past n x) }
goes-read {f} {m} {n} {c} {x} a = (fit-reached (most_entries - m) (f x) a.made (past n x) a.ran).1

past-place : (x : Spot) {y : Spot} (n : ℕ) → y ≡ past n x → y.place ≡ x.place + n
unfolding past
past-place x n e = ap (λ (z : Spot). z.place) e

-- ---- a row of nodes

module _ (s : List ℕ) (l : Layout) where
  abbrev row_of : ℕ → ℕ → Spot → Run
  row_of from n = row_step (reading head) s l from n

  -- some of them, and then the others
  pub row-split : (a b from : ℕ) (x : Spot) → row_of from (a + b) x ≡ read_then (row_of from a) (row_of (from + 2 * a) b) x
  unfolding row_step shapes_at all walks
  row-split zero b from x = rw (zero-add b, add-zero from) (sym (nothing_then _ x))
    where
      nothing_then : (g : Spot → Run) (x : Spot) → read_then read_nothing g x ≡ g x
      nothing_then g x = unfold read_then read_nothing read_on run_after in refl
  row-split (suc a) b from x = go (fun_ext (λ y. row-split a b (from + 2) y))
    where
      go : row_of (from + 2) (a + b) ≡ read_then (row_of (from + 2) a) (row_of (from + 2 + 2 * a) b) → row_of from (suc a + b) x ≡ read_then (row_of from (suc a)) (row_of (from + 2 * suc a) b) x
      go e =
          let at : from + 2 + 2 * a ≡ from + 2 * suc a = omega arith in
          let more : suc a + b ≡ suc (a + b) = omega arith in
          unfold row_step shapes_at all walks in
          rw (more, e, at) (sym (then-then (walk (reading head) (node_shape s l (u16_at s from))) (row_of (from + 2) a) (row_of (from + 2 * suc a) b) x))

  -- ---- a skim's answer

  module _ (from width m : ℕ) (x : Spot) where
    pub skim-refused : {e : RefusedAt} → Err e ≡ skimmed (answer_behind m (fit (most_entries - m) (row_of from width x))) → (fit (most_entries - m) (row_of from width x)).ends ≡ refused e.why e.place
    unfolding answer_behind
    skim-refused {e} q = go (fit (most_entries - m) (row_of from width x)).ends _ refl q
      where
        go : (o : Outcome) (k : ℕ) → (fit (most_entries - m) (row_of from width x)).ends ≡ o → Err e ≡ skimmed (read_answer o k) → (fit (most_entries - m) (row_of from width x)).ends ≡ refused e.why e.place
        go (reached y) k h q = unfold read_answer skimmed in (let z : ◌≡◌ {A = ℕ} 0 1 = cc in absurd (omega arith))
        go (refused e' p') k h q = unfold read_answer skimmed in (let same : ◌≡◌ {A = RefusedAt} e (record { why = e'; place = p' }) = cc in h ∙ sym (ap (λ r. refused r.why r.place) same))

    pub skim-goes : {r : Reached} → Ok r ≡ skimmed (answer_behind m (fit (most_entries - m) (row_of from width x)))
        → (x.place ≤ r.place) × (r.place - x.place ≤ length x.bytes) × Goes (row_of from width) m x (r.place - x.place) r.count
    unfolding answer_behind
    skim-goes {r} q = go (fit (most_entries - m) (row_of from width x)).ends refl q
      where
        stays : {y : Spot} → (row (reading head) (shapes_at (node_shape s l) s from width) x).ends ≡ reached y → Stays x (row (reading head) (shapes_at (node_shape s l) s from width) x).made (reached y)
        stays h = rw h at (row_stays head-sound (shapes_at (node_shape s l) s from width) x)

        ran : {y : Spot} → (fit (most_entries - m) (row_of from width x)).ends ≡ reached y
            → fit (most_entries - m) (row_of from width x) ≡ record { made = (fit (most_entries - m) (row_of from width x)).made; ends = reached y }
        ran h = ap (λ o. record { made = (fit (most_entries - m) (row_of from width x)).made; ends = o }) h

        at : {y : Spot} {es : List Entry} → y.place ≡ r.place → m + length (fit (most_entries - m) (row_of from width x)).made ≡ r.count
            → fit (most_entries - m) (row_of from width x) ≡ record { made = (fit (most_entries - m) (row_of from width x)).made; ends = reached y } → Stays x es (reached y)
            → (x.place ≤ r.place) × (r.place - x.place ≤ length x.bytes) × Goes (row_of from width) m x (r.place - x.place) r.count
        at e many ran (reaches n k f t) =
            let place : x.place + n ≡ r.place = sym (past-place x n f) ∙ e in
            let used : n ≡ r.place - x.place = omega arith in
            (omega arith, rw (← used) k, record { made = (fit (most_entries - m) (row_of from width x)).made; ran = ran ∙ ap (λ z. record { made = (fit (most_entries - m) (row_of from width x)).made; ends = reached z }) (f ∙ ap (λ n. past n x) used); many = many; inside = rw (← used) k })

        go : (o : Outcome) → (fit (most_entries - m) (row_of from width x)).ends ≡ o → Ok r ≡ skimmed (read_answer o (m + length (fit (most_entries - m) (row_of from width x)).made))
            → (x.place ≤ r.place) × (r.place - x.place ≤ length x.bytes) × Goes (row_of from width) m x (r.place - x.place) r.count
        go (refused e p') h q = unfold read_answer skimmed in (let z : ◌≡◌ {A = ℕ} 0 1 = cc in absurd (omega arith))
        go (reached y) h q =
            unfold read_answer row_step skimmed in
            (let same : ◌≡◌ {A = Reached} r (record { place = y.place; count = m + length (fit (most_entries - m) (row_of from width x)).made }) = cc in
            at (sym (ap (λ r. r.place) same)) (sym (ap (λ r. r.count) same)) (ran h) (stays (ap (λ r. r.ends) (fit-reached (most_entries - m) (row_of from width x) _ y (ran h)).1)))

  -- as `map_err` hands it on
  pub skim-mapped : (r : ReadAnswer) {q : Result Reached RefusedAt} (P : Stopped → RefusedAt → Type 0) → MatchResult r (λ x. q ≡ Ok x) (λ e. IsErrAnd q (P e))
      → ((e : Stopped) (d : RefusedAt) → P e d → d ≡ record { why = e.why; place = e.place }) → q ≡ skimmed r
  unfolding skimmed
  skim-mapped (Ok x) P h post = h
  skim-mapped (Err e) {q} P h post = let p = err_from_is_err_and q h in p.1 ∙ ap Err (post e p.0 p.2)

  -- no node: nothing is read
  pub skim-none : (from m : ℕ) (x : Spot) → Ok (record { place = x.place; count = m }) ≡ skimmed (answer_behind m (fit (most_entries - m) (row_of from 0 x)))
  unfolding skimmed answer_behind read_answer row_step shapes_at all walks read_nothing fit within
  skim-none from m x = ap (λ n. Ok (record { place = x.place; count = n })) (sym (add-zero m))

  pub skim-empty : (from width m : ℕ) (x : Spot) → width ≡ 0 → Ok (record { place = x.place; count = m }) ≡ skimmed (answer_behind m (fit (most_entries - m) (row_of from width x)))
  skim-empty from width m x e = rw e (skim-none from m x)

-- ---- a key field's width

pub narrow-word : {narrow : Bool} (s : List ℕ) {i : Item} → narrow ≡ true → i ≡ varint w32 s → i ≡ varint (key_width narrow) s
unfolding key_width
narrow-word s e q = rw e q

pub wide_word : {narrow : Bool} (s : List ℕ) {i : Item} → narrow ≡ false → i ≡ takes 10 1 s → i ≡ varint (key_width narrow) s
unfolding key_width most last
wide_word s e q = rw e (q ∙ at_width w64 s)

-- ---- a key's two words

pub key-ahead : {ahead : Bool} {one other : ℕ} → ahead ≡ true → record { store = one; product = other } ≡ key_by ahead one other
unfolding key_by
key-ahead e = rw e

pub key-behind : {ahead : Bool} {one other : ℕ} → ahead ≡ false → record { store = other; product = one } ≡ key_by ahead one other
unfolding key_by
key-behind e = rw e
