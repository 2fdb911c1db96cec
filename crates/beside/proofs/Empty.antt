-- Two whole lists have no differences exactly if they have the same values.
-- Assumes nothing.
use mathlib.Core.Path.{◌≡◌, refl, sym, ap, ◌∙◌}
use mathlib.Core.Bool.{Bool, true, false}
use mathlib.Core.List.{List, [], ◌∷◌, ◌++◌, append_assoc, map-append}
use mathlib.Core.List as lists
use mathlib.Core.Option.{none}
use Prim.Native.Nat.{ℕ}
use native.Mathlib.Omega.{arith}
use Rattle.wire.specs.Tests.{given}
use Rattle.wire.specs.Shape.{Kind, Shape}
use Rattle.wire.specs.Walk.{Follow, following, Walk, walk}
use Rattle.wire.specs.Values.{Entry, Tag, Told, kept, lacks, short, tell_nothing, tell_then, tell_item, telling, tell, Value, value_of, whole, valued, values}
use Rattle.laws.specs.Steps.{Every}
use Rattle.laws.proofs.Walks.{every}
use Rattle.desk.specs.Differ.{same_item, Pair, Sides, beside, alone, Compared, sole, pairing, compare_nothing, compare_then, differing, compare_two, pass_one, compare_item, comparing, take_entry, listed, differences}
use Rattle.beside.specs.Laws.{SameEmpty, EmptySame}
use Rattle.beside.proofs.Same.{not-true, value-refl, item-values, item-follows}
use Rattle.laws.proofs.Told.{then-kept, item-kept}

-- ---- two steps' values

-- the same values and no pair; or some pair, and values that differ whatever follows them
pub data Verdict (ps : List Pair) (vs ws : List Value) : Type 0 where
  same : ps ≡ [] → vs ≡ ws → Verdict ps vs ws
  differ : (ps ≡ [] → ⊥) → ((m m' : List Value) → vs ++ m ≡ ws ++ m' → ⊥) → Verdict ps vs ws

cons-rest : {A : Type 0} {x : A} {ys zs : List A} → ◌≡◌ {A = List A} (x ∷ ys) (x ∷ zs) → ys ≡ zs
cons-rest e = cc

cancel : {A : Type 0} (xs ys zs : List A) → xs ++ ys ≡ xs ++ zs → ys ≡ zs
cancel [] ys zs e = e
cancel (x ∷ xs) ys zs e = cancel xs ys zs (cons-rest e)

append-empty : {A : Type 0} (xs ys : List A) → xs ++ ys ≡ [] → xs ≡ []
append-empty [] ys e = refl
append-empty (x ∷ xs) ys e = let z : ◌≡◌ {A = ℕ} 0 1 = cc in absurd (omega arith)

verdict-then : {ps qs : List Pair} {vs ws vs' ws' : List Value} → Verdict ps vs ws → Verdict qs vs' ws' → Verdict (ps ++ qs) (vs ++ vs') (ws ++ ws')
verdict-then (same a b) (same c d) = same (rw (a, c)) (rw (b, d))
verdict-then {vs} {ws} {vs'} {ws'} (same a b) (differ c d) =
    differ (rw a c) (λ m m' e. d m m' (cancel ws (vs' ++ m) (ws' ++ m') (rw (b, append_assoc ws vs' m, append_assoc ws ws' m') at e)))
verdict-then {ps} {qs} {vs} {ws} {vs'} {ws'} (differ a b) k =
    differ (λ e. a (append-empty ps qs e)) (λ m m' e. b (vs' ++ m) (ws' ++ m') (rw (append_assoc vs vs' m, append_assoc ws ws' m') at e))

module _ (pool pool' : List ℕ) where
  abbrev left : List Tag → List Value
  left ts = lists.map (value_of pool) ts

  abbrev right : List Tag → List Value
  right ts = lists.map (value_of pool') ts

  pub record Met (c : Compared (List Entry)) (rest rest' : List Entry) (vs ws : List Value) : Type 0 where
    pub rests : c.rest ≡ beside rest rest'
    pub verdict : Verdict c.pairs vs ws

  pub record Agreeing (u : List Entry → Told) (c : Sides (List Entry) → Compared (List Entry)) : Type 0 where
    pub passes : (es : List Entry) (ts : List Tag) (rest : List Entry) → u es ≡ kept ts rest → c (alone es) ≡ record { pairs = []; rest = alone rest }
    pub meets : (es fs : List Entry) (ts us : List Tag) (rest rest' : List Entry) → u es ≡ kept ts rest → u fs ≡ kept us rest'
        → Met (c (beside es fs)) rest rest' (left ts) (right us)

  pub agree-nothing : Agreeing tell_nothing compare_nothing
  unfolding tell_nothing compare_nothing
  agree-nothing =
      record {
        passes = λ es ts rest e. let a : es ≡ rest = cc in rw a;
        meets = λ es fs ts us rest rest' e f.
            let a : es ≡ rest = cc in
            let b : fs ≡ rest' = cc in
            let c : [] ≡ ts = cc in
            let d : [] ≡ us = cc in
            record { rests = rw (a, b); verdict = same refl (rw (← c, ← d)) };
      }

  pub agree_then : {u v : List Entry → Told} {c d : Sides (List Entry) → Compared (List Entry)} → Agreeing u c → Agreeing v d → Agreeing (tell_then u v) (compare_then c d)
  unfolding compare_then pairing
  agree_then {u} {v} {c} {d} h k = record { passes = passes; meets = meets }
    where
      passes : (es : List Entry) (ts : List Tag) (rest : List Entry) → tell_then u v es ≡ kept ts rest → compare_then c d (alone es) ≡ record { pairs = []; rest = alone rest }
      passes es ts rest e =
          let s = then-kept u v es ts rest e in
          rw (h.passes es s.these s.between s.first, k.passes s.between s.those rest s.second)

      meets : (es fs : List Entry) (ts us : List Tag) (rest rest' : List Entry) → tell_then u v es ≡ kept ts rest → tell_then u v fs ≡ kept us rest'
          → Met (compare_then c d (beside es fs)) rest rest' (left ts) (right us)
      meets es fs ts us rest rest' e f =
          let s = then-kept u v es ts rest e in
          let r = then-kept u v fs us rest' f in
          let a = h.meets es fs s.these r.these s.between r.between s.first r.first in
          let b = k.meets s.between r.between s.those r.those rest rest' s.second r.second in
          record {
            rests = rw a.rests b.rests;
            verdict = rw (s.all, r.all, map-append (value_of pool) s.these s.those, map-append (value_of pool') r.these r.those, a.rests) (verdict-then a.verdict b.verdict);
          }

  pub agree-item : (u : Follow → List Entry → Told) (c : Follow → Sides (List Entry) → Compared (List Entry)) (k : Kind) (n : ℕ)
      → ((a : ℕ) → Agreeing (u (following k a)) (c (following k a)))
      → Agreeing (tell_item k n (λ a. u (following k a))) (compare_item listed (same_item pool pool') k n (λ a. c (following k a)))
  unfolding compare_item take_entry pass_one compare_two
  agree-item u c k n h = record { passes = passes; meets = meets }
    where
      passes : (es : List Entry) (ts : List Tag) (rest : List Entry) → tell_item k n (λ a. u (following k a)) es ≡ kept ts rest
          → compare_item listed (same_item pool pool') k n (λ a. c (following k a)) (alone es) ≡ record { pairs = []; rest = alone rest }
      passes es ts rest q =
          let s = item-kept k n (λ a. u (following k a)) es ts rest q in
          rw s.list ((h s.entry.first).passes s.inside s.those rest s.told)

      two : (e f : Entry) (es fs : List Entry) (ts us : List Tag) (rest rest' : List Entry)
          → u (following k e.first) es ≡ kept ts rest → u (following k f.first) fs ≡ kept us rest'
          → (b : Bool) → same_item pool pool' k e f ≡ b
          → Met (given b (λ _. c (following k e.first) (beside es fs)) (differing (λ a. c (following k a)) (record { entry = e; rest = es }) (record { entry = f; rest = fs })))
          rest rest' (value_of pool (record { kind = k; entry = e }) ∷ left ts) (value_of pool' (record { kind = k; entry = f }) ∷ right us)
      two e f es fs ts us rest rest' p q true t =
          let m = (h e.first).meets es fs ts us rest rest' p (rw (item-follows pool pool' k e f t) q) in
          unfold given in record { rests = m.rests; verdict = again m.verdict }
        where
          again : {ps : List Pair} → Verdict ps (left ts) (right us)
              → Verdict ps (value_of pool (record { kind = k; entry = e }) ∷ left ts) (value_of pool' (record { kind = k; entry = f }) ∷ right us)
          again w = verdict-then {ps = []} {vs = value_of pool (record { kind = k; entry = e }) ∷ []} {ws = value_of pool' (record { kind = k; entry = f }) ∷ []}
              (same refl (rw (item-values pool pool' k e f t))) w
      two e f es fs ts us rest rest' p q false t =
          unfold given differing in
          record {
            rests = rw ((h e.first).passes es ts rest p, (h f.first).passes fs us rest' q) (unfold sole in refl);
            verdict = differ (λ z. let y : ◌≡◌ {A = ℕ} 0 1 = cc in omega arith) (λ m m' z. not-true (sym t ∙ alike (heads z)));
          }
        where
          heads : {a b : Value} {s r : List Value} → ◌≡◌ {A = List Value} (a ∷ s) (b ∷ r) → a ≡ b
          heads z = cc

          alike : value_of pool (record { kind = k; entry = e }) ≡ value_of pool' (record { kind = k; entry = f }) → same_item pool pool' k e f ≡ true
          alike z = unfold same_item in rw z (value-refl _)

      laid : {es fs es' fs' rest rest' : List Entry} {ts us ts' us' : List Tag} {e f : Entry} → es ≡ e ∷ es' → fs ≡ f ∷ fs'
          → ts ≡ record { kind = k; entry = e } ∷ ts' → us ≡ record { kind = k; entry = f } ∷ us'
          → Met (compare_item listed (same_item pool pool') k n (λ a. c (following k a)) (beside (e ∷ es') (f ∷ fs'))) rest rest' (left (record { kind = k; entry = e } ∷ ts')) (right (record { kind = k; entry = f } ∷ us'))
          → Met (compare_item listed (same_item pool pool') k n (λ a. c (following k a)) (beside es fs)) rest rest' (left ts) (right us)
      laid a b x y m = rw (a, b, x, y) m

      meets : (es fs : List Entry) (ts us : List Tag) (rest rest' : List Entry)
          → tell_item k n (λ a. u (following k a)) es ≡ kept ts rest → tell_item k n (λ a. u (following k a)) fs ≡ kept us rest'
          → Met (compare_item listed (same_item pool pool') k n (λ a. c (following k a)) (beside es fs)) rest rest' (left ts) (right us)
      meets es fs ts us rest rest' p q =
          let s = item-kept k n (λ a. u (following k a)) es ts rest p in
          let r = item-kept k n (λ a. u (following k a)) fs us rest' q in
          laid s.list r.list s.all r.all
          (two s.entry r.entry s.inside r.inside s.those r.those rest rest' s.told r.told (same_item pool pool' k s.entry r.entry) refl)

  abbrev walks : Bool → Walk
  walks true = telling
  walks false = comparing listed (same_item pool pool')

  agreeing : Every walks (λ f. Agreeing (f true) (f false))
  agreeing = record { none = agree-nothing; both = agree_then; made = λ f k n h. agree-item (λ way. f way true) (λ way. f way false) k n h }

  differs : (t : Shape) → Agreeing (tell t) (λ x. walk (comparing listed (same_item pool pool')) t x)
  unfolding tell
  differs t = every agreeing t

-- the whole list was told
pub record WholeTold (t : Shape) (pool : List ℕ) (es : List Entry) (vs : List Value) : Type 0 where
  pub tags : List Tag
  pub told : tell t es ≡ kept tags []
  pub them : lists.map (value_of pool) tags ≡ vs

pub whole-told : (t : Shape) (pool : List ℕ) (es : List Entry) (vs : List Value) → values t pool es ≡ whole vs → WholeTold t pool es vs
unfolding values
whole-told t pool es vs = go (tell t es) refl
  where
    go : (x : Told) → tell t es ≡ x → valued pool x ≡ whole vs → WholeTold t pool es vs
    go (kept ts []) a e = unfold valued in record { tags = ts; told = a; them = cc }
    go (kept ts (f ∷ fs)) a e = unfold valued in (let z : ◌≡◌ {A = ℕ} 0 1 = cc in absurd (omega arith))
    go (lacks ts f fs) a e = unfold valued in (let z : ◌≡◌ {A = ℕ} 0 1 = cc in absurd (omega arith))
    go (short ts) a e = unfold valued in (let z : ◌≡◌ {A = ℕ} 0 1 = cc in absurd (omega arith))

-- the verdict on two whole lists
pub two-lists : (t : Shape) (pool : List ℕ) (es : List Entry) (pool' : List ℕ) (fs : List Entry) (vs ws : List Value)
    → values t pool es ≡ whole vs → values t pool' fs ≡ whole ws → Verdict (differences t pool es pool' fs) vs ws
unfolding differences
two-lists t pool es pool' fs vs ws p q =
    let a = whole-told t pool es vs p in
    let b = whole-told t pool' fs ws q in
    rw (← a.them, ← b.them) ((differs pool pool' t).meets es fs a.tags b.tags [] [] a.told b.told).verdict

no-pair : {ps : List Pair} {vs : List Value} → Verdict ps vs vs → ps ≡ []
no-pair (same a b) = a
no-pair (differ a b) = absurd (b [] [] refl)

no_difference : {ps : List Pair} {vs ws : List Value} → Verdict ps vs ws → ps ≡ [] → vs ≡ ws
no_difference (same a b) e = b
no_difference (differ a b) e = absurd (a e)

pub same-empty : SameEmpty
same-empty t pool es pool' fs s = no-pair (two-lists t pool es pool' fs s.them s.them s.those s.these)

pub empty-same : EmptySame
empty-same t pool es pool' fs vs ws p q e =
    record { them = vs; those = p; these = q ∙ ap whole (sym (no_difference (two-lists t pool es pool' fs vs ws p q) e)) }
