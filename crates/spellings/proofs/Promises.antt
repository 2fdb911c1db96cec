-- The promises about rows, from what is said of every input.
-- Assumes nothing.
use mathlib.Core.Path.{◌≡◌, refl, sym, ap, ◌∙◌}
use mathlib.Core.Path as paths
use mathlib.Core.Bool.{Bool, true, false}
use mathlib.Core.List.{List, [], ◌∷◌, ◌++◌, append-nil, append_assoc, nil≢cons, head-eq_of_cons-eq, tail-eq_of_cons-eq}
use lib.ListN.{length}
use Rattle.laws.proofs.Splits.{not-both}
use Prim.Native.Nat.{ℕ}
use Rattle.wire.specs.Values.{Value}
use Rattle.desk.specs.Csv.{Style, Spelling, Begins, Blocked, ends, wrong, Stops, may_all, row, exported_rows, styles_of}
use Rattle.spellings.specs.Accept.{Parsed, took, stopped, parse}
use Rattle.spellings.specs.Exact.{AllExact, Judged, reads, stops}
use Rattle.spellings.specs.Promises.{RowPromise, RowsThereAndBack}
use Rattle.spellings.proofs.Scheme.{rows-judged}
use Rattle.spellings.proofs.Tables.{all-exact}

-- ---- where an input stops

module _ {X : Type 0} (p : Spelling X) where
  -- what is spelled is not stopped in
  never-stops : {s : List ℕ} {n : ℕ} (v : X) → p.has v ≡ true → p.spell v ≡ s → Stops p s n → ⊥
  never-stops v h e st = go st.rest (e ∙ st.split) st.blocked
    where
      go : (rest : List ℕ) → p.spell v ≡ st.front ++ rest → Blocked p st.front rest → ⊥
      go [] e (ends isnt) = isnt v h (e ∙ append-nil st.front)
      go (b ∷ t) e (wrong isnt) = isnt (record { value = v; had = h; more = t; spells = e ∙ sym (append_assoc st.front (b ∷ []) t) })

  -- what is blocked begins no spelling that begins with more
  blocks : (front rest : List ℕ) (b : ℕ) (t : List ℕ) → Blocked p front rest → Begins p (front ++ b ∷ t) → (u : List ℕ) → rest ≡ b ∷ u → ⊥
  blocks front [] b t (ends isnt) g u e = nil≢cons e
  blocks front (a ∷ r) b t (wrong isnt) g u e =
      isnt
      (record {
        value = g.value;
        had = g.had;
        more = t ++ g.more;
        spells = g.spells ∙ append_assoc front (b ∷ t) g.more ∙ sym (append_assoc front (b ∷ []) (t ++ g.more)) ∙ ap (λ x. front ++ x ∷ [] ++ (t ++ g.more)) (sym (head-eq_of_cons-eq e));
      })

  -- two ways to split a list: one front is the other's, or goes on
  data Compared (front rest front' rest' : List ℕ) : Type 0 where
    same : front ≡ front' → Compared front rest front' rest'
    before : (b : ℕ) (t u : List ℕ) → front' ≡ front ++ b ∷ t → rest ≡ b ∷ u → Compared front rest front' rest'
    behind : (b : ℕ) (t u : List ℕ) → front ≡ front' ++ b ∷ t → rest' ≡ b ∷ u → Compared front rest front' rest'

  compared : (front rest front' rest' : List ℕ) → front ++ rest ≡ front' ++ rest' → Compared front rest front' rest'
  compared [] rest [] rest' e = same refl
  compared [] rest (b ∷ t) rest' e = before b t (t ++ rest') refl e
  compared (b ∷ t) rest [] rest' e = behind b t (t ++ rest) refl (sym e)
  compared (a ∷ s) rest (b ∷ t) rest' e = on (head-eq_of_cons-eq e) (compared s rest t rest' (tail-eq_of_cons-eq e))
    where
      on : a ≡ b → Compared s rest t rest' → Compared (a ∷ s) rest (b ∷ t) rest'
      on h (same k) = same (rw (h, k))
      on h (before c x u k r) = before c x u (rw (h, k)) r
      on h (behind c x u k r) = behind c x u (rw (h, k)) r

  -- there is one such place
  pub stops-once : {s : List ℕ} {m n : ℕ} → Stops p s m → Stops p s n → m ≡ n
  stops-once {m = m} {n = n} x y = go (compared x.front x.rest y.front y.rest (sym x.split ∙ y.split))
    where
      go : Compared x.front x.rest y.front y.rest → m ≡ n
      go (same e) = sym x.long ∙ ap (λ s. length s) e ∙ y.long
      go (before b t u e r) = absurd (blocks x.front x.rest b t x.blocked (rw e at y.begins) u r)
      go (behind b t u e r) = absurd (blocks y.front y.rest b t y.blocked (rw e at x.begins) u r)

-- ---- rows

abbrev took_of : Parsed → List Value
took_of (took vs) = vs
took_of (stopped n) = []

abbrev place_of : Parsed → ℕ
place_of (took vs) = 0
place_of (stopped n) = n

abbrev is_took : Parsed → Bool
is_took (took vs) = true
is_took (stopped n) = false

module _ (fs : List Style) (exact : AllExact fs) where
  said-took : (s : List ℕ) (vs : List Value) (r : Parsed) → Judged (exported_rows fs) s took r → r ≡ took vs → (may_all fs vs ≡ true) × (row fs vs ≡ s)
  unfolding exported_rows
  said-took s vs (took v) (reads h) e = rw (← ap took_of e) (h.had, h.spells)
  said-took s vs (stopped n) (stops h) e = not-both (ap is_took e) refl

  takes : (s : List ℕ) (vs : List Value) (r : Parsed) → Judged (exported_rows fs) s took r → may_all fs vs ≡ true → row fs vs ≡ s → r ≡ took vs
  unfolding exported_rows
  takes s vs (took v) (reads h) m e = ap took (sym (h.only vs m e))
  takes s vs (stopped n) (stops h) m e = absurd (never-stops (exported_rows fs) vs m e h)

  said-stopped : (s : List ℕ) (n : ℕ) (r : Parsed) → Judged (exported_rows fs) s took r → r ≡ stopped n → Stops (exported_rows fs) s n
  said-stopped s n (took v) (reads h) e = not-both refl (ap is_took e)
  said-stopped s n (stopped m) (stops h) e = paths.subst (λ m. Stops (exported_rows fs) s m) (ap place_of e) h

  stopping : (s : List ℕ) (n : ℕ) (r : Parsed) → Judged (exported_rows fs) s took r → Stops (exported_rows fs) s n → r ≡ stopped n
  stopping s n (took v) (reads h) st = absurd (never-stops (exported_rows fs) v h.had h.spells st)
  stopping s n (stopped m) (stops h) st = ap stopped (stops-once (exported_rows fs) h st)

  pub row-promise : RowPromise fs
  row-promise =
      record {
        reads = λ s vs. (λ e. said-took s vs (parse fs s) (rows-judged fs exact s) e, λ h. takes s vs (parse fs s) (rows-judged fs exact s) h.0 h.1);
        stops = λ s n. (λ e. said-stopped s n (parse fs s) (rows-judged fs exact s) e, λ h. stopping s n (parse fs s) (rows-judged fs exact s) h);
        same = λ vs ws h k. (λ e. one vs ws h k e, λ e. ap (row fs) e);
      }
    where
      one : (vs ws : List Value) → may_all fs vs ≡ true → may_all fs ws ≡ true → row fs vs ≡ row fs ws → vs ≡ ws
      one vs ws h k e =
          ap took_of (sym (takes (row fs vs) vs (parse fs (row fs vs)) (rows-judged fs exact (row fs vs)) h refl) ∙ takes (row fs vs) ws (parse fs (row fs vs)) (rows-judged fs exact (row fs vs)) k (sym e))

pub rows-there-and-back : RowsThereAndBack
rows-there-and-back t cs e = row-promise (styles_of cs) (all-exact t cs e)
