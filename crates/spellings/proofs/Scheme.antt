-- One law for a field and what follows it, over any exact acceptor; and so for every row.
-- Assumes nothing.
use mathlib.Core.Path.{◌≡◌, refl, sym, ap, ◌∙◌}
use mathlib.Core.Path as paths
use mathlib.Core.Bool.{Bool, true, false}
use mathlib.Core.List.{List, [], ◌∷◌, ◌++◌, append-nil, append_assoc, append_cancel_left, nil≢cons, head-eq_of_cons-eq, tail-eq_of_cons-eq}
use mathlib.Core.Option.{Option, none, some, some-injective, none-ne-some}
use Prim.Native.Nat.{ℕ, ◌+◌}
use native.Mathlib.Omega.{arith}
use lib.ListN.{length, length-append}
use lib.Dec.{eqb}
use borrow.Author.Tests.{eqb-true, eqb-false}
use Rattle.wire.specs.Tests.{pick, given, both}
use Rattle.wire.specs.Values.{Value}
use Rattle.laws.proofs.Splits.{not-both, both_yes, both_left, both_right}
use Rattle.desk.specs.Csv.{comma, Style, spelled, Spelling, Begins, Blocked, ends, wrong, Stops, may_all, row, later, exported_rows}
use Rattle.spellings.specs.Accept.{Acceptor, Scanned, scan, scan_on, moved, Parsed, took, stopped, past, with_value, must, finished, field_then, parse_field, parse_later, parse, acceptor}
use Rattle.spellings.specs.Exact.{Goes, stays, steps, Whole, is_separator, Exact, styled, ExactStyle, AllExact, no_field, and_field, Judged, reads, stops, RowsJudged, Reads}

cons-eq : {X : Type 0} {a b : X} {s t : List X} → a ≡ b → s ≡ t → a ∷ s ≡ b ∷ t
cons-eq e f = rw (e, f)

-- ---- acceptors

module _ (A : Acceptor) where
  -- no state follows by what comes next
  pub data Stuck (x : A.State) : List ℕ → Type 0 where
    ended : Stuck x []
    refused : {b : ℕ} {s : List ℕ} → A.step x b ≡ none → Stuck x (b ∷ s)

  pub record Scans (x : A.State) (s : List ℕ) (r : Scanned A) : Type 0 where
    pub front : List ℕ
    pub split : s ≡ front ++ r.left
    pub long : length front ≡ r.used
    pub goes : Goes A x front r.state
    pub stuck : Stuck r.state r.left

  pub scans : (s : List ℕ) (x : A.State) → Scans x s (scan A x s)
  unfolding scan scan_on moved
  scans [] x = record { front = []; split = refl; long = refl; goes = stays; stuck = ended }
  scans (b ∷ s) x = on (A.step x b) refl (λ y. scan A y s) (λ y. scans s y)
    where
      on : (o : Option A.State) → A.step x b ≡ o → (k : A.State → Scanned A) → ((y : A.State) → Scans y s (k y)) → Scans x (b ∷ s) (scan_on A x b s o k)
      on none e k h = record { front = []; split = refl; long = refl; goes = stays; stuck = refused e }
      on (some y) e k h =
          record { front = b ∷ (h y).front; split = ap (λ t. b ∷ t) (h y).split; long = omega (arith, (h y).long); goes = steps e (h y).goes; stuck = (h y).stuck }

  pub none-some {ℓ} : {Y : Type ℓ} {x y : A.State} {b c : ℕ} → A.step x b ≡ none → A.step x c ≡ some y → b ≡ c → Y
  none-some {x = x} {y = y} n s e = absurd (none-ne-some y (sym n ∙ ap (λ b. A.step x b) e ∙ s))

  pub same_next : {x y z : A.State} {b c : ℕ} → A.step x b ≡ some y → A.step x c ≡ some z → b ≡ c → y ≡ z
  same_next {x = x} {y = y} {z = z} p q e = some-injective y z (sym p ∙ ap (λ b. A.step x b) e ∙ q)

  -- by the same bytes to the same state
  pub same_end : {x y z : A.State} {s t : List ℕ} → Goes A x s y → Goes A x t z → s ≡ t → y ≡ z
  same_end stays stays e = refl
  same_end stays (steps p g) e = absurd (nil≢cons e)
  same_end (steps p g) stays e = absurd (nil≢cons (sym e))
  same_end {z = z} (steps p g) (steps {s = t} q h) e =
      same_end {z = z} {t = t} g (paths.subst (λ y. Goes A y t z) (sym (same_next p q (head-eq_of_cons-eq e))) h) (tail-eq_of_cons-eq e)

  stop {ℓ} : {Y : Type ℓ} {x y : A.State} {b : ℕ} {s z : List ℕ} → Stuck x z → A.step x b ≡ some y → b ∷ s ≡ z → Y
  stop ended q e = absurd (nil≢cons (sym e))
  stop (refused r) q e = none-some r q (sym (head-eq_of_cons-eq e))

  -- a whole spelling with a separator behind it, beside as far as the acceptor goes: they end together
  pub meets : {x y w : A.State} {front u : List ℕ} (z t : List ℕ) (c : ℕ) → Goes A x front y → Stuck y z → Goes A x u w → A.step w c ≡ none
      → u ++ c ∷ t ≡ front ++ z → u ≡ front
  meets z t c stays k stays n e = refl
  meets z t c (steps p g) k stays n e = none-some n p (head-eq_of_cons-eq e)
  meets z t c stays k (steps q h) n e = stop k q e
  meets {w = w} z t c (steps {b = b} {s = front} p g) k (steps {s = u} q h) n e =
      cons-eq (head-eq_of_cons-eq e)
      (meets {w = w} {u = u} z t c g k (paths.subst (λ y. Goes A y u w) (sym (same_next p q (sym (head-eq_of_cons-eq e)))) h) n (tail-eq_of_cons-eq e))

-- ---- a field and what follows it

unfoldable pub joined_has : Spelling Value → Spelling (List Value) → List Value → Bool
joined_has p q [] = false
joined_has p q (v ∷ vs) = both (p.has v) (q.has vs)

unfoldable pub joined_spell : Spelling Value → Spelling (List Value) → List Value → List ℕ
joined_spell p q [] = []
joined_spell p q (v ∷ vs) = p.spell v ++ q.spell vs

unfoldable pub joined : Spelling Value → Spelling (List Value) → Spelling (List Value)
joined p q = record { has = joined_has p q; spell = joined_spell p q }

abbrev JudgedRow : Spelling (List Value) → List ℕ → Parsed → Type 0
JudgedRow q s r = Judged q s took r

-- every spelling begins with one byte
abbrev pub BeginsBy : ℕ → Spelling (List Value) → Type 0
BeginsBy c q = (w : List Value) → q.has w ≡ true → (t : List ℕ) × (q.spell w ≡ c ∷ t)

-- there is a spelling, since even no bytes at all are judged
inhabited : {q : Spelling (List Value)} {r : Parsed} → JudgedRow q [] r → Begins q []
inhabited (reads h) = record { value = _; had = h.had; more = []; spells = h.spells }
inhabited (stops h) = front_of h.front h.rest h.split h.begins
  where
    front_of : {q : Spelling (List Value)} (front rest : List ℕ) → [] ≡ front ++ rest → Begins q front → Begins q []
    front_of [] rest e b = b
    front_of (x ∷ s) rest e b = absurd (nil≢cons e)

module _ (p : Spelling Value) (A : Acceptor) (exact : Exact p A) (q : Spelling (List Value)) (c : ℕ) (sep : is_separator c ≡ true) (by : BeginsBy c q) where
  -- a joined spelling beside as far as the acceptor goes: the first value is the one there
  record Met (x : A.State) (z : List ℕ) (vs : List Value) : Type 0 where
    first : Value
    others : List Value
    are : vs ≡ first ∷ others
    had : p.has first ≡ true
    have : q.has others ≡ true
    value : A.value x ≡ some first
    spells : q.spell others ≡ z

  met : {x : A.State} {front : List ℕ} → Goes A A.start front x → (z : List ℕ) → Stuck A x z → (vs : List Value) → (joined p q).has vs ≡ true
      → (joined p q).spell vs ≡ front ++ z → Met x z vs
  unfolding joined joined_has joined_spell
  met g z k [] h e = not-both h refl
  met {x = x} {front = front} g z k (v ∷ w) h e = go (exact.goes v (both_left _ _ h)) (by w (both_right _ _ h))
    where
      go : Whole A (p.spell v) v → (t : List ℕ) × (q.spell w ≡ c ∷ t) → Met x z (v ∷ w)
      go wh ct =
          let same : p.spell v ++ c ∷ ct.0 ≡ front ++ z = rw ct.1 at e in
          let fr : p.spell v ≡ front = meets A z ct.0 c g k wh.goes (exact.closed c sep wh.is) same in
          let st : x ≡ wh.end = same_end A g wh.goes (sym fr) in
          record {
            first = v;
            others = w;
            are = refl;
            had = both_left _ _ h;
            have = both_right _ _ h;
            value = rw st wh.is;
            spells = append_cancel_left front (q.spell w) z (rw fr at e);
          }

  -- as far as the acceptor goes from the start of s
  module _ (s : List ℕ) (r : Scanned A) (scanned : Scans A A.start s r) where
    -- the first value is not whole
    part : (w : Begins q []) → A.value r.state ≡ none → Stops (joined p q) s r.used
    unfolding joined joined_has joined_spell
    part w isnt =
        record { front = scanned.front; rest = r.left; split = scanned.split; long = scanned.long; begins = begun (exact.alive scanned.goes); blocked = blocked r.left scanned.stuck }
      where
        begun : Begins p scanned.front → Begins (joined p q) scanned.front
        begun b =
            record {
              value = b.value ∷ w.value;
              had = both_yes _ _ b.had w.had;
              more = b.more ++ q.spell w.value;
              spells = rw b.spells (append_assoc scanned.front b.more (q.spell w.value));
            }

        never : {z : List ℕ} {vs : List Value} → Met r.state z vs → ⊥
        never m = (none-ne-some m.first (sym isnt ∙ m.value))

        blocked : (rest : List ℕ) → Stuck A r.state rest → Blocked (joined p q) scanned.front rest
        blocked [] k = ends (λ vs h e. never (met scanned.goes [] k vs h (e ∙ sym (append-nil scanned.front))))
        blocked (b ∷ t) (refused n) =
            wrong (λ g. never (met scanned.goes (b ∷ g.more) (refused n) g.value g.had (g.spells ∙ append_assoc scanned.front (b ∷ []) g.more)))

    -- the first value is whole, and what follows is judged
    module _ (v : Value) (is : A.value r.state ≡ some v) where
      here : (p.has v ≡ true) × (p.spell v ≡ scanned.front)
      here = exact.whole scanned.goes is

      same-value : {z : List ℕ} {vs : List Value} (m : Met r.state z vs) → m.first ≡ v
      same-value m = some-injective m.first v (sym m.value ∙ is)

      both_read : {w : List Value} → Reads q r.left w → Reads (joined p q) s (v ∷ w)
      unfolding joined joined_has joined_spell
      both_read {w = w} h =
          record {
            had = both_yes _ _ here.0 h.had;
            spells = rw (here.1, h.spells) (sym scanned.split);
            only = λ vs had e. only vs (met scanned.goes r.left scanned.stuck vs had (e ∙ scanned.split));
          }
        where
          only : (vs : List Value) → Met r.state r.left vs → vs ≡ v ∷ w
          only vs m = m.are ∙ cons-eq (same-value m) (h.only m.others m.have m.spells)

      -- the same first byte is stuck whatever follows
      stuck-on : {x : A.State} (s t u : List ℕ) (b : ℕ) → Stuck A x (s ++ b ∷ t) → Stuck A x (s ++ b ∷ u)
      stuck-on [] t u b (refused n) = refused n
      stuck-on (a ∷ s) t u b (refused n) = refused n

      both-stop : {n : ℕ} → Stops q r.left n → Stops (joined p q) s (r.used + n)
      unfolding joined joined_has joined_spell
      both-stop {n = n} h =
          record {
            front = scanned.front ++ h.front;
            rest = h.rest;
            split = scanned.split ∙ ap (λ t. scanned.front ++ t) h.split ∙ sym (append_assoc scanned.front h.front h.rest);
            long = rw (length-append scanned.front h.front, scanned.long, h.long);
            begins = begun h.begins;
            blocked = blocked h.rest h.split h.blocked;
          }
        where
          begun : Begins q h.front → Begins (joined p q) (scanned.front ++ h.front)
          begun b =
              record {
                value = v ∷ b.value;
                had = both_yes _ _ here.0 b.had;
                more = b.more;
                spells = rw (here.1, b.spells) (sym (append_assoc scanned.front h.front b.more));
              }

          blocked : (rest : List ℕ) → r.left ≡ h.front ++ rest → Blocked q h.front rest → Blocked (joined p q) (scanned.front ++ h.front) rest
          blocked [] sp (ends isnt) =
              ends
              (λ vs had e. let m = met scanned.goes h.front (rw (sp ∙ append-nil h.front) at scanned).stuck vs had e in isnt m.others m.have m.spells)
          blocked (b ∷ t) sp (wrong isnt) = wrong
              (λ g.
              let m = met scanned.goes (h.front ++ b ∷ g.more) (stuck-on h.front t g.more b (rw sp at scanned).stuck) g.value g.had
              (g.spells ∙ along g.more)
              in
              isnt (record { value = m.others; had = m.have; more = g.more; spells = m.spells ∙ sym (append_assoc h.front (b ∷ []) g.more) }))
            where
              along : (more : List ℕ) → scanned.front ++ h.front ++ b ∷ [] ++ more ≡ scanned.front ++ (h.front ++ b ∷ more)
              along more = simp append_assoc

  -- a field, and what follows it judged: the whole is judged
  field-judged : (s : List ℕ) (g : List ℕ → Parsed) → ((t : List ℕ) → JudgedRow q t (g t)) → JudgedRow (joined p q) s (parse_field A (scan A A.start s) g)
  unfolding parse_field past with_value field_then
  field-judged s g judged = go (A.value (scan A A.start s).state) refl
    where
      r : Scanned A
      r = scan A A.start s

      then : (v : Value) → A.value r.state ≡ some v → (o : Parsed) → JudgedRow q r.left o → JudgedRow (joined p q) s (past r.used (with_value v o))
      then v is (took w) (reads h) = reads (both_read s r (scans A s A.start) v is h)
      then v is (stopped n) (stops h) = stops (both-stop s r (scans A s A.start) v is h)

      go : (o : Option Value) → A.value r.state ≡ o → JudgedRow (joined p q) s (field_then o r.used r.left g)
      go none isnt = stops (part s r (scans A s A.start) (inhabited (judged [])) isnt)
      go (some v) is = then v is (g r.left) (judged r.left)

-- ---- one byte that must stand there

unfoldable pub prefixed : ℕ → Spelling (List Value) → Spelling (List Value)
prefixed c q = record { has = q.has; spell = λ v. c ∷ q.spell v }

module _ (c : ℕ) (q : Spelling (List Value)) where
  nothing_yet : Begins q [] → Begins (prefixed c q) []
  unfolding prefixed
  nothing_yet w = record { value = w.value; had = w.had; more = c ∷ q.spell w.value; spells = refl }

  one_more : (b : ℕ) (s : List ℕ) → b ≡ c → {n : ℕ} → Stops q s n → Stops (prefixed c q) (b ∷ s) (1 + n)
  unfolding prefixed
  one_more b s e h =
      record {
        front = b ∷ h.front;
        rest = h.rest;
        split = ap (λ t. b ∷ t) h.split;
        long = omega (arith, h.long);
        begins = record { value = h.begins.value; had = h.begins.had; more = h.begins.more; spells = cons-eq (sym e) h.begins.spells };
        blocked = blocked h.rest h.blocked;
      }
    where
      blocked : (rest : List ℕ) → Blocked q h.front rest → Blocked (prefixed c q) (b ∷ h.front) rest
      blocked [] (ends isnt) = ends (λ w had eq. isnt w had (tail-eq_of_cons-eq eq))
      blocked (a ∷ t) (wrong isnt) =
          wrong (λ g. isnt (record { value = g.value; had = g.had; more = g.more; spells = tail-eq_of_cons-eq g.spells }))

  must-judged : (g : List ℕ → Parsed) → ((t : List ℕ) → JudgedRow q t (g t)) → (s : List ℕ) → JudgedRow (prefixed c q) s (must c g s)
  unfolding must prefixed past given
  must-judged g judged [] =
      stops (record { front = []; rest = []; split = refl; long = refl; begins = nothing_yet (inhabited (judged [])); blocked = ends (λ w had e. nil≢cons (sym e)) })
  must-judged g judged (b ∷ s) = go (eqb b c) refl
    where
      then : b ≡ c → (o : Parsed) → JudgedRow q s o → JudgedRow (prefixed c q) (b ∷ s) (past 1 o)
      then e (took w) (reads h) = reads (record { had = h.had; spells = cons-eq (sym e) h.spells; only = λ v had eq. h.only v had (tail-eq_of_cons-eq eq) })
      then e (stopped n) (stops h) = stops (one_more b s e h)

      go : (t : Bool) → eqb b c ≡ t → JudgedRow (prefixed c q) (b ∷ s) (given t (λ _. past 1 (g s)) (stopped 0))
      go true e = then (eqb-true b c e) (g s) (judged s)
      go false e =
          stops
          (record {
            front = [];
            rest = b ∷ s;
            split = refl;
            long = refl;
            begins = nothing_yet (inhabited (judged []));
            blocked = wrong (λ g. eqb-false b c e (sym (head-eq_of_cons-eq g.spells)));
          })

-- ---- rows

-- another way to say which values there are and how they are spelled
same-judged : {s : List ℕ} {r : Parsed} (p q : Spelling (List Value)) → ((v : List Value) → p.has v ≡ q.has v) → ((v : List Value) → p.has v ≡ true → p.spell v ≡ q.spell v)
    → JudgedRow p s r → JudgedRow q s r
same-judged p q has spells (reads {v = v} h) =
    reads (record { had = sym (has v) ∙ h.had; spells = sym (spells v h.had) ∙ h.spells; only = λ w had e. h.only w (has w ∙ had) (spells w (has w ∙ had) ∙ e) })
same-judged p q has spells (stops h) =
    stops (record { front = h.front; rest = h.rest; split = h.split; long = h.long; begins = to h.begins; blocked = blocked h.rest h.blocked })
  where
    to : {s : List ℕ} → Begins p s → Begins q s
    to b = record { value = b.value; had = sym (has b.value) ∙ b.had; more = b.more; spells = sym (spells b.value b.had) ∙ b.spells }

    from : {s : List ℕ} → Begins q s → Begins p s
    from b =
        let had : p.has b.value ≡ true = has b.value ∙ b.had in
        record { value = b.value; had = had; more = b.more; spells = spells b.value had ∙ b.spells }

    blocked : (rest : List ℕ) → Blocked p h.front rest → Blocked q h.front rest
    blocked [] (ends isnt) = ends (λ w had e. isnt w (has w ∙ had) (spells w (has w ∙ had) ∙ e))
    blocked (b ∷ t) (wrong isnt) = wrong (λ g. isnt (from g))

unfoldable later_rows : List Style → Spelling (List Value)
later_rows fs = record { has = may_all fs; spell = later fs }

-- what stands behind a field begins with a separator
unfoldable separator : List Style → ℕ
separator [] = 13
separator (f ∷ fs) = comma

separates : (fs : List Style) → is_separator (separator fs) ≡ true
unfolding separator is_separator pick
separates [] = refl
separates (f ∷ fs) = refl

by-separator : (fs : List Style) → BeginsBy (separator fs) (later_rows fs)
unfolding separator later_rows later may_all
by-separator [] vs h = (10 ∷ [], refl)
by-separator (f ∷ fs) [] h = not-both h refl
by-separator (f ∷ fs) (v ∷ vs) h = (spelled f v ++ later fs vs, refl)

nothing-more : Spelling (List Value)
nothing-more = record { has = may_all []; spell = λ vs. [] }

finished-judged : (s : List ℕ) → JudgedRow nothing-more s (finished s)
unfolding finished may_all nothing-more
finished-judged [] = reads (record { had = refl; spells = refl; only = only })
  where
    only : (w : List Value) → may_all [] w ≡ true → ◌≡◌ {A = List ℕ} [] [] → w ≡ []
    only [] h e = refl
    only (v ∷ w) h e = not-both h refl
finished-judged (b ∷ s) =
    stops
    (record {
      front = [];
      rest = b ∷ s;
      split = refl;
      long = refl;
      begins = record { value = []; had = refl; more = []; spells = refl };
      blocked = wrong (λ g. nil≢cons g.spells);
    })

field_of : (f : Style) (fs : List Style) → ExactStyle f → ((t : List ℕ) → JudgedRow (later_rows fs) t (parse_later fs t)) → (s : List ℕ)
    → JudgedRow (joined (styled f) (later_rows fs)) s (parse_field (acceptor f) (scan (acceptor f) (acceptor f).start s) (parse_later fs))
field_of f fs exact judged s = field-judged (styled f) (acceptor f) exact (later_rows fs) (separator fs) (separates fs) (by-separator fs) s (parse_later fs) judged

later-judged : (fs : List Style) → AllExact fs → (s : List ℕ) → JudgedRow (later_rows fs) s (parse_later fs s)
unfolding parse_later later_rows later prefixed nothing-more joined joined_has joined_spell may_all styled
later-judged [] no_field s = must-judged 13 (prefixed 10 nothing-more) (must 10 finished) (must-judged 10 nothing-more finished finished-judged) s
later-judged (f ∷ fs) (and_field e h) s =
    same-judged (prefixed comma (joined (styled f) (later_rows fs))) (later_rows (f ∷ fs)) has spells (must-judged comma _ _ (field_of f fs e (later-judged fs h)) s)
  where
    has : (v : List Value) → (joined (styled f) (later_rows fs)).has v ≡ may_all (f ∷ fs) v
    has [] = refl
    has (v ∷ vs) = refl

    spells : (v : List Value) → (joined (styled f) (later_rows fs)).has v ≡ true → comma ∷ (joined (styled f) (later_rows fs)).spell v ≡ later (f ∷ fs) v
    spells [] h = not-both h refl
    spells (v ∷ vs) h = refl

pub rows-judged : RowsJudged
unfolding parse exported_rows row later_rows later parse_later joined joined_has joined_spell may_all styled
rows-judged [] h s = later-judged [] h s
rows-judged (f ∷ fs) (and_field e h) s =
    same-judged (joined (styled f) (later_rows fs)) (exported_rows (f ∷ fs)) has spells (field_of f fs e (later-judged fs h) s)
  where
    has : (v : List Value) → (joined (styled f) (later_rows fs)).has v ≡ may_all (f ∷ fs) v
    has [] = refl
    has (v ∷ vs) = refl

    spells : (v : List Value) → (joined (styled f) (later_rows fs)).has v ≡ true → (joined (styled f) (later_rows fs)).spell v ≡ row (f ∷ fs) v
    spells [] h = not-both h refl
    spells (v ∷ vs) h = refl
