-- The laws of two messages side by side, of the public answers: pairs are the differences of two readings that reached their ends.
-- Assumes nothing.
use Rattle.std.specs.Prelude.{Err}
use mathlib.Core.Path.{◌≡◌, refl, sym, ap, ◌∙◌}
use mathlib.Core.Bool.{false}
use mathlib.Core.List.{List, [], ◌∷◌, ◌++◌, append-nil}
use mathlib.Core.List as lists
use Prim.Native.Nat.{ℕ, ◌≤◌}
use native.Mathlib.Omega.{arith}
use lib.ListN.{length}
use Rattle.wire.specs.declared.Layout.{Layout}
use Rattle.wire.specs.Checked.{Checked}
use Rattle.wire.specs.Checked.{Good, Bad}
use Rattle.wire.specs.Shape.{Shape}
use Rattle.wire.specs.Table.{check, shape_of}
use Rattle.wire.specs.Values.{Entry, tell, Value, value_of, whole, valued, values}
use Rattle.wire.specs.Reading.{Spot, front, Outcome, reached, refused, Run, read, fit}
use Rattle.wire.specs.Answers.{room_of, read_by, reads}
use Rattle.laws.specs.Longer.{longer}
use Rattle.laws.specs.Told.{Kept, keeps}
use Rattle.laws.proofs.Told.{read_told}
use Rattle.laws.proofs.Longer.{longer-reads}
use Rattle.laws.proofs.ReadBy.{reads_plain}
use Rattle.laws.proofs.Runs.{within-reached, fit-reached}
use Rattle.desk.specs.CompareAnswer.{CompareAnswer}
use Rattle.desk.specs.Path.{most_entries}
use Rattle.desk.specs.Differ.{Pair, differences, pairs, refuses, compare_runs, compare_reads, compare_by, compares}
use Rattle.beside.specs.Laws.{turned}
use Rattle.beside.proofs.Empty.{same-empty, empty-same}
use Rattle.beside.proofs.Turned.{turns}
use Rattle.beside.proofs.Few.{few-pairs}
use Rattle.beside.proofs.Pairs.{same_rest}
use Rattle.beside.proofs.Paths.{placed-all, same-paths}
use Rattle.promises.specs.Comparing.{FromReads, both, first, second, ComparesReads, EmptyExactly, OnePath, PairsOnPaths, ComparesTurned, PairsFew, RestIgnored}

-- ---- the answer, by both readings

pub compares-reads : ComparesReads
unfolding reads compares
compares-reads table one other store room = rw room (go (check table))
  where
    runs : (t : Shape) (es fs : List Entry) (o o' : Outcome) → FromReads o o' (compare_runs t one other es o fs o')
    runs t es fs (refused why p) o' = unfold compare_runs in first
    runs t es fs (reached x) (refused why p) = unfold compare_runs in second
    runs t es fs (reached x) (reached y) = unfold compare_runs in both _

    go : (c : Checked) → FromReads (read_by false c table most_entries one).ends (read_by false c table most_entries other).ends (compare_by c table one other)
    go (Good l) = rw (reads_plain l table most_entries one, reads_plain l table most_entries other) (unfold compare_by compare_reads in runs (shape_of table l) _ _ _ _)
    go (Err r) = unfold compare_by read_by in first

-- ---- two messages that are compared

-- a reading that reached its end with room for 16,384 entries
record Ends (t : Shape) (message : List ℕ) : Type 0 where
  made : List Entry
  end : Spot
  free : read t (front message) ≡ record { made = made; ends = reached end }
  few : length made ≤ most_entries

fitted : {t : Shape} {message : List ℕ} (e : Ends t message) → fit most_entries (read t (front message)) ≡ record { made = e.made; ends = reached e.end }
unfolding fit
fitted e = rw e.free (within-reached most_entries e.made e.end e.few)

record Compares (t : Shape) (one other : List ℕ) (ps : List Pair) : Type 0 where
  here : Ends t one
  there : Ends t other
  them : differences t one here.made other there.made ≡ ps

not-pairs : {A : Type 0} {a : CompareAnswer} {ps : List Pair} → refuses a ≡ pairs ps → A
not-pairs e = let z : ◌≡◌ {A = ℕ} 0 1 = cc in absurd (omega arith)

same-pairs : {ps qs : List Pair} → pairs ps ≡ pairs qs → ps ≡ qs
same-pairs e = cc

compared : (t : Shape) (one other : List ℕ) (ps : List Pair) → compare_reads t one other (fit most_entries (read t (front one))) (fit most_entries (read t (front other))) ≡ pairs ps → Compares t one other ps
unfolding compare_reads compare_runs
compared t one other ps = go (fit most_entries (read t (front one))) (fit most_entries (read t (front other))) refl refl
  where
    ended : (message : List ℕ) (es : List Entry) (x : Spot) → fit most_entries (read t (front message)) ≡ record { made = es; ends = reached x } → Ends t message
    ended message es x e = let f = fit-reached most_entries (read t (front message)) es x e in record { made = es; end = x; free = f.1; few = f.0 }

    run : (es fs : List Entry) (o o' : Outcome) → fit most_entries (read t (front one)) ≡ record { made = es; ends = o } → fit most_entries (read t (front other)) ≡ record { made = fs; ends = o' }
        → compare_runs t one other es o fs o' ≡ pairs ps → Compares t one other ps
    run es fs (refused why i) o' a b h = not-pairs h
    run es fs (reached x) (refused why i) a b h = not-pairs h
    run es fs (reached x) (reached y) a b h = record { here = ended one es x a; there = ended other fs y b; them = same-pairs h }

    go : (r q : Run) → fit most_entries (read t (front one)) ≡ r → fit most_entries (read t (front other)) ≡ q
        → compare_runs t one other r.made r.ends q.made q.ends ≡ pairs ps → Compares t one other ps
    go r q a b h = run r.made q.made r.ends q.ends a b h

-- what two readings that reached their ends are compared to
comparing : (t : Shape) (one other : List ℕ) (e : Ends t one) (f : Ends t other)
    → compare_reads t one other (fit most_entries (read t (front one))) (fit most_entries (read t (front other))) ≡ pairs (differences t one e.made other f.made)
unfolding compare_reads compare_runs
comparing t one other e f = rw (fitted e, fitted f)

-- so it is by a table; a bad one has no pairs
record Tabled (table one other : List ℕ) (ps : List Pair) : Type 0 where
  t : Shape
  both_read : Compares t one other ps
  again : (one' other' : List ℕ) → compares table one' other' ≡ compare_reads t one' other' (fit most_entries (read t (front one'))) (fit most_entries (read t (front other')))

tabled : (table one other : List ℕ) (ps : List Pair) → compares table one other ≡ pairs ps → Tabled table one other ps
unfolding compares
tabled table one other ps = go (check table) (λ one' other'. refl)
  where
    go : (c : Checked) → ((one' other' : List ℕ) → compares table one' other' ≡ compare_by c table one' other') → compare_by c table one other ≡ pairs ps → Tabled table one other ps
    go (Good l) e q = unfold compare_by in record { t = shape_of table l; both_read = compared (shape_of table l) one other ps q; again = e }
    go (Err r) e q = unfold compare_by in not-pairs q

-- ---- the other way round, few, and the rest

pub compares-turned : ComparesTurned
compares-turned table one other ps q =
    let d = tabled table one other ps q in
    let c = d.both_read in
    d.again other one ∙ comparing d.t other one c.there c.here ∙ ap pairs (turns d.t one c.here.made other c.there.made ∙ ap (lists.map turned) c.them)

pub pairs-few : PairsFew
pairs-few table one other ps q =
    let d = tabled table one other ps q in
    let c = d.both_read in
    rw (← c.them) (omega (arith, few-pairs d.t one c.here.made other c.there.made, c.here.few))

-- a message that was read, with bytes behind it
longer-ends : (t : Shape) (message extra : List ℕ) → Ends t message → Ends t (message ++ extra)
unfolding longer
longer-ends t message extra e = record { made = e.made; end = longer extra e.end; free = longer-reads t (front message) e.end extra e.made e.free; few = e.few }

first-longer : (table one other extra : List ℕ) (ps : List Pair) → compares table one other ≡ pairs ps → compares table (one ++ extra) other ≡ pairs ps
unfolding longer-ends
first-longer table one other extra ps q =
    let d = tabled table one other ps q in
    let c = d.both_read in
    d.again (one ++ extra) other ∙ comparing d.t (one ++ extra) other (longer-ends d.t one extra c.here) c.there
    ∙ ap pairs (same_rest d.t one extra other c.here.made c.there.made c.here.end c.there.end c.here.free c.there.free ∙ c.them)

turned-twice : (ps : List Pair) → lists.map turned (lists.map turned ps) ≡ ps
unfolding turned
turned-twice [] = refl
turned-twice (p ∷ ps) = rw (turned-twice ps)

pub rest-ignored : RestIgnored
rest-ignored table one other extra extra' ps h =
    let a : compares table (one ++ extra) other ≡ pairs ps = first-longer table one other extra ps h in
    let b : compares table other (one ++ extra) ≡ pairs (lists.map turned ps) = compares-turned table (one ++ extra) other ps a in
    let c : compares table (other ++ extra') (one ++ extra) ≡ pairs (lists.map turned ps) = first-longer table other (one ++ extra) extra' (lists.map turned ps) b in
    compares-turned table (other ++ extra') (one ++ extra) (lists.map turned ps) c ∙ ap pairs (turned-twice ps)

-- ---- values and paths

-- a good table's shape, and what was read by it
module _ (table store : List ℕ) {l : Layout} (room : room_of store ≡ most_entries) (good : check table ≡ Good l) where
  abbrev shape : Shape
  shape = shape_of table l

  good-compared : (one other : List ℕ) (ps : List Pair) → compares table one other ≡ pairs ps → Compares shape one other ps
  unfolding compares compare_by
  good-compared one other ps q = compared shape one other ps (rw good at q)

  reads_made : {message : List ℕ} (e : Ends shape message) → (reads table message store).made ≡ e.made
  unfolding reads
  reads_made {message} e = rw (good, room, reads_plain l table most_entries message) (ap (λ r. r.made) (fitted e))

  -- what was read has values
  has-values : (message : List ℕ) (e : Ends shape message) → (vs : List Value) × (values shape message e.made ≡ whole vs)
  has-values message e = go (rw (fitted e) at (read_told shape most_entries (front message)))
    where
      go : Kept (tell shape) e.made (reached e.end) → (vs : List Value) × (values shape message e.made ≡ whole vs)
      go (keeps ts h) = (lists.map (value_of message) ts, unfold values in rw (rw (append-nil e.made) at (h.told [])) (unfold valued in refl))

pub empty-exactly : EmptyExactly
empty-exactly table one other store l room good ps q =
    let c = good-compared table store room good one other ps q in
    let v = has-values table store room good one c.here in
    let w = has-values table store room good other c.there in
    rw (reads_made table store room good c.here, reads_made table store room good c.there)
    (λ z. empty-same (shape_of table l) one _ other _ v.0 w.0 v.1 w.1 (c.them ∙ z), λ s. sym c.them ∙ same-empty (shape_of table l) one _ other _ s)

-- two readings' items, with their differences
on-paths : {t : Shape} (one other : List ℕ) {es fs : List Entry} {vs ws : List Value} {ps : List Pair} → values t one es ≡ whole vs → values t other fs ≡ whole ws → differences t one es other fs ≡ ps → OnePath t es fs ps
on-paths {t} one other {es} {fs} {vs} {ws} v w e =
    record { ones = placed-all t one es vs v; others = placed-all t other fs ws w; paired = rw e at (same-paths t one es other fs vs ws v w) }

pub pairs-on-paths : PairsOnPaths
pairs-on-paths table one other store l room good ps q =
    let c = good-compared table store room good one other ps q in
    rw (reads_made table store room good c.here, reads_made table store room good c.there)
    (on-paths one other (has-values table store room good one c.here).1 (has-values table store room good other c.there).1 c.them)
