-- The other way round, the differences are the other way round.
-- Assumes nothing.
use mathlib.Core.Path.{◌≡◌, refl}
use mathlib.Core.Bool.{Bool, true, false}
use mathlib.Core.List.{List, [], ◌∷◌, ◌++◌, map-append}
use mathlib.Core.List as lists
use mathlib.Core.Option.{Option, some, none}
use Prim.Native.Nat.{ℕ}
use Rattle.wire.specs.Tests.{given}
use Rattle.wire.specs.Shape.{Kind, Shape}
use Rattle.wire.specs.Walk.{Follow, following, Walk, walk}
use Rattle.wire.specs.Values.{Entry}
use Rattle.laws.specs.Steps.{Every}
use Rattle.laws.proofs.Walks.{every}
use Rattle.desk.specs.Differ.{Test, same_item, Pair, Next, Source, Sides, beside, alone, Compared, sole, pairing, compare_nothing, compare_then, differing, compare_two, pass_one, compare_item, comparing, listed, differences}
use Rattle.beside.specs.Laws.{turned, Turns}
use Rattle.beside.proofs.Same.{item-turn, item-follows}

module _ (s : Source) (same same' : Test) (turns : (k : Kind) (e f : Entry) → same k e f ≡ same' k f e)
    (follows : (k : Kind) (e f : Entry) → same k e f ≡ true → following k e.first ≡ following k f.first) where
  -- one side alone goes on alone
  data Passed : Compared s.At → Compared s.At → Type 0 where
    passed : (y : s.At) → Passed (record { pairs = []; rest = alone y }) (record { pairs = []; rest = alone y })

  -- two sides, and the same two the other way round
  data Crossed : Compared s.At → Compared s.At → Type 0 where
    crossed : (ps : List Pair) (x y : s.At) → Crossed (record { pairs = ps; rest = beside x y }) (record { pairs = lists.map turned ps; rest = beside y x })

  record Turning (c d : Sides s.At → Compared s.At) : Type 0 where
    passes : (x : s.At) → Passed (c (alone x)) (d (alone x))
    crosses : (x y : s.At) → Crossed (c (beside x y)) (d (beside y x))

  turning-nothing : Turning compare_nothing compare_nothing
  unfolding compare_nothing
  turning-nothing = record { passes = λ x. passed x; crosses = λ x y. crossed [] x y }

  turning-then : {c c' d d' : Sides s.At → Compared s.At} → Turning c d → Turning c' d' → Turning (compare_then c c') (compare_then d d')
  unfolding compare_then pairing
  turning-then {c} {c'} {d} {d'} h k = record { passes = λ x. pass (h.passes x); crosses = λ x y. cross (h.crosses x y) }
    where
      pass : {r r' : Compared s.At} → Passed r r' → Passed (pairing r.pairs (c' r.rest)) (pairing r'.pairs (d' r'.rest))
      pass (passed y) = k.passes y

      on : (ps : List Pair) {r r' : Compared s.At} → Crossed r r' → Crossed (pairing ps r) (pairing (lists.map turned ps) r')
      on ps (crossed qs x y) = rw (← map-append turned ps qs) (crossed (ps ++ qs) x y)

      cross : {r r' : Compared s.At} → Crossed r r' → Crossed (pairing r.pairs (c' r.rest)) (pairing r'.pairs (d' r'.rest))
      cross (crossed ps x y) = on ps (k.crosses x y)

  turning-item : (c d : Follow → Sides s.At → Compared s.At) (k : Kind) (n : ℕ) → ((a : ℕ) → Turning (c (following k a)) (d (following k a)))
      → Turning (compare_item s same k n (λ a. c (following k a))) (compare_item s same' k n (λ a. d (following k a)))
  unfolding compare_item
  turning-item c d k n h = record { passes = λ x. pass x (s.look k n x); crosses = λ x y. cross x y (s.look k n x) (s.look k n y) }
    where
      pass : (x : s.At) (a : Option (Next s.At)) → Passed (pass_one (λ a. c (following k a)) x a) (pass_one (λ a. d (following k a)) x a)
      pass x none = unfold pass_one compare_nothing in passed x
      pass x (some a) = unfold pass_one in (h a.entry.first).passes a.rest

      soles : {r r' t t' : Compared s.At} (p : Pair) → Passed r r' → Passed t t'
          → Crossed (record { pairs = p ∷ []; rest = beside (sole r.rest) (sole t.rest) }) (record { pairs = turned p ∷ []; rest = beside (sole t'.rest) (sole r'.rest) })
      soles p (passed y) (passed z) = unfold sole in crossed (p ∷ []) y z

      two : (a b : Next s.At) (t : Bool) → same k a.entry b.entry ≡ t
          → Crossed (given t (λ _. c (following k a.entry.first) (beside a.rest b.rest)) (differing (λ a. c (following k a)) a b))
          (given t (λ _. d (following k b.entry.first) (beside b.rest a.rest)) (differing (λ a. d (following k a)) b a))
      two a b true q = unfold given in rw (← follows k a.entry b.entry q) ((h a.entry.first).crosses a.rest b.rest)
      two a b false q =
          unfold given differing turned in
          soles (record { one = a.entry.place; other = b.entry.place }) ((h a.entry.first).passes a.rest) ((h b.entry.first).passes b.rest)

      cross : (x y : s.At) (a b : Option (Next s.At))
          → Crossed (compare_two same k (λ a. c (following k a)) x y a b) (compare_two same' k (λ a. d (following k a)) y x b a)
      cross x y none none = unfold compare_two compare_nothing in crossed [] x y
      cross x y none (some b) = unfold compare_two compare_nothing in crossed [] x y
      cross x y (some a) none = unfold compare_two compare_nothing in crossed [] x y
      cross x y (some a) (some b) = unfold compare_two in rw (← turns k a.entry b.entry) (two a b (same k a.entry b.entry) refl)

  abbrev ways : Bool → Walk
  ways true = comparing s same
  ways false = comparing s same'

  turning : (t : Shape) → Turning (λ x. walk (comparing s same) t x) (λ x. walk (comparing s same') t x)
  turning t = every law t
    where
      law : Every ways (λ f. Turning (f true) (f false))
      law = record { none = turning-nothing; both = turning-then; made = λ f k n h. turning-item (λ way. f way true) (λ way. f way false) k n h }

  turned-pairs : {r r' : Compared s.At} → Crossed r r' → r'.pairs ≡ lists.map turned r.pairs
  turned-pairs (crossed ps x y) = refl

pub turns : Turns
unfolding differences
turns t pool es pool' fs =
    turned-pairs listed (same_item pool pool') (same_item pool' pool) (item-turn pool pool') (item-follows pool pool')
    ((turning listed (same_item pool pool') (same_item pool' pool) (item-turn pool pool') (item-follows pool pool') t).crosses es fs)
