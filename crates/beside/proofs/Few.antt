-- There are no more pairs than entries on the first side.
-- Assumes nothing.
use mathlib.Core.Bool.{Bool, true, false}
use mathlib.Core.List.{List, [], ◌∷◌}
use mathlib.Core.Option.{none}
use Prim.Native.Nat.{ℕ, ◌+◌, ◌≤◌}
use native.Mathlib.Omega.{arith}
use lib.ListN.{length, length-append}
use Rattle.wire.specs.Tests.{given}
use Rattle.wire.specs.Shape.{Kind}
use Rattle.wire.specs.Walk.{following}
use Rattle.wire.specs.Values.{Entry}
use Rattle.laws.specs.Steps.{Every}
use Rattle.laws.proofs.Walks.{every}
use Rattle.desk.specs.Differ.{Test, same_item, Sides, beside, alone, Compared, sole, pairing, compare_nothing, compare_then, differing, compare_two, pass_one, compare_item, comparing, take_entry, listed, differences}
use Rattle.beside.specs.Laws.{FewPairs}

abbrev left : Sides (List Entry) → ℕ
left x = length (sole x)

record Few (c : Sides (List Entry) → Compared (List Entry)) : Type 0 where
  few : (x : Sides (List Entry)) → length (c x).pairs + left (c x).rest ≤ left x

few-nothing : Few compare_nothing
unfolding compare_nothing
few-nothing = record { few = λ x. omega arith }

few-then : {c d : Sides (List Entry) → Compared (List Entry)} → Few c → Few d → Few (compare_then c d)
unfolding compare_then pairing
few-then {c} {d} h k = record { few = λ x. let a = h.few x in let b = k.few (c x).rest in rw (length-append (c x).pairs (d (c x).rest).pairs) (omega arith) }

few-item : (same : Test) (k : Kind) (n : ℕ) (next : ℕ → Sides (List Entry) → Compared (List Entry)) → ((a : ℕ) → Few (next a)) → Few (compare_item listed same k n next)
few-item same k n next h = record { few = few }
  where
    two : (e f : Entry) (es fs : List Entry) (b : Bool)
        → length (given b (λ _. next e.first (beside es fs)) (differing next (record { entry = e; rest = es }) (record { entry = f; rest = fs }))).pairs
        + left (given b (λ _. next e.first (beside es fs)) (differing next (record { entry = e; rest = es }) (record { entry = f; rest = fs }))).rest
        ≤ left (beside (e ∷ es) (f ∷ fs))
    two e f es fs true = unfold given sole in (let a = (h e.first).few (beside es fs) in omega arith)
    two e f es fs false = unfold given differing sole in (let a = (h e.first).few (alone es) in omega arith)

    few : (x : Sides (List Entry)) → length (compare_item listed same k n next x).pairs + left (compare_item listed same k n next x).rest ≤ left x
    few (beside [] fs) = unfold compare_item take_entry compare_two compare_nothing in omega arith
    few (beside (e ∷ es) []) = unfold compare_item take_entry compare_two compare_nothing in omega arith
    few (beside (e ∷ es) (f ∷ fs)) = unfold compare_item take_entry compare_two in two e f es fs (same k e f)
    few (alone []) = unfold compare_item take_entry pass_one compare_nothing in omega arith
    few (alone (e ∷ es)) = unfold compare_item take_entry pass_one sole in (let a = (h e.first).few (alone es) in omega arith)

pub few-pairs : FewPairs
unfolding differences sole
few-pairs t pool es pool' fs = let a = (every law t).few (beside es fs) in omega arith
  where
    law : Every (λ (i : Unit {0}). comparing listed (same_item pool pool')) (λ f. Few (f tt))
    law = record { none = few-nothing; both = few-then; made = λ f k n. few-item (same_item pool pool') k n (λ a. f (following k a) tt) }
