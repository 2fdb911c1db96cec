-- The positions lead to two shapes that differ by themselves: where every pair of children matches, the counts do not go together.
-- Assumes nothing.
use mathlib.Core.Path.{◌≡◌, refl, sym, ◌∙◌}
use mathlib.Core.Bool.{Bool, true, false}
use mathlib.Core.List.{List, [], ◌∷◌}
use Prim.Native.Nat.{ℕ, suc, ◌+◌}
use native.Mathlib.Omega.{arith}
use borrow.Author.Tests.{eq-eqb, ne_eqb, le-leb, lt-leb, leb-false}
use Rattle.wire.specs.Tests.{pick, given, both}
use Rattle.wire.specs.Shape.{Kind, struct, same_kind, Shape, node, Shapes, none, more, count}
use Rattle.wire.specs.Append.{is_open, is_open_root, matches, firsts, appends}
use Rattle.laws.proofs.Splits.{by-test, by_le, by-eq, of-pick}
use Rattle.laws.proofs.Numbering.{same_kind_lem}
use Rattle.append.specs.Compare.{suits}
use Rattle.parting.specs.Parting.{parting, parting_of}
use Rattle.parting.specs.Promise.{Child, first, later, ends, down, kinds, counts, LeadTo}

-- ---- counts of children

none-none : (free : Bool) → true ≡ suits free 0 0
unfolding pick
none-none true = refl
none-none false = refl

none_more : (free : Bool) (n : ℕ) → free ≡ suits free 0 (n + 1)
unfolding pick
none_more true n = sym (le-leb 0 (n + 1) (omega arith))
none_more false n = sym (ne_eqb 0 (n + 1) (λ e. omega arith))

more-none : (free : Bool) (n : ℕ) → false ≡ suits free (n + 1) 0
unfolding pick
more-none true n = sym (lt-leb (n + 1) 0 (omega arith))
more-none false n = sym (ne_eqb (n + 1) 0 (λ e. omega arith))

-- counts that do not go together though more may follow never do
unsuited : (free : Bool) (n k : ℕ) → suits true n k ≡ false → suits free n k ≡ false
unfolding pick
unsuited true n k e = e
unsuited false n k e = let less = leb-false n k e in ne_eqb n k (λ same. omega arith)

unsuited-root : (k : Kind) (n m : ℕ) → suits (is_open_root k) n m ≡ false → suits (is_open k) n m ≡ false
unfolding is_open_root
unsuited-root k n m = of-pick (λ free. suits free n m ≡ false → suits (is_open k) n m ≡ false) (same_kind k struct) true (is_open k) (λ _ e. unsuited (is_open k) n m e) (λ _ e. e)

more-more : (free : Bool) (n k : ℕ) → suits free n k ≡ suits free (n + 1) (k + 1)
unfolding pick
more-more true n k =
    by_le n k (λ h. le-leb n k h ∙ sym (le-leb (n + 1) (k + 1) (omega arith))) (λ h. lt-leb n k h ∙ sym (lt-leb (n + 1) (k + 1) (omega arith)))
more-more false n k =
    by-eq n k (λ e. eq-eqb n k e ∙ sym (eq-eqb (n + 1) (k + 1) (omega arith))) (λ ne. ne_eqb n k ne ∙ sym (ne_eqb (n + 1) (k + 1) (λ e. ne (omega arith))))

-- ---- children

-- what positions among the children from the position c on tell: with none only the counts are left to decide, and the first is that of two children from which the others lead
data Among (c : ℕ) (ss ts : Shapes) : List ℕ → Type 0 where
  nowhere : ((free : Bool) → firsts free ss ts ≡ suits free (count ss) (count ts)) → Among c ss ts []
  child : {d o : ℕ} {s t : Shape} {p : List ℕ} → d ≡ c + o → Child o ss s → Child o ts t → LeadTo p s t → Among c ss ts (d ∷ p)

one_on : {c : ℕ} {s t : Shape} {ss ts : Shapes} {p : List ℕ} → matches s t ≡ true → Among (c + 1) ss ts p → Among c (more s ss) (more t ts) p
unfolding firsts both count
one_on {ss} {ts} e (nowhere h) = nowhere (λ free. rw e (h free ∙ more-more free (count ss) (count ts)))
one_on e (child {d} {o} f a b w) = child {d = d} {o = suc o} (omega arith) (later a) (later b) w

among-more : (c : ℕ) (s t : Shape) (ss ts : Shapes) → (matches s t ≡ false → LeadTo (parting s t) s t) → Among (c + 1) ss ts (parting_of (c + 1) ss ts)
    → Among c (more s ss) (more t ts) (parting_of c (more s ss) (more t ts))
unfolding parting_of
among-more c s t ss ts apart rest =
    of-pick (λ (f : Unit {0} → List ℕ). Among c (more s ss) (more t ts) (f tt)) (matches s t) _ _ (λ e. one_on e rest) (λ e. child {d = c} {o = 0} (omega arith) first first (apart e))

-- ---- two shapes

of-children : {k : Kind} {ss ts : Shapes} {p : List ℕ} (free : Bool) → (suits free (count ss) (count ts) ≡ false → suits (is_open k) (count ss) (count ts) ≡ false)
    → firsts free ss ts ≡ false → Among 0 ss ts p → LeadTo p (node k ss) (node k ts)
of-children free less e (nowhere h) = record { old_end = _; new_end = _; old_way = ends; new_way = ends; differ = counts (less (sym (h free) ∙ e)) }
of-children free less e (child {d} {o} f a b w) =
    let same : d ≡ o = omega arith in
    rw same (record { old_end = _; new_end = _; old_way = down a w.old_way; new_way = down b w.new_way; differ = w.differ })

of-nodes : (k l : Kind) (ss ts : Shapes) (free : Bool) → (suits free (count ss) (count ts) ≡ false → suits (is_open k) (count ss) (count ts) ≡ false)
    → both (same_kind k l) (firsts free ss ts) ≡ false → Among 0 ss ts (parting_of 0 ss ts) → LeadTo (parting (node k ss) (node l ts)) (node k ss) (node l ts)
unfolding parting given both
of-nodes k l ss ts free less e all =
    by-test (same_kind k l)
    (λ same. let here : firsts free ss ts ≡ false = rw same at e in rw (same, ← same_kind_lem k l same) (of-children free less here all))
    (λ other. rw other (record { old_end = _; new_end = _; old_way = ends; new_way = ends; differ = kinds other }))

mutual
  unfolding matches parting_of count

  lead : (s t : Shape) → matches s t ≡ false → LeadTo (parting s t) s t
  lead (node k ss) (node l ts) e = of-nodes k l ss ts (is_open k) (λ h. h) e (among 0 ss ts)

  among : (c : ℕ) (ss ts : Shapes) → Among c ss ts (parting_of c ss ts)
  among c none none = nowhere none-none
  among c none (more t ts) = nowhere (λ free. none_more free (count ts))
  among c (more s ss) none = nowhere (λ free. more-none free (count ss))
  among c (more s ss) (more t ts) = among-more c s t ss ts (λ e. lead s t e) (among (c + 1) ss ts)

pub roots-lead : (s t : Shape) → appends s t ≡ false → LeadTo (parting s t) s t
unfolding appends
roots-lead (node k ss) (node l ts) e = of-nodes k l ss ts (is_open_root k) (unsuited-root k (count ss) (count ts)) e (among 0 ss ts)
