-- A pair is put where a list has words for it. Pairs behind each other are laid one after the other, and all of them stand in front of a
-- list that has room for them.
-- Assumes nothing.
use mathlib.Core.Path.{◌≡◌, refl, sym, ap, ◌∙◌}
use mathlib.Core.List.{List, [], ◌∷◌, ◌++◌}
use Prim.Native.Nat.{ℕ, suc, ◌+◌, ◌*◌, ◌/◌, ◌≤◌, ◌<◌}
use native.Mathlib.Nat.{add-zero, zero-add}
use native.Mathlib.Omega.{arith}
use lib.ListN.{length, drop}
use lib.Dec.{ltb}
use lib.Seq.{sets, sets-eq, length-sets}
use borrow.Author.Tests.{lt-ltb, le-ltb}
use Rattle.wire.specs.Tests.{pick}
use Rattle.laws.proofs.Parts.{sets-append}
use Rattle.laws.proofs.Splits.{of-pick}
use Rattle.desk.specs.Differ.{Pair, pair_words}
use Rattle.compare_item.specs.Pairs.{with_pair, pairs_from}

module _ (one other c : ℕ) (s : List ℕ) where
  pub put-there : c < length s / 2 → sets s (2 * c) (one ∷ other ∷ []) ≡ with_pair one other c s
  unfolding with_pair pick
  put-there h = rw (lt-ltb c (length s / 2) h)

  pub put-nowhere : length s / 2 ≤ c → s ≡ with_pair one other c s
  unfolding with_pair pick
  put-nowhere h = rw (le-ltb c (length s / 2) h)

  length-put : length (with_pair one other c s) ≡ length s
  unfolding with_pair
  length-put = of-pick (λ (t : List ℕ). length t ≡ length s) (ltb c (length s / 2)) (sets s (2 * c) (one ∷ other ∷ [])) s (λ _. length-sets s (2 * c) (one ∷ other ∷ [])) (λ _. refl)

pub length_from : (ps : List Pair) (c : ℕ) (s : List ℕ) → length (pairs_from ps c s) ≡ length s
unfolding pairs_from
length_from [] c s = refl
length_from (p ∷ ps) c s = length_from ps (c + 1) (with_pair p.one p.other c s) ∙ length-put p.one p.other c s

-- pairs behind pairs
pub pairs-behind : (ps qs : List Pair) (c : ℕ) (s : List ℕ) → pairs_from (ps ++ qs) c s ≡ pairs_from qs (c + length ps) (pairs_from ps c s)
unfolding pairs_from
pairs-behind [] qs c s = rw (add-zero c)
pairs-behind (p ∷ ps) qs c s =
    let next : c + 1 + length ps ≡ c + suc (length ps) = omega arith in
    pairs-behind ps qs (c + 1) (with_pair p.one p.other c s) ∙ ap (λ n. pairs_from qs n (pairs_from ps (c + 1) (with_pair p.one p.other c s))) next

-- pairs that all have words
all-put : (ps : List Pair) (c : ℕ) (s : List ℕ) → c + length ps ≤ length s / 2 → pairs_from ps c s ≡ sets s (2 * c) (pair_words ps)
unfolding pairs_from pair_words
all-put [] c s h = refl
all-put (p ∷ ps) c s h =
    let next : 2 * (c + 1) ≡ 2 * c + 2 = omega arith in
    let put : with_pair p.one p.other c s ≡ sets s (2 * c) (p.one ∷ p.other ∷ []) = sym (put-there p.one p.other c s (omega arith)) in
    all-put ps (c + 1) (with_pair p.one p.other c s) (rw (length-put p.one p.other c s) (omega arith))
    ∙ rw (put, next) (sets-append s (2 * c) (p.one ∷ p.other ∷ []) (pair_words ps))

pub length_pairs : (ps : List Pair) → length (pair_words ps) ≡ 2 * length ps
unfolding pair_words
length_pairs [] = refl
length_pairs (p ∷ ps) = let h = length_pairs ps in omega arith

sets-front : (s ws : List ℕ) → length ws ≤ length s → sets s (2 * 0) ws ≡ ws ++ drop (length ws) s
sets-front s ws h = sets-eq ws s 0 (omega arith) ∙ rw (zero-add (length ws))

pub pairs-front : (ps : List Pair) (s : List ℕ) → length ps ≤ length s / 2 → pairs_from ps 0 s ≡ pair_words ps ++ drop (length (pair_words ps)) s
pairs-front ps s h = all-put ps 0 s (omega arith) ∙ sets-front s (pair_words ps) (omega (arith, length_pairs ps))
