-- The kinds that a path ends at or goes through, by their numbers; of the latter, the own item, and whether it has an inside.
-- Assumes nothing.
use mathlib.Core.Path.{◌≡◌, refl, sym, ◌∙◌}
use mathlib.Core.Bool.{Bool, true, false}
use mathlib.Core.List.{List}
use Prim.Native.Nat.{ℕ, ◌+◌, ◌≤◌}
use native.Mathlib.Omega.{arith}
use lib.ListN.{get_or-eq_default}
use lib.Dec.{ltb}
use Rattle.wire.specs.declared.Refusal.TheVariants.{BadOption}
use Rattle.wire.specs.Item.{Item}
use Rattle.wire.specs.Tests.{pick, decided}
use Rattle.wire.specs.Shape.{unit, plain, same_kind}
use Rattle.wire.specs.Table.{kinds, kind_of, Node}
use Rattle.wire.specs.Numbers.{took}
use Rattle.wire.specs.Reading.{flag}
use Rattle.laws.specs.KindRanges.{IsInner}
use Rattle.laws.proofs.Splits.{by-lt, by-eq, not-both}
use Rattle.laws.proofs.EachKind.{end, ◌&◌, in-kinds, outer-kinds}
use Rattle.read_item.proofs.Heads.{head-option, head-struct}
use Rattle.desk.specs.Path.{is_field, is_passed, is_there}
use Rattle.find.specs.Steps.{Inward, Owns}

module _ (k : ℕ) where
  pub field-low : k ≤ 13 → true ≡ is_field (kind_of k)
  unfolding is_field same_kind decided pick kinds
  field-low h =
      in-kinds (λ q. true ≡ is_field q) 0 14 refl
      (refl & refl & refl & refl & refl & refl & refl & refl & refl & refl & refl & refl & refl & refl & end) k (omega arith) (omega arith)

  pub field-high : 20 ≤ k → k ≤ 31 → true ≡ is_field (kind_of k)
  unfolding is_field same_kind decided pick kinds
  field-high l h =
      in-kinds (λ q. true ≡ is_field q) 20 12 refl (refl & refl & refl & refl & refl & refl & refl & refl & refl & refl & refl & refl & end) k l (omega arith)

  pub field-not : 14 ≤ k → (20 ≤ k → 32 ≤ k) → false ≡ is_field (kind_of k)
  unfolding is_field same_kind decided pick kinds
  field-not l h =
      by-lt k 20 (λ b. in-kinds (λ q. false ≡ is_field q) 14 6 refl (refl & refl & refl & refl & refl & refl & end) k l (omega arith))
      (λ b. unfold kind_of in rw (get_or-eq_default kinds (plain unit) (h b)))

  -- a field has no children
  pub field-outer : is_field (kind_of k) ≡ true → IsInner k → ⊥
  field-outer f h = not-both f (sym (field-not (omega (arith, h.0)) (λ l. absurd (omega (arith, h.1)))))

  pub passed-option : k ≡ 15 → true ≡ is_passed (kind_of k)
  unfolding is_passed same_kind decided pick kinds
  passed-option e = in-kinds (λ q. true ≡ is_passed q) 15 1 refl (refl & end) k (omega arith) (omega arith)

  pub passed-struct : k ≡ 18 → true ≡ is_passed (kind_of k)
  unfolding is_passed same_kind decided pick kinds
  passed-struct e = in-kinds (λ q. true ≡ is_passed q) 18 1 refl (refl & end) k (omega arith) (omega arith)

  pub passed-not : (k ≡ 15 → ⊥) → (k ≡ 18 → ⊥) → false ≡ is_passed (kind_of k)
  unfolding is_passed same_kind decided pick kinds
  passed-not a b =
      by-lt k 15 (λ h. outer-kinds (λ q. false ≡ is_passed q) (λ x. refl) (λ c. refl) k (λ i. absurd (omega (arith, i.0))))
      (λ h. by-lt 19 k (λ g. outer-kinds (λ q. false ≡ is_passed q) (λ x. refl) (λ c. refl) k (λ i. absurd (omega (arith, i.1))))
      (λ g. by-lt k 18 (λ c. in-kinds (λ q. false ≡ is_passed q) 16 2 refl (refl & refl & end) k (apart a h) (omega arith))
      (λ c. in-kinds (λ q. false ≡ is_passed q) 19 1 refl (refl & end) k (apart b c) (omega arith))))
    where
      apart : {n : ℕ} → (k ≡ n → ⊥) → n ≤ k → n + 1 ≤ k
      apart {n} other l = by-eq k n (λ e. absurd (other e)) (λ e. omega arith)

pub passed-eighteen : (k : ℕ) → is_passed (kind_of k) ≡ true → (k ≡ 15 → ⊥) → k ≡ 18
passed-eighteen k passed a = by-eq k 18 (λ e. e) (λ b. not-both passed (sym (passed-not k a b)))

-- the own item of a kind that a path goes through
module _ (k : ℕ) (s : List ℕ) where
  pub owns-option : k ≡ 15 → {r : Item} → r ≡ flag BadOption s → Owns k s r
  owns-option e q n p = q ∙ head-option n p s k e

  pub owns-struct : is_passed (kind_of k) ≡ true → (k ≡ 15 → ⊥) → Owns k s (took 0 0 0)
  owns-struct passed a n p = head-struct n p s k (passed-eighteen k passed a)

-- an option's inside is there unless its first word is 0, and a struct's always
module _ (k a : ℕ) where
  pub there-option : k ≡ 15 → ltb 0 a ≡ is_there (kind_of k) a
  unfolding is_there same_kind decided pick kinds
  there-option e = in-kinds (λ q. ltb 0 a ≡ is_there q a) 15 1 refl (refl & end) k (omega arith) (omega arith)

  pub there-struct : is_passed (kind_of k) ≡ true → (k ≡ 15 → ⊥) → true ≡ is_there (kind_of k) a
  unfolding is_there same_kind decided pick kinds
  there-struct passed o = let e = passed-eighteen k passed o in in-kinds (λ q. true ≡ is_there q a) 18 1 refl (refl & end) k (omega arith) (omega arith)

-- of the number that was read for a node's kind
pub passed-number : {k which : ℕ} {r : Node} → k ≡ r.number → Inward r which → is_passed (kind_of k) ≡ true
passed-number e inward = rw e inward.passed

pub there-number : {k n : ℕ} (a : ℕ) → k ≡ n → {b : Bool} → is_there (kind_of k) a ≡ b → is_there (kind_of n) a ≡ b
there-number a e h = rw (← e) h
