-- An item that has children, on both sides: what the code finds of it, and what follows it.
-- Assumes nothing.
use mathlib.Core.Path.{◌≡◌, sym, ap₂, ◌∙◌}
use mathlib.Core.List.{List}
use Prim.Native.Nat.{ℕ}
use lib.Dec.{eqb}
use Rattle.wire.specs.declared.Refusal.{Refusal}
use Rattle.wire.specs.declared.Own.{Own}
use Rattle.wire.specs.Item.{Item}
use Rattle.wire.specs.Item.{Took, Refused}
use Rattle.wire.specs.declared.Layout.{Layout}
use Rattle.wire.specs.Walk.{following}
use Rattle.wire.specs.Table.{kind_of, Node}
use Rattle.wire.specs.Reading.{head}
use Rattle.laws.specs.Tables.{node_first}
use Rattle.table.specs.declared.Stretch.{Stretch}
use Rattle.table.specs.Parts.{followed}
use Rattle.read_item.specs.Steps.{spot, own_of, after_of}
use Rattle.read_item.proofs.Entering.{Found}
use Rattle.compare_item.specs.Entered.{On, Unread}
use Rattle.compare_item.specs.Items.{entered_both}

module _ {r : Node} {k n : ℕ} (f : Found r k n) where
  pub own-found : (bs : List ℕ) (p : ℕ) {got : Item} → got ≡ head (kind_of k) n p bs → own_of head r (spot bs p) ≡ got
  unfolding own_of
  own-found bs p found = sym (found ∙ ap₂ (λ (k n : ℕ). head (kind_of k) n p bs) f.kind f.count)

  pub after-found : (l : Layout) (i a from : ℕ) {to : Stretch} → from ≡ node_first l i r → to ≡ followed (following (kind_of k) a) from n → to ≡ after_of l i r a
  unfolding after_of
  after-found l i a from first follows = follows ∙ rw (first, f.kind, f.count)

module _ (l : Layout) (i : ℕ) (r : Node) where
  pub both-entered : {x y : Item} {a b : Own} {to toward : Stretch} → x ≡ Took a → y ≡ Took b → to ≡ after_of l i r a.first → toward ≡ after_of l i r b.first
      → On (eqb a.first b.first) a.used to b.used toward ≡ entered_both l i r x y
  unfolding entered_both
  both-entered p q e f = rw (p, q, e, f)

  pub first-unentered : {x : Item} (y : Item) {why : Refusal} → x ≡ Refused why → Unread ≡ entered_both l i r x y
  unfolding entered_both
  first-unentered y p = rw p

  pub second-unentered : {x y : Item} {a : Own} {why : Refusal} → x ≡ Took a → y ≡ Refused why → Unread ≡ entered_both l i r x y
  unfolding entered_both
  second-unentered p q = rw (p, q)
