-- The last of the open items in the list: it has room there, its numbers stand in the table, and a child of it may be opened above it.
-- Assumes nothing.
use mathlib.Core.Path.{◌≡◌}
use mathlib.Core.List.{List, ◌∷◌}
use Prim.Native.Nat.{ℕ, suc, ◌+◌, ◌-◌, ◌*◌, ◌<◌, ◌≤◌}
use native.Mathlib.Omega.{arith}
use lib.ListN.{length}
use Rattle.wire.specs.declared.Layout.{Layout}
use Rattle.wire.specs.Shape.{depth}
use Rattle.wire.specs.Table.{u16_at}
use Rattle.laws.specs.Tables.{node_shape}
use Rattle.open.specs.declared.Held.{Held}
use Rattle.open.specs.Items.{held_at, holding, helds_of, leaving, unread, Chain}
use Rattle.open.proofs.Words.{helds-held, helds-length}
use Rattle.open.proofs.Chains.{chain-few, chain-falls, chain_left, chain-leaving, chain-child}

-- of some open items, the last one in front
pub helds-last : (o : List ℕ) (d : ℕ) → 0 < d → {f : Held} → f ≡ held_at o (d - 1) → helds_of o d ≡ f ∷ helds_of o (d - 1)
unfolding helds_of
helds-last o d h {f} e = let some : d ≡ suc (d - 1) = omega arith in go (d - 1) some e
  where
    go : (n : ℕ) → d ≡ suc n → f ≡ held_at o n → helds_of o d ≡ f ∷ helds_of o n
    go n q e = rw (q, e)

module _ {s : List ℕ} {l : Layout} (o : List ℕ) (d : ℕ) (some : 0 < d) (chain : Chain s l 1 (helds_of o d)) where
  pub last-room : length o ≡ 1024 → 4 * (d - 1) + 4 ≤ length o
  last-room h = omega (arith, chain-few chain, helds-length o d)

  pub last-chain : {f : Held} → f ≡ held_at o (d - 1) → Chain s l 1 (f ∷ helds_of o (d - 1))
  last-chain e = rw (helds-last o d some e) at chain

module _ {s : List ℕ} {l : Layout} {f : Held} (o : List ℕ) (i : ℕ) (chain : Chain s l 1 (f ∷ helds_of o i)) where
  pub held-room : length o ≡ 1024 → 4 * i + 4 ≤ length o
  held-room h = omega (arith, chain-few chain, helds-length o i)

  -- its next child
  module _ (some : 0 < f.left) {c : ℕ} (is : c ≡ u16_at s (unread f)) where
    pub child-node : c < l.nodes
    child-node = rw is ((chain-falls chain).below (f.width - f.left) (omega (arith, chain_left chain)))

    pub child-chain : length o ≡ 1024 → {o' : List ℕ} → o' ≡ holding o i (leaving f (f.left - 1) f.rounds) → Chain s l (depth (node_shape s l c)) (helds_of o' (i + 1))
    child-chain h e =
        rw (e, helds-held o i (leaving f (f.left - 1) f.rounds) (held-room h), is)
        (chain-child (chain-leaving chain (f.left - 1) f.rounds (omega (arith, chain_left chain))) (f.width - f.left) (omega (arith, chain_left chain)))
