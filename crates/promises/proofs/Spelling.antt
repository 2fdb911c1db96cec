-- Values spell bytes: a walk over a shape's values that knows neither entries nor pool, and what it spells of an item is what is written of it.
-- Assumes nothing.
use mathlib.Core.Path.{◌≡◌, refl, ap}
use mathlib.Core.List.{List, [], ◌∷◌, ◌++◌}
use mathlib.Core.Option.{Option, none, some}
use Prim.Native.Nat.{ℕ}
use Rattle.wire.specs.Tests.{pick}
use Rattle.wire.specs.Shape.{Kind, plain, pooled, option, sequence, map, struct, enum}
use Rattle.wire.specs.Walk.{following, Walk}
use Rattle.wire.specs.Values.{Entry, Value, number, content, is_pooled, value_of}
use Rattle.wire.specs.Writing.{with_count, head_bytes}
use Rattle.laws.proofs.Own.{when-some}

-- bytes, and the values that are left
pub data Spelling : Type 0 where
  spelt : List ℕ → List Value → Spelling

abbrev pub before : List ℕ → Spelling → Spelling
before s (spelt t vs) = spelt (s ++ t) vs

abbrev pub spell_on : Spelling → (List Value → Spelling) → Spelling
spell_on (spelt s vs) g = before s (g vs)

abbrev or_none : Option (List ℕ) → List ℕ
or_none none = []
or_none (some s) = s

-- the bytes of a value, and the first word of its entry where that names children
abbrev pub spell : Kind → ℕ → Value → List ℕ
spell k n (number a b) = or_none (head_bytes k n [] a b)
spell k n (content s) = with_count s

abbrev pub first_of : Value → ℕ
first_of (number a b) = a
first_of (content s) = 0

abbrev pub spell_item : Kind → ℕ → (ℕ → List Value → Spelling) → List Value → Spelling
spell_item k n next [] = spelt [] []
spell_item k n next (v ∷ vs) = before (spell k n v) (next (first_of v) vs)

abbrev pub spelling : Walk
spelling = record { From = List Value; To = Spelling; nothing = spelt []; then = λ f g vs. spell_on (f vs) g; item = spell_item }

-- ---- an item

-- the value v of an item whose first word is a spells s, and names the same children
pub record Spells (k : Kind) (n a : ℕ) (v : Value) (s : List ℕ) : Type 0 where
  pub bytes : spell k n v ≡ s
  pub ways : following k (first_of v) ≡ following k a

pub item-spells : (k : Kind) (n : ℕ) (pool : List ℕ) (e : Entry) {s : List ℕ} → head_bytes k n pool e.first e.second ≡ some s
    → Spells k n e.first (value_of pool (record { kind = k; entry = e })) s
unfolding head_bytes value_of is_pooled pick following
item-spells (plain l) n pool e h = record { bytes = ap or_none h; ways = refl }
item-spells (pooled c) n pool e h = record { bytes = (when-some _ _ h).1; ways = refl }
item-spells option n pool e h = record { bytes = ap or_none h; ways = refl }
item-spells sequence n pool e h = record { bytes = ap or_none h; ways = refl }
item-spells map n pool e h = record { bytes = ap or_none h; ways = refl }
item-spells struct n pool e h = record { bytes = ap or_none h; ways = refl }
item-spells enum n pool e h = record { bytes = ap or_none h; ways = refl }
