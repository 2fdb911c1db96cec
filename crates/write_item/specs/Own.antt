-- An item's own bytes as the code makes them: first whether some value has the entry, and then the bytes of one that some value has.
-- Assumes nothing.
use Rattle.std.specs.Prelude.{◌≡◌, Bool, true, false, List, ℕ, ◌%◌, ◌<◌, ◌≤◌, ltb, eqb}
use Rattle.std.proofs.Math.Option.{Option, some, none}
use Rattle.wire.specs.Tests.{pick}
use Rattle.wire.specs.Shape.{Width, w16, w32, w64, Sign, signed, unsigned, Kind}
use Rattle.wire.specs.Table.{kind_of}
use Rattle.wire.specs.Writing.{head_bytes}
use Rattle.wire.specs.Answers.{room_of}
use Rattle.entry.specs.Words.{first_at, second_at}
use Rattle.output.specs.Bytes.{Puts}
use Rattle.write_item.specs.Pooled.{Pooled}
use Rattle.write_item.specs.Pooled.{Put, Misfit}

-- six integers in the order of their kinds
unfoldable pub sign_at : ℕ → Sign
sign_at k = pick (ltb k 3) signed unsigned

unfoldable pub width_at : ℕ → Width
width_at k = pick (eqb (k % 3) 0) w16 (pick (eqb (k % 3) 1) w32 w64)

unfoldable pub is_some : Option (List ℕ) → Bool
is_some (some s) = true
is_some none = false

-- what was judged is some value's
pub record Known (judged : Bool) (o : Option (List ℕ)) : Type 0 where
  pub is : judged ≡ true → is_some o ≡ true

-- ---- whether some value has an entry whose second word is 0

-- of an item with n children, with any pool
pub record Judges (k : Kind) (n a : ℕ) (r : Bool) : Type 0 where
  pub at : (pool : List ℕ) → r ≡ is_some (head_bytes k n pool a 0)

-- and any number of children
pub record JudgesLeaf (k : Kind) (a : ℕ) (r : Bool) : Type 0 where
  pub with : (n : ℕ) → Judges k n a r

-- that of an item with n children, with any second word, unless it was judged
pub record Lets (judged : Bool) (k : Kind) (n a b : ℕ) (r : Bool) : Type 0 where
  pub at : (pool : List ℕ) → Known judged (head_bytes k n pool a b) → r ≡ is_some (head_bytes k n pool a b)

-- that of the entry `at`, an integer's of the kind's number k, where even the longest varint has its places
pub record Fitting (k : ℕ) (ws : List ℕ) (at room : ℕ) : Type 0 where
  pub low : k ≤ 8
  pub wide : 10 ≤ room
  pub more : at < room_of ws
  pub fits : (pool : List ℕ) → is_some (head_bytes (kind_of k) 0 pool (first_at ws at) (second_at ws at)) ≡ true

pub record Ready (k : ℕ) (ws : List ℕ) (at room : ℕ) (r : Bool) : Type 0 where
  pub is : r ≡ true → Fitting k ws at room

-- ---- the bytes of an entry that some value has

-- some value has it, where the item has some number of children
pub record Fits (k : Kind) (pool : List ℕ) (a b : ℕ) : Type 0 where
  pub children : ℕ
  pub bytes : List ℕ
  pub is : head_bytes k children pool a b ≡ some bytes

pub record SpellsEntry (k : Kind) (pool : List ℕ) (a b u : ℕ) (out : List ℕ) (r : ℕ) (after : List ℕ) : Type 0 where
  pub puts : (n : ℕ) {s : List ℕ} → head_bytes k n pool a b ≡ some s → Puts s u out r after

-- with any pool and any second word
pub record Spells (k : Kind) (a u : ℕ) (out : List ℕ) (r : ℕ) (after : List ℕ) : Type 0 where
  pub with : (pool : List ℕ) (b : ℕ) → SpellsEntry k pool a b u out r after

-- ---- a text or bytes, of the kind's number k

-- some value has the entry, and its bytes were put; or none has it, and nothing was
abbrev pub PoolsBy : (k : ℕ) → (pool : List ℕ) → (a b u : ℕ) → (before : List ℕ) → Pooled → List ℕ → Type 0
PoolsBy k pool a b u before (Put n) out = (is_some (head_bytes (kind_of k) 0 pool a b) ≡ true) × SpellsEntry (kind_of k) pool a b u before n out
PoolsBy k pool a b u before Misfit out = (is_some (head_bytes (kind_of k) 0 pool a b) ≡ false) × (out ≡ before)

pub record Pools (k : ℕ) (pool : List ℕ) (a b u : ℕ) (before : List ℕ) (r : Pooled) (out : List ℕ) : Type 0 where
  pub holds : PoolsBy k pool a b u before r out
