-- What a table describes: a tree of kinds.
-- Assumes nothing.
use Rattle.std.specs.Prelude.{Bool, ℕ, suc, max, ◌+◌}
use Rattle.wire.specs.Tests.{decided}

-- the widths of integers, in bits and in bytes
pub data Width : Type 0 where
  w16 w32 w64 : Width
  deriving Discrete as Width-discrete

unfoldable pub bits : Width → ℕ
bits w16 = 16
bits w32 = 32
bits w64 = 64

unfoldable pub size : Width → ℕ
size w16 = 2
size w32 = 4
size w64 = 8

-- little-endian or big-endian
pub data Order : Type 0 where
  le be : Order
  deriving Discrete as Order-discrete

pub data Sign : Type 0 where
  signed unsigned : Sign
  deriving Discrete as Sign-discrete

-- the items that have no children, and whose entry is a number
pub data Plain : Type 0 where
  bool i8 u8 f32 f64 char unit : Plain
  int : Sign → Width → Plain
  fixed : Order → Sign → Width → Plain
  deriving Discrete as Plain-discrete

-- what an entry names in the pool: a text, which is UTF-8, or any bytes
pub data Content : Type 0 where
  text raw : Content
  deriving Discrete as Content-discrete

pub data Kind : Type 0 where
  plain : Plain → Kind
  pooled : Content → Kind
  option sequence map struct enum : Kind
  deriving Discrete as Kind-discrete

unfoldable pub same_kind : Kind → Kind → Bool
same_kind k k' = decided (Kind-discrete (Plain-discrete Sign-discrete Width-discrete Order-discrete) Content-discrete k k')

-- a node: its kind and its children, in the table's order
mutual
  pub data Shape : Type 0 where
    node : Kind → Shapes → Shape

  pub data Shapes : Type 0 where
    none : Shapes
    more : Shape → Shapes → Shapes

unfoldable pub count : Shapes → ℕ
count none = 0
count (more t ts) = count ts + 1

-- how long a shape's longest chain of children is, a leaf counting 1, and the longest of several shapes'
unfoldable mutual
  pub depth : Shape → ℕ
  depth (node k ts) = suc (deepest ts)

  pub deepest : Shapes → ℕ
  deepest none = 0
  deepest (more t ts) = max (depth t) (deepest ts)
