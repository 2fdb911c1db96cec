-- When a new table appends to an old one: by kinds and order, with no names and no node numbers.
-- Assumes nothing.
use Rattle.std.specs.Prelude.{Bool, true, false}
use Rattle.wire.specs.Tests.{pick, both}
use Rattle.wire.specs.Shape.{Kind, struct, enum, same_kind, Shape, node, Shapes, none, more}

-- variants may follow an enum's old ones
unfoldable pub is_open : Kind → Bool
is_open k = same_kind k enum

mutual
  -- an old shape and a new one: the same kind, and children that match in the same order
  pub data Matches : Shape → Shape → Type 0 where
    same : {k : Kind} {ss ts : Shapes} → First (is_open k) ss ts → Matches (node k ss) (node k ts)

  -- the old children match the new ones' first, and more may follow where it says so
  pub data First : Bool → Shapes → Shapes → Type 0 where
    ended : {free : Bool} → First free none none
    appended : {t : Shape} {ts : Shapes} → First true none (more t ts)
    also : {free : Bool} {s t : Shape} {ss ts : Shapes} → Matches s t → First free ss ts → First free (more s ss) (more t ts)

-- the new root's shape appends to the old one's: it matches, or both are structs and fields may follow
pub data Appends : Shape → Shape → Type 0 where
  matching : {s t : Shape} → Matches s t → Appends s t
  fields : {ss ts : Shapes} → First true ss ts → Appends (node struct ss) (node struct ts)

-- ---- the same as tests

unfoldable mutual
  pub matches : Shape → Shape → Bool
  matches (node k ss) (node k' ts) = both (same_kind k k') (firsts (is_open k) ss ts)

  pub firsts : Bool → Shapes → Shapes → Bool
  firsts free none none = true
  firsts free none (more t ts) = free
  firsts free (more s ss) none = false
  firsts free (more s ss) (more t ts) = both (matches s t) (firsts free ss ts)

-- at the root, fields may follow too
unfoldable pub is_open_root : Kind → Bool
is_open_root k = pick (same_kind k struct) true (is_open k)

unfoldable pub appends : Shape → Shape → Bool
appends (node k ss) (node k' ts) = both (same_kind k k') (firsts (is_open_root k) ss ts)
