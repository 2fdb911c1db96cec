-- Two messages gone over at once, byte by byte: what code follows. Each item is taken on both sides and counted there, so that this
-- is also the judge of both readings.
-- Letters: k a kind, n how many children it has, a and b what was taken on each side, s and t the bytes there, x and y spots,
-- z both sides, f and g steps, ps pairs.
-- Assumes nothing.
use Rattle.std.specs.Prelude.{Bool, List, [], ◌∷◌, ◌++◌, ℕ, ◌+◌, ◌-◌, take, drop, eqb}
use Rattle.wire.specs.declared.Own.{Own}
use Rattle.wire.specs.Item.{Item}
use Rattle.wire.specs.Item.{Took, Refused}
use Rattle.wire.specs.Tests.{pick, given}
use Rattle.wire.specs.Shape.{Kind}
use Rattle.wire.specs.Walk.{Walk}
use Rattle.wire.specs.Values.{is_pooled}
use Rattle.wire.specs.Reading.{Spot, head, past}
use Rattle.desk.specs.Differ.{same_bytes, Pair, Sides, beside, alone, sole}

-- the content of a text or of bytes that were taken from the front of s: the last of their own bytes
unfoldable pub content_at : Own → List ℕ → List ℕ
content_at a s = take a.second (drop (a.used - a.second) s)

-- texts and bytes by content, other items by their first words
unfoldable pub same_own : Kind → Own → List ℕ → Own → List ℕ → Bool
same_own k a s b t = pick (is_pooled k) (same_bytes (content_at a s) (content_at b t)) (eqb a.first b.first)

-- how many entries each side made, the pairs of the differing items, and where the sides then stand; or a side is refused
pub data Met : Type 0 where
  met : (ones others : ℕ) (pairs : List Pair) (rest : Sides Spot) → Met
  unread : Met

unfoldable pub met_after : (ones others : ℕ) → List Pair → Met → Met
met_after m n ps (met m' n' qs z) = met (m + m') (n + n') (ps ++ qs) z
met_after m n ps unread = unread

unfoldable pub meet_nothing : Sides Spot → Met
meet_nothing z = met 0 0 [] z

unfoldable pub meet_on : Met → (Sides Spot → Met) → Met
meet_on (met m n ps z) g = met_after m n ps (g z)
meet_on unread g = unread

unfoldable pub meet_then : (Sides Spot → Met) → (Sides Spot → Met) → Sides Spot → Met
meet_then f g z = meet_on (f z) g

-- an item that differs is a pair, and each side went behind it alone
unfoldable pub met_apart : Pair → Met → Met → Met
met_apart p (met m _ _ z) (met n _ _ z') = met (1 + m) (1 + n) (p ∷ []) (beside (sole z) (sole z'))
met_apart p (met m _ _ z) unread = unread
met_apart p unread r = unread

-- the inside of an item that is the same on both sides is gone over on both
unfoldable pub meet_two : Kind → (ℕ → Sides Spot → Met) → (x y : Spot) → Item → Item → Met
meet_two k next x y (Took a) (Took b) =
    given (same_own k a x.bytes b y.bytes)
    (λ _. met_after 1 1 [] (next a.first (beside (past a.used x) (past b.used y))))
    (met_apart (record { one = x.place; other = y.place }) (next a.first (alone (past a.used x))) (next b.first (alone (past b.used y))))
meet_two k next x y (Took a) (Refused why) = unread
meet_two k next x y (Refused why) got = unread

unfoldable pub meet_one : (ℕ → Sides Spot → Met) → Spot → Item → Met
meet_one next x (Took a) = met_after 1 0 [] (next a.first (alone (past a.used x)))
meet_one next x (Refused why) = unread

unfoldable pub meet_item : Kind → ℕ → (ℕ → Sides Spot → Met) → Sides Spot → Met
meet_item k n next (beside x y) = meet_two k next x y (head k n x.place x.bytes) (head k n y.place y.bytes)
meet_item k n next (alone x) = meet_one next x (head k n x.place x.bytes)

abbrev pub meeting : Walk
meeting = record { From = Sides Spot; To = Met; nothing = meet_nothing; then = meet_then; item = meet_item }
