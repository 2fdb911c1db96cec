-- The test of two shapes says yes exactly if the new one appends to the old one.
-- Assumes nothing.
use mathlib.Core.Path.{◌≡◌, refl}
use mathlib.Core.Bool.{Bool, true, false}
use Rattle.wire.specs.Tests.{pick, decided}
use Rattle.wire.specs.Shape.{Kind, plain, pooled, option, sequence, map, struct, enum, same_kind, Shape, node, Shapes, none, more}
use Rattle.wire.specs.Append.{is_open, Matches, same, First, ended, appended, also, Appends, matching, fields, matches, firsts, is_open_root, appends}
use Rattle.laws.proofs.Splits.{not-both, both_left, both_right, both_yes}
use Rattle.laws.proofs.Numbering.{same_kind_lem, kind-itself}
use Rattle.promises.specs.Shapes.{ShapeYesExactly}

-- ---- below the roots

mutual
  unfolding matches

  matches-sound : (s t : Shape) → matches s t ≡ true → Matches s t
  matches-sound (node k ss) (node l ts) h = rw (← same_kind_lem k l (both_left _ _ h)) (same (firsts-sound (is_open k) ss ts (both_right _ _ h)))

  firsts-sound : (free : Bool) (ss ts : Shapes) → firsts free ss ts ≡ true → First free ss ts
  firsts-sound free none none h = ended
  firsts-sound free none (more t ts) h = rw h appended
  firsts-sound free (more s ss) none h = not-both h refl
  firsts-sound free (more s ss) (more t ts) h = also (matches-sound s t (both_left _ _ h)) (firsts-sound free ss ts (both_right _ _ h))

mutual
  unfolding matches

  matches-complete : {s t : Shape} → Matches s t → matches s t ≡ true
  matches-complete (same {k} f) = both_yes _ _ (kind-itself k) (firsts-complete f)

  firsts-complete : {free : Bool} {ss ts : Shapes} → First free ss ts → firsts free ss ts ≡ true
  firsts-complete ended = refl
  firsts-complete appended = refl
  firsts-complete (also m n) = both_yes _ _ (matches-complete m) (firsts-complete n)

-- ---- the roots

-- more may follow where nothing need
first-open : {free : Bool} {ss ts : Shapes} → First free ss ts → First true ss ts
first-open ended = ended
first-open appended = appended
first-open (also m n) = also m (first-open n)

root-sound : (k : Kind) {ss ts : Shapes} → First (is_open_root k) ss ts → Appends (node k ss) (node k ts)
unfolding is_open_root is_open same_kind decided pick
root-sound (plain l) f = matching (same f)
root-sound (pooled c) f = matching (same f)
root-sound option f = matching (same f)
root-sound sequence f = matching (same f)
root-sound map f = matching (same f)
root-sound struct f = fields f
root-sound enum f = matching (same f)

root-complete : (k : Kind) {ss ts : Shapes} → First (is_open k) ss ts → First (is_open_root k) ss ts
unfolding is_open_root pick
root-complete k f = go (same_kind k struct) f
  where
    go : (x : Bool) {free : Bool} {ss ts : Shapes} → First free ss ts → First (pick x true free) ss ts
    go true f = first-open f
    go false f = f

appends-sound : (s t : Shape) → appends s t ≡ true → Appends s t
unfolding appends
appends-sound (node k ss) (node l ts) h = rw (← same_kind_lem k l (both_left _ _ h)) (root-sound k (firsts-sound (is_open_root k) ss ts (both_right _ _ h)))

appends-complete : {s t : Shape} → Appends s t → appends s t ≡ true
unfolding appends
appends-complete (matching (same {k} f)) = both_yes _ _ (kind-itself k) (firsts-complete (root-complete k f))
appends-complete (fields f) = both_yes _ _ (kind-itself struct) (unfold is_open_root same_kind decided pick in firsts-complete f)

pub shape-yes-exactly : ShapeYesExactly
shape-yes-exactly s t = (appends-sound s t, appends-complete)
