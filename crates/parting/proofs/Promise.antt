-- What is answered: by the two tables' checks, then by the append question, then by the way down.
-- Assumes nothing.
use Rattle.std.specs.Prelude.{Err}
use mathlib.Core.Path.{◌≡◌, refl, sym, ap₂, ◌∙◌}
use mathlib.Core.Bool.{Bool, true, false}
use mathlib.Core.List.{List, []}
use Prim.Native.Nat.{ℕ, ◌<◌, ◌≤◌}
use native.Mathlib.Omega.{arith}
use native.Mathlib.Nat.{zero-add}
use lib.ListN.{length}
use lib.Seq.{sets-eq}
use Rattle.wire.specs.declared.Refusal.{Refusal}
use Rattle.wire.specs.declared.Layout.{Layout}
use Rattle.wire.specs.Checked.{Checked}
use Rattle.wire.specs.Checked.{Good, Bad}
use Rattle.wire.specs.declared.Side.TheVariants.{Old, New}
use Rattle.wire.specs.AskAnswer.{Says}
use Rattle.wire.specs.Table.{check, shape_of}
use Rattle.wire.specs.Append.{appends}
use Rattle.wire.specs.Answers.{area_bytes, ask_by, area_after}
use Rattle.laws.proofs.Splits.{by-lt}
use Rattle.laws.proofs.Areas.{area-short, asks-short, asks-long}
use Rattle.laws.proofs.Tables.{good-table, within-limits}
use Rattle.append.specs.Compare.{Begun}
use Rattle.parting.specs.PartAnswer.{PartAnswer}
use Rattle.parting.specs.PartAnswer.{Appends, Apart, Refused, ShortArea}
use Rattle.parting.specs.Parting.{parting, parting_by, Parted, parted_by, parted, parted_within}
use Rattle.parting.specs.Pairs.{parting_at, Stored}
use Rattle.parting.specs.Promise.{Parts, Finds, OneParting, PartAt, PartsThere, FirstWords}
use Rattle.parting.proofs.Steps.{few-positions}
use Rattle.parting.proofs.Ways.{roots-lead}

pub one-parting : OneParting
one-parting old new area path x y e f = λ i. (
  (e.parts.answered ∙ sym f.parts.answered) i,
  (e.handed ∙ sym f.handed) i,
  (e.parts.stored ∙ sym f.parts.stored) i,
)

-- ---- the work area

module _ (old new area path : List ℕ) where
  -- one that is long enough decides nothing
  within : area_bytes ≤ length area → parted old new area ≡ parted_within old new
  unfolding parted parted_within
  within h = rw (asks-long area old new h)

  pub finds-long : {r : PartAnswer} {area' path' : List ℕ} → area_bytes ≤ length area → Parts (parted_within old new) path r path' → area' ≡ area_after area
      → Finds old new area path r area' path'
  finds-long h p e = record { parts = rw (within h) p; handed = e }

  pub finds-short : length area < area_bytes → Finds old new area path ShortArea area path
  unfolding parted parted_by
  finds-short h = record { parts = rw (asks-short area old new h) (record { answered = refl; stored = refl }); handed = sym (area-short area h) }

-- ---- a table that is refused

module _ (old new path : List ℕ) {e : Refusal} {i : ℕ} where
  pub refused-old : check old ≡ Bad e i → Parts (parted_within old new) path (Refused Old e i) path
  unfolding parted_within parted_by parting_by ask_by
  refused-old h = rw h (record { answered = refl; stored = refl })

  pub refused-new : {l : Layout} → check old ≡ Good l → check new ≡ Bad e i → Parts (parted_within old new) path (Refused New e i) path
  unfolding parted_within parted_by parting_by ask_by
  refused-new g h = rw (g, h) (record { answered = refl; stored = refl })

-- ---- two good tables

pub begun-good : {old new area : List ℕ} {l m : Layout} → (check old ≡ Good l) × (check new ≡ Good m) → area_bytes ≤ length area → Begun old l new m area
begun-good {old} {new} {l} {m} (good_old, good_new) h = record {
  old = good-table old l good_old;
  new = good-table new m good_new;
  few-old = within-limits old l good_old;
  few-new = within-limits new m good_new;
  room = h;
}

module _ (old new : List ℕ) {l m : Layout} (good_old : check old ≡ Good l) (good_new : check new ≡ Good m) where
  parted-good : parted_within old new ≡ parted_by (Says (appends (shape_of old l) (shape_of new m))) (parting (shape_of old l) (shape_of new m))
  unfolding parted_within parting_by ask_by
  parted-good = rw (good_old, good_new)

  pub says-appends : (path : List ℕ) → true ≡ appends (shape_of old l) (shape_of new m) → Parts (parted_within old new) path Appends path
  unfolding parted_by
  says-appends path e = rw (parted-good, ← e) (record { answered = refl; stored = refl })

  pub says-apart : {path left : List ℕ} {depth : ℕ} → false ≡ appends (shape_of old l) (shape_of new m)
      → Stored (parting_at old l l.root new m m.root) path depth left → Parts (parted_within old new) path (Apart depth) left
  unfolding parted_by
  says-apart e s =
      let p : parting (shape_of old l) (shape_of new m) ≡ parting_at old l l.root new m m.root =
      ap₂ parting (good-table old l good_old).its_shape (good-table new m good_new).its_shape in
      rw (parted-good, ← e, p) (record { answered = rw s.deep; stored = s.stored })

-- ---- what the positions lead to

-- what an answer tells: its positions are few, and where it is that the tables part, they do
abbrev Tells : (old new : List ℕ) → Parted → Type 0
Tells old new w = (length w.positions < 256) × ((n : ℕ) → w.answer ≡ Apart n → PartAt old new w.positions × (n ≡ length w.positions))

tells-good : (old new : List ℕ) (l m : Layout) → check old ≡ Good l → check new ≡ Good m
    → (is : Bool) → appends (shape_of old l) (shape_of new m) ≡ is → Tells old new (parted_by (Says is) (parting (shape_of old l) (shape_of new m)))
unfolding parted_by
tells-good old new l m a b true h = (omega arith, λ n e. let z : ◌≡◌ {A = ℕ} 0 1 = cc in absurd (omega arith))
tells-good old new l m a b false h =
    let good = good-table old l a in
    let few : length (parting (shape_of old l) (shape_of new m)) < 256 = rw good.its_shape (few-positions good (shape_of new m)) in
    (few, λ n e. (record { old_layout = l; new_layout = m; good_old = a; good_new = b; lead = roots-lead _ _ h; few = few }, cc))

tells : (old new : List ℕ) (c d : Checked) → check old ≡ c → check new ≡ d → Tells old new (parted_by (ask_by c d old new) (parting_by c d old new))
unfolding ask_by parted_by parting_by
tells old new (Err r) d a b = (omega arith, λ n e. let z : ◌≡◌ {A = ℕ} 0 1 = cc in absurd (omega arith))
tells old new (Good l) (Err r) a b = (omega arith, λ n e. let z : ◌≡◌ {A = ℕ} 0 1 = cc in absurd (omega arith))
tells old new (Good l) (Good m) a b = tells-good old new l m a b (appends (shape_of old l) (shape_of new m)) refl

tells_all : (old new area : List ℕ) → Tells old new (parted old new area)
unfolding parted_by parted parted_within
tells_all old new area =
    by-lt (length area) area_bytes
    (λ h. rw (asks-short area old new h) (omega arith, λ n e. let z : ◌≡◌ {A = ℕ} 0 1 = cc in absurd (omega arith)))
    (λ h. rw (within old new area [] h) (tells old new (check old) (check new) refl refl))

pub parts-there : PartsThere
parts-there old new area = (tells_all old new area).1

pub first-words : FirstWords
first-words old new area path e =
    let few = (tells_all old new area).0 in
    sets-eq (parted old new area).positions path 0 (omega arith) ∙ rw (zero-add (length (parted old new area).positions))
