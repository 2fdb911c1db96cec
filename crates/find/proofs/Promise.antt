-- An equation with a definition leaves no choice, and the public answer is that of the way along the path.
-- Assumes nothing.
use mathlib.Core.Path.{◌≡◌, refl}
use mathlib.Core.Bool.{true, false}
use mathlib.Core.List.{List}
use mathlib.Core.Option.{Option, none, some}
use Prim.Native.Nat.{ℕ}
use Rattle.wire.specs.declared.Refusal.{Refusal}
use Rattle.wire.specs.declared.Layout.{Layout}
use Rattle.wire.specs.Checked.{Good, Bad}
use Rattle.wire.specs.Shape.{Kind}
use Rattle.wire.specs.Table.{check, shape_of}
use Rattle.wire.specs.Reading.{front}
use Rattle.laws.proofs.Splits.{not-both}
use Rattle.laws.proofs.Unique.{by-equation}
use Rattle.desk.specs.FindAnswer.{NoItem, Refused}
use Rattle.desk.specs.Path.{leads, most_entries, find_of, find_by, finds}
use Rattle.along.specs.Seek.{seek}
use Rattle.along.proofs.Found.{seeks-found}
use Rattle.find.specs.Steps.{is_some}
use Rattle.find.specs.Promise.{OneFind}

pub one-find : OneFind
one-find table path message = by-equation (finds table path message)

module _ (table path message : List ℕ) where
  pub finds-bad : {e : Refusal} {i : ℕ} → check table ≡ Bad e i → Refused e i ≡ finds table path message
  unfolding finds find_by
  finds-bad bad = rw bad

  module _ {l : Layout} (good : check table ≡ Good l) where
    pub finds-none : is_some (leads (shape_of table l) path) ≡ false → NoItem ≡ finds table path message
    unfolding finds find_by
    finds-none nowhere = rw good (go (leads (shape_of table l) path) nowhere)
      where
        go : (o : Option Kind) → is_some o ≡ false → NoItem ≡ find_of o (shape_of table l) path message
        go none e = unfold find_of in refl
        go (some k) e = unfold is_some in not-both refl e

    pub finds-some : is_some (leads (shape_of table l) path) ≡ true → seek (shape_of table l) path most_entries (front message) ≡ finds table path message
    unfolding finds find_by
    finds-some there = rw good (go (leads (shape_of table l) path) refl there)
      where
        go : (o : Option Kind) → leads (shape_of table l) path ≡ o → is_some o ≡ true → seek (shape_of table l) path most_entries (front message) ≡ find_of o (shape_of table l) path message
        go none q e = unfold is_some in not-both e refl
        go (some k) q e = unfold find_of in seeks-found (shape_of table l) path k q most_entries (front message)
