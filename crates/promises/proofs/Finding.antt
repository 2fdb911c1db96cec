-- The laws of one item by its path, of the public answers; and one test of each kind's number.
-- Assumes nothing.
use Rattle.std.specs.Prelude.{Err}
use mathlib.Core.Path.{◌≡◌, refl, sym, ◌∙◌}
use mathlib.Core.Bool.{Bool, true, false}
use mathlib.Core.List.{List, ◌++◌}
use mathlib.Core.Option.{Option, some, none}
use Prim.Native.Nat.{ℕ}
use native.Mathlib.Omega.{arith}
use borrow.Author.Tests.{ltb-true}
use Rattle.wire.specs.declared.Layout.{Layout}
use Rattle.wire.specs.Checked.{Checked}
use Rattle.wire.specs.Checked.{Good, Bad}
use Rattle.wire.specs.Tests.{pick, both, decided}
use Rattle.wire.specs.Shape.{unit, Kind, plain, same_kind, Shape}
use Rattle.wire.specs.Table.{kinds, is_kind, kind_of, check, shape_of}
use Rattle.wire.specs.Reading.{front, Outcome, refused, read, fit}
use Rattle.wire.specs.Values.{Entry}
use Rattle.wire.specs.Answers.{read_by, reads, may_take}
use Rattle.laws.proofs.ReadBy.{reads_plain}
use Rattle.laws.proofs.Rule.{passes, at}
use Rattle.desk.specs.FindAnswer.{FindAnswer}
use Rattle.desk.specs.FindAnswer.{NoItem, Refused}
use Rattle.desk.specs.Path.{is_field, leads, most_entries, find_in, find_of, find_by, finds}
use Rattle.along.specs.Laws.{FromRead, made, lacking, same, Settled, settled}
use Rattle.along.specs.Laws as laws
use Rattle.along.proofs.Made.{found-made}
use Rattle.along.proofs.Settled.{later-bytes, some_item}
use Rattle.promises.specs.Finding.{FieldsTaken, NowhereExactly, FindsMade, FindsRefused, FindsEarly}

-- ---- the kinds

alike : Bool → Bool → Bool
alike true b = b
alike false b = pick b false true

alike_same : (a b : Bool) → alike a b ≡ true → a ≡ b
unfolding alike pick
alike_same true b e = sym e
alike_same false true e = e
alike_same false false e = refl

-- each kind in the order of the numbers
all_alike : passes (λ j q. alike (is_field q) (may_take j)) 0 kinds ≡ true
unfolding alike pick both is_field same_kind decided kinds may_take is_kind
all_alike = refl

pub fields-taken : FieldsTaken
unfolding is_kind kind_of
fields-taken k h = alike_same _ _ (at (plain unit) (λ j q. alike (is_field q) (may_take j)) kinds all_alike k (ltb-true k _ h))

-- ---- the public answers

module _ (table path : List ℕ) {l : Layout} (good : check table ≡ Good l) where
  abbrev t : Shape
  t = shape_of table l

  found-good : (message : List ℕ) → finds table path message ≡ find_of (leads t path) t path message
  unfolding finds find_by
  found-good message = rw good

  found_some : (message : List ℕ) (k : Kind) → leads t path ≡ some k → finds table path message ≡ find_in t path (fit most_entries (read t (front message)))
  found_some message k e = found-good message ∙ rw e (unfold find_of in refl)

pub nowhere-exactly : NowhereExactly
nowhere-exactly table path message l good =
    (λ e. go (leads (shape_of table l) path) refl e, λ e. found-good table path good message ∙ rw e (unfold find_of in refl))
  where
    go : (o : Option Kind) → leads (shape_of table l) path ≡ o → finds table path message ≡ NoItem → o ≡ none
    go none q e = refl
    go (some k) q e = absurd (some_item (shape_of table l) path k q most_entries message (sym (found_some table path good message k q) ∙ e))

pub finds-made : FindsMade
unfolding reads finds
finds-made table path message store room h = rw room (go (check table) h)
  where
    inside : (t : Shape) (o : Option Kind) → (find_of o t path message ≡ NoItem → ⊥)
        → FromRead (fit most_entries (read t (front message))).made (fit most_entries (read t (front message))).ends (find_of o t path message)
    inside t none h = unfold find_of in absurd (h refl)
    inside t (some k) h = unfold find_of in found-made t path (fit most_entries (read t (front message))) h

    go : (c : Checked) → (find_by c table path message ≡ NoItem → ⊥)
        → FromRead (read_by false c table most_entries message).made (read_by false c table most_entries message).ends (find_by c table path message)
    go (Good l) h = rw (reads_plain l table most_entries message) (unfold find_by in inside (shape_of table l) (leads (shape_of table l) path) h)
    go (Err r) h = unfold find_by read_by in same

pub finds-refused : FindsRefused
finds-refused table path message store room why p e = go (finds-made table path message store room (λ n. never (sym e ∙ n))) e
  where
    never : Refused why p ≡ NoItem → ⊥
    never q = let z : ◌≡◌ {A = ℕ} 0 1 = cc in omega arith

    go : {es : List Entry} {o : Outcome} {r : FindAnswer} → FromRead es o r → r ≡ Refused why p → o ≡ refused why p
    go (made f m) q = let z : ◌≡◌ {A = ℕ} 0 1 = cc in absurd (omega arith)
    go (lacking f w m) q = let z : ◌≡◌ {A = ℕ} 0 1 = cc in absurd (omega arith)
    go (same {why = x} {p = y}) q = let a : x ≡ why = cc in let b : y ≡ p = cc in rw (a, b)

pub finds-early : FindsEarly
finds-early table path message l k good leads-there =
    rw (found_some table path good message k leads-there) (turn (later-bytes (shape_of table l) path k leads-there most_entries message))
  where
    turn : {r : FindAnswer} → Settled k message (λ m. find_in (shape_of table l) path (fit most_entries (read (shape_of table l) (front m)))) r
        → Settled k message (λ m. finds table path m) r
    turn (settled p u d again) = settled p u d (λ s rest other q z. found_some table path good (s ++ other) k leads-there ∙ again s rest other q z)
    turn laws.refuses = laws.refuses
