-- T-02: what is promised of the question for one item by its path.
-- Assumes nothing.
use Rattle.std.specs.Prelude.{◌≡◌, true, List, ◌↔◌, ℕ}
use Rattle.std.proofs.Math.Option.{none, some}
use Rattle.wire.specs.declared.Refusal.{Refusal}
use Rattle.wire.specs.declared.Layout.{Layout}
use Rattle.wire.specs.Checked.{Good}
use Rattle.wire.specs.Shape.{Kind}
use Rattle.wire.specs.Table.{is_kind, kind_of, check, shape_of}
use Rattle.wire.specs.Reading.{refused}
use Rattle.wire.specs.Answers.{room_of, reads, may_take}
use Rattle.desk.specs.FindAnswer.{NoItem, Refused}
use Rattle.desk.specs.Path.{is_field, leads, most_entries, finds}
use Rattle.along.specs.Laws.{FromRead, Settled}

-- A path may lead to the kinds that can be taken by themselves: 0 to 13 and 20 to 31.
abbrev pub FieldsTaken : Type 0
FieldsTaken = (k : ℕ) → is_kind k ≡ true → is_field (kind_of k) ≡ may_take k

-- With a good table the answer is 13 exactly if the path leads to no such item, whatever the message is.
abbrev pub NowhereExactly : Type 0
NowhereExactly = (table path message : List ℕ) (l : Layout) → check table ≡ Good l → (finds table path message ≡ NoItem) ↔ (leads (shape_of table l) path ≡ none)

-- Any other answer is the full read's, with a store of 16,384 entries: an entry that it has put there, also where it refuses
-- later; an option's entry, which is absent; or else its own refusal.
abbrev pub FindsMade : Type 0
FindsMade = (table path message store : List ℕ) → room_of store ≡ most_entries → (finds table path message ≡ NoItem → ⊥)
    → FromRead (reads table message store).made (reads table message store).ends (finds table path message)

-- So a refusal is the full read's, with its place.
abbrev pub FindsRefused : Type 0
FindsRefused = (table path message store : List ℕ) → room_of store ≡ most_entries → (why : Refusal) (p : ℕ) → finds table path message ≡ Refused why p
    → (reads table message store).ends ≡ refused why p

-- Bytes after the item can't change the answer: two messages that agree up to the end of the path's item, or of the option that
-- is absent, have the same.
abbrev pub FindsEarly : Type 0
FindsEarly = (table path message : List ℕ) (l : Layout) (k : Kind) → check table ≡ Good l → leads (shape_of table l) path ≡ some k
    → Settled k message (λ m. finds table path m) (finds table path message)
