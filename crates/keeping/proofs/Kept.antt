-- What is kept of some messages is kept of the first of them, and then of the others.
-- Assumes nothing.
use mathlib.Core.Path.{◌≡◌, refl, sym, ap, ◌∙◌}
use mathlib.Core.Bool.{Bool, true, false}
use mathlib.Core.List.{List, [], ◌∷◌, ◌++◌, append_assoc}
use Prim.Native.Nat.{ℕ, ◌+◌}
use native.Mathlib.Nat.{add-zero, add_assoc, zero-add}
use lib.ListN.{length, length-append}
use Rattle.wire.specs.Tests.{pick}
use Rattle.desk.specs.declared.Key.{Key}
use Rattle.desk.specs.declared.Row.{Row}
use Rattle.desk.specs.Rows.{last_row}
use Rattle.desk.specs.Messages.{Message, joined}
use Rattle.desk.specs.Batch.{so, Parts, messages_of}
use Rattle.desk.specs.Compact.{keep_last, is_last, kept_by}
use Rattle.batches.proofs.Checks.{messages-pass}
use Rattle.batches.proofs.ByRows.{rows-keep-last}

pub kept_append : (rows : List Row) (at : ℕ) (xs ys : List Message) → kept_by rows at (xs ++ ys) ≡ kept_by rows at xs ++ kept_by rows (at + length (joined xs)) ys
unfolding kept_by joined
kept_append rows at [] ys = ap (λ n. kept_by rows n ys) (sym (add-zero at))
kept_append rows at (m ∷ xs) ys =
    rw (kept_append rows (at + length m.bytes) xs ys, length-append m.bytes (joined xs), add_assoc at (length m.bytes) (length (joined xs)))
    (go (is_last (last_row m.key rows) at) (kept_by rows (at + length m.bytes) xs) (kept_by rows (at + (length m.bytes + length (joined xs))) ys))
  where
    go : (t : Bool) (a b : List Message) → pick t (m ∷ (a ++ b)) (a ++ b) ≡ pick t (m ∷ a) a ++ b
    go true a b = unfold pick in refl
    go false a b = unfold pick in refl

pub joined-append : (xs ys : List Message) → joined (xs ++ ys) ≡ joined xs ++ joined ys
unfolding joined
joined-append [] ys = refl
joined-append (m ∷ xs) ys = rw (joined-append xs ys, append_assoc m.bytes (joined xs) (joined ys))

-- one message more, by whether the last row of its key says that it begins there
module _ (rows : List Row) (them : List Message) {at : ℕ} (behind : length (joined them) ≡ at) (m : Message) {key : Key} (its-key : m.key ≡ key) {last : Bool} (e : last ≡ is_last (last_row key rows) at)
    (rs : List Message) where
  there : kept_by rows 0 (them ++ (m ∷ rs)) ≡ kept_by rows 0 them ++ pick last (m ∷ kept_by rows (at + length m.bytes) rs) (kept_by rows (at + length m.bytes) rs)
  there = kept_append rows 0 them (m ∷ rs) ∙ (unfold kept_by in rw (zero-add (length (joined them)), behind, its-key, ← e))

  pub kept-yes : last ≡ true → kept_by rows 0 (them ++ (m ∷ rs)) ≡ kept_by rows 0 them ++ (m ∷ kept_by rows (at + length m.bytes) rs)
  kept-yes q = there ∙ (unfold pick in rw q)

  pub kept-no : last ≡ false → kept_by rows 0 (them ++ (m ∷ rs)) ≡ kept_by rows 0 them ++ kept_by rows (at + length m.bytes) rs
  kept-no q = there ∙ (unfold pick in rw q)

pub kept-last : (b : Parts) {ms : List Message} → messages_of b ≡ so ms → kept_by b.rows 0 ms ≡ keep_last ms
kept-last b {ms} e = messages-pass b e (λ r q. ap (λ rows. kept_by rows 0 ms) q ∙ rows-keep-last b.keys b.front ms r)
