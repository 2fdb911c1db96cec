-- The keys of messages fit their fields in a row.
-- Assumes nothing.
use mathlib.Core.Path.{◌≡◌, refl, subst}
use mathlib.Core.Bool.{true}
use mathlib.Core.List.{List}
use Prim.Native.Nat.{ℕ, zero, suc, ◌+◌, ◌^◌, ◌<◌}
use native.Mathlib.Omega.{arith}
use lib.ListN.{length}
use borrow.Author.Tests.{ltb-true}
use Rattle.wire.specs.Item.{Item}
use Rattle.wire.specs.Item.{Took, Refused}
use Rattle.wire.specs.Shape.{Width, w16, w32, w64, bits, unsigned, int, plain, Shape, node, Shapes}
use Rattle.wire.specs.Shape as shapes
use Rattle.wire.specs.Walk.{walk}
use Rattle.wire.specs.Numbers.{varint, on_first, unzigzagged}
use Rattle.wire.specs.Reading.{Spot, front, Run, Outcome, reached, refused, run_after, enter, read_plain, head, read_item, read}
use Rattle.laws.proofs.Splits.{both_left, both_right}
use Rattle.laws.proofs.Numbering.{same_kind_lem}
use Rattle.laws.proofs.Varints.{took_in, span-bits}
use Rattle.desk.specs.declared.Key.{Key}
use Rattle.desk.specs.Messages.{is_of, has_field, Keyed, is_keyed, first_word, onward, word_at, key_of, skim, Message, next, next_by, next_of, rows_of}
use Rattle.batches.specs.Reads.{Reads, ended, also}
use Rattle.desk.specs.Batch.{offsets_fit}
use Rattle.batches.specs.Fit.{RowFits, RowsFit, none_left, each}

some_bits : (w : Width) → 0 < 2 ^ bits w
unfolding bits
some_bits w16 = omega arith
some_bits w32 = omega arith
some_bits w64 = omega arith

module _ (w : Width) where
  entered : (s : List ℕ) (g : ℕ → Spot → Run) (x : Spot) (i : Item) → varint w s ≡ i → first_word (enter (on_first (unzigzagged unsigned) i) g x).made < 2 ^ bits w
  unfolding first_word enter on_first unzigzagged run_after
  entered s g x (Refused e) q = some_bits w
  entered s g x (Took own) q = rw (span-bits w) at (took_in w s q).small

  first-word : (us : Shapes) (x : Spot) → first_word (read (node (plain (int unsigned w)) us) x).made < 2 ^ bits w
  unfolding read walk read_item head read_plain
  first-word us x = entered x.bytes _ x (varint w x.bytes) refl

  field-word : (t : Shape) (x : Spot) → is_of (plain (int unsigned w)) t ≡ true → first_word (read t x).made < 2 ^ bits w
  unfolding is_of
  field-word (node l us) x e = subst (λ k. first_word (read (node k us) x).made < 2 ^ bits w) (same_kind_lem (plain (int unsigned w)) l e) (first-word us x)

  -- the word of a field of a width is below its power of two
  pub word_fits : (ts : Shapes) (i : ℕ) (x : Spot) → has_field (plain (int unsigned w)) ts i ≡ true → word_at ts i x < 2 ^ bits w
  unfolding has_field word_at
  word_fits shapes.none i x e = some_bits w
  word_fits (shapes.more t ts) zero x e = field-word t x e
  word_fits (shapes.more t ts) (suc i) x e = go (read t x).ends (λ y. word_fits ts i y e)
    where
      go : (o : Outcome) → ((y : Spot) → word_at ts i y < 2 ^ bits w) → onward o (λ y. word_at ts i y) < 2 ^ bits w
      go (reached y) h = unfold onward in h y
      go (refused r p) h = unfold onward in some_bits w

pub next-key : (k : Keyed) (s : List ℕ) {m : Message} {rest : List ℕ} → next_of k s ≡ next m rest → key_of k s ≡ m.key
unfolding next_of
next-key k s e = go (skim k.shape s).ends e
  where
    go : (o : Outcome) {m : Message} {rest : List ℕ} → next_by k s o ≡ next m rest → key_of k s ≡ m.key
    go (reached x) e = unfold next_by in cc
    go (refused r p) e = unfold next_by in (let z : ◌≡◌ {A = ℕ} 0 1 = cc in absurd (omega arith))

pub record KeyFits (k : Key) : Type 0 where
  pub store : k.store < 256 ^ 4
  pub product : k.product < 256 ^ 8

pub key_fits : (k : Keyed) (s : List ℕ) → is_keyed k ≡ true → KeyFits (key_of k s)
unfolding is_keyed key_of bits
key_fits k s e =
    record { store = word_fits w32 _ _ (front s) (both_right _ _ (both_left _ _ e)); product = word_fits w64 _ _ (front s) (both_right _ _ (both_right _ _ e)) }

pub rows_fit : {k : Keyed} {s : List ℕ} {ms : List Message} (at : ℕ) → is_keyed k ≡ true → Reads k s ms → offsets_fit (rows_of at ms) ≡ true → RowsFit (rows_of at ms)
unfolding rows_of offsets_fit
rows_fit at ok ended e = none_left
rows_fit {k} {s} at ok (also {m} q h r) e =
    each (fits (rw (next-key k s q) at (key_fits k s ok)) (ltb-true at (2 ^ 32) (both_left _ _ e))) (rows_fit (at + length m.bytes) ok r (both_right _ _ e))
  where
    fits : KeyFits m.key → at < 2 ^ 32 → RowFits (record { key = m.key; offset = at })
    fits f l = record { store = f.store; product = f.product; offset = l }
