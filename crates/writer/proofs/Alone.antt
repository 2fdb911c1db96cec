-- A text or bytes alone: what was measured, with no place for any byte, judges the list, and its bytes are then put as they were counted.
-- Assumes nothing.
use mathlib.Core.Path.{◌≡◌, refl}
use mathlib.Core.Bool.{true}
use mathlib.Core.List.{List, []}
use Prim.Native.Nat.{ℕ, ◌+◌, ◌*◌, ◌%◌, ◌^◌, ◌<◌, ◌≤◌}
use native.Mathlib.Omega.{arith}
use lib.ListN.{length}
use lib.Dec.{eqb}
use borrow.Author.Tests.{eq-eqb}
use Rattle.wire.specs.declared.Refusal.TheVariants.{Values, Full}
use Rattle.wire.specs.WriteAnswer.{Done, Refused}
use Rattle.wire.specs.Table.{kind_of}
use Rattle.wire.specs.Values.{part}
use Rattle.wire.specs.Writing.{with_count, head_bytes}
use Rattle.wire.specs.Answers.{words_per, room_of, formed}
use Rattle.laws.specs.Answered.{Writes}
use Rattle.entry.specs.Words.{first_at, second_at}
use Rattle.output.specs.Bytes.{Puts}
use Rattle.write_item.specs.Pooled.{Pooled}
use Rattle.write_item.specs.Pooled as pooled
use Rattle.write_item.specs.Own.{is_some, SpellsEntry, Pools}
use Rattle.write_item.proofs.Spelling.{fits-part, spells-part}
use Rattle.write_list.specs.Put as put
use Rattle.write_list.specs.Steps.{entries, write_leaf, Gives}
use Rattle.write_list.proofs.Going.{gives-misfit}
use Rattle.write_list.proofs.Nodes.{some_fits}
use Rattle.write_list.proofs.Fronts.{content-put, content-lacks}
use Rattle.writer.proofs.Promised.{judged-misfit, judged-full, judged-done}

-- a list of so many entries is whole
pub are-whole : (n at : ℕ) → 3 * at ≡ n → eqb (n % words_per) 0 ≡ true
are-whole n at e = eq-eqb (n % words_per) 0 (omega (arith, e))

-- ---- the measured entry

module _ {k : ℕ} {pool : List ℕ} {a b : ℕ} (l : 12 ≤ k) (h : k ≤ 13) where
  judged : {r : Pooled} {n : ℕ} → Pools k pool a b 0 [] r [] → r ≡ pooled.Put n → is_some (head_bytes (kind_of k) 0 pool a b) ≡ true
  judged {n = n} p q =
      let d : (is_some (head_bytes (kind_of k) 0 pool a b) ≡ true) × SpellsEntry (kind_of k) pool a b 0 [] n [] = rw q at p.holds in
      d.0

  pub inside : {r : Pooled} {n : ℕ} → Pools k pool a b 0 [] r [] → r ≡ pooled.Put n → a + b ≤ length pool
  inside p q = fits-part pool a b k l h (some_fits (kind_of k) 0 pool a b (judged p q))

module _ {k : ℕ} {pool : List ℕ} (ws : List ℕ) {a b : ℕ} {r : Pooled} (l : 12 ≤ k) (h : k ≤ 13) (one : length ws ≡ words_per) (ea : a ≡ first_at ws 0) (eb : b ≡ second_at ws 0)
    (p : Pools k pool a b 0 [] r []) (out : List ℕ) (small : length out < 2 ^ 63) where
  more : 0 < room_of ws
  unfolding room_of
  more = omega (arith, one)

  all : room_of ws ≤ 1
  unfolding room_of
  all = omega (arith, one)

  pub alone-misfit : r ≡ pooled.Misfit → Writes (formed (length out) (write_leaf (kind_of k) pool (entries ws 0))) out (Refused Values 0) out
  alone-misfit q = judged-misfit {ws = ws} out (gives-misfit {u = 0} {before = []} {out = []} (content-lacks p q ws 0 more ea eb)) refl

  module _ {n : ℕ} (q : r ≡ pooled.Put n) where
    measured : Gives (write_leaf (kind_of k) pool (entries ws 0)) ws 0 [] (put.Done 1 n) []
    measured = ((content-put p l h more ea eb q).put refl).gives

    pub alone-full : length out < n → Writes (formed (length out) (write_leaf (kind_of k) pool (entries ws 0))) out (Refused Full 0) out
    alone-full m = judged-full out measured refl small all m

    pub alone-put : n ≤ length out → {i : ℕ} {left : List ℕ} → Puts (with_count (part pool a b)) 0 out i left
        → Writes (formed (length out) (write_leaf (kind_of k) pool (entries ws 0))) out (Done n) left
    alone-put m {i} {left} puts =
        let again : Pools k pool a b 0 out (pooled.Put i) left = record { holds = (judged l h p q, spells-part pool a b puts k l h) } in
        judged-done out measured refl small all m ((content-put again l h more ea eb refl).put refl).gives
