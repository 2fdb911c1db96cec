-- The messages that are kept, put one behind the other, and their rows behind them: those so far are in place, and there is room for the next.
-- Assumes nothing.
use mathlib.Core.Path.{◌≡◌, refl, sym, ap, ◌∙◌}
use mathlib.Core.Bool.{Bool, true, false}
use mathlib.Core.List.{List, [], ◌∷◌, ◌++◌, append-nil}
use Prim.Native.Nat.{ℕ, suc, ◌+◌, ◌-◌, ◌*◌, ◌≤◌, ◌<◌}
use native.Mathlib.Nat.{zero-add, add-suc}
use native.Mathlib.Omega.{arith}
use lib.ListN.{length, take, drop, set, length-append, length-drop, take-append-drop}
use lib.Seq.{sets, length-sets, set_comm, take-set-le, drop-set-add, take_at, drop-length}
use borrow.Rule.Slice.PartMut.{put_mid}
use Rattle.wire.specs.declared.Layout.{Layout}
use Rattle.laws.proofs.Parts.{tail, length-tail, sets-append}
use Rattle.desk.specs.declared.Key.{Key}
use Rattle.desk.specs.declared.Row.{Row}
use Rattle.desk.specs.Rows.{last_row, row_bytes, rows_bytes}
use Rattle.desk.specs.Messages.{Message, next_of, joined, rows_of}
use Rattle.desk.specs.Batch.{Parts, messages_of}
use Rattle.desk.specs.Compact.{keep_last, is_last, kept_by}
use Rattle.batches.proofs.Bytes.{length-rows, length-rows_of}
use Rattle.batches.proofs.Ends.{next-joins}
use Rattle.batches.proofs.Onward.{joined-one, rows-one}
use Rattle.row.specs.Ranks.{row_count, rows_in}
use Rattle.messages.specs.declared.Fields.{Fields}
use Rattle.messages.specs.NextMessage.{NextMessage}
use Rattle.messages.specs.NextMessage.{Message as Is}
use Rattle.messages.specs.Fields.{keys_of, KeyedBy}
use Rattle.messages.specs.Steps.{next_answer}
use Rattle.messages.proofs.SoFar.{Told}
use Rattle.laying.proofs.Filling.{rows_append, one-row}
use Rattle.starts.specs.Window.{parts_in}
use Rattle.keeping.specs.Kept.{Good, Keeps, kept_for}
use Rattle.keeping.proofs.Kept.{joined-append}
use Rattle.keeping.proofs.Passing.{Passing, passing-begin, tells, onward, kept-one, all-kept, passing-keeps, kept-none, passing-drops, end_kept}

-- ---- stores

set-sets : (ys l : List ℕ) (i j x : ℕ) → i < j → set (sets l j ys) i x ≡ sets (set l i x) j ys
set-sets [] l i j x h = refl
set-sets (y ∷ ys) l i j x h = set-sets ys (set l j y) i (suc j) x (omega arith) ∙ ap (λ k. sets k (suc j) ys) (set_comm l j i y x (λ e. omega arith))

-- a store in front of another may come after it
sets-turned : (xs ys l : List ℕ) (i j : ℕ) → i + length xs ≤ j → sets (sets l j ys) i xs ≡ sets (sets l i xs) j ys
sets-turned [] ys l i j h = refl
sets-turned (x ∷ xs) ys l i j h =
    ap (λ k. sets k (suc i) xs) (set-sets ys l i j x (omega arith)) ∙ sets-turned xs ys (set l i x) (suc i) j (omega arith)

-- a store in the list from a place on
sets_behind : (v s : List ℕ) (n i : ℕ) → take n s ++ sets (drop n s) i v ≡ sets s (n + i) v
sets_behind [] s n i = take-append-drop n s
sets_behind (x ∷ v) s n i =
    rw (← take-set-le n s (n + i) x (omega arith), ← drop-set-add n s i x) (sets_behind v (set s (n + i) x) n (suc i) ∙ ap (λ k. sets (set s (n + i) x) k v) (add-suc n i))

-- room for a row in the part behind `len`
pub row_room : (out : List ℕ) (len many at : ℕ) (bytes : List ℕ) {t : List ℕ} → t ≡ sets out at bytes → len + 16 * many + 16 ≤ length out → many < row_count (take (length t - len) (drop len t))
unfolding row_count
row_room out len many at bytes {t} et h = omega (arith, length-tail t len, ap length et ∙ length-sets out at bytes)

-- bytes put at a place, and a row into the part behind `len`
pub put-row : (out : List ℕ) (len to many : ℕ) (bytes : List ℕ) (row : Row) {t u : List ℕ} → t ≡ sets out to bytes → u ≡ sets (take (length t - len) (drop len t)) (16 * many) (row_bytes row)
    → put_mid len (length t - len) t u ≡ sets (sets out to bytes) (len + 16 * many) (row_bytes row)
put-row out len to many bytes row {t} {u} et eu =
    rw (eu, ← et, tail t len, ← length-drop len t, drop-length (drop len t)) (ap (λ k. take len t ++ k) (append-nil (sets (drop len t) (16 * many) (row_bytes row))) ∙ sets_behind (row_bytes row) t len (16 * many))

-- ---- the loop

pub record Keeping (b : Parts) (out₀ : List ℕ) (len at to many : ℕ) (out : List ℕ) : Type 0 where
  pub passed : Passing b at many to
  pub bytes : out ≡ sets (sets out₀ 0 (joined (kept_by b.rows 0 passed.them))) len (rows_bytes (rows_of 0 (kept_by b.rows 0 passed.them)))

pub keeping-begin : (b : Parts) (out : List ℕ) (len : ℕ) → Keeping b out len 0 0 0 out
unfolding kept_by joined rows_of rows_bytes passing-begin
keeping-begin b out len = record { passed = passing-begin b; bytes = refl }

module _ {table : List ℕ} {l : Layout} {f : Fields} {front rows : List ℕ} {len : ℕ} {out₀ : List ℕ} (room : Keeps table l f front rows len out₀) where
  abbrev parts : Parts
  parts = parts_in table l f front rows

  abbrev pub all : Good parts
  all = record { them = room.them; is = room.is }

  module _ (by : KeyedBy table l f) {at to many : ℕ} {out : List ℕ} (w : Keeping parts out₀ len at to many out) where
    abbrev kept : List Message
    kept = kept_by (rows_in rows) 0 w.passed.them

    pub keeping-size : length out ≡ length out₀
    keeping-size = ap length w.bytes ∙ length-sets (sets out₀ 0 (joined kept)) len (rows_bytes (rows_of 0 kept)) ∙ length-sets out₀ 0 (joined kept)

    module _ (h : at < length front) {r : NextMessage} (n : r ≡ next_answer (next_of (keys_of table l f) (take (length front - at) (drop at front)))) {key : Key} {size : ℕ} (e : r ≡ Is key size) where
      abbrev this : Told (keys_of table l f) (drop at front) key size
      this = tells all by.fits w.passed h n e

      -- the bytes that are copied
      own : take (at + size - at) (drop at front) ≡ this.message.bytes
      own =
          let e : at + size - at ≡ size = omega arith in
          rw (e, ← next-joins (keys_of table l f) (drop at front) this.is) (take_at this.message.bytes this.rest size this.its-length)

      module _ {last : Bool} (is : last ≡ is_last (last_row key (rows_in rows)) at) where
        module _ (held : last ≡ true) where
          -- what is kept behind this one
          abbrev others : List Message
          others = kept_by (rows_in rows) (at + length this.message.bytes) (onward all by.fits w.passed h n e).others

          whole-kept : kept ++ (this.message ∷ others) ≡ keep_last room.them
          whole-kept = all-kept all by.fits w.passed h n e is held

          pub keeping-fits : to + size ≤ len
          unfolding joined
          keeping-fits =
              let a = ap (λ ms. length (joined ms)) (sym whole-kept) ∙ ap length (joined-append kept (this.message ∷ others)) ∙ length-append (joined kept) (joined (this.message ∷ others)) in
              let b : length (joined (this.message ∷ others)) ≡ length this.message.bytes + length (joined others) = length-append this.message.bytes (joined others) in
              omega (arith, room.size, w.passed.size, this.its-length)

          one_left : many < length (keep_last room.them)
          one_left = omega (arith, ap length (sym whole-kept) ∙ length-append kept (this.message ∷ others), w.passed.kept)

          pub keeping-room : len + 16 * many + 16 ≤ length out
          keeping-room = omega (arith, one_left, room.room, keeping-size)

          pub keeping-next : {new : List ℕ} → new ≡ sets (sets out to (take (at + size - at) (drop at front))) (len + 16 * many) (row_bytes (record { key = key; offset = to }))
              → Keeping parts out₀ len (at + size) (to + size) (many + 1) new
          unfolding passing-keeps
          keeping-next {new} q =
              record {
                passed = passing-keeps all by.fits w.passed h n e is held;
                bytes = q ∙ ap (λ t. sets (sets out to t) (len + 16 * many) (row_bytes row)) own ∙ ap (λ t. sets (sets t to this.message.bytes) (len + 16 * many) (row_bytes row)) w.bytes ∙ stores
                    ∙ ap (λ ms. sets (sets out₀ 0 (joined ms)) len (rows_bytes (rows_of 0 ms))) (sym same);
              }
            where
              same : kept_by (rows_in rows) 0 (w.passed.them ++ (this.message ∷ [])) ≡ kept ++ (this.message ∷ [])
              same = kept-one all by.fits w.passed h n e is held

              row : Row
              row = record { key = key; offset = to }

              J : List ℕ
              J = joined kept

              R : List ℕ
              R = rows_bytes (rows_of 0 kept)

              front-end : 0 + length J ≡ to
              front-end = zero-add (length J) ∙ w.passed.size

              rows_end : len + length R ≡ len + 16 * many
              rows_end = ap (λ n. len + n) (length-rows (rows_of 0 kept) ∙ rw (length-rows_of 0 kept, w.passed.kept))

              all-rows : rows_bytes (rows_of 0 (kept ++ (this.message ∷ []))) ≡ R ++ row_bytes row
              all-rows =
                  ap rows_bytes (rows-one 0 kept this.message ∙ rw (this.its-key, front-end))
                  ∙ rows_append (rows_of 0 kept) (row ∷ []) ∙ ap (λ t. R ++ t) (one-row row)

              stores : sets (sets (sets (sets out₀ 0 J) len R) to this.message.bytes) (len + 16 * many) (row_bytes row)
                  ≡ sets (sets out₀ 0 (joined (kept ++ (this.message ∷ [])))) len (rows_bytes (rows_of 0 (kept ++ (this.message ∷ []))))
              stores =
                  ap (λ t. sets t (len + 16 * many) (row_bytes row)) (sets-turned this.message.bytes R (sets out₀ 0 J) to len (omega (arith, keeping-fits, this.its-length)))
                  ∙ ap (λ i. sets (sets (sets (sets out₀ 0 J) to this.message.bytes) len R) i (row_bytes row)) (sym rows_end)
                  ∙ sets-append (sets (sets out₀ 0 J) to this.message.bytes) len R (row_bytes row)
                  ∙ ap (λ i. sets (sets (sets out₀ 0 J) i this.message.bytes) len (R ++ row_bytes row)) (sym front-end)
                  ∙ ap (λ t. sets t len (R ++ row_bytes row)) (sets-append out₀ 0 J this.message.bytes)
                  ∙ rw (← joined-one kept this.message, ← all-rows)

        pub keeping-pass : last ≡ false → Keeping parts out₀ len (at + size) to many out
        unfolding passing-drops
        keeping-pass other =
            record {
              passed = passing-drops all by.fits w.passed h n e is other;
              bytes = w.bytes ∙ ap (λ ms. sets (sets out₀ 0 (joined ms)) len (rows_bytes (rows_of 0 ms))) (sym (kept-none all by.fits w.passed h n e is other));
            }

    pub keeping-end : length front ≤ at → out ≡ kept_for (messages_of parts) out₀
    keeping-end h =
        let start : 0 + length (joined (keep_last room.them)) ≡ len = zero-add (length (joined (keep_last room.them))) ∙ room.size in
        w.bytes ∙ ap (λ ms. sets (sets out₀ 0 (joined ms)) len (rows_bytes (rows_of 0 ms))) (end_kept all by.fits w.passed h)
        ∙ ap (λ i. sets (sets out₀ 0 (joined (keep_last room.them))) i (rows_bytes (rows_of 0 (keep_last room.them)))) (sym start)
        ∙ sets-append out₀ 0 (joined (keep_last room.them)) (rows_bytes (rows_of 0 (keep_last room.them)))
        ∙ sym (ap (λ x. kept_for x out₀) room.is ∙ (unfold kept_for in refl))
