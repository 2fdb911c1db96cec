-- The batch of what is kept, laid out: the rows behind the messages are sorted, and the trailer put behind them.
-- Assumes nothing.
use mathlib.Core.Path.{◌≡◌, refl, sym, ap, ◌∙◌}
use mathlib.Core.Bool.{Bool, true, false, not}
use mathlib.Core.List.{List, [], ◌++◌, append-nil, append_assoc}
use Prim.Native.Nat.{ℕ, ◌+◌, ◌-◌, ◌*◌, ◌<◌}
use native.Mathlib.Nat.{zero-add}
use native.Mathlib.Omega.{arith}
use lib.ListN.{length, take, drop, length-append, length-drop}
use lib.Seq.{sets, sets-eq, take_at, drop_at}
use borrow.Author.Tests.{ltb-true}
use borrow.Rule.Slice.PartMut.{put_mid}
use Rattle.wire.specs.declared.Layout.{Layout}
use Rattle.wire.specs.Tests.{pick}
use Rattle.laws.specs.Range.{AreBytes}
use Rattle.laws.proofs.Parts.{length-tail}
use Rattle.laws.proofs.Splits.{both_left, both_right}
use Rattle.desk.specs.Rows.{sort, rows_bytes}
use Rattle.desk.specs.Messages.{is_keyed, Message, joined, rows_of}
use Rattle.desk.specs.Batch.{so, trailer, batch_of, messages_of, offsets_fit}
use Rattle.desk.specs.Compact.{keep_last}
use Rattle.batches.specs.Fit.{RowsFit}
use Rattle.batches.proofs.Bytes.{length-rows, length-sort, length-rows_of}
use Rattle.batches.proofs.Keys.{rows_fit}
use Rattle.batches.proofs.Keeping.{reads-keep, keep-offsets}
use Rattle.batches.proofs.Checks.{messages-pass}
use Rattle.batches.proofs.Opened.{offsets-fit, sort-offsets}
use Rattle.row.specs.Ranks.{row_count, rows_in}
use Rattle.sorting.specs.Sorted.{sorted_bytes}
use Rattle.messages.specs.declared.Fields.{Fields}
use Rattle.messages.specs.Fields.{first_place, second_place, keys_of, KeyedBy}
use Rattle.laying.specs.Counts.{ending}
use Rattle.laying.proofs.Laying.{sorted-rows, put-behind}
use Rattle.starts.specs.Window.{parts_in}
use Rattle.keeping.specs.Kept.{Keeps, kept_for, batch_kept}

-- ---- the key fields' places

pub place-first : (f : Fields) {t : Bool} → t ≡ true → f.before ≡ pick t (first_place f) (second_place f)
unfolding pick first_place
place-first f e = rw e

pub place-second : (f : Fields) {t : Bool} → t ≡ false → f.before + 1 + f.between ≡ pick t (first_place f) (second_place f)
unfolding pick second_place
place-second f e = rw e

pub second_fits : {table : List ℕ} {l : Layout} {f : Fields} → KeyedBy table l f → second_place f < 65536
unfolding second_place
second_fits {table} {l} {f} by = go f.ahead refl
  where
    stores : (keys_of table l f).store < 65536
    stores = unfold is_keyed in ltb-true (keys_of table l f).store 65536 (both_left _ _ (both_left _ _ by.fits))

    products : (keys_of table l f).product < 65536
    products = unfold is_keyed in ltb-true (keys_of table l f).product 65536 (both_left _ _ (both_right _ _ by.fits))

    go : (t : Bool) → f.ahead ≡ t → second_place f < 65536
    go true e = unfold keys_of pick in (rw e at products)
    go false e = unfold keys_of pick in (rw e at stores)

turned : (t : Bool) (a b : ℕ) → pick (not t) a b ≡ pick t b a
unfolding pick
turned true a b = refl
turned false a b = refl

-- ---- the three parts

module _ (count : ℕ) {table : List ℕ} {l : Layout} {f : Fields} {front rows out : List ℕ} {len : ℕ} (by : KeyedBy table l f) (all : Keeps table l f front rows len out)
    (room : length out ≡ len + (16 * count + 12)) where
  abbrev ms : List Message
  ms = keep_last all.them

  pub lay-many : length ms ≡ count
  lay-many = omega (arith, all.room)

  abbrev J : List ℕ
  J = joined ms

  abbrev R : List ℕ
  R = rows_bytes (rows_of 0 ms)

  rows-size : length R ≡ 16 * count
  rows-size = length-rows (rows_of 0 ms) ∙ rw (length-rows_of 0 ms, lay-many)

  abbrev last : List ℕ
  last = drop (len + 16 * count) out

  module _ {t₁ : List ℕ} (e₁ : t₁ ≡ kept_for (messages_of (parts_in table l f front rows)) out) where
    first : t₁ ≡ J ++ (R ++ last)
    first =
        let size : length (J ++ R) ≡ len + 16 * count = length-append J R ∙ rw (all.size, rows-size) in
        let here : kept_for (so all.them) out ≡ sets out 0 (J ++ R) = unfold kept_for in refl in
        e₁ ∙ ap (λ x. kept_for x out) all.is ∙ here ∙ sets-eq (J ++ R) out 0 (omega arith) ∙ rw (zero-add (length (J ++ R)), size, append_assoc J R last)

    pub lay-inside : length t₁ ≡ length out
    lay-inside = ap length first ∙ length-append J (R ++ last) ∙ ap (λ n. length J + n) (length-append R last) ∙ rw (all.size, rows-size, length-drop (len + 16 * count) out) (omega arith)

    back : len + 16 * count - len ≡ 16 * count
    back = omega arith

    module _ (bs : AreBytes rows) {c : List ℕ} (ec : c ≡ sorted_bytes (take (len + 16 * count - len) (drop len t₁))) where
      fits : RowsFit (rows_of 0 ms)
      fits =
          messages-pass (parts_in table l f front rows) all.is (λ r q. rows_fit 0 by.fits (reads-keep r)
          (keep-offsets all.them 0 0 (omega arith) (sort-offsets (rows_of 0 all.them) (rw q at offsets))))
        where
          offsets : offsets_fit (rows_in rows) ≡ true
          offsets = unfold rows_in in offsets-fit (row_count rows) rows bs

      abbrev S : List ℕ
      S = rows_bytes (sort (rows_of 0 ms))

      sorts : c ≡ S
      sorts = ec ∙ ap sorted_bytes (rw (first, drop_at J (R ++ last) len all.size) (take_at R last (len + 16 * count - len) (rows-size ∙ sym back))) ∙ sorted-rows (rows_of 0 ms) fits

      sorted-size : length S ≡ 16 * count
      sorted-size = length-rows (sort (rows_of 0 ms)) ∙ rw (length-sort (rows_of 0 ms), length-rows_of 0 ms, lay-many)

      second : put_mid len (len + 16 * count - len) t₁ c ≡ J ++ (S ++ last)
      second = put-behind J t₁ R last c all.size (rows-size ∙ sym back) first ∙ rw sorts

      third : length (put_mid len (len + 16 * count - len) t₁ c) ≡ len + (16 * count + 12)
      third = ap length second ∙ length-append J (S ++ last) ∙ ap (λ n. length J + n) (length-append S last) ∙ rw (all.size, sorted-size, length-drop (len + 16 * count) out) (omega arith)

      lay-left : length (put_mid len (len + 16 * count - len) t₁ c) - (len + 16 * count) ≡ 12
      lay-left = omega (arith, third)

      pub lay-twelve : length (take (length (put_mid len (len + 16 * count - len) t₁ c) - (len + 16 * count)) (drop (len + 16 * count) (put_mid len (len + 16 * count - len) t₁ c))) ≡ 12
      lay-twelve = length-tail (put_mid len (len + 16 * count - len) t₁ c) (len + 16 * count) ∙ lay-left

      pub lay-ends : {store product : ℕ} → store ≡ pick f.ahead (first_place f) (second_place f) → product ≡ pick (not f.ahead) (first_place f) (second_place f)
          → {d : List ℕ} → d ≡ ending count store product
          → put_mid (len + 16 * count) (length (put_mid len (len + 16 * count - len) t₁ c) - (len + 16 * count)) (put_mid len (len + 16 * count - len) t₁ c) d
          ≡ batch_kept (keys_of table l f) (messages_of (parts_in table l f front rows))
      lay-ends {store} {product} es ep {d} ed =
          rw lay-left
          (put-behind (J ++ S) (put_mid len (len + 16 * count - len) t₁ c) last [] d {n = len + 16 * count} {m = 12} (length-append J S ∙ rw (all.size, sorted-size)) (length-drop (len + 16 * count) out ∙ omega arith)
          (second ∙ simp (append_assoc, append-nil) refl)
          ∙ rw (ed, append-nil (ending count store product), append_assoc J S (ending count store product)) (sym (ap (batch_kept (keys_of table l f)) all.is ∙ made)))
        where
          made : batch_kept (keys_of table l f) (so all.them) ≡ J ++ (S ++ ending count store product)
          made = unfold batch_kept batch_of trailer ending keys_of in rw (lay-many, es, ep, turned f.ahead (first_place f) (second_place f))
