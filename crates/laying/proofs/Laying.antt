-- A batch laid out: messages in front, rows behind them, and the trailer last.
-- Assumes nothing.
use mathlib.Core.Path.{◌≡◌, refl, sym, ap, ◌∙◌}
use mathlib.Core.List.{List, [], ◌++◌, append-nil, append_assoc}
use Prim.Native.Nat.{ℕ, suc, ◌+◌, ◌-◌, ◌*◌, ◌/◌, ◌%◌}
use native.Mathlib.Nat.{zero-add}
use native.Mathlib.Omega.{arith}
use lib.ListN.{length, take, drop, set, length-append, length-drop, take-append-drop}
use lib.Seq.{sets, sets-eq, drop-length, take_at, drop_at, length-take-le}
use borrow.Rule.Slice.PartMut.{put_mid}
use Rattle.wire.specs.Numbers.{little_bytes}
use Rattle.laws.proofs.Parts.{sets-append}
use Rattle.laws.proofs.Numbers.{length-little_bytes}
use Rattle.desk.specs.declared.Row.{Row}
use Rattle.desk.specs.Rows.{sort, rows_bytes, rows_at}
use Rattle.desk.specs.Messages.{Split, rows_of}
use Rattle.batches.specs.Fit.{RowsFit}
use Rattle.batches.proofs.Bytes.{rows_back, length-rows, length-sort, length-rows_of}
use Rattle.row.specs.Ranks.{row_count, rows_in, behind}
use Rattle.sorting.specs.Sorted.{sorted_bytes}
use Rattle.laying.specs.Counts.{Whole, rows_for, ending, Laid, batch_for}

pub puts2 : (s : List ℕ) (i x : ℕ) → set (set s i (x % 256)) (i + 1) (x / 256 % 256) ≡ sets s i (little_bytes 2 x)
unfolding little_bytes
puts2 s i x = let a : i + 1 ≡ suc i = omega arith in rw a

-- stores that go on behind each other and fill all of it
sets-all : (s v : List ℕ) → length v ≡ length s → sets s 0 v ≡ v
sets-all s v e = sets-eq v s 0 (omega arith) ∙ rw (zero-add (length v), e, drop-length s) (append-nil v)

sets-on : (s a : List ℕ) {n : ℕ} (b : List ℕ) → length a ≡ n → sets (sets s 0 a) n b ≡ sets s 0 (a ++ b)
sets-on s a b e = ap (λ i. sets (sets s 0 a) i b) (sym (zero-add (length a) ∙ e)) ∙ sets-append s 0 a b

pub trailer-put : (s : List ℕ) (count store product : ℕ) → length s ≡ 12 → {t u v w : List ℕ} → t ≡ sets s 0 (little_bytes 4 count) → u ≡ sets t 4 (little_bytes 4 (16 * count))
    → v ≡ sets u 8 (little_bytes 2 store) → w ≡ sets v 10 (little_bytes 2 product) → w ≡ ending count store product
unfolding ending
trailer-put s count store product n a b c d =
    let A = little_bytes 4 count in let B = little_bytes 4 (16 * count) in let C = little_bytes 2 store in let D = little_bytes 2 product in
    let two : sets (sets s 0 A) 4 B ≡ sets s 0 (A ++ B) = sets-on s A B (length-little_bytes 4 count) in
    let three : sets (sets s 0 (A ++ B)) 8 C ≡ sets s 0 ((A ++ B) ++ C) = sets-on s (A ++ B) C (simp (length-append, length-little_bytes) refl) in
    let four : sets (sets s 0 ((A ++ B) ++ C)) 10 D ≡ sets s 0 (((A ++ B) ++ C) ++ D) = sets-on s ((A ++ B) ++ C) D (simp (length-append, length-little_bytes) refl) in
    let size : length (((A ++ B) ++ C) ++ D) ≡ length s = (simp (length-append, length-little_bytes) (sym n)) in
    let whole : ((A ++ B) ++ C) ++ D ≡ A ++ (B ++ (C ++ D)) = simp append_assoc in
    d ∙ ap (λ l. sets l 10 D) (c ∙ ap (λ l. sets l 8 C) (b ∙ ap (λ l. sets l 4 B) a ∙ two) ∙ three) ∙ four ∙ sets-all s (((A ++ B) ++ C) ++ D) size ∙ whole

-- ---- sorted rows as bytes

module _ (rs : List Row) (f : RowsFit rs) where
  rows-many : length (rows_bytes rs) / 16 ≡ length rs
  rows-many = omega (arith, length-rows rs)

  rows_are : rows_in (rows_bytes rs) ≡ rs
  unfolding rows_in row_count
  rows_are = rw rows-many (ap (rows_at (length rs)) (sym (append-nil (rows_bytes rs))) ∙ rows_back rs [] f)

  nothing-behind : behind (rows_bytes rs) ≡ []
  unfolding behind row_count
  nothing-behind = rw (rows-many, ← length-rows rs) (drop-length (rows_bytes rs))

  pub sorted-rows : sorted_bytes (rows_bytes rs) ≡ rows_bytes (sort rs)
  unfolding sorted_bytes
  sorted-rows = rw (rows_are, nothing-behind) (append-nil (rows_bytes (sort rs)))

  pub sorted-length : length (sorted_bytes (rows_bytes rs)) ≡ 16 * length rs
  sorted-length = ap length sorted-rows ∙ length-rows (sort rs) ∙ rw (length-sort rs)

-- ---- the three parts

-- a part put behind a front of its size
pub put-behind : (a b mid post new : List ℕ) {n m : ℕ} → length a ≡ n → length mid ≡ m → b ≡ a ++ (mid ++ post) → put_mid n m b new ≡ a ++ (new ++ post)
unfolding put_mid
put-behind a b mid post new {n} {m} ea em e = rw (e, take_at a (mid ++ post) n ea, drop_at a (mid ++ post) n ea, drop_at mid post m em)

module _ (out bytes : List ℕ) (count : ℕ) (rows : List ℕ) (room : length out ≡ length bytes + (16 * count + 12)) (many : length rows ≡ 16 * count) where
  abbrev end : ℕ
  end = length bytes + 16 * count

  -- behind the messages: what was there
  abbrev old : List ℕ
  old = drop (length bytes) out

  old-size : length old ≡ 16 * count + 12
  old-size = length-drop (length bytes) out ∙ omega arith

  module _ {t₁ : List ℕ} (e₁ : t₁ ≡ sets out 0 bytes) where
    first : t₁ ≡ bytes ++ (take (16 * count) old ++ drop (16 * count) old)
    first = e₁ ∙ sets-eq bytes out 0 (omega arith) ∙ rw (zero-add (length bytes), take-append-drop (16 * count) old)

    back : end - length bytes ≡ 16 * count
    back = omega arith

    pub part-size : length (take (end - length bytes) (drop (length bytes) t₁)) ≡ 16 * count
    part-size = rw (first, drop_at bytes (take (16 * count) old ++ drop (16 * count) old) (length bytes) refl, back, take-append-drop (16 * count) old) (length-take-le (16 * count) old (omega (arith, old-size)))

    module _ {b : List ℕ} (eb : b ≡ rows) where
      second : put_mid (length bytes) (end - length bytes) t₁ b ≡ bytes ++ (rows ++ drop (16 * count) old)
      second = put-behind bytes t₁ (take (16 * count) old) (drop (16 * count) old) b refl (length-take-le (16 * count) old (omega (arith, old-size)) ∙ sym back) first ∙ rw eb

      module _ {c : List ℕ} (ec : c ≡ sorted_bytes (take (end - length bytes) (drop (length bytes) (put_mid (length bytes) (end - length bytes) t₁ b)))) where
        sorts : c ≡ sorted_bytes rows
        sorts = ec ∙ ap sorted_bytes (rw (second, drop_at bytes (rows ++ drop (16 * count) old) (length bytes) refl) (take_at rows (drop (16 * count) old) (end - length bytes) (many ∙ sym back)))

        third : put_mid (length bytes) (end - length bytes) (put_mid (length bytes) (end - length bytes) t₁ b) c ≡ bytes ++ (sorted_bytes rows ++ drop (16 * count) old)
        third = put-behind bytes _ rows (drop (16 * count) old) c refl (many ∙ sym back) second ∙ rw sorts

        pub laid_out : length (sorted_bytes rows) ≡ 16 * count → {d last : List ℕ} → d ≡ last
            → put_mid end (length (put_mid (length bytes) (end - length bytes) (put_mid (length bytes) (end - length bytes) t₁ b) c) - end) (put_mid (length bytes) (end - length bytes) (put_mid (length bytes) (end - length bytes) t₁ b) c) d
            ≡ bytes ++ (sorted_bytes rows ++ last)
        laid_out same {d} {last} ed =
            let left : length (drop (16 * count) old) ≡ 12 = length-drop (16 * count) old ∙ omega (arith, old-size) in
            let size : length (bytes ++ (sorted_bytes rows ++ drop (16 * count) old)) ≡ end + 12 = length-append bytes (sorted_bytes rows ++ drop (16 * count) old) ∙ ap (λ n. length bytes + n) (length-append (sorted_bytes rows) (drop (16 * count) old)) ∙ omega arith in
            let front : length (bytes ++ sorted_bytes rows) ≡ end = length-append bytes (sorted_bytes rows) ∙ omega arith in
            let twelve : end + 12 - end ≡ 12 = omega arith in
            rw (third, size, twelve)
            (put-behind (bytes ++ sorted_bytes rows) (bytes ++ (sorted_bytes rows ++ drop (16 * count) old)) (drop (16 * count) old) [] d front left (simp (append_assoc, append-nil) refl)
            ∙ rw (ed, append-nil last, append_assoc bytes (sorted_bytes rows) last))

-- ---- as the code goes

module _ {x : Split} {bytes : List ℕ} {count : ℕ} {out : List ℕ} (laid : Laid x bytes count out) where
  abbrev rowed : List ℕ
  rowed = rows_bytes (rows_of 0 laid.them)

  rowed-is : rows_for x ≡ rowed
  rowed-is = ap rows_for laid.is ∙ (unfold rows_for in refl)

  rowed-many : length rowed ≡ 16 * count
  rowed-many = length-rows (rows_of 0 laid.them) ∙ rw (length-rows_of 0 laid.them, laid.many)

  rowed-sorted : length (sorted_bytes rowed) ≡ 16 * count
  rowed-sorted = sorted-length (rows_of 0 laid.them) laid.fits ∙ rw (length-rows_of 0 laid.them, laid.many)

  pub whole_of : {t : List ℕ} → t ≡ sets out 0 bytes → Whole x (take (length bytes + 16 * count - length bytes) (drop (length bytes) t))
  whole_of e = record { them = laid.them; is = laid.is; room = part-size out bytes count rowed laid.room rowed-many e ∙ rw laid.many }

  pub lay-ends : {t b c d : List ℕ} (store product : ℕ) → t ≡ sets out 0 bytes → b ≡ rows_for x
      → c ≡ sorted_bytes (take (length bytes + 16 * count - length bytes) (drop (length bytes) (put_mid (length bytes) (length bytes + 16 * count - length bytes) t b))) → d ≡ ending count store product
      → put_mid (length bytes + 16 * count) (length (put_mid (length bytes) (length bytes + 16 * count - length bytes) (put_mid (length bytes) (length bytes + 16 * count - length bytes) t b) c) - (length bytes + 16 * count)) (put_mid (length bytes) (length bytes + 16 * count - length bytes) (put_mid (length bytes) (length bytes + 16 * count - length bytes) t b) c) d
      ≡ batch_for x bytes count store product
  unfolding batch_for
  lay-ends store product et eb ec ed =
      laid_out out bytes count rowed laid.room rowed-many et (eb ∙ rowed-is) ec rowed-sorted ed ∙ rw rowed-is
