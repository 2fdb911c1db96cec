-- The starts of messages come in one order only; what is read behind one of them is the rest of what is read from the front.
-- Assumes nothing.
use mathlib.Core.Path.{◌≡◌, refl, sym, ap, ◌∙◌, subst}
use mathlib.Core.Bool.{true}
use mathlib.Core.List.{List, ◌∷◌}
use Prim.Native.Nat.{ℕ, suc, ◌+◌, ◌<◌, ◌≤◌}
use native.Mathlib.Omega.{arith}
use lib.ListN.{length, drop, length-drop}
use lib.Seq.{drop-drop, drop-append_seam}
use Rattle.wire.specs.declared.Refusal.{Refusal}
use Rattle.laws.proofs.Splits.{by-test, by_le}
use Rattle.desk.specs.declared.Row.{Row}
use Rattle.desk.specs.Rows.{same_row}
use Rattle.desk.specs.Messages.{Keyed, is_keyed, Message, next, stops, next_of, rows_of}
use Rattle.batches.specs.Reads.{Reads, ended, also}
use Rattle.batches.specs.Sorted.{tally}
use Rattle.batches.specs.Starts.{Starts, in-front, behind, RowOf}
use Rattle.batches.proofs.Order.{same_row_lem, some-itself, others}
use Rattle.batches.proofs.Ends.{next-joins, next-length}
use Rattle.batches.proofs.Onward.{next-some}
use Rattle.batches.proofs.Found.{tally-none, tally-behind}

-- ---- one order

next-same : (k : Keyed) (t : List ℕ) {m p : Message} {r q : List ℕ} → next_of k t ≡ next m r → next_of k t ≡ next p q → m ≡ p
next-same k t {m} {p} {r} {q} e f = let z : next m r ≡ next p q = sym e ∙ f in cc

grown : (k : Keyed) (s : List ℕ) {a b : ℕ} {m p : Message} {r q : List ℕ} → a ≡ b → next_of k (drop a s) ≡ next m r → next_of k (drop b s) ≡ next p q
    → a + length m.bytes ≡ b + length p.bytes
grown k s {a} {b} {m} {p} z e f =
    let same : m ≡ p = next-same k (drop a s) e (ap (λ i. next_of k (drop i s)) z ∙ f) in
    ap (λ i. i + length m.bytes) z ∙ ap (λ (x : Message). b + length x.bytes) same

pub same_start : {k : Keyed} {s : List ℕ} {n o p : ℕ} → Starts k s n o → Starts k s n p → o ≡ p
same_start in-front in-front = refl
same_start {k} {s} (behind a e) (behind b f) = grown k s (same_start a b) e f

at_front : {k : Keyed} {s : List ℕ} {n o : ℕ} → Starts k s n o → n ≤ 0 → o ≤ 0
at_front in-front h = omega arith
at_front (behind a e) h = absurd (omega arith)

pub start-order : {k : Keyed} {s : List ℕ} {i j o p : ℕ} → Starts k s i o → Starts k s j p → i ≤ j → o ≤ p
start-order a in-front h = at_front a h
start-order {k} {s} {i} {o} a (behind {n} {at} {m} b f) h =
    by_le i n (λ l. let ih = start-order a b l in omega arith)
    (λ l. let q : i ≡ suc n = omega arith in let z : o ≡ at + length m.bytes = same_start (subst (λ i. Starts k s i o) q a) (behind b f) in omega arith)

-- ---- inside the bytes

pub start-inside : {k : Keyed} {s : List ℕ} {n o : ℕ} → Starts k s n o → o ≤ length s
start-inside in-front = omega arith
start-inside {k} {s} (behind {at} a e) = omega (arith, start-inside a, next-length k (drop at s) e, length-drop at s)

module _ (k : Keyed) (s : List ℕ) (o : ℕ) {m : Message} {rest : List ℕ} (e : next_of k (drop o s) ≡ next m rest) where
  pub more-there : is_keyed k ≡ true → 0 < length (drop o s)
  more-there ok = omega (arith, next-some k (drop o s) ok e, next-length k (drop o s) e)

  pub start-before : is_keyed k ≡ true → o < length s
  start-before ok = omega (arith, more-there ok, length-drop o s)

  pub rest-is : rest ≡ drop (o + length m.bytes) s
  rest-is = sym (drop-append_seam m.bytes rest) ∙ ap (drop (length m.bytes)) (next-joins k (drop o s) e) ∙ drop-drop (length m.bytes) o s

-- ---- what is read behind a start

record Headed (k : Keyed) (m : Message) (rest : List ℕ) (left : List Message) : Type 0 where
  tail : List Message
  is : left ≡ m ∷ tail
  reads : Reads k rest tail

headed : {k : Keyed} {t : List ℕ} {left : List Message} {p : Message} {q : List ℕ} → 0 < length t → next_of k t ≡ next p q → Reads k t left → Headed k p q left
headed h e ended = absurd (omega arith)
headed {k} {p} {q} h e (also {rest} {m} {ms} f g r) =
    let z : next m rest ≡ next p q = sym f ∙ e in
    let a : m ≡ p = cc in
    let b : rest ≡ q = cc in
    record { tail = ms; is = ap (λ x. x ∷ ms) a; reads = subst (λ t. Reads k t ms) b r }

pub never-stops : {k : Keyed} {t : List ℕ} {left : List Message} {why : Refusal} {p : ℕ} → 0 < length t → next_of k t ≡ stops why p → Reads k t left → ⊥
never-stops h e ended = omega arith
never-stops {why} {p} h e (also {rest} {m} f g r) = let z : next m rest ≡ stops why p = sym f ∙ e in let y : ◌≡◌ {A = ℕ} 0 1 = cc in omega arith

pub nothing_left : {k : Keyed} {t : List ℕ} {left : List Message} → length t ≤ 0 → Reads k t left → length left ≡ 0
nothing_left h ended = refl
nothing_left {k} {t} h (also f g r) = absurd (omega (arith, next-length k t f))

-- so many messages are in front, and the rows of those behind are among all
pub record Behind (k : Keyed) (s : List ℕ) (n o : ℕ) (ms : List Message) : Type 0 where
  pub left : List Message
  pub reads : Reads k (drop o s) left
  pub many : n + length left ≡ length ms
  pub rows : (r : Row) → 0 < tally r (rows_of o left) → 0 < tally r (rows_of 0 ms)

later : (r : Row) (at : ℕ) (m : Message) (ms : List Message) → 0 < tally r (rows_of (at + length m.bytes) ms) → 0 < tally r (rows_of at (m ∷ ms))
unfolding rows_of
later r at m ms h = tally-behind r _ _ h

module _ {k : Keyed} {s : List ℕ} {ms : List Message} (ok : is_keyed k ≡ true) where
  one_on : {n at : ℕ} {m : Message} {rest : List ℕ} → next_of k (drop at s) ≡ next m rest → Behind k s n at ms → Behind k s (suc n) (at + length m.bytes) ms
  one_on {n} {at} {m} {rest} e b =
      let d = headed (more-there k s at e ok) e b.reads in
      record {
        left = d.tail;
        reads = subst (λ t. Reads k t d.tail) (rest-is k s at e) d.reads;
        many = omega (arith, b.many, ap length d.is);
        rows = λ r h. b.rows r (subst (λ l. 0 < tally r (rows_of at l)) (sym d.is) (later r at m d.tail h));
      }

  pub behind-of : {n o : ℕ} → Reads k s ms → Starts k s n o → Behind k s n o ms
  behind-of r in-front = record { left = ms; reads = r; many = omega arith; rows = λ q h. h }
  behind-of r (behind a e) = one_on e (behind-of r a)

-- all that is read, where the end is a start
pub record Whole (k : Keyed) (s : List ℕ) : Type 0 where
  pub them : List Message
  pub reads : Reads k s them

pub whole_of : {k : Keyed} {s : List ℕ} {n o : ℕ} {left : List Message} → is_keyed k ≡ true → Starts k s n o → Reads k (drop o s) left → Whole k s
whole_of {left} ok in-front r = record { them = left; reads = r }
whole_of {k} {s} {left} ok (behind {at} a e) r = whole_of ok a (also e (next-some k (drop at s) ok e) (subst (λ t. Reads k t left) (sym (rest-is k s at e)) r))

-- ---- a row at its message is one of the messages' rows, and each of these is

first-itself : (r : Row) (m : Message) (ms : List Message) → m.key ≡ r.key → 0 < tally r (rows_of r.offset (m ∷ ms))
unfolding rows_of
first-itself r m ms e =
    subst (λ k. 0 < tally r (record { key = k; offset = r.offset } ∷ rows_of (r.offset + length m.bytes) ms)) (sym e)
    (some-itself r (rows_of (r.offset + length m.bytes) ms))

module _ {k : Keyed} {s : List ℕ} (ok : is_keyed k ≡ true) where
  pub stands-in : {ms : List Message} {r : Row} → Reads k s ms → RowOf k s r → 0 < tally r (rows_of 0 ms)
  stands-in {ms} {r} reads w =
      let b = behind-of ok reads w.starts in
      let d = headed (more-there k s r.offset w.is ok) w.is b.reads in
      b.rows r (subst (λ l. 0 < tally r (rows_of r.offset l)) (sym d.is) (first-itself r w.m d.tail w.key))

pub in-stands : {k : Keyed} {s t : List ℕ} {n o : ℕ} {ms : List Message} (r : Row) → Reads k t ms → Starts k s n o → drop o s ≡ t → 0 < tally r (rows_of o ms) → RowOf k s r
unfolding rows_of
in-stands r ended st z h = absurd (omega (arith, tally-none r))
in-stands {k} {s} {n} {o} r (also {rest} {m} {ms} f g reads) st z h =
    by-test (same_row r (record { key = m.key; offset = o }))
    (λ e. subst (RowOf k s) (sym (same_row_lem r (record { key = m.key; offset = o }) e)) (record { n = n; starts = st; m = m; rest = rest; is = there; key = refl }))
    (λ e. in-stands r reads (behind st there) (sym (rest-is k s o there)) (others r _ _ e h))
  where
    there : next_of k (drop o s) ≡ next m rest
    there = ap (next_of k) z ∙ f
