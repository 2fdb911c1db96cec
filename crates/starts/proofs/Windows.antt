-- Marking a start and going on keeps a window; what it says of a row follows from the marks and the key read there.
-- Assumes nothing.
use mathlib.Core.Path.{◌≡◌, refl, sym, ap, ◌∙◌, subst}
use mathlib.Core.Bool.{Bool, true, false, not}
use mathlib.Core.List.{List}
use mathlib.Core.Logic.{◌⊎◌, ⊎_elim}
use Prim.Native.Nat.{ℕ, suc, ◌+◌, ◌-◌, ◌/◌, ◌≤◌, ◌<◌}
use native.Mathlib.Omega.{arith}
use lib.ListN.{length, take, drop, replicate}
use lib.Dec.{ltb}
use borrow.Author.Tests.{ltb-true, ltb-false}
use Rattle.wire.specs.declared.Refusal.{Refusal}
use Rattle.laws.proofs.Splits.{by-test, by-lt, by_le, not-both}
use Rattle.laws.proofs.Parts.{tail}
use Rattle.desk.specs.declared.Key.{Key}
use Rattle.desk.specs.declared.Row.{Row}
use Rattle.desk.specs.Rows.{same_key}
use Rattle.desk.specs.Messages.{Keyed, is_keyed, Message, next, next_of}
use Rattle.batches.specs.Starts.{Starts, in-front, behind}
use Rattle.batches.proofs.Order.{same_key_lem, key-itself}
use Rattle.batches.proofs.Onward.{next-some}
use Rattle.batches.proofs.Starting.{start-order, start-inside, start-before}
use Rattle.bits.specs.Marks.{marked, marking}
use Rattle.bits.proofs.Bits.{marking-only, marking-it, marking-keeps, length-marking, cleared}
use Rattle.messages.specs.NextMessage.{NextMessage}
use Rattle.messages.specs.NextMessage.{Message as Is, Stops}
use Rattle.messages.specs.Fields.{HasKey}
use Rattle.messages.specs.Steps.{next_answer}
use Rattle.messages.proofs.SoFar.{Told, told, stopped}
use Rattle.starts.specs.Window.{Start, Window, Marks, marks, unread, Stands, placed, wrong}
use Rattle.starts.specs.Marked.{Upto, Stopped}

pub of-not-false : (t : Bool) → not t ≡ false → t ≡ true
of-not-false true e = refl
of-not-false false e = not-both refl e

-- each message has a byte, so that no more of them stand in front of a place than bytes
pub start-few : {k : Keyed} {s : List ℕ} {n o : ℕ} → is_keyed k ≡ true → Starts k s n o → n ≤ o
start-few ok in-front = omega arith
start-few {k} {s} ok (behind {at} a e) = omega (arith, start-few ok a, next-some k (drop at s) ok e)

-- ---- marking

pub record Marking (k : Keyed) (s : List ℕ) (base size at count : ℕ) (area : List ℕ) : Type 0 where
  pub starts : Starts k s count at
  pub window : Window k s base at area
  pub long : length area ≡ size

pub marking-begin : {k : Keyed} {s area : List ℕ} {base many : ℕ} (size : ℕ) → Starts k s many base → area ≡ replicate size 0 → Marking k s base (length area) base many area
marking-begin {k} {s} {area} {base} {many} size st e =
    record {
      starts = st;
      window = record { from = omega arith; inside = start-inside st; only = λ j h. not-both h (none j); all = λ n o p h l. absurd (omega arith) };
      long = refl;
    }
  where
    none : (j : ℕ) → marked area j ≡ false
    none j = ap (λ a. marked a j) e ∙ cleared size j

module _ {k : Keyed} {s : List ℕ} {base size at count : ℕ} {area : List ℕ} (ok : is_keyed k ≡ true) (w : Marking k s base size at count area) (h : at < length s) {r : NextMessage}
    (e : r ≡ next_answer (next_of k (take (length s - at) (drop at s)))) where
  here : r ≡ next_answer (next_of k (drop at s))
  here = e ∙ ap (λ t. next_answer (next_of k t)) (tail s at)

  pub marking-stops : {why : Refusal} {p : ℕ} {last : List ℕ} → r ≡ Stops why p → Marks k s base last Stopped
  marking-stops q = unread w.starts h (stopped k (drop at s) here q)

  module _ {key : Key} {len : ℕ} (q : r ≡ Is key len) where
    tells : Told k (drop at s) key len
    tells = told k (drop at s) here q

    on : Starts k s (suc count) (at + len)
    on = subst (λ n. Starts k s (suc count) (at + n)) tells.its-length (behind w.starts tells.is)

    pub marking-inside : at + len ≤ length s
    marking-inside = start-inside on

    pub marking-less : 0 < len
    marking-less = omega (arith, next-some k (drop at s) ok tells.is, tells.its-length)

    pub marking-count : count < length s
    marking-count = omega (arith, start-few ok w.starts)

    pub marking-next : {now : List ℕ} → (at - base) / 8 < size → now ≡ marking area (at - base) → Marking k s base size (at + len) (count + 1) now
    marking-next room is =
        let one : suc count ≡ count + 1 = omega arith in
        subst (Marking k s base size (at + len) (count + 1)) (sym is)
        record {
          starts = subst (λ n. Starts k s n (at + len)) one on;
          window = record { from = omega (arith, w.window.from); inside = start-inside on; only = λ j m. only j m; all = λ n o p l b. all n o p l b };
          long = length-marking area (at - base) ∙ w.long;
        }
      where
        fits : (at - base) / 8 < length area
        fits = omega (arith, w.long)

        only : (j : ℕ) → marked (marking area (at - base)) j ≡ true → Start k s (base + j)
        only j m =
            ⊎_elim
            (λ q. let z : at ≡ base + j = omega (arith, w.window.from) in
            subst (Start k s) z (record { n = count; starts = w.starts; m = tells.message; rest = tells.rest; is = tells.is }))
            (λ q. w.window.only j q) (marking-only area (at - base) fits j m)

        all : (n o : ℕ) → Starts k s n o → base ≤ o → o < at + len → marked (marking area (at - base)) (o - base) ≡ true
        all n o p l b =
            by-lt o at (λ lo. marking-keeps area (at - base) fits (o - base) (w.window.all n o p l lo))
            (λ hi. by_le n count
            (λ few. let z : o ≡ at = (let i = start-order p w.starts few in omega arith) in rw z (marking-it area (at - base) fits))
            (λ more. absurd (let i = start-order on p more in omega arith)))

pub marking-end : {k : Keyed} {s : List ℕ} {base size at count : ℕ} {area : List ℕ} → Marking k s base size at count area → base < at → Marks k s base area (Upto at count)
marking-end w h = marks w.starts h w.window

-- ---- one row

module _ {k : Keyed} {s : List ℕ} {base at : ℕ} {area : List ℕ} (ok : is_keyed k ≡ true) (w : Window k s base at area) (r : Row) where
  pub beyond-window : at ≤ r.offset → Stands k s base at r (ltb r.offset (length s))
  beyond-window h =
      by-test (ltb r.offset (length s))
      (λ e. subst (Stands k s base at r) (sym e) (placed (record { before = ltb-true r.offset (length s) e; there = λ a b. absurd (omega arith) })))
      (λ e. subst (Stands k s base at r) (sym e) (wrong (λ x. let a = ltb-false r.offset (length s) e in let b = start-before k s r.offset x.is ok in omega arith)))

  module _ (lo : r.offset < at) where
    before-end : r.offset < length s
    before-end = omega (arith, w.inside)

    pub before-window : r.offset < base → Stands k s base at r true
    before-window h = placed (record { before = before-end; there = λ a b. absurd (omega arith) })

    module _ (hi : base ≤ r.offset) {t : Bool} (e : t ≡ marked area (r.offset - base)) where
      pub unmarked : t ≡ false → Stands k s base at r false
      unmarked q = wrong (λ x. not-both (w.all x.n r.offset x.starts hi lo) (sym e ∙ q))

      pub by_key : {u : Bool} → t ≡ true → HasKey k (take (length s - r.offset) (drop r.offset s)) r.key u → Stands k s base at r u
      by_key {u} q has =
          let z : base + (r.offset - base) ≡ r.offset = omega arith in
          go (subst (Start k s) z (w.only (r.offset - base) (sym e ∙ q)))
        where
          says : {m : Message} {rest : List ℕ} → next_of k (drop r.offset s) ≡ next m rest → u ≡ same_key m.key r.key
          says f = has.is (ap (next_of k) (tail s r.offset) ∙ f)

          go : Start k s r.offset → Stands k s base at r u
          go x =
              by-test u
              (λ y. subst (Stands k s base at r) (sym y) (placed (record { before = before-end; there = λ a b. record { n = x.n; starts = x.starts; m = x.m; rest = x.rest; is = x.is; key = same_key_lem x.m.key r.key (sym (says x.is) ∙ y) } })))
              (λ y. subst (Stands k s base at r) (sym y) (wrong (λ v. not-both (says v.is ∙ ap (λ c. same_key c r.key) v.key ∙ key-itself r.key) y)))
