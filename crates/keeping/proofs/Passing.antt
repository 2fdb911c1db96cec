-- A good batch's messages gone through from the front: what is kept of those so far is counted, and a mark tells whether the next one is kept.
-- Assumes nothing.
use mathlib.Core.Path.{◌≡◌, refl, sym, ap, ◌∙◌, subst}
use mathlib.Core.Bool.{Bool, true, false}
use mathlib.Core.List.{List, [], ◌∷◌, ◌++◌, append-nil}
use mathlib.Core.Option.{Option, none, some}
use Prim.Native.Nat.{ℕ, ◌+◌, ◌-◌, ◌≤◌, ◌<◌}
use native.Mathlib.Omega.{arith}
use lib.ListN.{length, take, drop, length-append}
use borrow.Author.Tests.{eq-eqb, eqb-true}
use Rattle.wire.specs.declared.Refusal.{Refusal}
use Rattle.laws.proofs.Parts.{tail}
use Rattle.laws.proofs.Splits.{by-test, not-both}
use Rattle.desk.specs.declared.Key.{Key}
use Rattle.desk.specs.declared.Row.{Row}
use Rattle.desk.specs.Rows.{last_row}
use Rattle.desk.specs.Messages.{is_keyed, Message, next, next_of, Split, whole, broken, onto, split, joined, rows_of}
use Rattle.desk.specs.Batch.{Parts, messages_of}
use Rattle.desk.specs.Compact.{keep_last, is_last, kept_by}
use Rattle.batches.specs.Reads.{Reads}
use Rattle.batches.specs.Sorted.{is_sorted, tally}
use Rattle.batches.specs.Starts.{in-front, RowOf}
use Rattle.batches.proofs.Order.{sort_sorted, sort-tally}
use Rattle.batches.proofs.Ends.{split-reads}
use Rattle.batches.proofs.Onward.{ontos, ontos-whole, ontos-broken, joined-one}
use Rattle.batches.proofs.Checks.{messages-pass}
use Rattle.batches.proofs.Starting.{in-stands}
use Rattle.bits.specs.Marks.{marked}
use Rattle.messages.specs.NextMessage.{NextMessage}
use Rattle.messages.specs.NextMessage.{Message as Is, Stops}
use Rattle.messages.specs.Steps.{next_answer}
use Rattle.messages.proofs.SoFar.{Told, told, stopped, SoFar, begin, one_more, step, step_less, step-inside, step-stops, step_end}
use Rattle.keeping.specs.Kept.{Good, survey_of}
use Rattle.keeping.specs.Lasts.{LastAt, Lasts, InWindow}
use Rattle.keeping.proofs.Lasting.{last-occurs}
use Rattle.keeping.proofs.Kept.{kept-yes, kept-no, kept-last}

pub record Passing (b : Parts) (at count len : ℕ) : Type 0 where
  pub them : List Message
  pub seen : ℕ
  pub so_far : SoFar b.keys b.front at seen them
  pub kept : length (kept_by b.rows 0 them) ≡ count
  pub size : length (joined (kept_by b.rows 0 them)) ≡ len
  pub few : count ≤ seen
  pub short : len ≤ at

unfoldable pub passing-begin : (b : Parts) → Passing b 0 0 0
unfolding kept_by joined
passing-begin b = record { them = []; seen = 0; so_far = begin b.keys b.front; kept = refl; size = refl; few = omega arith; short = omega arith }

pub not-whole : {A : Type 0} {e : Refusal} {p : ℕ} {ms : List Message} → broken e p ≡ whole ms → A
not-whole q = let z : ◌≡◌ {A = ℕ} 0 1 = cc in absurd (omega arith)

pub same_whole : {xs ys : List Message} → whole xs ≡ whole ys → xs ≡ ys
same_whole q = cc

module _ {b : Parts} (all : Good b) where
  reads : Reads b.keys b.front all.them
  reads = messages-pass b all.is (λ r q. r)

  pub all_split : split b.keys b.front ≡ whole all.them
  all_split = (split-reads b.keys b.front all.them).1 reads

  pub good-sorted : is_sorted b.rows ≡ true
  good-sorted = messages-pass b all.is (λ r q. rw q (sort_sorted (rows_of 0 all.them)))

  -- a row of a good batch stands at its message
  its-message : (r : Row) → 0 < tally r b.rows → RowOf b.keys b.front r
  its-message r h = messages-pass b all.is (λ q e. in-stands r q in-front refl (omega (arith, ap (tally r) e, sort-tally r (rows_of 0 all.them))))

  module _ (ok : is_keyed b.keys ≡ true) {at count len : ℕ} (w : Passing b at count len) where
    abbrev so-kept : List Message
    so-kept = kept_by b.rows 0 w.them

    module _ (h : at < length b.front) {r : NextMessage} (n : r ≡ next_answer (next_of b.keys (take (length b.front - at) (drop at b.front)))) where
      there : r ≡ next_answer (next_of b.keys (drop at b.front))
      there = n ∙ ap (λ s. next_answer (next_of b.keys s)) (tail b.front at)

      pub passing-never : {A : Type 0} {why : Refusal} {p : ℕ} → r ≡ Stops why p → A
      passing-never e = not-whole (sym (step-stops ok w.so_far h (stopped b.keys (drop at b.front) there e)) ∙ all_split)

      module _ {key : Key} {size : ℕ} (e : r ≡ Is key size) where
        pub tells : Told b.keys (drop at b.front) key size
        tells = told b.keys (drop at b.front) there e

        pub passing-on : 0 < size
        passing-on = step_less ok w.so_far h tells

        pub passing-inside : at + size ≤ length b.front
        passing-inside = step-inside ok w.so_far h tells

        -- the others, of which this is the next
        pub record Onward : Type 0 where
          pub others : List Message
          pub is : w.them ++ (tells.message ∷ others) ≡ all.them

        pub onward : Onward
        onward = go (split b.keys tells.rest) refl
          where
            go : (x : Split) → split b.keys tells.rest ≡ x → Onward
            go (broken why p) z =
                let here : ontos w.them (onto tells.message (broken why p)) ≡ broken why (length (joined w.them) + (length tells.message.bytes + p)) = unfold onto in ontos-broken w.them why (length tells.message.bytes + p) in
                not-whole (sym (one_more ok w.so_far h tells ∙ ap (λ x. ontos w.them (onto tells.message x)) z ∙ here) ∙ all_split)
            go (whole rs) z =
                let here : ontos w.them (onto tells.message (whole rs)) ≡ whole (w.them ++ (tells.message ∷ rs)) = unfold onto in ontos-whole w.them (tells.message ∷ rs) in
                record { others = rs; is = same_whole (sym (one_more ok w.so_far h tells ∙ ap (λ x. ontos w.them (onto tells.message x)) z ∙ here) ∙ all_split) }

        -- ---- the mark

        -- where the last row of a key leads stands a message of that key
        its-key : (l : LastAt b.rows at) → last_row key b.rows ≡ some at
        its-key l = go (its-message (record { key = l.key; offset = at }) (last-occurs l.key b.rows at l.is))
          where
            go : RowOf b.keys b.front (record { key = l.key; offset = at }) → last_row key b.rows ≡ some at
            go x =
                let same : next x.m x.rest ≡ next tells.message tells.rest = sym x.is ∙ tells.is in
                let one : x.m ≡ tells.message = cc in
                let key-is : key ≡ l.key = sym tells.its-key ∙ ap (λ (m : Message). m.key) (sym one) ∙ x.key in
                ap (λ k. last_row k b.rows) key-is ∙ l.is

        pub mark-tells : {area : List ℕ} {base : ℕ} {t : Bool} → InWindow b.rows at area base → t ≡ marked area (at - base) → t ≡ is_last (last_row key b.rows) at
        mark-tells {area} {base} {t} win q = by-test t (λ y. y ∙ sym (yes y)) (λ f. f ∙ sym (no f (last_row key b.rows) refl))
          where
            yes : t ≡ true → is_last (last_row key b.rows) at ≡ true
            yes y =
                let z : base + (at - base) ≡ at = omega (arith, win.from) in
                ap (λ o. is_last o at) (its-key (subst (LastAt b.rows) z (win.lasts.only (at - base) (sym q ∙ y)))) ∙ (unfold is_last in eq-eqb at at refl)

            no : t ≡ false → (o : Option ℕ) → last_row key b.rows ≡ o → is_last (last_row key b.rows) at ≡ false
            no f none e = ap (λ o. is_last o at) e ∙ (unfold is_last in refl)
            no f (some o) e =
                by-test (is_last (last_row key b.rows) at)
                (λ y. let z : o ≡ at = eqb-true o at (sym (ap (λ o. is_last o at) e ∙ (unfold is_last in refl)) ∙ y) in
                not-both (win.lasts.all key at (e ∙ ap some z) win.from win.inside) (sym q ∙ f))
                (λ y. y)

        -- ---- one message more

        module _ {last : Bool} (is : last ≡ is_last (last_row key b.rows) at) where
          module _ (held : last ≡ true) where
            pub kept-one : kept_by b.rows 0 (w.them ++ (tells.message ∷ [])) ≡ so-kept ++ (tells.message ∷ [])
            unfolding kept_by
            kept-one = kept-yes b.rows w.them w.so_far.behind tells.message tells.its-key is [] held

            -- all that is kept: what was so far, this one, and others
            pub all-kept : so-kept ++ (tells.message ∷ kept_by b.rows (at + length tells.message.bytes) onward.others) ≡ keep_last all.them
            all-kept =
                sym (kept-yes b.rows w.them w.so_far.behind tells.message tells.its-key is onward.others held)
                ∙ ap (kept_by b.rows 0) onward.is ∙ kept-last b all.is

            unfoldable pub passing-keeps : Passing b (at + size) (count + 1) (len + size)
            passing-keeps =
                record {
                  them = w.them ++ (tells.message ∷ []);
                  seen = w.seen + 1;
                  so_far = step ok w.so_far h tells;
                  kept = ap length kept-one ∙ length-append so-kept (tells.message ∷ []) ∙ ap (λ n. n + 1) w.kept;
                  size = ap (λ ms. length (joined ms)) kept-one ∙ ap length (joined-one so-kept tells.message) ∙ length-append (joined so-kept) tells.message.bytes ∙ rw (w.size, tells.its-length);
                  few = omega (arith, w.few);
                  short = omega (arith, w.short);
                }

          module _ (other : last ≡ false) where
            pub kept-none : kept_by b.rows 0 (w.them ++ (tells.message ∷ [])) ≡ so-kept
            unfolding kept_by
            kept-none = kept-no b.rows w.them w.so_far.behind tells.message tells.its-key is [] other ∙ append-nil so-kept

            unfoldable pub passing-drops : Passing b (at + size) count len
            passing-drops =
                record {
                  them = w.them ++ (tells.message ∷ []);
                  seen = w.seen + 1;
                  so_far = step ok w.so_far h tells;
                  kept = ap length kept-none ∙ w.kept;
                  size = ap (λ ms. length (joined ms)) kept-none ∙ w.size;
                  few = omega (arith, w.few);
                  short = omega (arith, w.short);
                }

    pub end_kept : length b.front ≤ at → so-kept ≡ keep_last all.them
    end_kept h = ap (kept_by b.rows 0) (sym (same_whole (sym all_split ∙ step_end ok w.so_far h))) ∙ kept-last b all.is

    pub passing-end : length b.front ≤ at → record { count = count; len = len } ≡ survey_of (messages_of b)
    unfolding survey_of
    passing-end h =
        let a : count ≡ length (keep_last all.them) = sym w.kept ∙ ap length (end_kept h) in
        let c : len ≡ length (joined (keep_last all.them)) = sym w.size ∙ ap (λ ms. length (joined ms)) (end_kept h) in
        rw (all.is, ← a, ← c)

    -- what the code's sums want
    pub count-few : count ≤ length b.front
    count-few = omega (arith, w.few, w.so_far.few, w.so_far.inside)

    pub len-few : len ≤ length b.front
    len-few = omega (arith, w.short, w.so_far.inside)

-- ---- the window at hand

pub record AtHand (rows : List Row) (base at size : ℕ) (area : List ℕ) : Type 0 where
  pub lasts : Lasts rows base area
  pub from : base ≤ at
  pub long : length area ≡ size

pub at-hand-begin : {rows : List Row} {area : List ℕ} → Lasts rows 0 area → AtHand rows 0 0 (length area) area
at-hand-begin l = record { lasts = l; from = omega arith; long = refl }

pub at-hand-next : {rows : List Row} {area : List ℕ} {at base to size : ℕ} → InWindow rows at area base → at ≤ to → length area ≡ size → AtHand rows base to size area
at-hand-next w h e = record { lasts = w.lasts; from = omega (arith, w.from); long = e }
