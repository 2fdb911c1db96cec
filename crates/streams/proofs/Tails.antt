-- Feed after feed, what the array holds begins behind a zero of the stream or at its start, unless the state waits.
-- Assumes nothing.
use mathlib.Core.Path.{◌≡◌, refl, sym, ◌∙◌}
use mathlib.Core.Bool.{Bool, true, false}
use mathlib.Core.List.{List, [], ◌∷◌, ◌++◌, append_assoc, append-nil}
use mathlib.Core.Option.{Option, none, some}
use Prim.Native.Nat.{ℕ, zero, suc, ◌+◌, ◌≤◌}
use native.Mathlib.Omega.{arith}
use lib.ListN.{length, length-append}
use Rattle.wire.specs.declared.FeedAnswer.TheVariants.{Frame}
use Rattle.wire.specs.Frames.{Marked, room, to_zero, decode, framed, no_message, feed_fresh, feed_waiting, feed_marked, feed}
use Rattle.streams.specs.Cuts.{joined}
use Rattle.streams.specs.Stream.{again, steps, Edge, start, zeroed, Genuine, Safe, safe, also, NeverATail}
use Rattle.decoder.proofs.Search.{clean-both, clean-none, parted, parted-left}
use Rattle.streams.proofs.OldRoom.{by-lt}
use Rattle.accumulator.proofs.Marks.{unmarked, fresh_keeps, fresh-spills, feed-good, ends-not-spills, fits-not-spills, over-spills, Has, has-none, table-last, table-over, table_more, has_more}

-- a state behind a part of a stream: it holds what came since the last zero, or it waits
data Stood (past array : List ℕ) (idx : ℕ) : Bool → Type 0 where
  holding : (before s : List ℕ) → past ≡ before ++ s → Edge before → to_zero s ≡ none → idx ≤ room → Has array idx s → Stood past array idx false
  lost : idx ≡ 0 → Stood past array idx true

-- what a feed leaves, with its rest and what comes later still to be fed
record Next (stream later : List ℕ) (x : Marked) : Type 0 where
  pub past : List ℕ
  pub is : stream ≡ past ++ (x.fed.rest ++ later)
  pub stood : Stood past x.fed.array x.fed.idx x.waiting
  pub genuine : x.fed.answer ≡ Frame → Genuine stream x.fed.message

-- behind a zero
behind-zero : (past array : List ℕ) → Stood (past ++ (0 ∷ [])) array 0 false
behind-zero past array =
    holding (past ++ (0 ∷ [])) [] (sym (append-nil _)) (zeroed past) clean-none (omega arith) (has-none array)

module _ (stream past later : List ℕ) where
  passed : (c : List ℕ) → stream ≡ past ++ (c ++ later) → stream ≡ (past ++ c) ++ ([] ++ later)
  passed c e = e ∙ sym (append_assoc past c later)

  passed-zero : (t rest : List ℕ) → stream ≡ past ++ ((t ++ 0 ∷ rest) ++ later) → stream ≡ ((past ++ t) ++ (0 ∷ [])) ++ (rest ++ later)
  passed-zero t rest e = e ∙ simp append_assoc

  module _ {array s : List ℕ} {idx : ℕ} (before : List ℕ) (from : past ≡ before ++ s) (edge : Edge before) (clean : to_zero s ≡ none) (good : idx ≤ room) (h : Has array idx s) where
    -- a chunk without a zero
    on : (c : List ℕ) → stream ≡ past ++ (c ++ later) → to_zero c ≡ none → Next stream later (feed_fresh array idx c)
    unfolding no_message
    on c e none-there =
        by-lt room (idx + length c)
        (λ over. rw (fresh-spills array idx c (over-spills idx c none-there over)) (record {
          past = past ++ c;
          is = passed c e;
          stood = lost refl;
          genuine = λ is. let z : ◌≡◌ {A = ℕ} 0 1 = cc in absurd (omega arith);
        }))
        (λ fits. rw (fresh_keeps array idx c (fits-not-spills idx c none-there fits), table_more h c none-there (omega (arith, h.count, length-append s c))) (record {
          past = past ++ c;
          is = passed c e;
          stood = holding before (s ++ c) (rw (from, append_assoc before s c)) edge (clean-both s c clean none-there) (omega arith) (has_more h c);
          genuine = λ is. let z : ◌≡◌ {A = ℕ} 0 1 = cc in absurd (omega arith);
        }))

    -- a chunk with one
    module _ (t rest : List ℕ) (e : stream ≡ past ++ ((t ++ 0 ∷ rest) ++ later)) (clean' : to_zero t ≡ none) where
      ended : length (s ++ t) + 1 ≤ room → (x : Option (List ℕ)) → decode (s ++ t) ≡ x → Next stream later (unmarked (framed x rest array))
      unfolding framed no_message
      ended fits none bad = record {
        past = (past ++ t) ++ (0 ∷ []);
        is = passed-zero t rest e;
        stood = behind-zero (past ++ t) array;
        genuine = λ is. let z : ◌≡◌ {A = ℕ} 0 1 = cc in absurd (omega arith);
      }
      ended fits (some m) good' = record {
        past = (past ++ t) ++ (0 ∷ []);
        is = passed-zero t rest e;
        stood = behind-zero (past ++ t) array;
        genuine = λ is. record { before = before; bytes = s ++ t; behind = rest ++ later; is = e ∙ rw from (simp append_assoc); edge = edge; clean = clean-both s t clean clean'; fits = fits; good = good' };
      }

      end : Next stream later (feed_fresh array idx (t ++ 0 ∷ rest))
      unfolding no_message
      end =
          rw (fresh_keeps array idx (t ++ 0 ∷ rest) (ends-not-spills idx t rest clean')) (by-lt room (length (s ++ t) + 1)
          (λ over. rw (table-over h t rest clean' good over) (record {
            past = (past ++ t) ++ (0 ∷ []);
            is = passed-zero t rest e;
            stood = behind-zero (past ++ t) array;
            genuine = λ is. let z : ◌≡◌ {A = ℕ} 0 1 = cc in absurd (omega arith);
          }))
          (λ fits. rw (table-last h t rest clean' fits) (ended fits (decode (s ++ t)) refl)))

    fresh : (c : List ℕ) → stream ≡ past ++ (c ++ later) → (x : Option ℕ) → to_zero c ≡ x → Next stream later (feed_fresh array idx c)
    fresh c e none is = on c e is
    fresh c e (some n) is =
        let p = parted c n is in
        rw p.is (end p.front p.back (rw p.is at e) p.clean)

-- a waiting state
module _ (stream past later array : List ℕ) where
  wait : (c : List ℕ) → stream ≡ past ++ (c ++ later) → (x : Option ℕ) → to_zero c ≡ x → Next stream later (feed_waiting array c x)
  unfolding feed_waiting no_message
  wait c e none is = record {
    past = past ++ c;
    is = passed stream past later c e;
    stood = lost refl;
    genuine = λ is. let z : ◌≡◌ {A = ℕ} 0 1 = cc in absurd (omega arith);
  }
  wait c e (some n) is =
      let p = parted c n is in
      let t = p.front in
      let here = (past ++ t) ++ (0 ∷ []) in
      let e' : stream ≡ here ++ (p.back ++ later) = passed-zero stream past later t p.back (rw p.is at e) in
      rw (parted-left p) (fresh stream here later here (sym (append-nil here)) (zeroed (past ++ t)) clean-none (omega arith) (has-none array) p.back e' (to_zero p.back) refl)

  next : (idx : ℕ) (waiting : Bool) (c : List ℕ) → stream ≡ past ++ (c ++ later) → Stood past array idx waiting → Next stream later (feed array idx waiting c)
  unfolding feed_marked
  next idx false c e (holding before s from edge clean good h) =
      rw (feed-good array idx c false good) (fresh stream past later before from edge clean good h c e (to_zero c) refl)
  next idx true c e (lost is) = rw (feed-good array idx c true (omega arith)) (wait c e (to_zero c) refl)

pub joined-again : (r : List ℕ) (cs : List (List ℕ)) → joined (again r cs) ≡ r ++ joined cs
unfolding joined again
joined-again [] cs = refl
joined-again (b ∷ r) cs = refl

safe-on : (stream : List ℕ) (n : ℕ) (array : List ℕ) (idx : ℕ) (waiting : Bool) (chunks : List (List ℕ)) (past : List ℕ) → stream ≡ past ++ joined chunks → Stood past array idx waiting → Safe stream (steps feed n array idx waiting chunks)
unfolding steps joined
safe-on stream zero array idx waiting chunks past e h = safe
safe-on stream (suc n) array idx waiting [] past e h = safe
safe-on stream (suc n) array idx waiting (c ∷ cs) past e h =
    let f = feed array idx waiting c in
    let x = next stream past (joined cs) array idx waiting c e h in
    also x.genuine (safe-on stream n f.fed.array f.fed.idx f.waiting (again f.fed.rest cs) x.past (rw (joined-again f.fed.rest cs) x.is) x.stood)

pub never-a-tail : NeverATail
never-a-tail n array chunks =
    safe-on (joined chunks) n array 0 false chunks [] refl (holding [] [] refl start clean-none (omega arith) (has-none array))
