-- Feed after feed, what is handed out and what is still to come are together the messages of the stream.
-- Assumes nothing.
use mathlib.Core.Path.{◌≡◌, refl, sym, ◌∙◌}
use mathlib.Core.Bool.{Bool, true, false}
use mathlib.Core.List.{List, [], ◌∷◌, ◌++◌, append_assoc, append-nil}
use mathlib.Core.Option.{Option, none, some}
use Prim.Native.Nat.{ℕ, zero, suc, ◌+◌, ◌≤◌, ◌<◌}
use native.Mathlib.Omega.{arith}
use borrow.Author.Tests.{le-leb, lt-leb}
use lib.ListN.{length, replicate, length-append, length-replicate}
use Rattle.wire.specs.Tests.{pick}
use Rattle.wire.specs.Frames.{Fed, Marked, room, to_zero, decode, framed, no_message, feed_fresh, feed_waiting, feed_marked, feed}
use Rattle.streams.specs.Cuts.{joined}
use Rattle.streams.specs.Stream.{again, steps, listed, message_of, messages, handed_by, handed, enough, WholeStream, BehindTheZero}
use Rattle.decoder.proofs.Search.{clean_back, clean-head, parted, parted-left}
use Rattle.streams.proofs.OldRoom.{by-lt}
use Rattle.accumulator.proofs.Marks.{unmarked, fresh_keeps, fresh-spills, feed-good, ends-not-spills, fits-not-spills, over-spills, Has, has-none, table-last, table-over, table_more, has_more}
use Rattle.streams.proofs.Tails.{joined-again}

-- ---- the messages of a stream

-- bytes that are not zero
messages-on : (came c s : List ℕ) → to_zero c ≡ none → messages came (c ++ s) ≡ messages (came ++ c) s
unfolding messages
messages-on came [] s clean = rw (append-nil came)
messages-on came (zero ∷ c) s clean = absurd (clean-head 0 c clean refl)
messages-on came (suc b ∷ c) s clean =
    messages-on (came ++ (suc b ∷ [])) c s (clean_back (suc b ∷ []) c clean) ∙ rw (append_assoc came (suc b ∷ []) c)

-- and the zero behind them
messages-zero : (came t s : List ℕ) → to_zero t ≡ none → messages came (t ++ 0 ∷ s) ≡ message_of (came ++ t) ++ messages [] s
unfolding messages
messages-zero came t s clean = messages-on came t (0 ∷ s) clean

messages-end : (came : List ℕ) → messages came [] ≡ []
unfolding messages
messages-end came = refl

module _ (s : List ℕ) where
  message-fits : length s + 1 ≤ room → message_of s ≡ listed (decode s)
  unfolding message_of pick
  message-fits fits = rw (le-leb (length s + 1) room fits)

  message-over : room < length s + 1 → message_of s ≡ []
  unfolding message_of pick
  message-over over = rw (lt-leb (length s + 1) room over)

-- ---- one feed

-- a state into which some bytes came since the last zero: it holds them, or they are too many and it waits
data Stood (array : List ℕ) (idx : ℕ) (came : List ℕ) : Bool → Type 0 where
  holding : idx ≤ room → Has array idx came → Stood array idx came false
  lost : idx ≤ room → room ≤ length came → Stood array idx came true

-- what a feed hands out and leaves
record Next (came chunk later : List ℕ) (x : Marked) : Type 0 where
  pub now : List ℕ
  pub stood : Stood x.fed.array x.fed.idx now x.waiting
  pub same : handed_by x.fed.answer x.fed.message ++ messages now (x.fed.rest ++ later) ≡ messages came (chunk ++ later)
  pub less : (cs : List (List ℕ)) → length (again x.fed.rest cs) + length x.fed.rest < suc (length cs) + length chunk

shorter : (r : List ℕ) (cs : List (List ℕ)) → length (again r cs) ≤ suc (length cs)
unfolding again
shorter [] cs = omega arith
shorter (b ∷ r) cs = omega arith

gone : (cs : List (List ℕ)) → length (again [] cs) ≡ length cs
unfolding again
gone cs = refl

less_zero : (t rest : List ℕ) (cs : List (List ℕ)) → length (again rest cs) + length rest < suc (length cs) + length (t ++ 0 ∷ rest)
less_zero t rest cs = omega (arith, shorter rest cs, length-append t (0 ∷ rest))

less_none : (c : List ℕ) (cs : List (List ℕ)) → length (again [] cs) + 0 < suc (length cs) + length c
less_none c cs = omega (arith, gone cs)

module _ (array : List ℕ) (later : List ℕ) where
  -- all the bytes up to a zero, whatever they gave
  zeroed : (came t rest : List ℕ) (f : Fed) → to_zero t ≡ none → f.array ≡ array → f.idx ≡ 0 → f.rest ≡ rest → handed_by f.answer f.message ≡ message_of (came ++ t) → Next came (t ++ 0 ∷ rest) later (unmarked f)
  zeroed came t rest f clean p q r e = record {
    now = [];
    stood = rw (p, q) (holding (omega arith) (has-none array));
    same = rw (e, r, append_assoc t (0 ∷ rest) later) (sym (messages-zero came t (rest ++ later) clean));
    less = λ cs. rw r (less_zero t rest cs);
  }

  module _ {came : List ℕ} {idx : ℕ} (good : idx ≤ room) (h : Has array idx came) where
    -- a chunk without a zero
    on : (c : List ℕ) → to_zero c ≡ none → Next came c later (feed_fresh array idx c)
    unfolding no_message handed_by
    on c clean =
        by-lt room (idx + length c)
        (λ over. rw (fresh-spills array idx c (over-spills idx c clean over)) (record {
          now = came ++ c;
          stood = lost (omega arith) (omega (arith, h.count, length-append came c));
          same = sym (messages-on came c later clean);
          less = less_none c;
        }))
        (λ fits. rw (fresh_keeps array idx c (fits-not-spills idx c clean fits), table_more h c clean (omega (arith, h.count, length-append came c))) (record {
          now = came ++ c;
          stood = holding (omega arith) (has_more h c);
          same = sym (messages-on came c later clean);
          less = less_none c;
        }))

    -- a chunk with one
    module _ (t rest : List ℕ) (clean : to_zero t ≡ none) where
      ended : length (came ++ t) + 1 ≤ room → (x : Option (List ℕ)) → decode (came ++ t) ≡ x → Next came (t ++ 0 ∷ rest) later (unmarked (framed x rest array))
      unfolding framed no_message handed_by listed
      ended fits none is = zeroed came t rest _ clean refl refl refl (sym (message-fits (came ++ t) fits ∙ rw is))
      ended fits (some m) is = zeroed came t rest _ clean refl refl refl (sym (message-fits (came ++ t) fits ∙ rw is))

      end : Next came (t ++ 0 ∷ rest) later (feed_fresh array idx (t ++ 0 ∷ rest))
      unfolding no_message handed_by
      end =
          rw (fresh_keeps array idx (t ++ 0 ∷ rest) (ends-not-spills idx t rest clean)) (by-lt room (length (came ++ t) + 1)
          (λ over. rw (table-over h t rest clean good over) (zeroed came t rest _ clean refl refl refl (sym (message-over (came ++ t) over))))
          (λ fits. rw (table-last h t rest clean fits) (ended fits (decode (came ++ t)) refl)))

    fresh : (c : List ℕ) (x : Option ℕ) → to_zero c ≡ x → Next came c later (feed_fresh array idx c)
    fresh c none is = on c is
    fresh c (some n) is = let p = parted c n is in rw p.is (end p.front p.back p.clean)

  -- what a zero ended gives nothing, so the chunk behind it is all
  onward : (came t c : List ℕ) (x : Marked) → room ≤ length came → to_zero t ≡ none → Next [] c later x → Next came (t ++ 0 ∷ c) later x
  onward came t c x over clean h = record {
    now = h.now;
    stood = h.stood;
    same = h.same ∙ sym (rw (append_assoc t (0 ∷ c) later) (messages-zero came t (c ++ later) clean ∙ rw (message-over (came ++ t) (omega (arith, length-append came t)))));
    less = λ cs. omega (arith, h.less cs, length-append t (0 ∷ c));
  }

  -- a waiting state
  wait : (came c : List ℕ) → room ≤ length came → (x : Option ℕ) → to_zero c ≡ x → Next came c later (feed_waiting array c x)
  unfolding feed_waiting no_message handed_by
  wait came c over none is = record {
    now = came ++ c;
    stood = lost (omega arith) (omega (arith, length-append came c));
    same = sym (messages-on came c later is);
    less = less_none c;
  }
  wait came c over (some n) is =
      let p = parted c n is in
      rw (parted-left p) (rw (← p.is) at (onward came p.front p.back (feed_fresh array 0 p.back) over p.clean (fresh (omega arith) (has-none array) p.back (to_zero p.back) refl)))

  next : {came : List ℕ} {idx : ℕ} {waiting : Bool} (c : List ℕ) → Stood array idx came waiting → Next came c later (feed array idx waiting c)
  unfolding feed_marked
  next {idx = idx} c (holding good h) = rw (feed-good array idx c false good) (fresh good h c (to_zero c) refl)
  next {came} {idx} c (lost good over) = rw (feed-good array idx c true good) (wait came c over (to_zero c) refl)

-- ---- all of them

all-handed : (n : ℕ) (array : List ℕ) (idx : ℕ) (waiting : Bool) (chunks : List (List ℕ)) (came : List ℕ) → Stood array idx came waiting → length chunks + length (joined chunks) ≤ n → handed (steps feed n array idx waiting chunks) ≡ messages came (joined chunks)
unfolding steps joined handed
all-handed zero array idx waiting [] came h few = sym (messages-end came)
all-handed zero array idx waiting (c ∷ cs) came h few = absurd (omega arith)
all-handed (suc n) array idx waiting [] came h few = sym (messages-end came)
all-handed (suc n) array idx waiting (c ∷ cs) came h few =
    let f = feed array idx waiting c in
    let x = next array (joined cs) c h in
    let r = f.fed.rest in
    let left : length (again r cs) + length (joined (again r cs)) ≤ n =
    rw (joined-again r cs) (omega (arith, x.less cs, length-append r (joined cs), length-append c (joined cs)))
    in
    rw (all-handed n f.fed.array f.fed.idx f.waiting (again r cs) x.now x.stood left, joined-again r cs) x.same

pub whole-stream : WholeStream
unfolding enough
whole-stream n array chunks few = all-handed n array 0 false chunks [] (holding (omega arith) (has-none array)) few

pub behind-the-zero : BehindTheZero
unfolding enough
behind-the-zero n array idx chunks tail behind good few clean e =
    let came : List ℕ = replicate room 0 in
    let long : length came ≡ room = length-replicate room 0 in
    all-handed n array idx true chunks came (lost good (omega arith)) few ∙ rw e (messages-zero came tail behind clean ∙ rw (message-over (came ++ tail) (omega (arith, length-append came tail))))
