-- Within the old room the longer array is the old one with something behind it, and no group of code FF has another behind it.
-- Assumes nothing.
use mathlib.Core.Path.{◌≡◌, refl, sym, ap, ◌∙◌}
use mathlib.Core.Bool.{Bool, true, false}
use mathlib.Core.List.{List, [], ◌∷◌, ◌++◌, append_assoc}
use mathlib.Core.Option.{Option, none, some}
use Prim.Native.Nat.{ℕ, zero, suc, ◌+◌, ◌≤◌, ◌<◌}
use native.Mathlib.Omega.{arith}
use borrow.Author.Tests.{le-leb, lt-leb, le-ltb, leb-true, ne_eqb, ltb-true, ltb-false}
use lib.Dec.{leb, ltb}
use lib.ListN.{length, take, drop, length-append, length-take, length-drop, take-append-drop}
use lib.Seq.{take_at, drop_at, take-append-le, drop-append-le, length-take-le}
use Rattle.wire.specs.Tests.{pick}
use Rattle.wire.specs.Frames.{Rule, room, gap_after, old_room, old_gap_after, rule, old_rule, groups_by, decode_by, decode, to_zero, padded, no_message, framed, feed_on, feed_end, feed_fit, feed_by, spills, feed, feed_bridge}
use Rattle.wire.specs.Frames as frames
use Rattle.wire.specs.declared.FeedAnswer.TheVariants.{OverFull}
use Rattle.accumulator.specs.declared.Step.{Step}
use Rattle.accumulator.specs.declared.Marked.{Marked}
use Rattle.accumulator.specs.Feeding.{written, marked, Feeds, FeedsMarked}
use Rattle.accumulator.proofs.Feeding.{bridge-is, lent_is}
use Rattle.accumulator.proofs.Marks.{feed-keeps}
use Rattle.streams.specs.OldRoom.{SameMessage, feed_before, Within, SameAs, NothingDiffers, NorByDefault, AsBefore, LentAsBefore, FeedAsBefore, BridgeLentAsBefore, BridgeAsBefore}

-- ---- a frame by two rules

pub by-lt : {X : Type 0} (a b : ℕ) → (a < b → X) → (b ≤ a → X) → X
by-lt {X} a b f g = by (ltb a b) refl
  where
    by : (t : Bool) → ltb a b ≡ t → X
    by true e = f (ltb-true a b e)
    by false e = g (ltb-false a b e)

module _ (r r' : Rule) where
  -- a frame that ends with this group or in it
  last-group : (gap gap' left : ℕ) (s : List ℕ) → length s ≤ left → groups_by r gap left s ≡ groups_by r' gap' left s
  unfolding groups_by
  last-group gap gap' zero [] le = refl
  last-group gap gap' (suc left) [] le = refl
  last-group gap gap' zero (zero ∷ s) le = refl
  last-group gap gap' (suc left) (zero ∷ s) le = refl
  last-group gap gap' zero (suc c ∷ s) le = absurd (omega arith)
  last-group gap gap' (suc left) (suc b ∷ s) le = rw (last-group gap gap' left s (omega arith))

  -- rules that differ only from some code on agree on the frames that are no longer than such a group
  module _ (n : ℕ) (same : (c : ℕ) → c < n → r.gap_after c ≡ r'.gap_after c) where
    groups-same : (gap left : ℕ) (s : List ℕ) → length s ≤ n → groups_by r gap left s ≡ groups_by r' gap left s
    unfolding groups_by
    groups-same gap zero [] le = refl
    groups-same gap (suc left) [] le = refl
    groups-same gap zero (zero ∷ s) le = refl
    groups-same gap (suc left) (zero ∷ s) le = refl
    groups-same gap (suc left) (suc b ∷ s) le = rw (groups-same gap left s (omega arith))
    groups-same gap zero (suc c ∷ s) le =
        by-lt (suc c) n
        (λ lo. rw (same (suc c) lo, groups-same (r'.gap_after (suc c)) c s (omega arith)))
        (λ hi. rw (last-group (r.gap_after (suc c)) (r'.gap_after (suc c)) c s (omega arith)))

    decode-same : (s : List ℕ) → length s ≤ n → decode_by r s ≡ decode_by r' s
    unfolding decode_by
    decode-same s le = groups-same 0 0 s le

-- ---- the old rule and the new one

old-room : old_room ≡ 256
unfolding old_room
old-room = refl

old-less : old_room ≤ room
unfolding old_room room
old-less = omega arith

same_gap : (c : ℕ) → c < 255 → old_gap_after c ≡ gap_after c
unfolding old_gap_after gap_after pick
same_gap c lo = rw (ne_eqb c 255 (λ is. omega arith))

pub same-message : SameMessage
same-message s fits = sym (decode-same old_rule rule 255 same_gap s (omega (arith, old-room)))

module _ (a b : List ℕ) (long : length a ≡ old_room) (idx : ℕ) (good : idx ≤ old_room) (chunk : List ℕ) where
  same_by : (old new : frames.Fed) → new.answer ≡ old.answer → new.message ≡ old.message → new.rest ≡ old.rest → new.idx ≡ old.idx → new.array ≡ old.array ++ b → length old.array ≡ old_room → SameAs (a ++ b) old new
  same_by old new p q r s t l = record {
    answer = p;
    message = q;
    rest = r;
    idx = s;
    front = rw t (take_at old.array b old_room l);
    behind = rw (t, drop_at old.array b old_room l, drop_at a b old_room long);
  }

  -- the array after a chunk that fits
  with-chunk : idx + length chunk ≤ old_room → take idx (a ++ b) ++ (chunk ++ drop (idx + length chunk) (a ++ b)) ≡ (take idx a ++ (chunk ++ drop (idx + length chunk) a)) ++ b
  with-chunk fits =
      rw (take-append-le idx a b (omega arith), drop-append-le (idx + length chunk) a b (omega arith), append_assoc (take idx a) (chunk ++ drop (idx + length chunk) a) b, append_assoc chunk (drop (idx + length chunk) a) b)

  long-chunk : idx + length chunk ≤ old_room → length (take idx a ++ (chunk ++ drop (idx + length chunk) a)) ≡ old_room
  long-chunk fits =
      simp (length-append, length-drop) (omega (arith, length-take-le idx a (omega arith)))

  on : (t : Bool) → leb (idx + length chunk) old_room ≡ t → ((feed_on old_rule a idx chunk).answer ≡ OverFull → ⊥) → SameAs (a ++ b) (feed_on old_rule a idx chunk) (feed_on rule (a ++ b) idx chunk)
  unfolding feed_on pick no_message
  on true is not =
      let fits : idx + length chunk ≤ old_room = leb-true _ _ is in
      rw (is, le-leb (idx + length chunk) room (omega (arith, old-less))) (same_by _ _ refl refl refl refl (with-chunk fits) (long-chunk fits))
  on false is not = absurd (not (rw is))

  decoded : (x : Option (List ℕ)) (rest : List ℕ) → SameAs (a ++ b) (framed x rest a) (framed x rest (a ++ b))
  unfolding framed no_message
  decoded none rest = same_by _ _ refl refl refl refl refl long
  decoded (some m) rest = same_by _ _ refl refl refl refl refl long

  end : (n : ℕ) (t : Bool) → leb (idx + (n + 1)) old_room ≡ t → ((feed_end old_rule a idx chunk n).answer ≡ OverFull → ⊥) → SameAs (a ++ b) (feed_end old_rule a idx chunk n) (feed_end rule (a ++ b) idx chunk n)
  unfolding feed_end pick no_message
  end n true is not =
      let fits : idx + (n + 1) ≤ old_room = leb-true _ _ is in
      let few : length (take idx a ++ take n chunk) ≤ 255 = simp (length-append, length-take) (omega (arith, old-room)) in
      rw (is, le-leb (idx + (n + 1)) room (omega (arith, old-less)), take-append-le idx a b (omega arith), decode-same old_rule rule 255 same_gap (take idx a ++ take n chunk) few) (decoded (decode (take idx a ++ take n chunk)) (drop (n + 1) chunk))
  end n false is not = absurd (not (rw is))

  fit : (x : Option ℕ) → ((feed_fit old_rule a idx chunk x).answer ≡ OverFull → ⊥) → SameAs (a ++ b) (feed_fit old_rule a idx chunk x) (feed_fit rule (a ++ b) idx chunk x)
  unfolding feed_fit
  fit none not = on _ refl not
  fit (some n) not = end n _ refl not

  differs-not : ((feed_by old_rule a idx chunk).answer ≡ OverFull → ⊥) → SameAs (a ++ b) (feed_by old_rule a idx chunk) (feed_by rule (a ++ b) idx chunk)
  unfolding feed_by pick
  differs-not not =
      let e = le-leb idx old_room good in
      rw (e, le-leb idx room (omega (arith, old-less))) (fit (to_zero chunk) (rw e at not))

pub nothing-differs : NothingDiffers
unfolding feed_before
nothing-differs array idx chunk w =
    rw (take-append-drop old_room array) at (differs-not (take old_room array) (drop old_room array) (length-take-le old_room array (omega (arith, w.long, old-less))) idx w.good chunk w.calm)

-- a chunk that the old rule does not answer 21 does not spill
calm-keeps : (array : List ℕ) (idx : ℕ) (chunk : List ℕ) → Within array idx chunk → (x : Option ℕ) → to_zero chunk ≡ x → spills idx chunk x ≡ false
unfolding spills feed_before feed_by feed_fit feed_on no_message pick
calm-keeps array idx chunk w (some n) is = refl
calm-keeps array idx chunk w none is =
    by-lt old_room (idx + length chunk)
    (λ hi. absurd (w.calm (rw (le-leb idx old_room w.good, is, lt-leb (idx + length chunk) old_room hi))))
    (λ lo. le-ltb room (idx + length chunk) (omega (arith, old-less)))

pub nor-by-default : NorByDefault
nor-by-default array idx chunk w =
    rw (feed-keeps array idx chunk (calm-keeps array idx chunk w (to_zero chunk) refl)) (nothing-differs array idx chunk w, refl)

-- ---- the public calls

same_step : (array : List ℕ) (old new : frames.Fed) {chunk array' message' : List ℕ} {r : Step} → SameAs array old new → Feeds (written new) chunk array' message' r → AsBefore array chunk old array' message' r
same_step array old new s h = record {
  answer = h.answer ∙ s.answer;
  idx = h.idx ∙ s.idx;
  len = h.len ∙ ap length s.message;
  message = h.message ∙ ap padded s.message;
  rest = h.rest ∙ s.rest;
  front = ap (take old_room) h.array ∙ s.front;
  behind = ap (drop old_room) h.array ∙ s.behind;
}

same-marked : (array : List ℕ) (idx : ℕ) {chunk array' message' : List ℕ} {r : Marked} → Within array idx chunk → FeedsMarked (marked (feed array idx false chunk)) chunk array' message' r → AsBefore array chunk (feed_before array idx chunk) array' message' r.step × (r.waiting ≡ false)
same-marked array idx {chunk} w h =
    let (same, mark) = nor-by-default array idx chunk w in
    (same_step array _ _ same h.step, h.waiting ∙ mark)

pub lent-as-before : LentAsBefore
lent-as-before array idx chunk message array' message' r w long h =
    same-marked array idx w (rw (lent_is array message idx chunk false w.long long) at h)

pub feed-as-before : FeedAsBefore
feed-as-before state chunk r w not h = same-marked state.array state.idx w (rw not at h)

pub bridge-lent-as-before : BridgeLentAsBefore
bridge-lent-as-before array idx chunk message array' message' r w long h =
    same_step array _ _ (nothing-differs array idx chunk w) (rw (bridge-is array message idx chunk w.long long) at h)

pub bridge-as-before : BridgeAsBefore
unfolding feed_bridge
bridge-as-before state chunk r w h =
    same_step state.array _ _ (nothing-differs state.array state.idx chunk w) h.step
