-- Chunk by chunk the array holds what came of the frame, so that the chunk with its zero ends it as the whole frame would.
-- Assumes nothing.
use mathlib.Core.Path.{◌≡◌, refl, ap, ◌∙◌}
use mathlib.Core.Bool.{false}
use mathlib.Core.List.{List, [], ◌∷◌, ◌++◌, append_assoc}
use mathlib.Core.Option.{Option, none, some}
use Prim.Native.Nat.{ℕ, ◌+◌, ◌≤◌}
use native.Mathlib.Omega.{arith}
use lib.ListN.{length, length-append}
use Rattle.wire.specs.declared.FeedAnswer.TheVariants.{Consumed}
use Rattle.wire.specs.Frames.{room, to_zero, decode, framed, no_message, feed, feed_bridge}
use Rattle.decoder.specs.Parts.{with}
use Rattle.accumulator.specs.Feeding.{Feeder}
use Rattle.streams.specs.Cuts.{joined, Taken, at, behind, Ended, AnyCut}
use Rattle.decoder.proofs.Search.{clean-front, clean_back}
use Rattle.decoder.proofs.Decoding.{decode-clean}
use Rattle.accumulator.proofs.Marks.{unmarked, Keeps, bridge-keeps, feed-keeps, ends-not-spills, fits-not-spills, Has, has-none, table-last, table_more, has_more}

-- ---- a list cut where another is: behind its first part, or in it

data Cut (a b c : List ℕ) (z : ℕ) (d : List ℕ) : Type 0 where
  early : (m : List ℕ) → c ≡ a ++ m → b ≡ m ++ z ∷ d → Cut a b c z d
  late : (m : List ℕ) → a ≡ c ++ z ∷ m → m ++ b ≡ d → Cut a b c z d

longer : {a b c d : List ℕ} {x y z : ℕ} → x ≡ y → Cut a b c z d → Cut (x ∷ a) b (y ∷ c) z d
longer e (early m p q) = early m (cc) q
longer e (late m p q) = late m (cc) q

cut : (a b c : List ℕ) (z : ℕ) (d : List ℕ) → a ++ b ≡ c ++ z ∷ d → Cut a b c z d
cut [] b c z d e = early c refl e
cut (x ∷ a) b [] z d e = late a (cc) (cc)
cut (x ∷ a) b (y ∷ c) z d e = longer (cc) (cut a b c z d (cc))

-- ---- any cut

module _ (by : Feeder) (keeps : Keeps by) (m behind' : List ℕ) where
  last : {array s : List ℕ} {idx : ℕ} → Has array idx s → (t rest c : List ℕ) (cs : List (List ℕ)) → c ≡ t ++ 0 ∷ rest → to_zero t ≡ none → length (s ++ t) + 1 ≤ room → decode (s ++ t) ≡ some m → rest ++ joined cs ≡ behind' → Ended by array idx false (c ∷ cs) m behind'
  unfolding framed
  last {array} {s} {idx} h t rest c cs is clean fits good left =
      let e : by array idx false c ≡ unmarked (framed (some m) rest array) =
      rw is (keeps array idx (t ++ 0 ∷ rest) (ends-not-spills idx t rest clean) ∙ ap unmarked (table-last h t rest clean fits ∙ ap (λ (x : Option (List ℕ)). framed x rest array) good))
      in
      record { last = by array idx false c; later = cs; comes = at; answer = rw e; message = rw e; empty = rw e; mark = rw e; rest = rw e left }

  go_on : {array : List ℕ} {idx : ℕ} {c : List ℕ} {cs : List (List ℕ)} → Taken (by array idx false c).fed → Ended by (by array idx false c).fed.array (by array idx false c).fed.idx (by array idx false c).waiting cs m behind' → Ended by array idx false (c ∷ cs) m behind'
  go_on t e = record { last = e.last; later = e.later; comes = behind t e.comes; answer = e.answer; message = e.message; empty = e.empty; mark = e.mark; rest = e.rest }

  more : {array s : List ℕ} {idx : ℕ} → Has array idx s → (c r : List ℕ) (cs : List (List ℕ)) → to_zero (c ++ r) ≡ none → length (s ++ c) ≤ room → (Has (with array idx c) (idx + length c) (s ++ c) → Ended by (with array idx c) (idx + length c) false cs m behind') → Ended by array idx false (c ∷ cs) m behind'
  unfolding no_message
  more {array} {s} {idx} h c r cs clean fits then =
      let clear = clean-front c r clean in
      let e : by array idx false c ≡ unmarked (no_message Consumed [] (with array idx c) (idx + length c)) =
      keeps array idx c (fits-not-spills idx c clear (omega (arith, h.count, length-append s c))) ∙ ap unmarked (table_more h c clear fits)
      in
      go_on (rw e (record { answer = refl; message = refl; rest = refl })) (rw e (then (has_more h c)))

  ends : {array s : List ℕ} {idx : ℕ} → Has array idx s → (cs : List (List ℕ)) (t : List ℕ) → joined cs ≡ t ++ 0 ∷ behind' → to_zero t ≡ none → length (s ++ t) + 1 ≤ room → decode (s ++ t) ≡ some m → Ended by array idx false cs m behind'
  unfolding joined
  ends h [] [] e clean fits good = let z : ◌≡◌ {A = ℕ} 0 1 = cc in absurd (omega arith)
  ends h [] (b ∷ t) e clean fits good = let z : ◌≡◌ {A = ℕ} 0 1 = cc in absurd (omega arith)
  ends {array} {s} {idx} h (c ∷ cs) t e clean fits good =
      split (cut c (joined cs) t 0 behind' e) (λ h' r q clean' fits' good'. ends {array = with array idx c} {s = s ++ c} {idx = idx + length c} h' cs r q clean' fits' good')
    where
      split : Cut c (joined cs) t 0 behind' → (Has (with array idx c) (idx + length c) (s ++ c) → (r : List ℕ) → joined cs ≡ r ++ 0 ∷ behind' → to_zero r ≡ none → length ((s ++ c) ++ r) + 1 ≤ room → decode ((s ++ c) ++ r) ≡ some m → Ended by (with array idx c) (idx + length c) false cs m behind') → Ended by array idx false (c ∷ cs) m behind'
      split (late r p q) then = last h t r c cs p clean fits good q
      split (early r p q) then =
          let clean' : to_zero (c ++ r) ≡ none = rw p at clean in
          let whole : s ++ t ≡ (s ++ c) ++ r = rw (p, append_assoc s c r) in
          more h c r cs clean' (omega (arith, ap length whole, length-append (s ++ c) r)) (λ h'. then h' r q (clean_back c r clean') (rw whole at fits) (rw whole at good))

keeper-cut : (by : Feeder) → Keeps by → AnyCut by
keeper-cut by keeps array chunks s m behind' good fits e =
    ends by keeps m behind' (has-none array) chunks s e (decode-clean s good) fits good

pub any-cut : AnyCut feed
any-cut = keeper-cut feed feed-keeps

pub any-cut-bridge : AnyCut feed_bridge
any-cut-bridge = keeper-cut feed_bridge bridge-keeps
