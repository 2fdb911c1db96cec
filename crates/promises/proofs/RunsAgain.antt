-- What a shape reads it writes again: reading, writing and telling the entries apart go on together, item by item, in as many bytes at most, and in the same bytes exactly if every item was in its shortest form.
-- Assumes nothing.
use mathlib.Core.Path.{◌≡◌, refl, sym, ap, ap₂, ◌∙◌}
use mathlib.Core.Bool.{Bool, true, false}
use mathlib.Core.List.{List, [], ◌∷◌, ◌++◌, append_assoc}
use Prim.Native.Nat.{ℕ, ◌+◌, ◌≤◌}
use native.Mathlib.Omega.{arith}
use native.Mathlib.Nat.{add_assoc, add-zero}
use lib.ListN.{length, take, drop, length-append, length-drop}
use lib.Seq.{take-add, drop-drop}
use Rattle.wire.specs.declared.Own.{Own}
use Rattle.wire.specs.Item.{Item}
use Rattle.wire.specs.Item.{Took, Refused}
use Rattle.wire.specs.Tests.{both}
use Rattle.wire.specs.Shape.{Kind, Shape}
use Rattle.wire.specs.Walk.{Follow, following, Walk}
use Rattle.wire.specs.Values.{Entry, Tag, Told, tell_nothing, tell_then, tell_item, telling, tell}
use Rattle.wire.specs.Reading.{Spot, Run, Outcome, reached, refused, run_after, past, entry_of, read_nothing, read_on, read_then, enter, read_item, head, reading, read}
use Rattle.wire.specs.Writing.{Left, Wrote, wrote, wrote_after, write_nothing, write_on, write_then, spell, write_entry, write_item, writing, write}
use Rattle.laws.specs.Range.{AreBytes}
use Rattle.laws.specs.Steps.{Every}
use Rattle.laws.specs.Told.{Tells}
use Rattle.laws.proofs.Splits.{both_yes, both_left, both_right}
use Rattle.laws.proofs.Walks.{every}
use Rattle.laws.proofs.Known.{head-known}
use Rattle.laws.proofs.Bytes.{below-drop}
use Rattle.laws.proofs.HeadsAgain.{ItemAgain, AgainItem, head-again}
use Rattle.laws.proofs.Told.{nothing_tells, then-tells, item-tells}
use Rattle.promises.specs.Strict.{is_shortest, all_shortest}
use Rattle.promises.proofs.Flags.{flag-says}

-- the entries `made` were read of n bytes at the front of s, which stand at the place p, and are written to the bytes `out`
pub record Rewritten (message : List ℕ) (g : Left → Wrote) (u : List Entry → Told) (p : ℕ) (s : List ℕ) (made : List Entry) (x : Spot) : Type 0 where
  pub n : ℕ
  pub out : List ℕ
  pub tags : List Tag
  pub there : n ≤ length s
  pub spot : x ≡ record { bytes = drop n s; place = p + n }
  pub tells : Tells u made tags
  pub writes : (i : ℕ) (rest : List Entry) → g (record { at = i; entries = made ++ rest }) ≡ wrote out (record { at = i + length made; entries = rest })
  pub few : length out ≤ n
  pub then_same : all_shortest message tags ≡ true → out ≡ take n s
  pub then-shortest : length out ≡ n → all_shortest message tags ≡ true

abbrev pub GoodRun : List ℕ → (Left → Wrote) → (List Entry → Told) → ℕ → List ℕ → List Entry → Outcome → Type 0
GoodRun message g u p s made (reached x) = Rewritten message g u p s made x
GoodRun message g u p s made (refused why q) = Unit {0}

-- g writes again whatever f reads of the message to its end, and u tells its entries apart
pub record Rewrites (message : List ℕ) (g : Left → Wrote) (f : Spot → Run) (u : List Entry → Told) : Type 0 where
  pub again : (p : ℕ) (s : List ℕ) → drop p message ≡ s
      → GoodRun message g u p s (f (record { bytes = s; place = p })).made (f (record { bytes = s; place = p })).ends

module _ (message : List ℕ) (all-bytes : AreBytes message) where
  shortest-append : (ts us : List Tag) → all_shortest message (ts ++ us) ≡ both (all_shortest message ts) (all_shortest message us)
  unfolding all_shortest
  shortest-append [] us = unfold both in refl
  shortest-append (t ∷ ts) us = rw (shortest-append ts us) (go (is_shortest t.kind (drop t.entry.place message)))
    where
      go : (b : Bool) → both b (both (all_shortest message ts) (all_shortest message us)) ≡ both (both b (all_shortest message ts)) (all_shortest message us)
      go true = unfold both in refl
      go false = unfold both in refl

  nothing-rewrites : Rewrites message write_nothing read_nothing tell_nothing
  unfolding write_nothing read_nothing all_shortest
  nothing-rewrites =
      record {
        again = λ p s at.
            record {
              n = 0;
              out = [];
              tags = [];
              there = omega arith;
              spot = rw add-zero;
              tells = nothing_tells;
              writes = λ i rest. rw add-zero;
              few = omega arith;
              then_same = λ e. refl;
              then-shortest = λ e. refl;
            };
      }

  module _ (g g' : Left → Wrote) (f f' : Spot → Run) (u u' : List Entry → Told) where
    then-run : (p : ℕ) (s : List ℕ) (es fs : List Entry) (x : Spot) (o : Outcome) → (a : Rewritten message g u p s es x)
        → GoodRun message g' u' (p + a.n) (drop a.n s) fs o → GoodRun message (write_then g g') (tell_then u u') p s (es ++ fs) o
    unfolding write_then write_on wrote_after
    then-run p s es fs x (refused why q) a b = tt
    then-run p s es fs x (reached y) a b =
        record {
          n = a.n + b.n;
          out = a.out ++ b.out;
          tags = a.tags ++ b.tags;
          there = omega (arith, a.there, b.there, length-drop a.n s);
          spot = b.spot ∙ rw (drop-drop b.n a.n s, add_assoc p a.n b.n);
          tells = then-tells a.tells b.tells;
          writes = λ i rest. rw (append_assoc es fs rest, a.writes i (fs ++ rest), b.writes (i + length es) rest, length-append es fs, add_assoc i (length es) (length fs));
          few = simp length-append (omega (arith, a.few, b.few));
          then_same = λ e.
              let each = sym (shortest-append a.tags b.tags) ∙ e in
              ap₂ ◌++◌ (a.then_same (both_left _ (all_shortest message b.tags) each)) (b.then_same (both_right (all_shortest message a.tags) _ each))
              ∙ sym (take-add a.n b.n s);
          then-shortest = λ e.
              let long : length a.out + length b.out ≡ a.n + b.n = sym (length-append a.out b.out) ∙ e in
              shortest-append a.tags b.tags ∙ both_yes _ _ (a.then-shortest (omega (arith, a.few, b.few))) (b.then-shortest (omega (arith, a.few, b.few)));
        }

    then-rewrites : Rewrites message g f u → Rewrites message g' f' u' → Rewrites message (write_then g g') (read_then f f') (tell_then u u')
    unfolding read_then read_on run_after
    then-rewrites a b = record { again = λ p s at. go p s at (f (record { bytes = s; place = p })).made (f (record { bytes = s; place = p })).ends (a.again p s at) }
      where
        go : (p : ℕ) (s : List ℕ) → drop p message ≡ s → (es : List Entry) (o : Outcome) → GoodRun message g u p s es o
            → GoodRun message (write_then g g') (tell_then u u') p s (read_on es o f').made (read_on es o f').ends
        go p s at es (refused why q) h = tt
        go p s at es (reached x) h =
            let y : Spot = record { bytes = drop h.n s; place = p + h.n } in
            rw h.spot (then-run p s es (f' y).made x (f' y).ends h (b.again (p + h.n) (drop h.n s) (sym (drop-drop h.n p message) ∙ ap (drop h.n) at)))

  module _ (k : Kind) (n : ℕ) (g : Follow → Left → Wrote) (f : Follow → Spot → Run) (u : Follow → List Entry → Told) where
    item-run : (p : ℕ) (s : List ℕ) → drop p message ≡ s → (own : Own) → head k n p s ≡ Took own → ItemAgain k n message s own → (es : List Entry) (o : Outcome)
        → GoodRun message (g (following k own.first)) (u (following k own.first)) (p + own.used) (drop own.used s) es o
        → GoodRun message (write_item message k n (λ a. g (following k a))) (tell_item k n (λ a. u (following k a))) p s
        (entry_of own (record { bytes = s; place = p }) ∷ es) o
    unfolding write_item write_entry spell wrote_after all_shortest
    item-run p s at own q i es (refused why r) c = tt
    item-run p s at own q i es (reached y) c =
        record {
          n = own.used + c.n;
          out = i.out ++ c.out;
          tags = record { kind = k; entry = entry_of own (record { bytes = s; place = p }) } ∷ c.tags;
          there = omega (arith, i.there, c.there, length-drop own.used s);
          spot = c.spot ∙ rw (drop-drop c.n own.used s, add_assoc p own.used c.n);
          tells = item-tells k n _ _ (head-known k n p s q) c.tells;
          writes = λ j rest. rw (i.writes, c.writes (j + 1) rest) (ap (λ q. wrote (i.out ++ c.out) (record { at = q; entries = rest })) (omega arith));
          few = simp length-append (omega (arith, i.few, c.few));
          then_same = λ e.
              ap₂ ◌++◌ (i.then_same (says ∙ both_left (is_shortest k (drop p message)) _ e)) (c.then_same (both_right (is_shortest k (drop p message)) _ e))
              ∙ sym (take-add own.used c.n s);
          then-shortest = λ e.
              let long : length i.out + length c.out ≡ own.used + c.n = sym (length-append i.out c.out) ∙ e in
              both_yes _ _ (sym says ∙ i.then-shortest (omega (arith, i.few, c.few))) (c.then-shortest (omega (arith, i.few, c.few)));
        }
      where
        says : own.shortest ≡ is_shortest k (drop p message)
        says = rw at (flag-says k n p s own q)

    item-rewrites : ((a : ℕ) → Rewrites message (g (following k a)) (f (following k a)) (u (following k a)))
        → Rewrites message (write_item message k n (λ a. g (following k a))) (read_item head k n (λ a. f (following k a))) (tell_item k n (λ a. u (following k a)))
    unfolding read_item enter run_after past
    item-rewrites h = record { again = λ p s at. go p s at (head k n p s) refl (head-again n message p s at (rw at at (below-drop 256 p message all-bytes)) k) }
      where
        next : ℕ → Spot → Run
        next a = f (following k a)

        go : (p : ℕ) (s : List ℕ) → drop p message ≡ s → (i : Item) → head k n p s ≡ i → AgainItem k n message s i
            → GoodRun message (write_item message k n (λ a. g (following k a))) (tell_item k n (λ a. u (following k a))) p s
            (enter i next (record { bytes = s; place = p })).made (enter i next (record { bytes = s; place = p })).ends
        go p s at (Refused why) q i = tt
        go p s at (Took own) q i =
            let y : Spot = record { bytes = drop own.used s; place = p + own.used } in
            item-run p s at own q i (next own.first y).made (next own.first y).ends
            ((h own.first).again (p + own.used) (drop own.used s) (sym (drop-drop own.used p message) ∙ ap (drop own.used) at))

  -- ---- a shape

  data Which : Type 0 where
    writes reads tells : Which

  abbrev three : Which → Walk
  three writes = writing message
  three reads = reading head
  three tells = telling

  all-rewrites : Every three (λ s. Rewrites message (s writes) (s reads) (s tells))
  all-rewrites =
      record {
        none = nothing-rewrites;
        both = λ {f} {g}. then-rewrites (f writes) (g writes) (f reads) (g reads) (f tells) (g tells);
        made = λ s k n. item-rewrites k n (λ way. s way writes) (λ way. s way reads) (λ way. s way tells);
      }

  pub rewrites : (t : Shape) → Rewrites message (write t message) (read t) (tell t)
  unfolding write read tell
  rewrites = every all-rewrites
