-- Messages end to end: each has a byte, they join to what was split, and each is read again where it stands.
-- Assumes nothing.
use mathlib.Core.Path.{◌≡◌, refl, sym, ap, ◌∙◌}
use mathlib.Core.List.{List, [], ◌∷◌, ◌++◌}
use Prim.Native.Nat.{ℕ, zero, suc, ◌+◌, ◌<◌, ◌≤◌}
use native.Mathlib.Omega.{arith}
use lib.ListN.{length, take, drop, length-append, take-append-drop}
use Rattle.wire.specs.declared.Refusal.{Refusal}
use Rattle.wire.specs.declared.Refusal.TheVariants.{End}
use Rattle.wire.specs.Reading.{Outcome, reached, refused}
use Rattle.laws.proofs.Splits.{by-lt}
use Rattle.desk.specs.Messages.{Keyed, Message, Cut, next, stops, next_by, next_of, skim, Split, whole, broken, onto, split_on, unless_ended, split_f, split, joined}
use Rattle.batches.specs.Reads.{Reads, ended, also, SplitReads}

-- ---- a message and the bytes behind it

pub next-joins : (k : Keyed) (s : List ℕ) {m : Message} {rest : List ℕ} → next_of k s ≡ next m rest → m.bytes ++ rest ≡ s
unfolding next_of
next-joins k s e = go (skim k.shape s).ends e
  where
    go : (o : Outcome) {m : Message} {rest : List ℕ} → next_by k s o ≡ next m rest → m.bytes ++ rest ≡ s
    go (reached x) {m} {rest} e =
        let a : take x.place s ≡ m.bytes = unfold next_by in cc in
        let b : drop x.place s ≡ rest = unfold next_by in cc in
        rw (← a, ← b) (take-append-drop x.place s)
    go (refused r p) e = unfold next_by in cc

no_bytes : (s : List ℕ) → length s ≤ 0 → s ≡ []
no_bytes [] h = refl
no_bytes (b ∷ s) h = absurd (omega arith)

-- ---- one more message

unless-more : (s : List ℕ) (f : Unit {0} → Split) → 0 < length s → unless_ended s f ≡ f tt
unfolding unless_ended
unless-more [] f h = absurd (omega arith)
unless-more (b ∷ s) f h = refl

of-onto {ℓ} : {X : Type ℓ} (m : Message) (x : Split) {ms : List Message} → onto m x ≡ whole ms → ((rs : List Message) → x ≡ whole rs → m ∷ rs ≡ ms → X) → X
unfolding onto
of-onto m (whole rs) e f = f rs refl (cc)
of-onto m (broken r p) e f = let z : ◌≡◌ {A = ℕ} 0 1 = cc in absurd (omega arith)

not-whole : {r : Refusal} {p : ℕ} {ms : List Message} → broken r p ≡ whole ms → ⊥
not-whole e = let z : ◌≡◌ {A = ℕ} 0 1 = cc in omega arith

-- what does not go on is never whole
stuck : (n : ℕ) (k : Keyed) (s : List ℕ) {m : Message} {ms : List Message} → 0 < length s → next_of k s ≡ next m s → split_f n k s ≡ whole ms → ⊥
unfolding split_f
stuck zero k s h q e = not-whole (sym (unless-more s _ h) ∙ e)
stuck (suc n) k s {m} h q e =
    of-onto m (split_f n k s) (one q (sym (unless-more s _ h) ∙ e)) (λ rs f g. stuck n k s h q f)
  where
    one : {ms : List Message} → next_of k s ≡ next m s → split_on (next_of k s) (λ rest. split_f n k rest) ≡ whole ms → onto m (split_f n k s) ≡ whole ms
    one q e = unfold split_on in (rw q at e)

none_left : {k : Keyed} {ms : List Message} → whole [] ≡ whole ms → Reads k [] ms
none_left {k} e = rw (← inside e) ended
  where
    inside : {ms : List Message} → whole [] ≡ whole ms → [] ≡ ms
    inside e = cc

reads_on : (n : ℕ) (k : Keyed) (s : List ℕ) (x : Cut) → 0 < length s → next_of k s ≡ x
    → ((rest : List ℕ) (rs : List Message) → split_f n k rest ≡ whole rs → Reads k rest rs)
    → {ms : List Message} → split_on x (λ rest. split_f n k rest) ≡ whole ms → Reads k s ms
unfolding split_on
reads_on n k s (stops r p) l q ih e = absurd (not-whole e)
reads_on n k s (next m rest) l q ih e =
    of-onto m (split_f n k rest) e (λ rs f g. rw (← g) (also q (some f) (ih rest rs f)))
  where
    still : m.bytes ≡ [] → rest ≡ s
    still z = ap (λ l. l ++ rest) (sym z) ∙ next-joins k s q

    some : {rs : List Message} → split_f n k rest ≡ whole rs → 0 < length m.bytes
    some f =
        by-lt 0 (length m.bytes) (λ h. h)
        (λ h. let z = still (no_bytes m.bytes h) in absurd (stuck n k s {m = m} l (q ∙ ap (next m) z) (ap (split_f n k) (sym z) ∙ f)))

reads-last : (k : Keyed) (s : List ℕ) {ms : List Message} → unless_ended s (λ _. broken End 0) ≡ whole ms → Reads k s ms
unfolding unless_ended
reads-last k [] e = none_left e
reads-last k (b ∷ s) e = absurd (not-whole e)

reads-next : (n : ℕ) (k : Keyed) (s : List ℕ) → ((rest : List ℕ) (rs : List Message) → split_f n k rest ≡ whole rs → Reads k rest rs)
    → {ms : List Message} → unless_ended s (λ _. split_on (next_of k s) (λ rest. split_f n k rest)) ≡ whole ms → Reads k s ms
unfolding unless_ended
reads-next n k [] ih e = none_left e
reads-next n k (b ∷ s) ih e = reads_on n k (b ∷ s) (next_of k (b ∷ s)) (omega arith) refl ih e

reads_of : (n : ℕ) (k : Keyed) (s : List ℕ) {ms : List Message} → split_f n k s ≡ whole ms → Reads k s ms
unfolding split_f
reads_of zero k s e = reads-last k s e
reads_of (suc n) k s e = reads-next n k s (λ rest rs f. reads_of n k rest f) e

split-ended : (n : ℕ) (k : Keyed) → split_f n k [] ≡ whole []
unfolding split_f unless_ended
split-ended zero k = refl
split-ended (suc n) k = refl

split-next : (n : ℕ) (k : Keyed) (s rest : List ℕ) (m : Message) (ms : List Message) → 0 < length s → next_of k s ≡ next m rest → split_f n k rest ≡ whole ms
    → split_f (suc n) k s ≡ whole (m ∷ ms)
unfolding split_f split_on onto
split-next n k s rest m ms h q e = unless-more s _ h ∙ rw (q, e)

pub next-length : (k : Keyed) (s : List ℕ) {m : Message} {rest : List ℕ} → next_of k s ≡ next m rest → length m.bytes + length rest ≡ length s
next-length k s {m} {rest} q = sym (length-append m.bytes rest) ∙ ap length (next-joins k s q)

splits_of : {k : Keyed} {s : List ℕ} {ms : List Message} (n : ℕ) → Reads k s ms → length s ≤ n → split_f n k s ≡ whole ms
splits_of {k} n ended l = split-ended n k
splits_of {k} {s} zero (also {m} q h r) l = absurd (omega (arith, next-length k s q))
splits_of {k} {s} (suc n) (also {rest} {m} {ms} q h r) l =
    let e = next-length k s q in split-next n k s rest m ms (omega arith) q (splits_of n r (omega arith))

pub split-reads : SplitReads
unfolding split
split-reads k s ms = (λ e. reads_of (length s) k s e, λ r. splits_of (length s) r (omega arith))

pub reads-joined : {k : Keyed} {s : List ℕ} {ms : List Message} → Reads k s ms → joined ms ≡ s
unfolding joined
reads-joined ended = refl
reads-joined {k} {s} (also {m} q h r) = ap (λ l. m.bytes ++ l) (reads-joined r) ∙ next-joins k s q
