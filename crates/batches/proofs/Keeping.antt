-- Only the last message of each key: what that leaves as it was.
-- Assumes nothing.
use mathlib.Core.Path.{◌≡◌, refl, sym, ap, ◌∙◌}
use mathlib.Core.Bool.{Bool, true, false}
use mathlib.Core.List.{List, [], ◌∷◌, ◌++◌, append_assoc}
use mathlib.Core.Option.{Option, none, some, map}
use Prim.Native.Nat.{ℕ, ◌+◌, ◌^◌, ◌<◌, ◌≤◌}
use native.Mathlib.Omega.{arith}
use lib.ListN.{length, take, drop, length-append}
use lib.Seq.{drop_at, take-append_seam}
use lib.Dec.{ltb}
use borrow.Author.Tests.{ltb-true, lt-ltb}
use Rattle.wire.specs.Tests.{pick}
use Rattle.laws.proofs.Splits.{by-test, both_yes, both_left, both_right}
use Rattle.desk.specs.declared.Key.{Key}
use Rattle.desk.specs.Rows.{same_key, or_else, some_if}
use Rattle.desk.specs.Messages.{Keyed, Message, joined, rows_of, Part, last_from, next_of, next}
use Rattle.desk.specs.Compact.{occurs, keep_last}
use Rattle.batches.specs.Reads.{Reads, ended, also}
use Rattle.desk.specs.Batch.{offsets_fit}
use Rattle.batches.proofs.Order.{same_key_lem}
use Rattle.batches.proofs.Recut.{next-behind}

-- a message that is kept, and one that is not
keep-yes : (m : Message) (ms : List Message) → occurs m.key ms ≡ false → keep_last (m ∷ ms) ≡ m ∷ keep_last ms
unfolding keep_last pick
keep-yes m ms q = rw q

keep-no : (m : Message) (ms : List Message) → occurs m.key ms ≡ true → keep_last (m ∷ ms) ≡ keep_last ms
unfolding keep_last pick
keep-no m ms q = rw q

-- ---- they read as before

keep-one : (k : Keyed) (m : Message) (ms : List Message) → next_of k (m.bytes ++ joined ms) ≡ next m (joined ms) → 0 < length m.bytes → Reads k (joined ms) ms → Reads k (joined (m ∷ ms)) (m ∷ ms)
unfolding joined
keep-one k m ms q h ih = also q h ih

pub reads-keep : {k : Keyed} {s : List ℕ} {ms : List Message} → Reads k s ms → Reads k (joined (keep_last ms)) (keep_last ms)
reads-keep {k} ended = unfold keep_last joined in ended
reads-keep {k} {s} (also {m} {ms} q h r) = go (reads-keep r)
  where
    one : Reads k (joined (keep_last ms)) (keep_last ms) → Reads k (joined (m ∷ keep_last ms)) (m ∷ keep_last ms)
    one ih = keep-one k m (keep_last ms) (next-behind k s (joined (keep_last ms)) q) h ih

    go : Reads k (joined (keep_last ms)) (keep_last ms) → Reads k (joined (keep_last (m ∷ ms))) (keep_last (m ∷ ms))
    go ih = by-test (occurs m.key ms) (λ e. rw (keep-no m ms e) ih) (λ e. rw (keep-yes m ms e) (one ih))

-- ---- they are no more, no longer and no later

pub keep-fewer : (ms : List Message) → length (keep_last ms) ≤ length ms
keep-fewer [] = unfold keep_last in omega arith
keep-fewer (m ∷ ms) = go (keep-fewer ms)
  where
    go : length (keep_last ms) ≤ length ms → length (keep_last (m ∷ ms)) ≤ length (m ∷ ms)
    go ih = by-test (occurs m.key ms) (λ e. rw (keep-no m ms e) (omega arith)) (λ e. rw (keep-yes m ms e) (omega arith))

pub keep-shorter : (ms : List Message) → length (joined (keep_last ms)) ≤ length (joined ms)
keep-shorter [] = unfold keep_last in omega arith
keep-shorter (m ∷ ms) = go (keep-shorter ms)
  where
    size : (rs : List Message) → length (joined (m ∷ rs)) ≡ length m.bytes + length (joined rs)
    size rs = unfold joined in length-append m.bytes (joined rs)

    go : length (joined (keep_last ms)) ≤ length (joined ms) → length (joined (keep_last (m ∷ ms))) ≤ length (joined (m ∷ ms))
    go ih = by-test (occurs m.key ms) (λ e. rw (keep-no m ms e, size ms) (omega arith)) (λ e. rw (keep-yes m ms e, size ms, size (keep_last ms)) (omega arith))

pub keep-offsets : (ms : List Message) (at to : ℕ) → to ≤ at → offsets_fit (rows_of at ms) ≡ true → offsets_fit (rows_of to (keep_last ms)) ≡ true
keep-offsets [] at to l e = unfold keep_last rows_of offsets_fit in refl
keep-offsets (m ∷ ms) at to l e =
    by-test (occurs m.key ms) (λ q. rw (keep-no m ms q) (keep-offsets ms (at + length m.bytes) to (omega arith) (rest e)))
    (λ q. rw (keep-yes m ms q) (one e (keep-offsets ms (at + length m.bytes) (to + length m.bytes) (omega arith) (rest e))))
  where
    rest : offsets_fit (rows_of at (m ∷ ms)) ≡ true → offsets_fit (rows_of (at + length m.bytes) ms) ≡ true
    rest e = unfold rows_of offsets_fit in both_right (ltb at (2 ^ 32)) (offsets_fit (rows_of (at + length m.bytes) ms)) e

    one : offsets_fit (rows_of at (m ∷ ms)) ≡ true → offsets_fit (rows_of (to + length m.bytes) (keep_last ms)) ≡ true → offsets_fit (rows_of to (m ∷ keep_last ms)) ≡ true
    one e f = unfold rows_of offsets_fit in
        both_yes (ltb to (2 ^ 32)) (offsets_fit (rows_of (to + length m.bytes) (keep_last ms)))
        (lt-ltb to (2 ^ 32) (less (ltb-true at (2 ^ 32) (both_left (ltb at (2 ^ 32)) (offsets_fit (rows_of (at + length m.bytes) ms)) e)))) f
      where
        less : at < 2 ^ 32 → to < 2 ^ 32
        less h = omega arith

-- ---- once is enough

pub occurs-keep : (k : Key) (ms : List Message) → occurs k (keep_last ms) ≡ occurs k ms
occurs-keep k [] = unfold keep_last in refl
occurs-keep k (m ∷ ms) = go (occurs-keep k ms)
  where
    go : occurs k (keep_last ms) ≡ occurs k ms → occurs k (keep_last (m ∷ ms)) ≡ occurs k (m ∷ ms)
    go ih =
        by-test (occurs m.key ms) (λ e. rw (keep-no m ms e) (ih ∙ dropped e (same_key k m.key) refl))
        (λ e. rw (keep-yes m ms e) (unfold occurs in rw ih))
      where
        dropped : occurs m.key ms ≡ true → (t : Bool) → same_key k m.key ≡ t → occurs k ms ≡ occurs k (m ∷ ms)
        dropped e true q = unfold occurs pick in rw q (ap (λ k. occurs k ms) (same_key_lem k m.key q) ∙ e)
        dropped e false q = unfold occurs pick in rw q

pub keep-once : (ms : List Message) → keep_last (keep_last ms) ≡ keep_last ms
keep-once [] = unfold keep_last in refl
keep-once (m ∷ ms) = go (keep-once ms)
  where
    go : keep_last (keep_last ms) ≡ keep_last ms → keep_last (keep_last (m ∷ ms)) ≡ keep_last (m ∷ ms)
    go ih =
        by-test (occurs m.key ms) (λ e. rw (keep-no m ms e) ih)
        (λ e. rw (keep-yes m ms e) (keep-yes m (keep_last ms) (occurs-keep m.key ms ∙ e) ∙ ap (λ l. m ∷ l) ih))

-- ---- the last of a key

-- the bytes of the last message of a key
unfoldable pub last_bytes : Key → List Message → Option (List ℕ)
last_bytes k [] = none
last_bytes k (m ∷ ms) = or_else (last_bytes k ms) (some_if (same_key k m.key) m.bytes)

else-none {ℓ} : {X : Type ℓ} (o : Option X) → or_else o none ≡ o
unfolding or_else
else-none (some x) = refl
else-none none = refl

-- a key that occurs has a last message
occurs-else : (k : Key) (ms : List Message) (y : Option (List ℕ)) → occurs k ms ≡ true → or_else (last_bytes k ms) y ≡ last_bytes k ms
occurs-else k [] y e = unfold occurs in absurd (let z : ◌≡◌ {A = ℕ} 0 1 = cc in omega arith)
occurs-else k (m ∷ ms) y e = go (same_key k m.key) refl (λ f. occurs-else k ms y f)
  where
    some-else : (o : Option (List ℕ)) (b : List ℕ) → or_else (or_else o (some b)) y ≡ or_else o (some b)
    some-else (some x) b = unfold or_else in refl
    some-else none b = unfold or_else in refl

    go : (t : Bool) → same_key k m.key ≡ t → (occurs k ms ≡ true → or_else (last_bytes k ms) y ≡ last_bytes k ms) → or_else (last_bytes k (m ∷ ms)) y ≡ last_bytes k (m ∷ ms)
    go true q ih = unfold last_bytes some_if in rw q (some-else (last_bytes k ms) m.bytes)
    go false q ih = unfold last_bytes some_if in rw (q, else-none (last_bytes k ms)) (ih (later q))
      where
        later : same_key k m.key ≡ false → occurs k ms ≡ true
        later q = unfold occurs pick in (rw q at e)

pub last-keep : (k : Key) (ms : List Message) → last_bytes k (keep_last ms) ≡ last_bytes k ms
last-keep k [] = unfold keep_last in refl
last-keep k (m ∷ ms) = go (last-keep k ms)
  where
    dropped : occurs m.key ms ≡ true → (t : Bool) → same_key k m.key ≡ t → last_bytes k ms ≡ last_bytes k (m ∷ ms)
    dropped e true q = unfold last_bytes in sym (occurs-else k ms (some_if (same_key k m.key) m.bytes) (ap (λ k. occurs k ms) (same_key_lem k m.key q) ∙ e))
    dropped e false q = unfold last_bytes some_if in rw q (sym (else-none (last_bytes k ms)))

    go : last_bytes k (keep_last ms) ≡ last_bytes k ms → last_bytes k (keep_last (m ∷ ms)) ≡ last_bytes k (m ∷ ms)
    go ih =
        by-test (occurs m.key ms) (λ e. rw (keep-no m ms e) (ih ∙ dropped e (same_key k m.key) refl))
        (λ e. rw (keep-yes m ms e) (unfold last_bytes in rw ih))

map-else {ℓ ℓ'} : {X : Type ℓ} {Y : Type ℓ'} (f : X → Y) (o : Option X) (t : Bool) (x : X) → map f (or_else o (some_if t x)) ≡ or_else (map f o) (some_if t (f x))
unfolding or_else some_if
map-else f (some y) t x = refl
map-else f none true x = refl
map-else f none false x = refl

-- a part that was found has the bytes of the last message
pub last-bytes : (k : Key) (ms : List Message) (batch pre tail : List ℕ) (at : ℕ) → length pre ≡ at → pre ++ (joined ms ++ tail) ≡ batch
    → map (λ (p : Part). take p.len (drop p.from batch)) (last_from k at ms) ≡ last_bytes k ms
unfolding last_from last_bytes joined
last-bytes k [] batch pre tail at n e = refl
last-bytes k (m ∷ ms) batch pre tail at n e =
    map-else (λ (p : Part). take p.len (drop p.from batch)) (last_from k (at + length m.bytes) ms) (same_key k m.key) (record { from = at; len = length m.bytes })
    ∙ rw (here, last-bytes k ms batch (pre ++ m.bytes) tail (at + length m.bytes) (length-append pre m.bytes ∙ ap (λ n. n + length m.bytes) n) (sym shift ∙ e))
  where
    shift : pre ++ ((m.bytes ++ joined ms) ++ tail) ≡ (pre ++ m.bytes) ++ (joined ms ++ tail)
    shift = simp append_assoc

    here : take (length m.bytes) (drop at batch) ≡ m.bytes
    here = ap (λ b. take (length m.bytes) (drop at b)) (sym e) ∙ ap (take (length m.bytes)) (drop_at pre ((m.bytes ++ joined ms) ++ tail) at n ∙ append_assoc m.bytes (joined ms) tail)
        ∙ take-append_seam m.bytes (joined ms ++ tail)
