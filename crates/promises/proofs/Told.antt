-- Telling entries apart by one shape: what it told it tells again.
-- Assumes nothing.
use mathlib.Core.Path.{◌≡◌, refl, ap, ◌∙◌}
use mathlib.Core.Bool.{Bool, true, false}
use mathlib.Core.List.{List, [], ◌∷◌, ◌++◌, append-nil, append_assoc}
use Prim.Native.Nat.{ℕ}
use Rattle.wire.specs.Tests.{given}
use Rattle.wire.specs.Shape.{Kind}
use Rattle.wire.specs.Walk.{following, is_known}
use Rattle.wire.specs.Values.{Entry, Tag, Told, kept, lacks, short, told_after, tell_nothing, tell_on, tell_then, tell_item, telling, tell}
use Rattle.laws.specs.Steps.{Every}
use Rattle.laws.specs.Told.{entries}
use Rattle.laws.proofs.Walks.{every}
use Rattle.laws.proofs.Told.{entries-append}
use Rattle.promises.specs.Telling.{KeptAgain, LacksAgain}

-- nothing behind a step is the step
pub told-nothing : (t : Told) → tell_on t tell_nothing ≡ t
unfolding tell_on tell_nothing told_after
told-nothing (kept ts rest) = rw (append-nil ts)
told-nothing (lacks ts e rest) = refl
told-nothing (short ts) = refl

-- ---- told again

-- what a step told, and what it tells of the entries of that: the same whatever follows them, or that they are too few
data Retold (f : List Entry → Told) : Told → Type 0 where
  keeps : (ts : List Tag) {rest : List Entry} → ((more : List Entry) → f (entries ts ++ more) ≡ kept ts more) → Retold f (kept ts rest)
  loses : (ts : List Tag) {e : Entry} {rest : List Entry} → f (entries ts) ≡ short ts → Retold f (lacks ts e rest)
  wants : (ts : List Tag) → f (entries ts) ≡ short ts → Retold f (short ts)

record Again (f : List Entry → Told) : Type 0 where
  again : (es : List Entry) → Retold f (f es)

again-nothing : Again tell_nothing
unfolding tell_nothing entries
again-nothing = record { again = λ es. keeps [] (λ more. refl) }

again-then : {f g : List Entry → Told} → Again f → Again g → Again (tell_then f g)
unfolding tell_then tell_on told_after
again-then {f} {g} h k = record { again = λ es. go (h.again es) }
  where
    on : (ts us : List Tag) (more : List Entry) → ((more : List Entry) → f (entries ts ++ more) ≡ kept ts more)
        → tell_then f g (entries (ts ++ us) ++ more) ≡ told_after ts (g (entries us ++ more))
    on ts us more h = rw (entries-append ts us, append_assoc (entries ts) (entries us) more, h (entries us ++ more))

    few : (ts us : List Tag) → ((more : List Entry) → f (entries ts ++ more) ≡ kept ts more) → g (entries us) ≡ short us
        → tell_then f g (entries (ts ++ us)) ≡ short (ts ++ us)
    few ts us h k = rw (append-nil (entries (ts ++ us)), append-nil (entries us)) at (on ts us [] h) ∙ ap (told_after ts) k

    onto : {t : Told} (ts : List Tag) → ((more : List Entry) → f (entries ts ++ more) ≡ kept ts more) → Retold g t → Retold (tell_then f g) (told_after ts t)
    onto ts h (keeps us k) = keeps (ts ++ us) (λ more. on ts us more h ∙ ap (told_after ts) (k more))
    onto ts h (loses us k) = loses (ts ++ us) (few ts us h k)
    onto ts h (wants us k) = wants (ts ++ us) (few ts us h k)

    go : {t : Told} → Retold f t → Retold (tell_then f g) (tell_on t g)
    go (keeps ts {rest} h) = onto ts h (k.again rest)
    go (loses ts h) = loses ts (rw h)
    go (wants ts h) = wants ts (rw h)

again-item : {f : ℕ → List Entry → Told} (k : Kind) (n : ℕ) → ((a : ℕ) → Again (f a)) → Again (tell_item k n f)
unfolding tell_item given entries told_after
again-item {f} k n h = record { again = go }
  where
    entry : (e : Entry) → is_known (following k e.first) n ≡ true → {t : Told} → Retold (f e.first) t → Retold (tell_item k n f) (told_after (record { kind = k; entry = e } ∷ []) t)
    entry e t (keeps ts h) = keeps (record { kind = k; entry = e } ∷ ts) (λ more. rw (t, h more))
    entry e t (loses ts h) = loses (record { kind = k; entry = e } ∷ ts) (rw (t, h))
    entry e t (wants ts h) = wants (record { kind = k; entry = e } ∷ ts) (rw (t, h))

    test : (e : Entry) (es : List Entry) (x : Bool) → is_known (following k e.first) n ≡ x
        → Retold (tell_item k n f) (given x (λ _. told_after (record { kind = k; entry = e } ∷ []) (f e.first es)) (lacks [] e es))
    test e es true t = entry e t ((h e.first).again es)
    test e es false t = loses [] refl

    go : (es : List Entry) → Retold (tell_item k n f) (tell_item k n f es)
    go [] = wants [] refl
    go (e ∷ es) = test e es (is_known (following k e.first) n) refl

retelling : Every (λ (i : Unit {0}). telling) (λ f. Again (f tt))
retelling = record { none = again-nothing; both = again-then; made = λ f k n. again-item k n }

pub kept_again : KeptAgain
unfolding tell
kept_again t es rest ts e = go (rw e at ((every retelling t).again es))
  where
    go : Retold (tell t) (kept ts rest) → tell t (entries ts) ≡ kept ts []
    go (keeps ts h) = rw (append-nil (entries ts)) at (h [])

pub lacks-again : LacksAgain
unfolding tell
lacks-again t es rest ts x e = go (rw e at ((every retelling t).again es))
  where
    go : Retold (tell t) (lacks ts x rest) → tell t (entries ts) ≡ short ts
    go (loses ts h) = h
