-- How readings compose, without a bound and with room for so many entries.
-- Assumes nothing.
use mathlib.Core.Path.{◌≡◌, refl, sym, ap, ◌∙◌}
use mathlib.Core.List.{List, [], ◌∷◌, ◌++◌, append-nil, append_assoc}
use Prim.Native.Nat.{ℕ, zero, suc, ◌-◌, ◌≤◌, ◌<◌}
use native.Mathlib.Nat.{sub-zero, not-suc-le-zero}
use native.Mathlib.Omega.{arith}
use lib.ListN.{length}
use Rattle.wire.specs.declared.Refusal.{Refusal}
use Rattle.wire.specs.declared.Refusal.TheVariants.{Room}
use Rattle.wire.specs.declared.Own.{Own}
use Rattle.wire.specs.Item.{Item}
use Rattle.wire.specs.Item.{Took, Refused}
use Rattle.wire.specs.Shape.{Kind}
use Rattle.wire.specs.Values.{Entry}
use Rattle.wire.specs.Reading.{Head, Spot, Run, Outcome, reached, refused, run_after, read_nothing, read_on, read_then, past, entry_of, enter, read_item, within, fit}

-- ---- without a bound

pub on-behind : (es : List Entry) (r : Run) (g : Spot → Run) → read_on (es ++ r.made) r.ends g ≡ run_after es (read_on r.made r.ends g)
on-behind es r g = go r.made r.ends
  where
    go : (fs : List Entry) (o : Outcome) → read_on (es ++ fs) o g ≡ run_after es (read_on fs o g)
    go fs (reached x) = unfold read_on run_after in rw (append_assoc es fs (g x).made)
    go fs (refused e p) = unfold read_on run_after in refl

pub then-then : (f g h : Spot → Run) (x : Spot) → read_then (read_then f g) h x ≡ read_then f (read_then g h) x
unfolding read_then
then-then f g h x = go (f x).made (f x).ends
  where
    go : (es : List Entry) (o : Outcome) → read_on (read_on es o g).made (read_on es o g).ends h ≡ read_on es o (λ y. read_on (g y).made (g y).ends h)
    go es (reached y) = unfold read_on in (unfold run_after in on-behind es (g y) h)
    go es (refused e p) = unfold read_on in refl

pub item-then : (hd : Head) (k : Kind) (n : ℕ) (next : ℕ → Spot → Run) (g : Spot → Run) (x : Spot)
    → read_then (read_item hd k n next) g x ≡ read_item hd k n (λ a. read_then (next a) g) x
unfolding read_then read_item
item-then hd k n next g x = go (hd k n x.place x.bytes)
  where
    go : (i : Item) → read_on (enter i next x).made (enter i next x).ends g ≡ enter i (λ a y. read_on (next a y).made (next a y).ends g) x
    go (Refused e) = unfold enter read_on in refl
    go (Took own) = unfold enter in (unfold run_after in on-behind (entry_of own x ∷ []) (next own.first (past own.used x)) g)

-- nothing behind a run is the run
pub on-nothing : (es : List Entry) (o : Outcome) → read_on es o read_nothing ≡ record { made = es; ends = o }
unfolding read_on run_after read_nothing
on-nothing es (reached x) = rw (append-nil es)
on-nothing es (refused e p) = refl

pub then-nothing : (f : Spot → Run) (x : Spot) → read_then f read_nothing x ≡ f x
unfolding read_then
then-nothing f x = on-nothing (f x).made (f x).ends

-- ---- what a run that reached its end did

pub not-reached : {A : Type 0} {e : Refusal} {p : ℕ} {y : Spot} → refused e p ≡ reached y → A
not-reached q = let z : ◌≡◌ {A = ℕ} 0 1 = cc in absurd (omega arith)

pub same_spot : {x y : Spot} → reached x ≡ reached y → x ≡ y
same_spot q = cc

-- both steps reached theirs
pub record ThenRead (f g : Spot → Run) (x : Spot) (es : List Entry) (y : Spot) : Type 0 where
  pub between : Spot
  pub these : List Entry
  pub those : List Entry
  pub first : f x ≡ record { made = these; ends = reached between }
  pub second : g between ≡ record { made = those; ends = reached y }
  pub all : es ≡ these ++ those

pub then-read : (f g : Spot → Run) (x : Spot) (es : List Entry) (y : Spot) → read_then f g x ≡ record { made = es; ends = reached y } → ThenRead f g x es y
unfolding read_then
then-read f g x es y = go (f x).made (f x).ends refl
  where
    go : (fs : List Entry) (o : Outcome) → f x ≡ record { made = fs; ends = o } → read_on fs o g ≡ record { made = es; ends = reached y } → ThenRead f g x es y
    go fs (reached z) a e =
        unfold read_on run_after in
        record {
          between = z;
          these = fs;
          those = (g z).made;
          first = a;
          second = ap (λ o. record { made = (g z).made; ends = o }) (ap (λ r. r.ends) e);
          all = sym (ap (λ r. r.made) e);
        }
    go fs (refused r p) a e = unfold read_on in not-reached (ap (λ r. r.ends) e)

-- an item was taken, and what follows it reached its end
pub record ItemRead (h : Head) (k : Kind) (n : ℕ) (next : ℕ → Spot → Run) (x : Spot) (es : List Entry) (y : Spot) : Type 0 where
  pub own : Own
  pub those : List Entry
  pub took : h k n x.place x.bytes ≡ Took own
  pub inside : next own.first (past own.used x) ≡ record { made = those; ends = reached y }
  pub all : es ≡ entry_of own x ∷ those

pub item-read : (h : Head) (k : Kind) (n : ℕ) (next : ℕ → Spot → Run) (x : Spot) (es : List Entry) (y : Spot)
    → read_item h k n next x ≡ record { made = es; ends = reached y } → ItemRead h k n next x es y
unfolding read_item
item-read h k n next x es y = go (h k n x.place x.bytes) refl
  where
    go : (i : Item) → h k n x.place x.bytes ≡ i → enter i next x ≡ record { made = es; ends = reached y } → ItemRead h k n next x es y
    go (Refused r) a e = unfold enter in not-reached (ap (λ r. r.ends) e)
    go (Took own) a e =
        unfold enter run_after in
        record {
          own = own;
          those = (next own.first (past own.used x)).made;
          took = a;
          inside = ap (λ o. record { made = (next own.first (past own.used x)).made; ends = o }) (ap (λ r. r.ends) e);
          all = sym (ap (λ r. r.made) e);
        }

-- ---- with room

left : (a b : ℕ) → suc a - suc b ≡ a - b
left a b = omega arith

fit_on : (room : ℕ) (es : List Entry) (o : Outcome) (g : Spot → Run)
    → fit room (read_on es o g) ≡ read_on (within room es o).made (within room es o).ends (λ y. fit (room - length (within room es o).made) (g y))
unfolding fit read_on within run_after
fit_on room [] (reached y) g = rw (sub-zero room)
fit_on zero [] (refused e p) g = refl
fit_on (suc room) [] (refused e p) g = refl
fit_on zero (e ∷ es) o g = ap (fit zero) (on-behind (e ∷ []) (record { made = es; ends = o }) g)
fit_on (suc room) (e ∷ es) o g =
    rw (left room (length (within room es o).made))
    (ap (fit (suc room)) (on-behind (e ∷ []) (record { made = es; ends = o }) g) ∙ ap (run_after (e ∷ [])) (fit_on room es o g)
    ∙ sym (on-behind (e ∷ []) (within room es o) (λ y. fit (room - length (within room es o).made) (g y))))

-- the next step has the room that is left
pub fit_then : (room : ℕ) (f g : Spot → Run) (x : Spot)
    → fit room (read_then f g x) ≡ read_on (fit room (f x)).made (fit room (f x)).ends (λ y. fit (room - length (fit room (f x)).made) (g y))
unfolding read_then
fit_then room f g x = unfold fit in fit_on room (f x).made (f x).ends g

module _ (h : Head) (k : Kind) (n : ℕ) (next : ℕ → Spot → Run) (x : Spot) where
  -- an item wants room before its bytes are looked at
  pub fit-item : (room : ℕ) → fit (suc room) (read_item h k n next x) ≡ read_item h k n (λ a y. fit room (next a y)) x
  unfolding read_item
  fit-item room = go (h k n x.place x.bytes)
    where
      go : (i : Item) → fit (suc room) (enter i next x) ≡ enter i (λ a y. fit room (next a y)) x
      go (Refused e) = unfold fit enter within in refl
      go (Took own) = unfold fit enter within run_after in refl

  pub fit_none : fit 0 (read_item h k n next x) ≡ record { made = []; ends = refused Room x.place }
  unfolding read_item
  fit_none = go (h k n x.place x.bytes)
    where
      go : (i : Item) → fit 0 (enter i next x) ≡ record { made = []; ends = refused Room x.place }
      go (Refused e) = unfold fit enter within in refl
      go (Took own) = unfold fit enter within run_after in refl

-- ---- enough room

pub within-reached : (room : ℕ) (es : List Entry) (y : Spot) → length es ≤ room → within room es (reached y) ≡ record { made = es; ends = reached y }
unfolding within run_after
within-reached room [] y h = refl
within-reached zero (e ∷ es) y h = absurd (not-suc-le-zero h)
within-reached (suc room) (e ∷ es) y h = rw (within-reached room es y (omega arith))

-- an item that is refused wants room too
pub within-refused : (room : ℕ) (es : List Entry) (r : Refusal) (p : ℕ) → length es < room → within room es (refused r p) ≡ record { made = es; ends = refused r p }
unfolding within run_after
within-refused zero es r p h = absurd (not-suc-le-zero h)
within-refused (suc room) [] r p h = refl
within-refused (suc room) (e ∷ es) r p h = rw (within-refused room es r p (omega arith))

within-enough : (room : ℕ) (es : List Entry) (o : Outcome) (y : Spot) → (within room es o).ends ≡ reached y → (length es ≤ room) × (o ≡ reached y)
unfolding within run_after
within-enough room [] (reached x) y h = (omega arith, h)
within-enough zero [] (refused r p) y h = (omega arith, cc)
within-enough (suc room) [] (refused r p) y h = (omega arith, h)
within-enough zero (e ∷ es) o y h = let z : ◌≡◌ {A = ℕ} 0 1 = cc in absurd (omega arith)
within-enough (suc room) (e ∷ es) o y h = let k = within-enough room es o y h in (omega arith, k.1)

-- a run that reaches its end with a room has enough, and is the run without a bound
pub fit-reached : (room : ℕ) (r : Run) (es : List Entry) (y : Spot) → fit room r ≡ record { made = es; ends = reached y }
    → (length es ≤ room) × (r ≡ record { made = es; ends = reached y })
unfolding fit
fit-reached room r es y e = (rw (ap (λ r. r.made) whole) at enough.0, whole)
  where
    enough : (length r.made ≤ room) × (r.ends ≡ reached y)
    enough = within-enough room r.made r.ends y (ap (λ r. r.ends) e)

    whole : r ≡ record { made = es; ends = reached y }
    whole = ap (λ o. record { made = r.made; ends = o }) enough.1 ∙ sym (within-reached room r.made y enough.0) ∙ (rw enough.1 at e)
