-- A text's bytes with each quote twice, and bytes as digits: one byte after the other.
-- Assumes nothing.
use mathlib.Core.Path.{◌≡◌, refl, sym, ap, ◌∙◌}
use mathlib.Core.Bool.{Bool, true, false}
use mathlib.Core.List.{List, [], ◌∷◌, ◌++◌}
use Prim.Native.Nat.{ℕ, suc, ◌+◌, ◌-◌, ◌*◌, ◌<◌, ◌≤◌}
use native.Mathlib.Omega.{arith}
use lib.Dec.{ltb, eqb}
use lib.ListN.{length, get_or, drop, set, length-append, drop_of_length-le}
use lib.Seq.{sets, length-sets}
use borrow.Author.Tests.{ltb-false, lt-ltb, le-ltb, eq-eqb, ne_eqb}
use Rattle.wire.specs.Tests.{pick}
use Rattle.laws.proofs.Parts.{next, sets-append}
use Rattle.laws.proofs.Splits.{by-test, by-lt}
use Rattle.output.specs.Bytes.{Puts}
use Rattle.desk.specs.Csv.{quote, doubled, hex_of, hexes}

-- ---- a text

doubled-more : (b : ℕ) (s : List ℕ) → doubled (b ∷ s) ≡ doubled (b ∷ []) ++ doubled s
unfolding doubled pick
doubled-more b s = by-test (eqb b quote) (λ h. rw h) (λ h. rw h)

pub doubled-quote : (b : ℕ) → b ≡ quote → doubled (b ∷ []) ≡ quote ∷ quote ∷ []
unfolding doubled pick
doubled-quote b e = rw (eq-eqb b quote e)

pub doubled-other : (b : ℕ) → (b ≡ quote → ⊥) → doubled (b ∷ []) ≡ b ∷ []
unfolding doubled pick
doubled-other b e = rw (ne_eqb b quote e)

pub doubled-some : (b : ℕ) → 1 ≤ length (doubled (b ∷ []))
unfolding doubled pick
doubled-some b = by-test (eqb b quote) (λ h. rw h (omega arith)) (λ h. rw h (omega arith))

-- what is stored of one byte, and the place behind it
pub two-stored : (b to : ℕ) (out : List ℕ) → b ≡ quote → (set (set out to b) (to + 1) quote ≡ sets out to (doubled (b ∷ []))) × (to + 1 + 1 ≡ to + length (doubled (b ∷ [])))
two-stored b to out e =
    let one : to + 1 ≡ suc to = omega arith in
    rw (doubled-quote b e, e, one) (refl, omega arith)

pub one-stored : (b to : ℕ) (out : List ℕ) → (b ≡ quote → ⊥) → (set out to b ≡ sets out to (doubled (b ∷ []))) × (to + 1 ≡ to + length (doubled (b ∷ [])))
one-stored b to out e = rw (doubled-other b e) (refl, refl)

doubled-none : doubled [] ≡ []
unfolding doubled
doubled-none = refl

doubled-from : (s : List ℕ) (i : ℕ) → i < length s → doubled (drop i s) ≡ doubled (get_or s i 0 ∷ []) ++ doubled (drop (i + 1) s)
doubled-from s i h = ap doubled (next s i h) ∙ doubled-more (get_or s i 0) (drop (i + 1) s)

doubled-long : (s : List ℕ) → length s ≤ length (doubled s)
unfolding doubled pick
doubled-long [] = omega arith
doubled-long (b ∷ s) =
    let h = doubled-long s in
    by-test (eqb b quote) (λ e. rw e (omega arith)) (λ e. rw e (omega arith))

-- a quote makes a text longer, so one that gets no longer has none
doubled-plain : (s : List ℕ) → length s ≡ length (doubled s) → doubled s ≡ s
unfolding doubled pick
doubled-plain [] e = refl
doubled-plain (b ∷ s) e =
    by-test (eqb b quote) (λ h. absurd (omega (arith, doubled-long s, rw h at e)))
    (λ h. rw h (ap (λ t. b ∷ t) (doubled-plain s (omega (arith, rw h at e)))))

pub plain-stored : (s : List ℕ) {from n : ℕ} {out after : List ℕ} → length s ≡ length (doubled s) → Puts s from out n after → after ≡ sets out from (doubled s)
plain-stored s {from} {out = out} e p = p.stored ∙ ap (sets out from) (sym (doubled-plain s e))

-- n are counted of the quotes in front of the byte i
pub record Counting (s : List ℕ) (n i : ℕ) : Type 0 where
  pub same : n + i + length (doubled (drop i s)) ≡ length (doubled s)
  pub few : n ≤ i
  pub inside : i ≤ length s

pub counting-begin : (s : List ℕ) → Counting s 0 0
counting-begin s = record { same = omega arith; few = omega arith; inside = omega arith }

pub counting-next : {s : List ℕ} {n i m : ℕ} → Counting s n i → i < length s → (1 + m ≡ length (doubled (get_or s i 0 ∷ []))) × (m ≤ 1) → Counting s (n + m) (i + 1)
counting-next {s} {n} {i} {m} c h e =
    let split = ap length (doubled-from s i h) ∙ length-append (doubled (get_or s i 0 ∷ [])) (doubled (drop (i + 1) s)) in
    record { same = omega (arith, c.same, split, e.0); few = omega (arith, c.few, e.1); inside = omega arith }

pub counting-end : {s : List ℕ} {n i : ℕ} → Counting s n i → length s ≤ i → (length s + n ≡ length (doubled s)) × (n ≤ length s)
counting-end {s} {n} {i} c h =
    let none : length (doubled (drop i s)) ≡ 0 = ap (λ t. length (doubled t)) (drop_of_length-le s {i = i} h) ∙ ap length doubled-none in
    (omega (arith, c.same, none, c.inside), omega (arith, c.few, c.inside))

-- ---- whether a text gets longer

ltb_next : (a b : ℕ) → ltb (suc a) (suc b) ≡ ltb a b
ltb_next a b =
    by-lt a b (λ h. lt-ltb (suc a) (suc b) (omega arith) ∙ sym (lt-ltb a b h)) (λ h. le-ltb (suc a) (suc b) (omega arith) ∙ sym (le-ltb a b h))

longer-more : (b : ℕ) (s : List ℕ) → ltb (length (b ∷ s)) (length (doubled (b ∷ s))) ≡ pick (eqb b quote) true (ltb (length s) (length (doubled s)))
unfolding doubled pick
longer-more b s =
    by-test (eqb b quote) (λ e. rw e (lt-ltb (suc (length s)) (suc (suc (length (doubled s)))) (omega (arith, doubled-long s))))
    (λ e. rw e (ltb_next (length s) (length (doubled s))))

longer-none : ltb (length {A = ℕ} []) (length (doubled [])) ≡ false
unfolding doubled
longer-none = refl

or-again : (a found x : Bool) → pick found true (pick a true x) ≡ pick (pick a true found) true x
unfolding pick
or-again true true x = refl
or-again true false x = refl
or-again false true x = refl
or-again false false x = refl

or-none : (found : Bool) → pick found true false ≡ found
unfolding pick
or-none true = refl
or-none false = refl

pub or-quote : (b : ℕ) (found : Bool) → b ≡ quote → true ≡ pick (eqb b quote) true found
unfolding pick
or-quote b found e = rw (eq-eqb b quote e)

pub or-other : (b : ℕ) (found : Bool) → (b ≡ quote → ⊥) → found ≡ pick (eqb b quote) true found
unfolding pick
or-other b found e = rw (ne_eqb b quote e)

-- whether there is a quote in front of the byte i is known
pub record Seeking (s : List ℕ) (found : Bool) (i : ℕ) : Type 0 where
  pub same : pick found true (ltb (length (drop i s)) (length (doubled (drop i s)))) ≡ ltb (length s) (length (doubled s))

pub seeking-begin : (s : List ℕ) → Seeking s false 0
unfolding pick
seeking-begin s = record { same = refl }

pub seeking-next : {s : List ℕ} {found r : Bool} {i : ℕ} → Seeking s found i → i < length s → r ≡ pick (eqb (get_or s i 0) quote) true found → Seeking s r (i + 1)
seeking-next {s} {found} {r} {i} p h e =
    record {
      same =
          ap (λ q. pick q true (ltb (length (drop (i + 1) s)) (length (doubled (drop (i + 1) s))))) e
          ∙ sym (or-again (eqb (get_or s i 0) quote) found _) ∙ ap (pick found true) (sym (longer-more (get_or s i 0) (drop (i + 1) s)))
          ∙ ap (λ t. pick found true (ltb (length t) (length (doubled t)))) (sym (next s i h)) ∙ p.same;
    }

pub seeking-end : {s : List ℕ} {found : Bool} {i : ℕ} → Seeking s found i → length s ≤ i → found ≡ ltb (length s) (length (doubled s))
seeking-end {s} {found} {i} p h =
    let none = ap (λ t. ltb (length t) (length (doubled t))) (drop_of_length-le s {i = i} h) ∙ longer-none in
    sym (or-none found) ∙ ap (pick found true) (sym none) ∙ p.same

pub none_more : (s : List ℕ) → ltb (length s) (length (doubled s)) ≡ false → (length s + 0 ≡ length (doubled s)) × (0 ≤ length s)
none_more s e = (omega (arith, doubled-long s, ltb-false (length s) (length (doubled s)) e), omega arith)

-- ---- bytes stored one part after the other

-- `left` is to be stored from `to` on, and then all is
pub record Storing (all : List ℕ) (from : ℕ) (before left : List ℕ) (to : ℕ) (out : List ℕ) : Type 0 where
  pub same : sets out to left ≡ sets before from all
  pub room : to + length left ≤ length before
  pub long : length out ≡ length before

storing-begin : (all : List ℕ) (from : ℕ) (out : List ℕ) → from + length all ≤ length out → Storing all from out all from out
storing-begin all from out h = record { same = refl; room = h; long = refl }

storing-next : {all before left out : List ℕ} {from to : ℕ} (s t : List ℕ) → Storing all from before left to out → left ≡ s ++ t → Storing all from before t (to + length s) (sets out to s)
storing-next {left = left} {out = out} {to = to} s t p e =
    record {
      same = sets-append out to s t ∙ ap (sets out to) (sym e) ∙ p.same;
      room = omega (arith, p.room, ap length e ∙ length-append s t);
      long = length-sets out to s ∙ p.long;
    }

storing-end : {all before out : List ℕ} {from to : ℕ} → Storing all from before [] to out → out ≡ sets before from all
storing-end p = p.same

-- a text's bytes from the byte i on are left
pub record Doubling (s : List ℕ) (from : ℕ) (before : List ℕ) (i to : ℕ) (out : List ℕ) : Type 0 where
  pub left : Storing (doubled s) from before (doubled (drop i s)) to out

pub doubling-begin : (s : List ℕ) (from : ℕ) (out : List ℕ) → from + length (doubled s) ≤ length out → Doubling s from out 0 from out
doubling-begin s from out h = record { left = storing-begin (doubled s) from out h }

pub doubling-room : {s before out : List ℕ} {from i to : ℕ} → Doubling s from before i to out → i < length s → to + length (doubled (get_or s i 0 ∷ [])) ≤ length out
doubling-room {s = s} {i = i} p h =
    omega (arith, p.left.room, p.left.long, ap length (doubled-from s i h) ∙ length-append (doubled (get_or s i 0 ∷ [])) (doubled (drop (i + 1) s)))

pub doubling-next : {s before out after : List ℕ} {from i to r : ℕ} → Doubling s from before i to out → i < length s
    → after ≡ sets out to (doubled (get_or s i 0 ∷ [])) → r ≡ to + length (doubled (get_or s i 0 ∷ [])) → Doubling s from before (i + 1) r after
doubling-next {s = s} {i = i} p h e f = record { left = rw (e, f) (storing-next (doubled (get_or s i 0 ∷ [])) (doubled (drop (i + 1) s)) p.left (doubled-from s i h)) }

pub doubling-end : {s before out : List ℕ} {from i to : ℕ} → Doubling s from before i to out → length s ≤ i → out ≡ sets before from (doubled s)
doubling-end {s = s} {i = i} p h = storing-end (rw (drop_of_length-le s {i = i} h, doubled-none) at p.left)

-- ---- bytes as digits

hexes-from : (s : List ℕ) (i : ℕ) → i < length s → hexes (drop i s) ≡ hex_of (get_or s i 0) ++ hexes (drop (i + 1) s)
unfolding hexes
hexes-from s i h = ap hexes (next s i h)

hexes-none : hexes [] ≡ []
unfolding hexes
hexes-none = refl

pub hexes-long : (s : List ℕ) → length (hexes s) ≡ 2 * length s
unfolding hexes hex_of
hexes-long [] = refl
hexes-long (b ∷ s) = let h = hexes-long s in omega arith

pub two_digits : (b : ℕ) → hex_of b ≡ get_or (hex_of b) 0 0 ∷ get_or (hex_of b) 1 0 ∷ []
unfolding hex_of
two_digits b = refl

-- the digits of the bytes from i on are left
pub record Hexing (s : List ℕ) (from : ℕ) (before : List ℕ) (i to : ℕ) (out : List ℕ) : Type 0 where
  pub left : Storing (hexes s) from before (hexes (drop i s)) to out

pub hexing-begin : (s : List ℕ) (from : ℕ) (out : List ℕ) → from + length (hexes s) ≤ length out → Hexing s from out 0 from out
hexing-begin s from out h = record { left = storing-begin (hexes s) from out h }

pub hexing-room : {s before out : List ℕ} {from i to : ℕ} → Hexing s from before i to out → i < length s → to + 2 ≤ length out
hexing-room {s = s} {i = i} p h =
    omega (arith, p.left.room, p.left.long, ap length (hexes-from s i h) ∙ length-append (hex_of (get_or s i 0)) (hexes (drop (i + 1) s)), ap length (two_digits (get_or s i 0)))

pub hexing-next : {s before out two : List ℕ} {from i to : ℕ} → Hexing s from before i to out → i < length s → two ≡ hex_of (get_or s i 0)
    → Hexing s from before (i + 1) (to + 2) (set (set out to (get_or two 0 0)) (to + 1) (get_or two 1 0))
hexing-next {s = s} {out = out} {i = i} {to = to} p h e =
    let one : to + 1 ≡ suc to = omega arith in
    let n : length (hex_of (get_or s i 0)) ≡ 2 = ap length (two_digits (get_or s i 0)) in
    let q = storing-next (hex_of (get_or s i 0)) (hexes (drop (i + 1) s)) p.left (hexes-from s i h) in
    record { left = rw (e, one) (rw (n, two_digits (get_or s i 0)) at q) }

pub hexing-end : {s before out : List ℕ} {from i to : ℕ} → Hexing s from before i to out → length s ≤ i → out ≡ sets before from (hexes s)
hexing-end {s = s} {i = i} p h = storing-end (rw (drop_of_length-le s {i = i} h, hexes-none) at p.left)
