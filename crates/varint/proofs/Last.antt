-- A varint is the shortest of its number exactly if it is one byte, or its last byte is not 0: by induction on its bytes.
-- Assumes nothing.
use mathlib.Core.Path.{◌≡◌, refl, sym, ap, ◌∙◌}
use mathlib.Core.List.{List, [], ◌∷◌}
use Prim.Native.Nat.{ℕ, zero, suc, ◌+◌, ◌-◌, ◌*◌, ◌/◌, ◌%◌, ◌≤◌, ◌<◌}
use native.Mathlib.Omega.{arith}
use lib.Dec.{ltb, leb, eqb}
use lib.ListN.{length, get_or}
use borrow.Author.Tests.{leb-true, ltb-true, lt-ltb, le-ltb, eq-eqb, ne_eqb}
use Rattle.wire.specs.Item.{Item}
use Rattle.wire.specs.Item.{Took, Refused}
use Rattle.wire.specs.Tests.{pick}
use Rattle.wire.specs.Numbers.{most, spelled, low, varint_f, shortest_f, shortest}
use Rattle.laws.proofs.Splits.{by-lt, by_le, by-eq, of-pick}
use Rattle.laws.proofs.Varints.{in-range, varint-small, varint-more, shortest-small, shortest-more}
use Rattle.varint.specs.Takes.{limit_of, takes, ends_short, spelled_by, ShortestByLast}
use Rattle.varint.proofs.Reading.{limit-none, limit-some, limit-ten, limit-many}

-- n bytes were read as x, whose shortest varint is y, and the last of them is z
record Ended (y : List ℕ) (x n z : ℕ) : Type 0 where
  some : 1 ≤ n
  none : x ≡ 0 → z ≡ 0
  only : n ≡ 1 → z ≡ x
  one : n ≡ 1 → length y ≡ n
  then : 1 < n → length y ≡ n → 0 < z
  back : 1 < n → 0 < z → length y ≡ n

abbrev AreEnded : (short : ℕ → List ℕ) (s : List ℕ) → Item → Type 0
AreEnded short s (Took own) = Ended (short own.first) own.first own.used (get_or s (own.used - 1) 0)
AreEnded short s (Refused why) = Unit {0}

small-ended : (f x : ℕ) (s : List ℕ) → x < 128 → Ended (shortest_f (suc f) x) x 1 (get_or (x ∷ s) 0 0)
small-ended f x s h =
    rw (shortest-small f x h)
    (record { some = omega arith; none = λ e. e; only = λ e. refl; one = λ e. refl; then = λ l e. absurd (omega arith); back = λ l e. absurd (omega arith) })

next-get : (b n : ℕ) (s : List ℕ) → 1 ≤ n → get_or (b ∷ s) (n + 1 - 1) 0 ≡ get_or s (n - 1) 0
next-get b zero s h = absurd (omega arith)
next-get b (suc n) s h = let e : suc n + 1 - 1 ≡ suc n = omega arith in let e' : suc n - 1 ≡ n = omega arith in rw (e, e')

low-ended : (b f : ℕ) (s : List ℕ) (i : Item) → AreEnded (shortest_f (suc f)) s i → AreEnded (shortest_f (suc (suc f))) (b ∷ s) (low b i)
unfolding low
low-ended b f s (Refused why) r = tt
low-ended b f s (Took own) r = rw (next-get b own.used s r.some) (by-lt x 128 short long)
  where
    v : ℕ
    v = own.first

    n : ℕ
    n = own.used

    x : ℕ
    x = b % 128 + 128 * v

    z : ℕ
    z = get_or s (n - 1) 0

    -- the byte was not needed
    short : x < 128 → Ended (shortest_f (suc (suc f)) x) x (n + 1) z
    short lo =
        let zeroed : z ≡ 0 = r.none (omega arith) in
        let l : 1 ≤ n = r.some in
        rw (shortest-small (suc f) x lo)
        (record { some = omega arith; none = λ e. zeroed; only = λ e. absurd (omega arith); one = λ e. absurd (omega arith); then = λ l e. absurd (omega arith); back = λ l e. absurd (omega arith) })

    long : 128 ≤ x → Ended (shortest_f (suc (suc f)) x) x (n + 1) z
    long hi =
        let same : x / 128 ≡ v = omega arith in
        let l : 1 ≤ n = r.some in
        rw (shortest-more (suc f) x hi, same)
        (record {
          some = omega arith;
          none = λ e. absurd (omega arith);
          only = λ e. absurd (omega arith);
          one = λ e. absurd (omega arith);
          then = λ m e. by-eq n 1 (λ o. let q = r.only o in omega arith) (λ o. r.then (omega (arith, o)) (omega arith));
          back = λ m e. by-eq n 1 (λ o. let q = r.one o in omega arith) (λ o. let q = r.back (omega (arith, o)) e in omega arith);
        })

are-ended : (k f top : ℕ) (s : List ℕ) → top < 128 → k ≤ f → AreEnded (shortest_f (suc f)) s (varint_f (suc k) top s)
unfolding varint_f
are-ended zero f top [] h l = tt
are-ended (suc k) f top [] h l = tt
are-ended zero f top (b ∷ s) h l =
    of-pick (AreEnded (shortest_f (suc f)) (b ∷ s)) (leb b top) _ _ (λ e. small-ended f b s (omega (arith, leb-true b top e))) (λ e. tt)
are-ended (suc k) zero top (b ∷ s) h l = absurd (omega arith)
are-ended (suc k) (suc f) top (b ∷ s) h l =
    by-lt b 128 (λ lo. rw (varint-small k top b s lo) (small-ended (suc f) b s lo))
    (λ hi. rw (varint-more k top b s hi) (low-ended b f s _ (are-ended k f top s h (omega arith))))

-- constants that are taken at all: at most ten bytes, of which the last has no high bit
few : (k top : ℕ) → top < limit_of (suc k) → (k ≤ 9) × (top < 128)
few k top h =
    by_le (suc k) 9 (λ lo. (omega arith, omega (arith, limit-some (suc k) (omega arith) lo)))
    (λ hi. by-eq k 9 (λ e. (omega arith, omega (arith, limit-ten (suc k) (omega arith)))) (λ ne. absurd (omega (arith, limit-many (suc k) (omega arith)))))

ended_of : (k top : ℕ) (s : List ℕ) → top < limit_of k → AreEnded shortest s (varint_f k top s)
unfolding shortest most
ended_of zero top s h = absurd (omega (arith, limit-none 0 refl))
ended_of (suc k) top s h = are-ended k 9 top s (few k top h).1 (few k top h).0

ends-short : (y : List ℕ) (x n z : ℕ) → Ended y x n z → eqb n (length y) ≡ ends_short n z
unfolding ends_short pick
ends-short y x n z r =
    by-eq n 1 (λ o. rw (eq-eqb n 1 o, eq-eqb n (length y) (sym (r.one o))))
    (λ o.
    let l : 1 < n = omega (arith, o, r.some) in
    rw (ne_eqb n 1 o)
    (by-lt 0 z (λ p. rw (lt-ltb 0 z p, eq-eqb n (length y) (sym (r.back l p))))
    (λ p. rw (le-ltb 0 z p) (ne_eqb n (length y) (λ q. let m = r.then l (sym q) in absurd (omega arith))))))

pub shortest-by-last : ShortestByLast
unfolding takes
shortest-by-last k top s own =
    of-pick (λ i. i ≡ Took own → own.shortest ≡ ends_short own.used (get_or s (own.used - 1) 0)) (ltb top (limit_of k)) _ _
    (λ h e. (rw e at (in-range k top s)).form ∙ ends-short _ _ _ _ (rw e at (ended_of k top s (ltb-true top (limit_of k) h))))
    (λ h e. cc)

-- so the code may say which form it is by the last byte
pub by_last : (k top : ℕ) (s : List ℕ) (x i : ℕ) → spelled x (i + 1) ≡ takes k top s → Took (spelled_by x (i + 1) (get_or s i 0)) ≡ takes k top s
by_last k top s x i e =
    let back : i + 1 - 1 ≡ i = omega arith in
    ap (λ is. Took (record { first = x; second = 0; used = i + 1; shortest = is })) (sym (rw back at (shortest-by-last k top s _ (sym e)))) ∙ e
