-- Group by group, what was put and the frame of what is left are together the frame.
-- Assumes nothing.
use mathlib.Core.Path.{◌≡◌, refl, sym, ap, ◌∙◌}
use mathlib.Core.List.{List, [], ◌∷◌, ◌++◌, append_assoc, append-nil}
use Prim.Native.Nat.{ℕ, suc, ◌+◌, ◌-◌, ◌≤◌, ◌<◌}
use native.Mathlib.Nat.{zero-add}
use native.Mathlib.Numerals.{add-one}
use native.Mathlib.Omega.{arith}
use lib.ListN.{length, get_or, set, drop, replicate, length-append, length-drop, length-replicate, length-set, drop_of_length-le}
use lib.Seq.{sets, length-sets, set_comm, drop-cons, drop-drop, get_or-drop}
use Rattle.wire.specs.Sending.{group, encode, frame}
use Rattle.laws.proofs.Parts.{sets-append}
use Rattle.framing.proofs.Groups.{by-groups}
use Rattle.framing.proofs.Sizes.{sized}
use Rattle.framer.specs.Steps.{group_at, Runnable, Ran, Fillable, Filled, Put}
use Rattle.framer.proofs.Runs.{run_short, run-clean, run-front, run-stops}
use Rattle.framer.proofs.Zeros.{zero-groups}

-- a store in front of others can come first
set-sets : (l : List ℕ) (i j a : ℕ) (s : List ℕ) → i < j → set (sets l j s) i a ≡ sets (set l i a) j s
set-sets l i j a [] less = refl
set-sets l i j a (b ∷ s) less =
    set-sets (set l j b) i (suc j) a s (omega arith) ∙ ap (λ (k : List ℕ). sets k (suc j) s) (set_comm l j i b a (λ e. omega arith))

group-stored : (out : List ℕ) (at : ℕ) (s : List ℕ) → set (sets out (at + 1) s) at (suc (length s)) ≡ sets out at (group s)
unfolding group
group-stored out at s = set-sets out at (at + 1) (suc (length s)) s (omega arith) ∙ rw (add-one at)

pub record Framing (m out₀ : List ℕ) (from at : ℕ) (out : List ℕ) : Type 0 where
  pub made : List ℕ
  pub count : at ≡ length made
  pub within : from ≤ length m
  pub same : made ++ encode (drop from m) ≡ encode m
  pub stored : out ≡ sets out₀ 0 made

pub framing-begin : (m out : List ℕ) → Framing m out 0 0 out
framing-begin m out = record { made = []; count = refl; within = omega arith; same = refl; stored = refl }

module _ {m out₀ : List ℕ} {from at : ℕ} {out : List ℕ} (h : Framing m out₀ from at out) (fits : length (frame m) ≤ length out₀) where
  abbrev bytes : List ℕ
  bytes = group_at m from

  abbrev behind : ℕ
  behind = from + length bytes

  pub framing-long : length out ≡ length out₀
  framing-long = rw h.stored (length-sets out₀ 0 h.made)

  cut : drop from m ≡ bytes ++ drop behind m
  cut = sym (run-front 254 (drop from m)) ∙ rw (drop-drop (length bytes) from m)

  pub few : length bytes ≤ 254
  few = run_short 254 (drop from m)

  inside : behind ≤ length m
  inside = omega (arith, h.within, ap length cut, length-append bytes (drop behind m), length-drop from m)

  -- a byte for each that is left, one more for the groups' codes and the closing zero have their places
  framing-all : at + (length m - from) + 2 ≤ length out
  unfolding frame
  framing-all =
      omega (arith, h.count, h.within, framing-long, length-drop from m, (sized (drop from m)).least, ap length h.same, length-append h.made (encode (drop from m)), length-append (encode m) (0 ∷ []), length-append (encode (drop from m)) (0 ∷ []))

  pub framing-room : at + 1 + length bytes < length out
  framing-room = omega (arith, framing-all, inside)

  pub framing-runs : Runnable m from out (at + 1)
  framing-runs = record { within = h.within; fits = omega (arith, framing-room) }

  module _ {count : ℕ} {left : List ℕ} (r : Ran m from out (at + 1) count left) where
    pub framing-inside : from + count ≤ length m
    framing-inside = omega (arith, r.many, inside)

    pub framing-few : count ≤ 254
    framing-few = omega (arith, r.many, few)

    pub framing-left : length left ≡ length out
    framing-left = rw r.stored (length-sets out (at + 1) bytes)

    pub framing-code : at < length left
    framing-code = omega (arith, framing-left, framing-room)

    pub framing-next : at + 1 + count < length out₀
    framing-next = omega (arith, framing-long, framing-room, r.many)

    pub framing-zero : (code : ℕ) → at + 1 + count < length (set left at code)
    framing-zero code = omega (arith, length-set left at code, framing-left, framing-long, framing-next)

    pub framing-same : (code place b : ℕ) → length (set (set left at code) place b) ≡ length out₀
    framing-same code place b = length-set (set left at code) place b ∙ length-set left at code ∙ framing-left ∙ framing-long

    -- what stands there then
    now-made : set left at (count + 1) ≡ sets out₀ 0 (h.made ++ group bytes)
    now-made =
        let code : count + 1 ≡ suc (length bytes) = omega (arith, r.many) in
        let one : set left at (count + 1) ≡ sets out at (group bytes) = rw (r.stored, code) (group-stored out at bytes) in
        let both : sets out at (group bytes) ≡ sets out₀ 0 (h.made ++ group bytes) = rw (h.stored, h.count, ← zero-add (length h.made)) (sets-append out₀ 0 h.made (group bytes)) in
        one ∙ both

    now-count : at + 1 + count ≡ length (h.made ++ group bytes)
    unfolding group
    now-count = omega (arith, h.count, r.many, length-append h.made (suc (length bytes) ∷ bytes))

    -- the groups up to this one, and what is left
    goes_on : (next : ℕ) → next ≤ length m → encode (drop from m) ≡ group bytes ++ encode (drop next m) → Framing m out₀ next (at + 1 + count) (set left at (count + 1))
    goes_on next le e = record {
      made = h.made ++ group bytes;
      count = now-count;
      within = le;
      same = append_assoc h.made (group bytes) (encode (drop next m)) ∙ ap (λ (s : List ℕ). h.made ++ s) (sym e) ∙ h.same;
      stored = now-made;
    }

    module _ (more : from + count < length m) where
      next-byte : drop behind m ≡ get_or m (from + count) 0 ∷ drop (from + count + 1) m
      next-byte = rw (← r.many, add-one (from + count)) (drop-cons m (from + count) 0 more)

      pub framing-full : count ≡ 254 → Framing m out₀ (from + count) (at + 1 + count) (set left at (count + 1))
      framing-full is =
          goes_on (from + count) (omega arith) (ap encode (cut ∙ ap (λ (s : List ℕ). bytes ++ s) next-byte) ∙ (by-groups bytes (run-clean 254 (drop from m))).full (get_or m (from + count) 0) (drop (from + count + 1) m) (omega (arith, r.many)) ∙ ap (λ (s : List ℕ). group bytes ++ encode s) (sym next-byte ∙ ap (λ (k : ℕ). drop (from + k) m) (sym r.many)))

      zero-there : (count ≡ 254 → ⊥) → get_or m (from + count) 0 ≡ 0
      zero-there ne =
          rw r.many (sym (get_or-drop from m (length bytes) 0) ∙ run-stops 254 (drop from m) (omega (arith, r.many, few)) (omega (arith, r.many, length-drop from m)))

      pub framing-ended : (count ≡ 254 → ⊥) → Framing m out₀ (from + count + 1) (at + 1 + count) (set left at (count + 1))
      framing-ended ne =
          goes_on (from + count + 1) (omega arith) (ap encode (cut ∙ ap (λ (s : List ℕ). bytes ++ s) (next-byte ∙ ap (λ (b : ℕ). b ∷ drop (from + count + 1) m) (zero-there ne))) ∙ (by-groups bytes (run-clean 254 (drop from m))).ended (drop (from + count + 1) m) (omega (arith, r.many, few)))

    -- the last group, and the closing zero behind it
    pub framing-last : length m ≤ from + count → Put (frame m) out₀ (at + 1 + count + 1) (set (set left at (count + 1)) (at + 1 + count) 0)
    unfolding frame
    framing-last past =
        let nothing : drop behind m ≡ [] = drop_of_length-le m {i = behind} (omega (arith, r.many)) in
        let last : encode (drop from m) ≡ group bytes = ap encode (cut ∙ ap (λ (s : List ℕ). bytes ++ s) nothing ∙ append-nil bytes) ∙ (by-groups bytes (run-clean 254 (drop from m))).last few in
        let whole : h.made ++ group bytes ≡ encode m = ap (λ (s : List ℕ). h.made ++ s) (sym last) ∙ h.same in
        let place : at + 1 + count ≡ length (encode m) = now-count ∙ ap length whole in
        record {
          many = omega (arith, place, length-append (encode m) (0 ∷ []));
          stored = rw (now-made, whole, place, ← zero-add (length (encode m))) (sets-append out₀ 0 (encode m) (0 ∷ []));
        }

  -- ---- zeros that follow, for which 01 is put each

  -- a byte for each that is left has its place
  pub framing-fillable : Fillable m from out at
  framing-fillable = record { within = h.within; fits = omega (arith, framing-all) }

  pub framing-filled : {n : ℕ} {left : List ℕ} → Filled m from out at n left → at + n < length out₀
  framing-filled f = omega (arith, framing-all, framing-long, f.inside)

  pub framing-ones : {n : ℕ} {left : List ℕ} → Filled m from out at n left → Framing m out₀ (from + n) (at + n) left
  framing-ones {n} f = record {
    made = h.made ++ replicate n 1;
    count = omega (arith, h.count, length-append h.made (replicate n 1), length-replicate {A = ℕ} n 1);
    within = f.inside;
    same = append_assoc h.made (replicate n 1) (encode (drop (from + n) m)) ∙ ap (λ (s : List ℕ). h.made ++ s) (sym (zero-groups n (drop (from + n) m)) ∙ ap encode (sym f.zeros)) ∙ h.same;
    stored = f.stored ∙ rw (h.stored, h.count, ← zero-add (length h.made)) (sets-append out₀ 0 h.made (replicate n 1));
  }
