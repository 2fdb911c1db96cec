-- Messages end to end, one step after the other: what was split so far, and what the next message adds.
-- Assumes nothing.
use mathlib.Core.Path.{◌≡◌, refl, sym, ap, ◌∙◌}
use mathlib.Core.Bool.{true}
use mathlib.Core.List.{List, [], ◌∷◌, ◌++◌, append-nil}
use Prim.Native.Nat.{ℕ, ◌+◌, ◌-◌, ◌≤◌, ◌<◌}
use native.Mathlib.Omega.{arith}
use lib.ListN.{length, drop, length-append, length-drop}
use lib.Seq.{drop-drop, drop-append_seam}
use Rattle.wire.specs.declared.Refusal.{Refusal}
use Rattle.desk.specs.declared.Key.{Key}
use Rattle.desk.specs.Messages.{Keyed, is_keyed, Message, Cut, next, stops, next_of, whole, broken, onto, split_on, split, joined}
use Rattle.batches.proofs.Ends.{next-joins, next-length}
use Rattle.batches.proofs.Onward.{next-some, split-on, split-none, ontos, ontos-one, ontos-whole, ontos-broken, joined-one}
use Rattle.wire.specs.declared.RefusedAt.{RefusedAt}
use Rattle.messages.specs.declared.Message as message
use Rattle.messages.specs.NextMessage.{NextMessage}
use Rattle.messages.specs.NextMessage.{Message as Is, Stops}
use Rattle.messages.specs.Steps.{next_answer}

-- ---- what the code is told

pub record Told (k : Keyed) (s : List ℕ) (key : Key) (len : ℕ) : Type 0 where
  pub message : Message
  pub rest : List ℕ
  pub is : next_of k s ≡ next message rest
  pub its-key : message.key ≡ key
  pub its-length : length message.bytes ≡ len

pub told : (k : Keyed) (s : List ℕ) {r : NextMessage} {key : Key} {len : ℕ} → r ≡ next_answer (next_of k s) → r ≡ Is key len → Told k s key len
told k s {r} {key} {len} e q = go (next_of k s) refl (sym q ∙ e)
  where
    go : (c : Cut) → next_of k s ≡ c → Is key len ≡ next_answer c → Told k s key len
    go (next m rest) a z =
        unfold next_answer in
        (let same : ◌≡◌ {A = message.Message} (record { key = key; len = len }) (record { key = m.key; len = length m.bytes }) = cc in
        record { message = m; rest = rest; is = a; its-key = sym (ap (λ r. r.key) same); its-length = sym (ap (λ r. r.len) same) })
    go (stops why p) a z = unfold next_answer in (let z : ◌≡◌ {A = ℕ} 0 1 = cc in absurd (omega arith))

pub stopped : (k : Keyed) (s : List ℕ) {r : NextMessage} {why : Refusal} {p : ℕ} → r ≡ next_answer (next_of k s) → r ≡ Stops why p → next_of k s ≡ stops why p
stopped k s {r} {why} {p} e q = go (next_of k s) refl (sym q ∙ e)
  where
    go : (c : Cut) → next_of k s ≡ c → Stops why p ≡ next_answer c → next_of k s ≡ stops why p
    go (next m rest) a z = unfold next_answer in (let z : ◌≡◌ {A = ℕ} 0 1 = cc in absurd (omega arith))
    go (stops w x) a z =
        unfold next_answer in
        (let same : ◌≡◌ {A = RefusedAt} (record { why = why; place = p }) (record { why = w; place = x }) = cc in a ∙ sym (ap (λ r. stops r.why r.place) same))

-- ---- the messages so far

pub record SoFar (k : Keyed) (s : List ℕ) (at count : ℕ) (them : List Message) : Type 0 where
  pub so_far : split k s ≡ ontos them (split k (drop at s))
  pub behind : length (joined them) ≡ at
  pub many : length them ≡ count
  pub few : count ≤ at
  pub inside : at ≤ length s

pub begin : (k : Keyed) (s : List ℕ) → SoFar k s 0 0 []
unfolding ontos joined
begin k s = record { so_far = refl; behind = refl; many = refl; few = omega arith; inside = omega arith }

module _ {k : Keyed} {s : List ℕ} {at count : ℕ} {them : List Message} (ok : is_keyed k ≡ true) (w : SoFar k s at count them) where
  module _ (h : at < length s) where
    some_left : 0 < length (drop at s)
    some_left = omega (arith, length-drop at s)

    pub one_more : {key : Key} {len : ℕ} (t : Told k (drop at s) key len) → split k s ≡ ontos them (onto t.message (split k t.rest))
    one_more t = w.so_far ∙ ap (ontos them) (split-on k ok (drop at s) some_left ∙ (unfold split_on in rw t.is))

    pub step : {key : Key} {len : ℕ} (t : Told k (drop at s) key len) → SoFar k s (at + len) (count + 1) (them ++ (t.message ∷ []))
    step {key} {len} t =
        let size = next-length k (drop at s) t.is in
        record {
          so_far = one_more t ∙ sym (ontos-one them t.message (split k t.rest)) ∙ ap (λ r. ontos (them ++ (t.message ∷ [])) (split k r)) rest-is;
          behind = ap length (joined-one them t.message) ∙ length-append (joined them) t.message.bytes ∙ rw (w.behind, t.its-length);
          many = length-append them (t.message ∷ []) ∙ rw w.many;
          few = omega (arith, w.few, next-some k (drop at s) ok t.is, t.its-length);
          inside = omega (arith, length-drop at s, t.its-length);
        }
      where
        rest-is : t.rest ≡ drop (at + len) s
        rest-is =
            sym (drop-append_seam t.message.bytes t.rest) ∙ ap (drop (length t.message.bytes)) (next-joins k (drop at s) t.is)
            ∙ drop-drop (length t.message.bytes) at s ∙ ap (λ n. drop (at + n) s) t.its-length

    pub step_less : {key : Key} {len : ℕ} → Told k (drop at s) key len → 0 < len
    step_less t = omega (arith, next-some k (drop at s) ok t.is, t.its-length)

    pub step-inside : {key : Key} {len : ℕ} → Told k (drop at s) key len → at + len ≤ length s
    step-inside t = (step t).inside

    pub step-stops : {why : Refusal} {p : ℕ} → next_of k (drop at s) ≡ stops why p → split k s ≡ broken why (at + p)
    step-stops {why} {p} e =
        let here : split k (drop at s) ≡ broken why p = split-on k ok (drop at s) some_left ∙ (unfold split_on in rw e) in
        w.so_far ∙ ap (ontos them) here ∙ ontos-broken them why p ∙ rw w.behind

  pub step_end : length s ≤ at → split k s ≡ whole them
  step_end h = w.so_far ∙ ap (ontos them) (split-none k (drop at s) (omega (arith, length-drop at s))) ∙ ontos-whole them [] ∙ rw (append-nil them)
