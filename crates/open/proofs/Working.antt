-- Working off the open items: what they leave is the whole reading, after every turn.
-- Assumes nothing.
use mathlib.Core.Path.{◌≡◌, refl, ◌∙◌}
use mathlib.Core.List.{List, []}
use Prim.Native.Nat.{ℕ, zero, suc, ◌+◌, ◌-◌, ◌≤◌}
use native.Mathlib.Omega.{arith}
use lib.ListN.{length}
use Rattle.wire.specs.declared.Refusal.{Refusal}
use Rattle.wire.specs.declared.Layout.{Layout}
use Rattle.wire.specs.ReadAnswer.{Done, Refused as NotRead}
use Rattle.wire.specs.Reading.{Head}
use Rattle.laws.proofs.Parts.{tail, length-tail}
use Rattle.read_item.specs.Lay.{Left, lay}
use Rattle.read_item.specs.Steps.{spot}
use Rattle.read_item.proofs.Laying.{lay-nothing}
use Rattle.reader.specs.Steps.{Gives}
use Rattle.reader.proofs.Laying.{gives-done}
use Rattle.reader.proofs.Turns.{from}
use Rattle.laws.proofs.Answers.{same-refused}
use Rattle.open.proofs.Steps.{same-on}
use Rattle.open.specs.Step.{Step}
use Rattle.open.specs.Step.{On, Refused}
use Rattle.open.specs.Items.{helds_of, pending, Chain, load}
use Rattle.open.specs.Steps.{Goes, Turns, goes, refuses, Works}

-- ---- how a turn ended

module _ {h : Head} {room : ℕ} {s : List ℕ} {l : Layout} {w : Left} {most : ℕ} {bs : List ℕ} {p : ℕ} {r : Step} {st o : List ℕ} where
  turns-on : Turns h room s l w most bs p r st o → {e q k : ℕ} → r ≡ On e q k → Goes h room s l w most bs p e q k st o
  turns-on t {e} {q} {k} same = go t same
    where
      go : {a : Step} {t u : List ℕ} → Turns h room s l w most bs p a t u → a ≡ On e q k → Goes h room s l w most bs p e q k t u
      go (goes g) same = let parts = same-on same in rw (parts.0, parts.1, parts.2) at g
      go (refuses g) same = let z : ◌≡◌ {A = ℕ} 0 1 = cc in absurd (omega arith)

  turns-refused : Turns h room s l w most bs p r st o → {why : Refusal} {q k : ℕ} → r ≡ Refused why q k → Gives w (NotRead why q k) st
  turns-refused t {why} {q} {k} same = go t same
    where
      go : {a : Step} {t u : List ℕ} → Turns h room s l w most bs p a t u → a ≡ Refused why q k → Gives w (NotRead why q k) t
      go (goes g) same = let z : ◌≡◌ {A = ℕ} 0 1 = cc in absurd (omega arith)
      go (refuses g) same = let parts = same-refused same in rw (parts.0, parts.1, parts.2) at g

-- ---- turn after turn

-- the first d items of the list o leave the whole, at the place p behind m entries; so many bytes are the message
pub record Working (h : Head) (room : ℕ) (s : List ℕ) (l : Layout) (w : Left) (size : ℕ) (o : List ℕ) (d : ℕ) (bs : List ℕ) (p m : ℕ) (st : List ℕ) : Type 0 where
  pub whole : w ≡ lay room (pending h s l (helds_of o d) (spot bs p)) m st
  pub chain : Chain s l 1 (helds_of o d)
  pub fits : p + length bs ≡ size

helds-none : (o : List ℕ) (d : ℕ) → d ≤ 0 → helds_of o d ≡ []
unfolding helds_of
helds-none o zero h = refl
helds-none o (suc d) h = absurd (omega arith)

module _ {h : Head} {room : ℕ} {s : List ℕ} {l : Layout} {w : Left} {size : ℕ} {o : List ℕ} {d : ℕ} {bs : List ℕ} {p m : ℕ} {st : List ℕ} (working : Working h room s l w size o d bs p m st) where
  -- no item is open
  pub works-done : d ≤ 0 → Gives w (Done p m) st
  unfolding pending
  works-done none = gives-done (spot bs p) (working.whole ∙ rw (helds-none o d none) (lay-nothing room (spot bs p) m st))

  module _ {r : Step} {st' o' : List ℕ} (turn : Works h room s l (helds_of o d) bs p m st r st' o') where
    -- a turn is refused
    pub works-refused : {why : Refusal} {q k : ℕ} → r ≡ Refused why q k → Gives w (NotRead why q k) st'
    works-refused e = rw working.whole (turns-refused turn e)

    -- or goes on
    module _ {e q k : ℕ} (on : r ≡ On e q k) where
      pub works-goes : Goes h room s l (lay room (pending h s l (helds_of o d) (spot bs p)) m st) (load room m (helds_of o d)) bs p e q k st' o'
      works-goes = turns-on turn on

      pub works-on : Working h room s l w size o' e (from bs p q) q k st'
      works-on = record {
        whole = working.whole ∙ works-goes.whole ∙ rw (tail bs (q - p));
        chain = works-goes.chain;
        fits = omega (arith, working.fits, works-goes.up, works-goes.inside, length-tail bs (q - p));
      }
