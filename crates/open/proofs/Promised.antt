-- The contracts of the public calls: the root is held first, alone; and the list is handed back zero.
-- Assumes nothing.
use Rattle.std.specs.Prelude.{Err, Ok}
use mathlib.Core.Path.{◌≡◌, refl, sym, ap, ap₂, ◌∙◌}
use mathlib.Core.List.{List, [], ◌∷◌, ◌++◌}
use Prim.Native.Nat.{ℕ, ◌+◌, ◌*◌, ◌<◌, ◌≤◌}
use native.Mathlib.Omega.{arith}
use lib.ListN.{length, take, drop, replicate}
use lib.Seq.{length-take-le, take_at, drop_at}
use borrow.Author.Tests.{le-leb, lt-leb}
use Rattle.wire.specs.declared.Refusal.{Refusal}
use Rattle.wire.specs.declared.Layout.{Layout}
use Rattle.wire.specs.Checked.{Good}
use Rattle.wire.specs.ReadAnswer.{ReadAnswer}
use Rattle.wire.specs.ReadAnswer.{Done as Read, Refused as NotRead}
use Rattle.wire.specs.Tests.{given}
use Rattle.wire.specs.Table.{check}
use Rattle.wire.specs.Reading.{Head, Spot, Run, reading}
use Rattle.wire.specs.Answers.{rest_of, zeroed}
use Rattle.laws.specs.Answered.{Reads}
use Rattle.laws.proofs.Runs.{then-nothing}
use Rattle.laws.proofs.Tables.{good-table}
use Rattle.desk.specs.declared.NotOpened.{NotOpened}
use Rattle.desk.specs.declared.NotOpened.TheVariants.{Refused as Left, ShortList as TooShort}
use Rattle.desk.specs.OpenAnswer.{OpenAnswer}
use Rattle.desk.specs.OpenAnswer.{Done, Refused, ShortList}
use Rattle.desk.specs.Listed.{list_words, open_answer, open_rest, listed_answer, listed_store, list_after, ReadsListed}
use Rattle.table.specs.declared.Way.{Way}
use Rattle.table.specs.Parts.{Flat, rounds_step}
use Rattle.table.proofs.Stretches.{root-number, flat-falls}
use Rattle.open.specs.declared.Held.{Held}
use Rattle.open.specs.Items.{holding, helds_of, pending, Sinks, Chain, bottom, over}
use Rattle.open.specs.Promise.{OneListed, SameAsFirst}
use Rattle.open.proofs.Words.{helds-held}
use Rattle.open.proofs.Chains.{flat-sinks}
use Rattle.open.proofs.Pending.{pending-over}

-- ---- the root

module _ (table : List ℕ) {l : Layout} (good : check table ≡ Good l) (at : ℕ) (place : at + 4 ≡ length table) {way : Way} (flat : Flat table l l.nodes at 1 way)
    (o : List ℕ) {o' : List ℕ} (long : length o ≡ 1024) (held : o' ≡ holding o 0 (record { from = way.from; width = way.width; headed = way.headed; left = 0; rounds = 1 })) where
  abbrev first : Held
  first = record { from = way.from; width = way.width; headed = way.headed; left = 0; rounds = 1 }

  alone : helds_of o' 1 ≡ first ∷ []
  unfolding helds_of
  alone = rw held (helds-held o 0 first (omega arith))

  root-sinks : Sinks table l at 1 256
  root-sinks = record { at = λ c h. let e : at + 2 * c ≡ at = omega arith in rw (e, root-number table good at place) ((good-table table l good).short-chains l.root (good-table table l good).root_below) }

  pub root-chain : Chain table l 1 (helds_of o' 1)
  root-chain =
      let g = good-table table l good in
      rw alone (over {k = 1} {most = 256} {f = first} {fs = []} (omega arith) (flat-falls g (omega arith) flat) (flat-sinks g (omega arith) root-sinks flat) (omega arith) (bottom {k = 257} (omega arith)))

  -- it leaves one round of itself
  pub root-pending : (h : Head) (x : Spot) → pending h table l (helds_of o' 1) x ≡ rounds_step (reading h) table l 1 way.headed way.from way.width x
  unfolding pending
  root-pending h x = rw alone (pending-over h table l first [] x (omega arith) ∙ then-nothing (rounds_step (reading h) table l 1 way.headed way.from way.width) x)

-- ---- the list

pub list-words : list_words ≡ 1024
unfolding list_words
list-words = refl

-- words that were lent, and cleared after that: what they were left with does not matter
module _ (n : ℕ) (list : List ℕ) (long : n ≤ length list) where
  pub part-long : list_words ≡ n → length (take n list) ≡ list_words
  part-long all = rw all (length-take-le n list long)

  pub handed-back : (part : List ℕ) {zeros : List ℕ} → length part ≡ length (take n list) → zeros ≡ replicate (length (take n (part ++ drop n list))) 0 → zeros ++ drop n (part ++ drop n list) ≡ zeroed n list
  unfolding zeroed
  handed-back part same e =
      let size = same ∙ length-take-le n list long in
      rw (e, take_at part (drop n list) n size, drop_at part (drop n list) n size, size)

-- ---- the public calls

module _ (w : Run) (store list : List ℕ) where
  pub listed-short : length list < list_words → ReadsListed w store list ShortList store list
  unfolding listed_answer listed_store list_after given
  listed-short h = let short = lt-leb list_words (length list) h in record { answered = rw short; stored = rw short; cleared = rw short }

  pub listed-long : {n : ℕ} → list_words ≡ n → n ≤ length list → {a : ReadAnswer} {st : List ℕ} → Reads w store a st → {r : OpenAnswer} → r ≡ open_answer a → {o : List ℕ} → o ≡ zeroed n list
      → ReadsListed w store list r st o
  unfolding listed_answer listed_store list_after given
  listed-long all h reads e z =
      let long = le-leb list_words (length list) (rw all h) in
      record { answered = rw long (e ∙ ap open_answer reads.answered); stored = rw long reads.stored; cleared = rw (long, all) z }

module _ {a : ReadAnswer} where
  pub opened-done : {p n : ℕ} → a ≡ Read p n → Done p n ≡ open_answer a
  unfolding open_answer
  opened-done e = rw e

  pub opened-refused : {why : Refusal} {p n : ℕ} → a ≡ NotRead why p n → Refused why p n ≡ open_answer a
  unfolding open_answer
  opened-refused e = rw e

-- ---- no choice

pub one-listed : OneListed
one-listed run store list x y f g =
    ap₂ (λ a (lent : List ℕ × List ℕ). (a, lent.0, lent.1)) (f.answered ∙ sym g.answered) (ap₂ (λ s o. (s, o)) (f.stored ∙ sym g.stored) (f.cleared ∙ sym g.cleared))

-- ---- the rest

module _ (message : List ℕ) (a : OpenAnswer) where
  pub rest-done : {p n : ℕ} → a ≡ Done p n → {r : List ℕ} → r ≡ drop p message → r ≡ open_rest message a
  unfolding open_rest
  rest-done e h = rw e h

  pub rest-none : {e : NotOpened} → a ≡ Err e → [] ≡ open_rest message a
  unfolding open_rest
  rest-none {e} h = rw h (none e)
    where
      none : (e : NotOpened) → [] ≡ open_rest message (Err e)
      none (Left why p n) = refl
      none TooShort = refl

-- ---- beside the first reader

same_rest : (message : List ℕ) (a : ReadAnswer) → open_rest message (open_answer a) ≡ rest_of message a
unfolding open_rest open_answer rest_of
same_rest message (Ok r) = refl
same_rest message (Err r) = refl

pub same-as-first : SameAsFirst
unfolding listed_answer listed_store given
same-as-first run store list message left left' list' a b long h k =
    let enough = le-leb list_words (length list) long in
    let answer = rw enough at k.answered ∙ ap open_answer (sym h.answered) in
    (answer, rw enough at k.stored ∙ sym h.stored, ap (open_rest message) answer ∙ same_rest message a)
