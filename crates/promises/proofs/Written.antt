-- What was written was written by a good table, of all the entries; so it is what their values spell, and is read back.
-- Assumes nothing.
use Rattle.std.specs.Prelude.{Err}
use mathlib.Core.Path.{◌≡◌, refl, subst, ◌∙◌}
use mathlib.Core.List.{List, [], ◌∷◌, ◌++◌, append-nil}
use mathlib.Core.List as lists
use Prim.Native.Nat.{ℕ, suc, ◌%◌}
use native.Mathlib.Omega.{arith}
use lib.Dec.{leb, eqb}
use lib.ListN.{length}
use borrow.Author.Tests.{eqb-true}
use Rattle.wire.specs.declared.Refusal.{Refusal}
use Rattle.wire.specs.declared.Layout.{Layout}
use Rattle.wire.specs.Checked.{Checked}
use Rattle.wire.specs.Checked.{Good, Bad}
use Rattle.wire.specs.Shape.{Shape}
use Rattle.wire.specs.Walk.{walk}
use Rattle.wire.specs.Table.{check, shape_of}
use Rattle.wire.specs.Values.{Entry, Tag, kept, tell, value_of, whole, valued, values}
use Rattle.wire.specs.Reading.{read}
use Rattle.wire.specs.Writing.{Wrote, wrote, misfit, write}
use Rattle.wire.specs.Answers.{words_per, entries_of, Form, form, no_form, form_of, formed, write_by, writes}
use Rattle.laws.specs.Range.{AreWords}
use Rattle.laws.specs.Told.{Tells}
use Rattle.laws.proofs.Splits.{of-pick, of-given}
use Rattle.promises.proofs.Spelling.{spelt, spelling}
use Rattle.promises.proofs.Trips.{AreEntries, Again, Back, GoodBack, trip}

-- ---- from the answer to the walk

never : {X : Type 0} {e : Refusal} {p : ℕ} {s : List ℕ} → no_form e p ≡ form s → X
never h = let z : ◌≡◌ {A = ℕ} 0 1 = cc in absurd (omega arith)

form-whole : (room : ℕ) {s : List ℕ} (t : List ℕ) (i : ℕ) (es : List Entry) → form_of room t i es ≡ form s → (t ≡ s) × (es ≡ [])
unfolding form_of
form-whole room {s} t i [] h = (of-pick (λ f. f ≡ form s → t ≡ s) (leb (length t) room) _ _ (λ e h. cc) (λ e h. never h) h, refl)
form-whole room t i (e ∷ es) h = never h

formed-whole : (room : ℕ) {s : List ℕ} (w : Wrote) → formed room w ≡ form s → (i : ℕ) × (w ≡ wrote s (record { at = i; entries = [] }))
unfolding formed
formed-whole room (wrote t x) h =
    let is = form-whole room t x.at x.entries h in
    (x.at, rw (is.0, ← is.1))
formed-whole room (misfit i) h = never h

-- the words of whole entries, all of which were written to s by a good table's shape
pub record Written (table ws pool s : List ℕ) : Type 0 where
  pub layout : Layout
  pub is-good : check table ≡ Good layout
  pub even : length ws % words_per ≡ 0
  pub count : ℕ
  pub is : write (shape_of table layout) pool (record { at = 0; entries = entries_of ws }) ≡ wrote s (record { at = count; entries = [] })

pub written : (table ws pool : List ℕ) (room : ℕ) (s : List ℕ) → writes table ws pool room ≡ form s → Written table ws pool s
unfolding writes write_by
written table ws pool room s = go (check table) refl
  where
    go : (c : Checked) → check table ≡ c → write_by c table ws pool room ≡ form s → Written table ws pool s
    go (Err r) c h = never h
    go (Good l) c h =
        of-given (λ (f : Form). f ≡ form s → Written table ws pool s) (eqb (length ws % words_per) 0) _ _
        (λ even h.
        let w = formed-whole room _ h in
        record { layout = l; is-good = c; even = eqb-true (length ws % words_per) 0 even; count = w.0; is = w.1 })
        (λ odd h. never h)
        h

-- ---- all entries of a shape

pub entries-words : (ws : List ℕ) → AreWords ws → AreEntries (entries_of ws)
unfolding entries_of
entries-words [] h = tt
entries-words (a ∷ []) h = tt
entries-words (a ∷ b ∷ []) h = tt
entries-words (a ∷ b ∷ p ∷ s) h = (h 0, h 1, entries-words s (λ i. h (suc (suc (suc i)))))

pub values-told : (t : Shape) (pool : List ℕ) {es : List Entry} {ts : List Tag} → Tells (tell t) es ts → values t pool es ≡ whole (lists.map (value_of pool) ts)
unfolding values valued
values-told t pool {es} h = rw (rw append-nil at (h.told []))

-- what becomes of entries that are all written to s
pub record Whole (t : Shape) (pool : List ℕ) (es : List Entry) (s : List ℕ) : Type 0 where
  pub tags : List Tag
  pub items : tell t es ≡ kept tags []
  pub are : values t pool es ≡ whole (lists.map (value_of pool) tags)
  pub spells : walk spelling t (lists.map (value_of pool) tags) ≡ spelt s []
  pub again : AreEntries es → (rest : List ℕ) → Again pool (read t) (tell t) (length es) tags s 0 rest (s ++ rest)

all-written : (t : Shape) (pool : List ℕ) (es : List Entry) (s : List ℕ) (i : ℕ)
    → write t pool (record { at = 0; entries = es }) ≡ wrote s (record { at = i; entries = [] }) → Whole t pool es s
all-written t pool es s i is = go (subst (GoodBack pool (read t) (tell t) (walk spelling t) es) is ((trip pool t).back _))
  where
    go : Back pool (read t) (tell t) (walk spelling t) es s [] → Whole t pool es s
    go b =
        let all-used : es ≡ b.used = b.split ∙ append-nil b.used in
        rw all-used
        (record {
          tags = b.tags;
          items = rw append-nil at (b.tells.told []);
          are = values-told t pool b.tells;
          spells = rw append-nil at (b.spells []);
          again = λ h rest. b.again h 0 rest (s ++ rest) refl;
        })

pub whole_of : {table ws pool s : List ℕ} (w : Written table ws pool s) → Whole (shape_of table w.layout) pool (entries_of ws) s
whole_of {table} {ws} {pool} {s} w = all-written (shape_of table w.layout) pool (entries_of ws) s w.count w.is
