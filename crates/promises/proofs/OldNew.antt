-- A yes is given of good tables only, and asks of their shapes; how the old shape tells the new entries apart decides which of the two cases holds.
-- Assumes nothing.
use Rattle.std.specs.Prelude.{Err}
use mathlib.Core.Path.{◌≡◌, refl, sym, ap, ◌∙◌}
use mathlib.Core.Bool.{Bool, true, false}
use mathlib.Core.List.{List, ◌++◌}
use mathlib.Core.Option.{some}
use Prim.Native.Nat.{ℕ}
use native.Mathlib.Omega.{arith}
use lib.ListN.{length}
use Rattle.wire.specs.declared.Refusal.{Refusal}
use Rattle.wire.specs.declared.Layout.{Layout}
use Rattle.wire.specs.Checked.{Checked}
use Rattle.wire.specs.Checked.{Good, Bad}
use Rattle.wire.specs.AskAnswer.{Says}
use Rattle.wire.specs.Shape.{Shape}
use Rattle.wire.specs.Table.{check, shape_of}
use Rattle.wire.specs.Values.{Entry, Told, kept, lacks, short, tell, Value, Valued, whole, too_short, values}
use Rattle.wire.specs.Reading.{Spot, Outcome, reached, refused, Run}
use Rattle.wire.specs.Append.{appends}
use Rattle.wire.specs.Answers.{room_of, read_by, reads, area_bytes, ask_by, asks}
use Rattle.laws.specs.Told.{over}
use Rattle.laws.proofs.Splits.{by-lt}
use Rattle.laws.proofs.Areas.{length-zeroed, zeroed-at, zeroed-behind, area-short, area-long, asks-short, asks-long}
use Rattle.laws.proofs.Told.{tells_all}
use Rattle.promises.specs.OldNew.{AppendsTo, YesExactly, ShortAreas, HandedBack, OldMakes, same, unknown, OldReads, OldTableReads}
use Rattle.promises.specs.Shapes.{seen, OldValues, all-kept, cut}
use Rattle.promises.proofs.ShapeValues.{shape-old-reads-within, shape-never-another}
use Rattle.promises.proofs.ShapeYes.{shape-yes-exactly}

-- ---- yes

-- two good tables are asked by their shapes
says : (old new : List ℕ) {l m : Layout} → check old ≡ Good l → check new ≡ Good m
    → ask_by (check old) (check new) old new ≡ Says (appends (shape_of old l) (shape_of new m))
unfolding ask_by
says old new good_old good_new = rw (good_old, good_new)

-- a yes is of two good tables
both-good : (c d : Checked) (old new : List ℕ) → ask_by c d old new ≡ Says true → (l m : Layout) × (c ≡ Good l) × (d ≡ Good m)
unfolding ask_by
both-good (Good l) (Good m) old new e = (l, m, refl, refl)
both-good (Good l) (Err r) old new e = let z : ◌≡◌ {A = ℕ} 0 1 = cc in absurd (omega arith)
both-good (Err r) d old new e = let z : ◌≡◌ {A = ℕ} 0 1 = cc in absurd (omega arith)

-- and with an area that is long enough
yes-long : (old new area : List ℕ) → asks old new area ≡ Says true → ask_by (check old) (check new) old new ≡ Says true
yes-long old new area y =
    by-lt (length area) area_bytes
    (λ h. let e = sym (asks-short area old new h) ∙ y in let z : ◌≡◌ {A = ℕ} 0 1 = cc in absurd (omega arith))
    (λ h. sym (asks-long area old new h) ∙ y)

yes-appends : (old new area : List ℕ) → asks old new area ≡ Says true → AppendsTo old new
yes-appends old new area says-yes =
    let y = yes-long old new area says-yes in
    let (l, m, good_old, good_new) = both-good (check old) (check new) old new y in
    let answer = says old new good_old good_new in
    record {
      old_layout = l;
      new_layout = m;
      good_old = good_old;
      good_new = good_new;
      appends = (shape-yes-exactly (shape_of old l) (shape_of new m)).0 (cc answer);
    }

pub yes-exactly : YesExactly
yes-exactly old new area h = (
  yes-appends old new area,
  λ a. asks-long area old new h ∙ says old new a.good_old a.good_new ∙ ap Says ((shape-yes-exactly _ _).1 a.appends),
)

-- ---- the work area

pub short-areas : ShortAreas
short-areas old new area h = (asks-short area old new h, area-short area h)

pub handed-back : HandedBack
handed-back area h = rw (area-long area h) (record {
  zeros = λ i b. zeroed-at area_bytes area i b;
  behind = zeroed-behind area_bytes area;
  as_long = length-zeroed area_bytes area h;
})

-- ---- the old table's reading

-- the values of a reading that ended well, and of one that was refused
kept-values : {vs : List Value} {o : Outcome} {v : Valued} {x : Spot} → OldValues vs o v → o ≡ reached x
    → (us more : List Value) × (v ≡ whole us) × (vs ≡ us ++ more)
kept-values (all-kept {us} more e) h = (us, more, refl, e)
kept-values (cut more e) h = let z : ◌≡◌ {A = ℕ} 0 1 = cc in absurd (omega arith)

cut-values : {vs : List Value} {o : Outcome} {v : Valued} {w : Refusal} {p : ℕ} → OldValues vs o v → o ≡ refused w p
    → (us more : List Value) × (v ≡ too_short us) × (vs ≡ us ++ more)
cut-values (all-kept more e) h = let z : ◌≡◌ {A = ℕ} 0 1 = cc in absurd (omega arith)
cut-values (cut {us} more e) h = (us, more, refl, e)

one-run : {a b : Run} → some a ≡ some b → b ≡ a
one-run e = cc

module _ (t : Shape) (message : List ℕ) (end : ℕ) (es : List Entry) (vs : List Value) where
  by-told : (w : Told) → tell t es ≡ w → over w ≡ es → (r : Run) → seen message end w ≡ some r → OldValues vs r.ends (values t message r.made)
      → OldMakes t message end es vs r
  unfolding over seen
  by-told (kept ts rest) e all r s v =
      let (us, more, are, front) = kept-values v (ap (λ r. r.ends) (one-run s)) in
      rw (one-run s) (same ts rest us more e (sym all) (ap (λ r. values t message r.made) (sym (one-run s)) ∙ are) front)
  by-told (lacks ts x rest) e all r s v =
      let (us, more, are, front) = cut-values v (ap (λ r. r.ends) (one-run s)) in
      rw (one-run s) (unknown ts x rest us more e (sym all) (ap (λ r. values t message r.made) (sym (one-run s)) ∙ are) front)
  by-told (short ts) e all r s v = let z : ◌≡◌ {A = ℕ} 0 1 = cc in absurd (omega arith)

-- either way of reading
pub old-reads-by : (strict : Bool) → OldReads (λ table message store. read_by strict (check table) table (room_of store) message)
unfolding read_by
old-reads-by strict old new area y message store es end h =
    let a = yes-appends old new area y in
    let h = rw a.good_new at h in
    let sees = shape-old-reads-within strict _ _ a.appends (room_of store) message es end h in
    let (vs, are, olds) = shape-never-another strict _ _ a.appends (room_of store) message es end h in (
      a.old_layout,
      a.new_layout,
      a.good_old,
      a.good_new,
      vs,
      are,
      rw a.good_old (by-told _ message end.place es vs _ refl (tells_all _ es) _ sees olds),
    )

pub old-table-reads : OldTableReads
unfolding reads
old-table-reads = old-reads-by false
