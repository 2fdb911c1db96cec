-- What is written is spelled by the values alone, so the same values are written to the same bytes.
-- Assumes nothing.
use mathlib.Core.Path.{◌≡◌, sym, ap, ◌∙◌}
use mathlib.Core.List.{List}
use mathlib.Core.List as lists
use Prim.Native.Nat.{ℕ}
use Rattle.wire.specs.declared.Layout.{Layout}
use Rattle.wire.specs.Checked.{Good}
use Rattle.wire.specs.Shape.{Shape}
use Rattle.wire.specs.Walk.{walk}
use Rattle.wire.specs.Table.{check, shape_of}
use Rattle.wire.specs.Values.{Entry, Value, value_of, whole, values}
use Rattle.wire.specs.Answers.{entries_of, form, writes}
use Rattle.promises.specs.RoundTrip.{SameBytes}
use Rattle.promises.proofs.Spelling.{Spelling, spelt, spelling}
use Rattle.promises.proofs.Written.{written, Whole, whole_of}

abbrev bytes_of : Spelling → List ℕ
bytes_of (spelt s vs) = s

whole-spelt : {t : Shape} {pool : List ℕ} {es : List Entry} {s : List ℕ} (vs : List Value) → Whole t pool es s → values t pool es ≡ whole vs → s ≡ bytes_of (walk spelling t vs)
whole-spelt {pool} vs all e =
    let same : lists.map (value_of pool) all.tags ≡ vs = cc all.are in
    rw (← same) (sym (ap bytes_of all.spells))

spelt-by : (table ws pool : List ℕ) (room : ℕ) (s : List ℕ) (l : Layout) (vs : List Value) → check table ≡ Good l → writes table ws pool room ≡ form s
    → values (shape_of table l) pool (entries_of ws) ≡ whole vs → s ≡ bytes_of (walk spelling (shape_of table l) vs)
spelt-by table ws pool room s l vs is-good e are =
    let w = written table ws pool room s e in
    let same : w.layout ≡ l = cc w.is-good in
    let all : Whole (shape_of table l) pool (entries_of ws) s = rw same at (whole_of w) in
    whole-spelt vs all are

pub same_bytes : SameBytes
same_bytes table ws ws' pool pool' room room' s s' l is-good e e' same =
    spelt-by table ws pool room s l same.them is-good e same.those
    ∙ sym (spelt-by table ws' pool' room' s' l same.them is-good e' same.these)
