-- What is read strictly is written again to the same bytes, and an import's message is what the writer writes of those values.
-- Assumes nothing.
use Rattle.std.specs.Prelude.{Err}
use mathlib.Core.Path.{◌≡◌, refl, sym, ap, subst, ◌∙◌}
use mathlib.Core.Bool.{true, false}
use mathlib.Core.List.{List, [], ◌∷◌, append-nil}
use Prim.Native.Nat.{ℕ}
use native.Mathlib.Omega.{arith}
use native.Mathlib.Nat.{zero-add}
use lib.ListN.{take}
use Rattle.wire.specs.Checked.{Checked}
use Rattle.wire.specs.Checked.{Good, Bad}
use Rattle.wire.specs.Shape.{Shape}
use Rattle.wire.specs.Table.{check, shape_of}
use Rattle.wire.specs.Values.{Entry, Value, Valued, whole, too_short, too_long, unknown, values, tell}
use Rattle.wire.specs.Reading.{Spot, front, reached, Run, read}
use Rattle.wire.specs.Writing.{write}
use Rattle.wire.specs.Answers.{read_by, reads, room_of}
use Rattle.laws.proofs.ReadBy.{reads_plain}
use Rattle.laws.proofs.Runs.{fit-reached}
use Rattle.promises.specs.Strict.{tags_of, items_by, items, all_shortest}
use Rattle.promises.proofs.Strict.{strict-exactly}
use Rattle.promises.proofs.RunsAgain.{Rewritten, GoodRun, rewrites}
use Rattle.desk.specs.Csv.{bytes, within, columns_of, message_of, csv_export, export_by, Imports, fits, row_of}
use Rattle.spellings.proofs.Trips.{Exported, was-exported}
use Rattle.spellings.proofs.Writes.{writes-the-same}
use Rattle.csv_rows.specs.Promise.{StrictSameBytes}

abbrev fields_of : Valued → List Value
fields_of (whole []) = []
fields_of (whole (v ∷ vs)) = vs
fields_of (too_short vs) = []
fields_of (too_long vs) = []
fields_of (unknown vs) = []

-- the message of the exported values is what the reading is written again to
bytes-again : (t : Shape) (message row : List ℕ) (es : List Entry) (end : Spot) → read t (front message) ≡ record { made = es; ends = reached end }
    → all_shortest message (tags_of (tell t es)) ≡ true → Rewritten message (write t message) (tell t) 0 message es end → (x : Exported t message row)
    → message_of x.cs x.vs ≡ take end.place message
bytes-again t message row es end r short w x =
    let m = writes-the-same t x.cs message w.out es _ x.have (rw append-nil at (w.writes 0 [])) in
    let entries : (read t (front message)).made ≡ es = ap (λ r. r.made) r in
    let same : x.vs ≡ m.0 = ap fields_of (sym x.are ∙ ap (λ es. values t message es) entries ∙ m.1) in
    let tags : tags_of (tell t es) ≡ w.tags = unfold tags_of in ap tags_of (rw append-nil at (w.tells.told [])) in
    let n : end.place ≡ w.n = ap (λ y. y.place) w.spot ∙ zero-add w.n in
    ap (message_of x.cs) same ∙ m.2 ∙ w.then_same (rw tags at short) ∙ ap (λ k. take k message) (sym n)

pub strict-same-bytes : StrictSameBytes
unfolding csv_export export_by reads read_by items items_by
strict-same-bytes table message store row es end room room' ok strict e =
    let p = (strict-exactly table message store es end).0 strict in
    go (check table) refl p.0 p.1 e
  where
    go : (c : Checked) → check table ≡ c → read_by false c table (room_of store) message ≡ record { made = es; ends = reached end }
        → all_shortest message (items_by c table es) ≡ true → export_by c table message room ≡ bytes row
        → Imports table row room' (within room' (take end.place message))
    go (Err it) q h short e = let z : ◌≡◌ {A = ℕ} 0 1 = cc (ap (λ r. r.ends) h) in absurd (omega arith)
    go (Good l) q h short e =
        let t = shape_of table l in
        let free = (fit-reached (room_of store) (read t (front message)) es end (rw reads_plain at h)).1 in
        let w : Rewritten message (write t message) (tell t) 0 message es end
        = subst (λ (r : Run). GoodRun message (write t message) (tell t) 0 message r.made r.ends) free ((rewrites message ok t).again 0 message refl) in
        let x = was-exported t (columns_of t) message row room ok refl e in
        subst (λ s. Imports table row room' (within room' s)) (bytes-again t message row es end free short w x)
        (fits l x.cs q x.have (row_of x.vs x.may x.is))
