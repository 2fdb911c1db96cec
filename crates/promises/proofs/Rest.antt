-- A reading stays inside its message, so that what it reached stands as far behind the front as its answer tells.
-- Assumes nothing.
use Rattle.std.specs.Prelude.{Err}
use mathlib.Core.Path.{◌≡◌, ap}
use mathlib.Core.Bool.{false}
use mathlib.Core.List.{List}
use Prim.Native.Nat.{ℕ, ◌+◌}
use native.Mathlib.Nat.{zero-add}
use native.Mathlib.Omega.{arith}
use lib.ListN.{drop}
use Rattle.wire.specs.Checked.{Checked}
use Rattle.wire.specs.Checked.{Good, Bad}
use Rattle.wire.specs.Table.{check, shape_of}
use Rattle.wire.specs.Values.{Entry}
use Rattle.wire.specs.Reading.{Spot, past, Outcome, reached, front, read, fit}
use Rattle.wire.specs.Answers.{room_of, read_by, read_answer, rest_of, reads}
use Rattle.laws.specs.Bounds.{Stays, reaches, refuses}
use Rattle.laws.proofs.Bounds.{head-sound, read_stays}
use Rattle.laws.proofs.Runs.{fit-reached}
use Rattle.laws.proofs.ReadBy.{reads_plain}
use Rattle.promises.specs.Rest.{RestIsLeft}

-- a spot that the whole reading reaches stands so many bytes behind the message's front
reached-behind : (message : List ℕ) (es : List Entry) {o : Outcome} (x : Spot) → Stays (front message) es o → o ≡ reached x → drop x.place message ≡ x.bytes
unfolding past
reached-behind message es x (reaches {z} n l e s) h =
    let here : x ≡ record { bytes = drop n message; place = 0 + n } = cc in rw (here, zero-add n)
reached-behind message es x (refuses l e s) h = let z : ◌≡◌ {A = ℕ} 0 1 = cc in absurd (omega arith)

pub rest-is-left : RestIsLeft
unfolding reads read_by rest_of read_answer read
rest-is-left table message store n x = go (check table)
  where
    go : (c : Checked) → (read_by false c table (room_of store) message).ends ≡ reached x → drop x.place message ≡ x.bytes
    go (Good l) e =
        let run = read (shape_of table l) (front message) in
        let fitted = fit (room_of store) run in
        let free = (fit-reached (room_of store) run fitted.made x (ap (λ o. record { made = fitted.made; ends = o }) (rw reads_plain at e))).1 in
        reached-behind message run.made x (read_stays head-sound (shape_of table l) (front message)) (ap (λ r. r.ends) free)
    go (Err r) h = let z : ◌≡◌ {A = ℕ} 0 1 = cc in absurd (omega arith)
