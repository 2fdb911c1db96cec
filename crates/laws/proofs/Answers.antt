-- Two answers that are one have the same parts.
-- Assumes nothing.
use mathlib.Core.Path.{◌≡◌, ap, ◌∙◌}
use Prim.Native.Nat.{ℕ}
use Rattle.std.specs.Prelude.{Result, Ok, Err}
use Rattle.std.specs.Result.{IsErr, IsErrAnd}
use Rattle.std.proofs.lemmas.Result.{err_from_is_err_and}
use Rattle.wire.specs.declared.Refusal.{Refusal}
use Rattle.wire.specs.declared.RefusedAt.{RefusedAt}
use Rattle.wire.specs.declared.Reached.{Reached}
use Rattle.wire.specs.declared.Stopped.{Stopped}
use Rattle.wire.specs.Checked.{Bad}
use Rattle.wire.specs.ReadAnswer.{Done}

-- what `?` returns: the error that came
pub handed-up : {T E : Type 0} {r : Result T E} {e : E} → IsErr r × IsErrAnd r (λ y. y ≡ e) → r ≡ Err e
handed-up {r = r} h = let p = err_from_is_err_and r h.1 in p.1 ∙ ap Err p.2

pub same-bad : {e e' : Refusal} {p p' : ℕ} → Bad e p ≡ Bad e' p' → (e ≡ e') × (p ≡ p')
same-bad {e} {e'} {p} {p'} h =
    let same : ◌≡◌ {A = RefusedAt} (record { why = e; place = p }) (record { why = e'; place = p' }) = cc in
    (ap (λ r. r.why) same, ap (λ r. r.place) same)

pub same-done : {p p' n n' : ℕ} → Done p n ≡ Done p' n' → (p ≡ p') × (n ≡ n')
same-done {p} {p'} {n} {n'} h =
    let same : ◌≡◌ {A = Reached} (record { place = p; count = n }) (record { place = p'; count = n' }) = cc in
    (ap (λ r. r.place) same, ap (λ r. r.count) same)

pub same-refused : {T : Type 0} {e e' : Refusal} {p p' n n' : ℕ} → ◌≡◌ {A = Result T Stopped} (Err (record { why = e; place = p; count = n })) (Err (record { why = e'; place = p'; count = n' }))
    → (e ≡ e') × (p ≡ p') × (n ≡ n')
same-refused {e = e} {e'} {p} {p'} {n} {n'} h =
    let same : ◌≡◌ {A = Stopped} (record { why = e; place = p; count = n }) (record { why = e'; place = p'; count = n' }) = cc in
    (ap (λ r. r.why) same, ap (λ r. r.place) same, ap (λ r. r.count) same)
