-- Two steps that are one came equally far.
-- Assumes nothing.
use mathlib.Core.Path.{◌≡◌, ap}
use Prim.Native.Nat.{ℕ}
use Rattle.open.specs.declared.Turned.{Turned}
use Rattle.open.specs.Step.{On}

pub same-on : {e e' p p' n n' : ℕ} → On e p n ≡ On e' p' n' → (e ≡ e') × (p ≡ p') × (n ≡ n')
same-on {e} {e'} {p} {p'} {n} {n'} h =
    let same : ◌≡◌ {A = Turned} (record { left = e; place = p; count = n }) (record { left = e'; place = p'; count = n' }) = cc in
    (ap (λ r. r.left) same, ap (λ r. r.place) same, ap (λ r. r.count) same)
