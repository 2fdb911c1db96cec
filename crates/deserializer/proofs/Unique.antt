-- Each contract is an equation, and the record at exit follows the answer.
-- Assumes nothing.
use mathlib.Core.Path.{◌≡◌, ap, sym, ◌∙◌}
use Rattle.laws.proofs.Unique.{by-equation}
use Rattle.deserializer.specs.Records.{moved}
use Rattle.deserializer.specs.Unique.{OneTakeAt, OnePlaceAfter, OneRestAt, OneNew, OneRecordTake, OneRecordRest}

pub one-take-at : OneTakeAt
one-take-at k message p = by-equation _

pub one-place-after : OnePlaceAfter
one-place-after p a = by-equation _

pub one-rest-at : OneRestAt
one-rest-at message p = by-equation _

pub one-new : OneNew
one-new message = by-equation _

pub one-record-take : OneRecordTake
one-record-take k d x y e f =
    let same : x.0 ≡ y.0 = by-equation _ x.0 y.0 e.0 f.0 in
    λ i. (same i, (e.1 ∙ ap (moved d) same ∙ sym f.1) i)

pub one-record-rest : OneRecordRest
one-record-rest d = by-equation _
