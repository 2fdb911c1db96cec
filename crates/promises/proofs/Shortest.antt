-- The varint that is written is the shortest of those that are read as its number, and the only one of its length.
-- Assumes nothing.
use mathlib.Core.Path.{sym, ap, ◌∙◌}
use lib.ListN.{length}
use lib.Seq.{length-take-le}
use Rattle.laws.proofs.Varints.{took_in, varint-least}
use Rattle.promises.specs.RoundTrip.{Shortest}

pub shortest-law : Shortest
shortest-law w s own bytes e =
    let v = varint-least w s bytes e in
    let there = (took_in w s e).within in
    (v.least, (v.only, λ is. sym (length-take-le own.used s there) ∙ ap length is))
