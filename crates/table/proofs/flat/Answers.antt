-- `table::flat` meets its contract: a stretch of one struct, or any other as it stands.
-- Assumes nothing.
use mathlib.Core.Path.{refl, sym, ap, ◌∙◌}
use native.Mathlib.Omega.{arith}
use Rattle.wire.specs.Table.{kinds, kind_of}
use Rattle.table.specs.Parts.{bare, alone}
use Rattle.table.proofs.Stretches.{falls-first}
use Rattle.table.proofs.flat.Goals as goal

pub kind_at-number-requires : goal.kind_at-number-requires
kind_at-number-requires c = let f = falls-first c.requires.falls (omega arith) in record { good_table = c.requires.good_table; i_lt_nodes = omega arith }

pub fields-requires : goal.fields-requires
fields-requires c = let f = falls-first c.requires.falls (omega arith) in record { good_table = c.requires.good_table; i_lt_nodes = omega arith; i_value = sym c.kind_at-number.ensures ∙ c.if-number-eq18.true }

pub returns-then-number-eq18 : goal.returns-then-number-eq18
unfolding kind_of kinds
returns-then-number-eq18 c = let f = falls-first c.requires.falls (omega arith) in
    alone c.if-width-eq1.true c.u16_at-c.ensures.0 (omega arith) (ap kind_of (sym c.kind_at-number.ensures ∙ c.if-number-eq18.true)) c.fields.ensures

pub returns-else-number-eq18 : goal.returns-else-number-eq18
returns-else-number-eq18 c = bare c.requires.falls refl

pub returns-else-width-eq1 : goal.returns-else-width-eq1
returns-else-width-eq1 c = bare c.requires.falls refl
