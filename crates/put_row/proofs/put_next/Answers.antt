-- `put_row::put_next` meets its contract: the item is refused, or it is spelled.
-- Assumes nothing.
use mathlib.Core.Path.{sym, ◌∙◌}
use native.Mathlib.Omega.{arith}
use Rattle.put_row.proofs.Items.{spellable, behind, leaf-head}
use Rattle.put_row.proofs.Telling.{one-refused, one-laid}
use Rattle.put_row.proofs.put_next.Goals as goal

pub put_field-len-requires : goal.put_field-len-requires
put_field-len-requires c = spellable _ _ _ c.requires.place_in_bounds (sym (leaf-head _ _ _ c.requires.number_value c.requires.place_in_bounds (omega arith)) ∙ sym c.take.ensures ∙ c.in-Ok.is) c.requires.number_value

pub overflow_add-result : goal.overflow_add-result
overflow_add-result c = omega (arith, behind _ c.args.message.now _ c.requires.place_in_bounds (sym (leaf-head _ _ _ c.requires.number_value c.requires.place_in_bounds (omega arith)) ∙ sym c.take.ensures ∙ c.in-Ok.is))

pub returns-in-Err : goal.returns-in-Err
returns-in-Err c = one-refused _ _ _ _ _ _ (sym (leaf-head _ _ _ c.requires.number_value c.requires.place_in_bounds (omega arith)) ∙ sym c.take.ensures ∙ c.in-Err.is)

pub returns-in-Ok : goal.returns-in-Ok
returns-in-Ok c = one-laid _ _ _ _ _ _ (omega arith) (sym (leaf-head _ _ _ c.requires.number_value c.requires.place_in_bounds (omega arith)) ∙ sym c.take.ensures ∙ c.in-Ok.is) c.put_between-used.ensures c.put_field-len.ensures
