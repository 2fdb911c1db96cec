-- `put_field::put_field` meets its contract, by what its kind's values are.
-- Assumes nothing.
use mathlib.Core.Path.{◌≡◌}
use native.Mathlib.Omega.{arith}
use Rattle.put_field.proofs.Fields.{its-char, its-part, its-number, number-field, char-field, text-field, bytes-field}
use Rattle.put_field.proofs.put_field.Goals as goal

pub put_char-requires : goal.put_char-requires
put_char-requires c = its-char c.requires (omega arith)

pub put_part-requires : goal.put_part-requires
put_part-requires c = its-part c.requires (omega arith) (omega arith)

pub put_part-requires-in-13 : goal.put_part-requires-in-13
put_part-requires-in-13 c = its-part c.requires (omega arith) (omega arith)

pub largest-above-requires : goal.largest-above-requires
largest-above-requires c = its-number c.requires (λ e. omega arith) (λ e. omega arith) (λ e. omega arith)

pub returns-in-11 : goal.returns-in-11
returns-in-11 c = let e : c.args.number ≡ 11 = omega arith in rw (e, char-field) c.put_char.ensures

pub returns-in-12 : goal.returns-in-12
returns-in-12 c = let e : c.args.number ≡ 12 = omega arith in rw (e, text-field) c.put_part.ensures

pub returns-in-13 : goal.returns-in-13
returns-in-13 c = let e : c.args.number ≡ 13 = omega arith in rw (e, bytes-field) c.put_part-in-13.ensures

pub returns-in_default : goal.returns-in_default
returns-in_default c = rw (number-field c.args.number c.largest-above.ensures) c.put_word.ensures
