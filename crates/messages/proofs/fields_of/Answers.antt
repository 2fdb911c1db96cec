-- `messages::fields_of` meets its contract.
-- Assumes nothing.
use mathlib.Core.Path.{◌∙◌}
use native.Mathlib.Omega.{arith}
use Rattle.messages.specs.Fields.{unfit}
use Rattle.messages.proofs.Fitting.{no-struct, root_is, root-part, root-bound, no-store-there, no-product-there, other-store, other-product, two_fields, fields-there}
use Rattle.messages.proofs.fields_of.Goals as goal

pub returns-then-number-ne18 : goal.returns-then-number-ne18
returns-then-number-ne18 c = unfit (no-struct c.requires _ _ (λ e. c.if-number-ne18.true (c.kind_at-number.ensures ∙ e)))

pub returns-then-width-store : goal.returns-then-width-store
returns-then-width-store c = no-store-there (root_is c.requires c.kind_at-number.ensures c.if-number-ne18.false c.first_child-from.ensures c.child_count-width.ensures) _ _ c.if-width-store.true

pub returns-then-width-product : goal.returns-then-width-product
returns-then-width-product c = no-product-there (root_is c.requires c.kind_at-number.ensures c.if-number-ne18.false c.first_child-from.ensures c.child_count-width.ensures) _ _ c.if-width-product.true

pub overflow_mul-store : goal.overflow_mul-store
overflow_mul-store c = omega (arith, root-bound (root_is c.requires c.kind_at-number.ensures c.if-number-ne18.false c.first_child-from.ensures c.child_count-width.ensures) c.if-width-store.false)

pub overflow_add-from : goal.overflow_add-from
overflow_add-from c = omega (arith, root-bound (root_is c.requires c.kind_at-number.ensures c.if-number-ne18.false c.first_child-from.ensures c.child_count-width.ensures) c.if-width-store.false)

pub is_of-requires : goal.is_of-requires
is_of-requires c = record { good_table = c.requires; falls = root-part (root_is c.requires c.kind_at-number.ensures c.if-number-ne18.false c.first_child-from.ensures c.child_count-width.ensures) c.if-width-store.false }

pub returns-then-not-is_of : goal.returns-then-not-is_of
returns-then-not-is_of c = other-store (root_is c.requires c.kind_at-number.ensures c.if-number-ne18.false c.first_child-from.ensures c.child_count-width.ensures) _ _ c.if-width-store.false c.is_of.ensures c.if-not-is_of.true

pub overflow_mul-product : goal.overflow_mul-product
overflow_mul-product c = omega (arith, root-bound (root_is c.requires c.kind_at-number.ensures c.if-number-ne18.false c.first_child-from.ensures c.child_count-width.ensures) c.if-width-product.false)

pub overflow_add-from-2 : goal.overflow_add-from-2
overflow_add-from-2 c = omega (arith, root-bound (root_is c.requires c.kind_at-number.ensures c.if-number-ne18.false c.first_child-from.ensures c.child_count-width.ensures) c.if-width-product.false)

pub is_of-requires-2 : goal.is_of-requires-2
is_of-requires-2 c = record { good_table = c.requires; falls = root-part (root_is c.requires c.kind_at-number.ensures c.if-number-ne18.false c.first_child-from.ensures c.child_count-width.ensures) c.if-width-product.false }

pub returns-then-not-is_of-2 : goal.returns-then-not-is_of-2
returns-then-not-is_of-2 c = other-product (root_is c.requires c.kind_at-number.ensures c.if-number-ne18.false c.first_child-from.ensures c.child_count-width.ensures) _ _ c.if-width-product.false c.is_of-2.ensures c.if-not-is_of-2.true

pub in_order-fields-requires : goal.in_order-fields-requires
in_order-fields-requires c = record { store_lt_width = (c.if-width-store.false, c.if-width-product.false); fact = two_fields (root_is c.requires c.kind_at-number.ensures c.if-number-ne18.false c.first_child-from.ensures c.child_count-width.ensures) _ _ (λ i. omega (arith, c.shared_slice_known-1.given i)) c.if-width-store.false c.if-width-product.false c.is_of.ensures c.if-not-is_of.false c.is_of-2.ensures c.if-not-is_of-2.false }

pub returns : goal.returns
returns c = fields-there (root_is c.requires c.kind_at-number.ensures c.if-number-ne18.false c.first_child-from.ensures c.child_count-width.ensures) _ _ (λ i. omega (arith, c.shared_slice_known-1.given i)) c.if-width-store.false c.if-width-product.false c.is_of.ensures c.if-not-is_of.false c.is_of-2.ensures c.if-not-is_of-2.false c.in_order-fields.ensures
