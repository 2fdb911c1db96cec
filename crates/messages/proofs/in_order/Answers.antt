-- `messages::in_order` meets its contract.
-- Assumes nothing.
use Rattle.messages.proofs.Fitting.{store-ahead, store-behind}
use Rattle.messages.proofs.in_order.Goals as goal

pub returns-then-store-product : goal.returns-then-store-product
returns-then-store-product c = store-ahead c.requires.store_lt_width c.if-store-product.true

pub returns : goal.returns
returns c = store-behind c.requires.store_lt_width c.requires.fact c.if-store-product.false
