-- `telling::fault` meets its contract, case by case.
-- Assumes nothing.
use Rattle.telling.proofs.Told.{fault-wire, fault-fields, fault-batch, fault-missing}
use Rattle.telling.proofs.fault.Goals as goal

pub returns-in-Wire : goal.returns-in-Wire
returns-in-Wire c = fault-wire c.in-Wire.is c.refusal.ensures

pub returns-in-Fields : goal.returns-in-Fields
returns-in-Fields c = fault-fields c.in-Fields.is

pub returns-in-Batch : goal.returns-in-Batch
returns-in-Batch c = fault-batch c.in-Batch.is

pub returns-in-Missing : goal.returns-in-Missing
returns-in-Missing c = fault-missing c.in-Missing.is
