-- `messages::longest_of` meets its contract, number by number.
-- Assumes nothing.
use Rattle.messages.specs.Past.{other}
use Rattle.messages.proofs.Past.{longest-is, is-i8, is-i16, is-i32, is-i64, is-u8, is-u16, is-u32, is-u64}
use Rattle.messages.proofs.longest_of.Goals as goal

pub returns-in-1 : goal.returns-in-1
returns-in-1 c = longest-is is-i8 is-u8 c.in-1.is

pub returns-in-2 : goal.returns-in-2
returns-in-2 c = longest-is is-i16 is-u16 c.in-2.is

pub returns-in-3 : goal.returns-in-3
returns-in-3 c = longest-is is-i32 is-u32 c.in-3.is

pub returns-in-4 : goal.returns-in-4
returns-in-4 c = longest-is is-i64 is-u64 c.in-4.is

pub returns-in_default : goal.returns-in_default
returns-in_default c = other
