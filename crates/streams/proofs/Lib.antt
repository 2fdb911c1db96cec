pub mod Cuts
pub mod OldRoom
pub mod Agreeing
pub mod Tails
pub mod Whole
pub mod Cases
