pub mod Area
pub mod Compare
pub mod Promise
