pub mod Going
pub mod Whole
pub mod Demand3
pub mod Stepping
