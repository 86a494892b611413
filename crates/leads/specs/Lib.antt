pub mod Leading
pub mod Passing
