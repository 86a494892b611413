pub mod Answers
pub mod Items
pub mod Demand3
pub mod Edited
