pub mod Items
pub mod Shown
pub mod Moves
pub mod Answers
