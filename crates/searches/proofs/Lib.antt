pub mod Answering
pub mod Operators
pub mod Strings
pub mod Steps
pub mod Joining
pub mod Parts
