pub mod Looks
pub mod Edited
