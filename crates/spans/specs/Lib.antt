pub mod Spans
pub mod Edited
