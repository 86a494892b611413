pub mod Kinds
pub mod Words
pub mod Arguments
pub mod Ends
pub mod Depth
pub mod Reserve
pub mod Simple
