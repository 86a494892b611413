pub mod Occurrences
pub mod Putting
pub mod Decoding
pub mod Through
pub mod Counting
pub mod Standing
