pub mod Gathered
pub mod Reading
pub mod Placed
pub mod Commands
pub mod Searches
