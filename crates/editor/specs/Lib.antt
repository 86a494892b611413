pub mod Records
pub mod Shows
pub mod Current
pub mod Stops
pub mod Edited
