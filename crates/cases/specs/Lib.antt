pub mod Buffers
pub mod Hex
pub mod Fields
pub mod Reading
