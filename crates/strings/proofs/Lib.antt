pub mod Adding
pub mod Reading
pub mod Opening
pub mod Forming
pub mod Quoting
pub mod Lines
pub mod Callers
pub mod Unqualified
