pub mod FirstWords
pub mod Reading
pub mod Keeping
pub mod OpenerWords
pub mod Deepest
pub mod Meaning
pub mod Strings
