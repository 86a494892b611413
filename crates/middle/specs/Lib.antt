pub mod Middle
pub mod Leaving
