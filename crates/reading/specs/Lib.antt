pub mod Carrying
pub mod Lines
