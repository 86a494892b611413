pub mod Records
pub mod Measuring
pub mod Views
pub mod Reading
pub mod Walk
