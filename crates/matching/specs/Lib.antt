pub mod Quals
pub mod Scan
pub mod Words
