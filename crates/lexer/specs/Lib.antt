pub mod Places
pub mod Answers
pub mod Steps
pub mod Targets
pub mod Inserted
pub mod Words
pub mod Shapes
