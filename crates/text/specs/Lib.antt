pub mod Lines
pub mod Buffer
pub mod Words
pub mod Feeds
pub mod Cursors
