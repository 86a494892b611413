-- `Joining`: the byte of two. `Singles`, `Parts`, `Looping`: one byte; parts and items; rows and alternatives, read up to a place. `Whole`: the whole string.
-- `Scanning`: the scan of a line.
pub mod Joining
pub mod Singles
pub mod Parts
pub mod Looping
pub mod Whole
pub mod Scanning
