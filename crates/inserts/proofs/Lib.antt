-- `Lines` has the laws of the script's lines from a place on, `Room` those of the journal bytes that they take, `Putting` those of records put one by one,
-- `Codes` those of lines to move to as numbers, `Places` those of I by such a number, `Script` those of a script's layout.
pub mod Lines
pub mod Room
pub mod Putting
pub mod Codes
pub mod Places
pub mod Script
