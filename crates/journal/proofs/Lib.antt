-- `Places`: the ways out of finding a record. `Walk`: what the bytes at the front do to a journal's records. `Here`: a record found at a place.
-- `Left`: the records that are left from a place on.
-- `Measures`: the check. `Columns`: a number in five columns. `Views`: what a view writes. `Writing`, `Going`: writing one record, and all.
-- `Answers`: the readers' answers.
pub mod Places
pub mod Walk
pub mod Here
pub mod Left
pub mod Measures
pub mod Columns
pub mod Views
pub mod Writing
pub mod Going
pub mod Answers
