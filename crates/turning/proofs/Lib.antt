-- `Places`: records at places of a journal's bytes. `Rows`: rows of records. `Walks`: the loops over a row. `Stretches`: a stretch turned round.
-- `Steps`: turning a stretch, and one record. `Turning`: all of them. `Answers`: the answers of `turn`.
pub mod Places
pub mod Rows
pub mod Walks
pub mod Stretches
pub mod Steps
pub mod Turning
pub mod Answers
