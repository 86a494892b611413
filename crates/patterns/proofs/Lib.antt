-- `Answering`: what is found, by its cases. `Places`: the cursor at a place. `Characters`, `Closing`, `Parts`, `Rows`, `Whole`: the ways out of the readers.
-- `Steps`: one step of the definitions that have fuel.
pub mod Answering
pub mod Places
pub mod Characters
pub mod Closing
pub mod Steps
pub mod Parts
pub mod Rows
pub mod Whole
