-- `Rows`: rows of records by their marks, and what arranging makes of them. `Closing`: the records at the buffer's start, arranged, their lines ended.
pub mod Rows
pub mod Closing
