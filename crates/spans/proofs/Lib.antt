-- `Struck` has the laws of records that are passed and struck, `Standing` those of records walked without a move, `Erasing` those of a record whose line is
-- deleted where it stands, `Counting` those of the number of records through a source line, `Sums` those of what a walk counts, `Ends` those of `span_end`, `Nexts` those of the next live line,
-- `Wholes` those of D and R put together from their parts, `ReadFirst` those of parts that have been read first, `SpanFirst` the same of D's and R's lines, `ReadsAhead` those of what is read ahead through the globals,
-- `Outcomes` those of the end of a step whose readings are done.
pub mod Struck
pub mod Standing
pub mod Erasing
pub mod Counting
pub mod Sums
pub mod Ends
pub mod Nexts
pub mod Wholes
pub mod ReadFirst
pub mod SpanFirst
pub mod Outcomes
pub mod ReadsAhead
pub mod Founds
