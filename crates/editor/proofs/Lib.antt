-- `Lines`: bytes walked by lines. `Records`, `Sizes`: records in the buffer. `Held`: a buffer that holds records, and the gap that moves over one.
-- `Reading`, `Reaching`: the definitions over what is read, and over all. `Walking`: walks of the gap, and its way back. `Parts`: a step put together
-- from its parts. `Moving`: the parts that move; N, P and M. `Inserting`, `Striking`: one record put in, one struck. `Changing`: changes of records,
-- and 26. `Opening`: a run's start. `Texts`, `CurrentText`: the current line's text; IC. `Tables`: the journal stays one of its
-- table. `Points`: p stays within the current line.
pub mod Lines
pub mod Records
pub mod Held
pub mod Reading
pub mod Reaching
pub mod Walking
pub mod Parts
pub mod Moving
pub mod Sizes
pub mod Striking
pub mod Inserting
pub mod Changing
pub mod Opening
pub mod Texts
pub mod CurrentText
pub mod Tables
pub mod Points
pub mod Shown
