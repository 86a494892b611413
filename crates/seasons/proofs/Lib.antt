-- `Dues`: what is due from places on. `Rows`: stretches. `Lengths`: lengths, and the loops that compare and count. `Texts`: what is written of a line.
-- `Writing`: what is written of a stretch, and of all. `Answers`: the answers of `join`.
pub mod Dues
pub mod Rows
pub mod Lengths
pub mod Texts
pub mod Writing
pub mod Answers
