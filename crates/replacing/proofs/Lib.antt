-- `Freed` has the laws of the bytes that deletion frees, and of sums over the records up to a place, `Whole` those of R.
pub mod Freed
pub mod Whole
