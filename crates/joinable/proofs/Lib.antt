-- `Order`: the walk over a journal's records. `Taken`: the ways out of `joinable`.
pub mod Order
pub mod Taken
