-- `Measuring`: what is measured is what reading comes to. `Behind`: the lines behind the gap, one after the other. `All`: all of them, or none.
pub mod Measuring
pub mod Behind
pub mod All
