-- `Leaves`: the tests and choices at one place of the line, a law for each way out. `Places`: what is done at one place. `Ending`: what ends at a place of
-- T. `Walk`: from place to place. `InWalk`: the walk's loop.
pub mod Leaves
pub mod Places
pub mod Ending
pub mod Walk
pub mod InWalk
