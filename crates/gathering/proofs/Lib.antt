-- `Pieces`: lines with their line feeds, and their rows. `Cuts`: places between two lines. `Passes`: lines gathered one after the other. `Halves`: two
-- parts that are gathered, one behind the other.
pub mod Pieces
pub mod Cuts
pub mod Passes
pub mod Halves
