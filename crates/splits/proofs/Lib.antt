-- `Cutting`: a line cut in two. `Splitting`: the commands.
pub mod Cutting
pub mod Splitting
