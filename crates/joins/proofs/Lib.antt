-- `Parts`: the joined text. `Both`: both records. `Joining`: the command.
pub mod Parts
pub mod Both
pub mod Joining
