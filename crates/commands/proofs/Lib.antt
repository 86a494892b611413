-- `Lined`, `Strings`, `Performed`: the commands with lines, with strings, the others. `FirstRead`: those that read, where globals stand.
pub mod Lined
pub mod Strings
pub mod Performed
pub mod FirstRead
