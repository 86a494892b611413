-- `Written`, `Casing`: bytes. `Building`, `Ends`, `Putting`, `Rewriting`, `Splicing`: the current record written anew. `Looking`: a look at the current
-- line. `Commands`: the commands.
pub mod Written
pub mod Casing
pub mod Building
pub mod Ends
pub mod Putting
pub mod Rewriting
pub mod Splicing
pub mod Looking
pub mod Commands
