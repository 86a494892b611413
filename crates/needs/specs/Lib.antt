pub mod Needing
pub mod Lacking
