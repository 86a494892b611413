pub mod Ways
pub mod Walking
