-- `Runs`: laws of runs of bytes that pass a test.
pub mod Runs
