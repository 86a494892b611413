pub mod Answers
pub mod Runs
pub mod Demand3
pub mod Budgets
pub mod Seasons
pub mod Contract
