pub mod Values
pub mod Demand3
pub mod Budgets
pub mod Seasons
