pub mod Sweeping
pub mod Fronts
pub mod Idle
pub mod Idling
pub mod After
pub mod Ends
pub mod Slots
pub mod Written
