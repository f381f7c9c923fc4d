pub mod Activations
pub mod Choices
pub mod Orders
pub mod Ranks
pub mod Reading
pub mod Rests
pub mod Rounds
pub mod Schedules
