pub mod Commands
pub mod Faults
pub mod Headline
pub mod Meets
pub mod OneOutcome
pub mod Outcomes
pub mod Words
