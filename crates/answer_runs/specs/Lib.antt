pub mod OneAnswer
pub mod Reaches
pub mod Schedules
