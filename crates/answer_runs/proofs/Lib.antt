pub mod OneReach
pub mod OneRun
mod NameLines
mod OneAnswer
